-- What a text begins with, in characters and in bytes.
use Rattle.typst_lexer.proofs.Cited.{List, ℕ, ◌≡◌, ◌∙◌, ◌++◌, sym, ap, refl, length, take, drop, take_at, encode_utf8_all, take-append-drop, encodes-append, encodes-chars, IsUtf8, chars}

-- where the characters of a text begin those of another, its bytes begin that one's
pub front-bytes : (text rest : List ℕ) → IsUtf8 text → IsUtf8 rest → take (length (chars text)) (chars rest) ≡ chars text → take (length text) rest ≡ text
front-bytes text rest in_text in_rest e =
    let n = length (chars text) in
    let after = drop n (chars rest) in
    let split : rest ≡ text ++ encode_utf8_all after =
    sym (encodes-chars rest in_rest)
    ∙ ap encode_utf8_all (sym (take-append-drop n (chars rest)) ∙ ap (λ xs. xs ++ after) e)
    ∙ encodes-append (chars text) after
    ∙ ap (λ xs. xs ++ encode_utf8_all after) (encodes-chars text in_text) in
    ap (take (length text)) split ∙ take_at text (encode_utf8_all after) (length text) refl
