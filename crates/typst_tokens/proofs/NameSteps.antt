-- Names, in one piece.
use Rattle.typst_tokens.proofs.Cited.{◌≡◌, ℕ, suc, List, ◌∷◌, length, sym, ap, ◌∙◌, Option, Some, None, rules, encodes-chars, prefix_len, chars, IsUtf8, CharClasses, keyword, named, keyword_or_name, ident, run, Reader, answer, skip, Sight, saw, went, sight, Memory, Token, is_id_continue, SyntaxKind}

-- what is read after the first character, by the others, their bytes and the keyword that they are
abbrev named_by : ℕ → List ℕ → List ℕ → Option SyntaxKind → Sight → Token × Sight
named_by c rest bytes found w = sight (elim found as (λ _. Reader Memory Token) [ Some k ↦ keyword_or_name rest k | None ↦ skip (length rest) (answer (named (c ∷ bytes))) ]) w

-- the others were looked at
ident-is : (k : CharClasses) (c : ℕ) (v u w : Sight) (text : List ℕ) → IsUtf8 text → u ≡ went 1 v → chars text ≡ run (is_id_continue k) u.place → w ≡ saw (suc (prefix_len (is_id_continue k) u.place.ahead)) u
    → sight (ident k c) v ≡ named_by c (chars text) text (keyword (c ∷ text)) w
unfolding ident
ident-is k c v u w text good e f g = search (rules, encodes-chars)

pub ident-keyword : (k : CharClasses) (c : ℕ) (v u w x : Sight) (text : List ℕ) (found : SyntaxKind) (t : Token) → IsUtf8 text → u ≡ went 1 v → chars text ≡ run (is_id_continue k) u.place
    → w ≡ saw (suc (prefix_len (is_id_continue k) u.place.ahead)) u → keyword (c ∷ text) ≡ Some found → sight (keyword_or_name (chars text) found) w ≡ (t, x) → sight (ident k c) v ≡ (t, x)
ident-keyword k c v u w x text found t good e f g h i = ident-is k c v u w text good e f g ∙ ap (λ o. named_by c (chars text) text o w) h ∙ i

pub ident-name : (k : CharClasses) (c : ℕ) (v u w x : Sight) (text : List ℕ) (t : Token) → IsUtf8 text → u ≡ went 1 v → chars text ≡ run (is_id_continue k) u.place
    → w ≡ saw (suc (prefix_len (is_id_continue k) u.place.ahead)) u → keyword (c ∷ text) ≡ None → x ≡ went (length (chars text)) w → t ≡ named (c ∷ text) → sight (ident k c) v ≡ (t, x)
ident-name k c v u w x text t good e f g h i j =
    ident-is k c v u w text good e f g ∙ ap (λ o. named_by c (chars text) text o w) h
    ∙ ap (λ y. (y, went (length (chars text)) w)) (sym j) ∙ ap (λ y. (t, y)) (sym i)
