-- Texts that are cut out of others.
use Rattle.typst_document.proofs.Cited.{◌≡◌, ℕ, ◌+◌, ◌-◌, ◌≤◌, List, [], ◌∷◌, ◌++◌, length, drop, get_or, Option, refl, ap, sym, subst, ◌∙◌, arith, append_assoc, slice_range, IsCharBoundary, IsUtf8, chars, Range, IsCharBoundary-from_drop, IsCharBoundary-start, IsUtf8-drop, IsUtf8-past_char, encodes-chars, IsTextAt}
use Rattle.std.specs.Borrow.{Bor}
use Rattle.std.specs.Option.{unwrap_or}
use Rattle.std.specs.Str.Pattern.{GetsRange}
use Rattle.std.proofs.Math.Utf8.{encode, encodes}
use Rattle.std.proofs.lemmas.List.{get_or-drop}
use Rattle.std.proofs.lemmas.List.Folds.{drop_split}

-- what follows characters is text again
past_chars : (cs bs rest : List ℕ) → IsUtf8 bs → bs ≡ encodes cs ++ rest → IsUtf8 rest
past_chars [] bs rest u e = subst IsUtf8 e u
past_chars (c ∷ cs) bs rest u e = past_chars cs (encodes cs ++ rest) rest (IsUtf8-past_char bs (encodes cs ++ rest) c u (e ∙ append_assoc (encode c) (encodes cs) rest)) refl

past_text : (xs bs rest : List ℕ) → IsUtf8 xs → IsUtf8 bs → bs ≡ xs ++ rest → IsUtf8 rest
past_text xs bs rest ux ub e = past_chars (chars xs) bs rest ub (e ∙ ap (λ ys. ys ++ rest) (sym (encodes-chars xs ux)))

-- where text begins in a text a character does
begins : (s rest : List ℕ) (i x : ℕ) (xs : List ℕ) → i ≤ length s → IsUtf8 (x ∷ xs) → drop i s ≡ (x ∷ xs) ++ rest → IsCharBoundary s i
begins s rest i x xs within u e =
    let first : get_or s i 0 ≡ x = ap (λ n. get_or s n 0) (omega arith) ∙ sym (get_or-drop i s 0 0) ∙ ap (λ ys. get_or ys 0 0) e in
    (within, λ _ high. let opens = (IsCharBoundary-start (x ∷ xs) u).1 (omega arith) (omega (arith, first, high)) in omega (arith, first, opens))

-- a part that is text and isn't empty begins and ends between characters
between_chars : (s xs : List ℕ) (i j : ℕ) → IsUtf8 s → IsUtf8 xs → xs ≡ slice_range s i j → length xs + i ≡ j → j ≤ length s → (IsCharBoundary s i → ¬ (IsCharBoundary s j)) → xs ≡ []
between_chars s [] i j us ux is ends within out = refl
between_chars s (x ∷ xs) i j us ux is ends within out =
    let split : drop i s ≡ (x ∷ xs) ++ drop j s = drop_split s i j (omega arith) ∙ ap (λ ys. ys ++ drop j s) (sym is) in
    let start : IsCharBoundary s i = begins s (drop j s) i x xs (omega arith) ux split in
    absurd (out start (IsCharBoundary-from_drop s j within (past_text (x ∷ xs) (drop i s) (drop j s) ux (IsUtf8-drop s i us start) split)))

-- what `get` finds, and nothing where it finds nothing
pub text_found : (s : List ℕ) (bytes : Range ℕ) (found : Option (Bor (List ℕ))) (nothing result : Bor (List ℕ)) → IsUtf8 s → IsUtf8 result.now → GetsRange s bytes.start bytes.end found → nothing.now ≡ []
    → result ≡ unwrap_or found nothing → IsTextAt s bytes result.now
text_found s bytes found nothing result us ur h empty is = grind (arith, between_chars)
