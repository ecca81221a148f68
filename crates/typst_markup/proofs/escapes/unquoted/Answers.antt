use Rattle.typst_markup.proofs.Cited.{common_steps, ◌≡◌, ℕ, List, [], ◌∷◌, ◌++◌, reverse, drop, length, ap, refl, arith, place_at, moved, moved_back, back_from, without_last, chars}
use Rattle.std.proofs.lemmas.List.{reverse-append, reverse-reverse}
use Rattle.std.proofs.Math.Seq.{take-length}
use Rattle.typst_markup.proofs.escapes.unquoted.Goals as goal

without_last-push : (xs : List ℕ) (c : ℕ) → without_last (xs ++ c ∷ []) ≡ xs
without_last-push [] c = refl
without_last-push (x ∷ []) c = refl
without_last-push (x ∷ y ∷ xs) c = ap (λ t. x ∷ t) (without_last-push (y ∷ xs) c)

back-before : (rs ahead : List ℕ) → reverse (back_from rs ahead).before ≡ without_last (reverse rs)
back-before rs ahead = grind (arith, common_steps, reverse-append, without_last-push)

-- all but the last character of a text
before-last : (text : List ℕ) → reverse (moved_back (place_at text (length text))).before ≡ without_last (chars text)
unfolding place_at
before-last text = grind (arith, back-before, reverse-reverse, take-length)

-- all but the first
after-first : (text : List ℕ) → (moved 1 (place_at text 0)).ahead ≡ drop 1 (chars text)
unfolding place_at
after-first text = grind arith

pub returns : goal.returns
returns c = grind (arith, after-first, before-last)
