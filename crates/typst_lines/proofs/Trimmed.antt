-- Steps back over the characters at an end.
use Rattle.typst_lines.proofs.Cited.{◌≡◌, ℕ, suc, ◌+◌, Bool, true, false, List, [], ◌∷◌, ◌++◌, length, reverse, take, drop, slice_get, Some, refl, sym, ap, ◌∙◌, arith, append_assoc, take-append_seam, prefix_len, Place, moved_back}
use Rattle.std.proofs.lemmas.List.{reverse-append, reverse-reverse, take-append-drop}
use Rattle.typst_lines.specs.Ends.{without_last}

abbrev at : List ℕ → List ℕ → Place
at before ahead = record { before = before; ahead = ahead }

abbrev pub stripped : (ℕ → Bool) → List ℕ → List ℕ
stripped test back = drop (prefix_len test back) back

module _ (test : ℕ → Bool) where
  pub strip-step : (p q : Place) (c : ℕ) → Some c ≡ slice_get p.before 0 → test c ≡ true → q ≡ moved_back p → stripped test q.before ≡ stripped test p.before
  strip-step p q c s e m = ap (λ x. stripped test x.before) m ∙ from p.before p.ahead s
    where
      from : (xs ys : List ℕ) → Some c ≡ slice_get xs 0 → stripped test (moved_back (at xs ys)).before ≡ stripped test xs
      from [] ys g = absurd (cc)
      from (d ∷ xs) ys g =
          let is : d ≡ c = cc in
          let more : 1 + prefix_len test xs ≡ suc (prefix_len test xs) = omega arith in
          let passes : test d ≡ true = ap test is ∙ e in
          rw (passes, more) refl

  pub strip-stop : (p : Place) (c : ℕ) → Some c ≡ slice_get p.before 0 → test c ≡ false → stripped test p.before ≡ p.before
  strip-stop p c s e = grind arith

-- what is left of some characters without their last ones is a front of whatever they are a front of
pub last-taken : (test : ℕ → Bool) (n : ℕ) (xs : List ℕ) → take (length (without_last test (take n xs))) xs ≡ without_last test (take n xs)
last-taken test n xs =
    let cs = take n xs in
    let back = reverse cs in
    let m = prefix_len test back in
    let front = reverse (drop m back) in
    let last = reverse (take m back) in
    let split : cs ≡ front ++ last = sym (reverse-reverse cs) ∙ ap reverse (sym (take-append-drop m back)) ∙ reverse-append (take m back) (drop m back) in
    let whole : xs ≡ front ++ (last ++ drop n xs) = sym (take-append-drop n xs) ∙ ap (λ t. t ++ drop n xs) split ∙ append_assoc front last (drop n xs) in
    ap (take (length front)) whole ∙ take-append_seam front (last ++ drop n xs)
