-- Fronts and ends that two texts have in common.
use Rattle.typst_lines.proofs.Cited.{◌≡◌, ◌∙◌, ◌++◌, true, ap, sym, subst, arith, take, drop, length, slice_range, ℕ, ◌+◌, ◌-◌, ◌≤◌, List, nat_eq, reverse, take-add, IsUtf8-take, IsUtf8-drop, IsCharBoundary-from_drop, IsCharBoundary-from_take, chars, IsUtf8, IsCharBoundary, BeginAlike, EndAlike, IsSharedFront, IsSharedEnd, Place, place_at, drop_split, pointwise}
use Rattle.std.proofs.lemmas.List.{take-take, drop-drop, reverse-append}
use Rattle.std.proofs.lemmas.Slice.Eq.{bytes_eq-Decides}
use Rattle.typst_lines.proofs.CommonEnds.{Shares}
use Rattle.typst_lines.proofs.LineTable.{chars-split}

same : (xs ys : List ℕ) → true ≡ pointwise nat_eq xs ys → xs ≡ ys
same xs ys e = (bytes_eq-Decides xs ys).0 (sym e)

-- n more elements are the same
pub front-more : (xs ys : List ℕ) (at n : ℕ) → take at xs ≡ take at ys → true ≡ pointwise nat_eq (slice_range xs at (at + n)) (slice_range ys at (at + n)) → take (at + n) xs ≡ take (at + n) ys
front-more xs ys at n e f =
    let more : at + (at + n - at) ≡ at + n = omega arith in
    ap (λ k. take k xs) (sym more) ∙ take-add at (at + n - at) xs ∙ ap (λ t. t ++ slice_range xs at (at + n)) e
    ∙ ap (λ t. take at ys ++ t) (same _ _ f) ∙ sym (take-add at (at + n - at) ys) ∙ ap (λ k. take k ys) more

-- a stretch before what is the same is the same
pub end-more : (xs ys a b : List ℕ) (i j k l m o : ℕ) → drop i xs ≡ drop j ys → a ≡ slice_range xs k i → b ≡ slice_range ys l j → true ≡ pointwise nat_eq a b → k ≤ i → l ≤ j
    → m ≡ k → o ≡ l → drop m xs ≡ drop o ys
end-more xs ys a b i j k l m o e f g h le le' p q =
    ap (λ n. drop n xs) p ∙ drop_split xs k i le ∙ ap (λ t. slice_range xs k i ++ t) e ∙ ap (λ t. t ++ drop j ys) (sym f ∙ same a b h ∙ g) ∙ sym (drop_split ys l j le') ∙ ap (λ n. drop n ys) (sym q)

module _ (old new : List ℕ) (u : IsUtf8 old) (v : IsUtf8 new) where
  -- what is the same up to a byte past a boundary is the same up to that
  shared-front : (n at : ℕ) → n ≤ length new → take n old ≡ take n new → at ≤ n → IsCharBoundary old at → IsSharedFront old new at
  shared-front n at long e le bound =
      let both : take at old ≡ take at new = sym (take-take at n old le) ∙ ap (take at) e ∙ take-take at n new le in
      record { old_boundary = bound; new_boundary = IsCharBoundary-from_take new at v (omega arith) (subst IsUtf8 both (IsUtf8-take old at u bound)); same = both }

  -- what is the same from a byte before a boundary on is the same from that on
  shared-end : (n i : ℕ) → n ≤ length old → n ≤ length new → drop (length old - n) old ≡ drop (length new - n) new → length old - n ≤ i → IsCharBoundary old i → IsSharedEnd old new (length old - i)
  shared-end n i long long' e le bound =
      let inside = bound.0 in
      let d = i - (length old - n) in
      let there : length old - n + d ≡ i = omega arith in
      let other : length new - n + d ≡ length new - (length old - i) = omega arith in
      let back : i ≡ length old - (length old - i) = omega arith in
      let both : drop i old ≡ drop (length new - (length old - i)) new =
      ap (λ k. drop k old) (sym there) ∙ sym (drop-drop d (length old - n) old) ∙ ap (drop d) e ∙ drop-drop d (length new - n) new ∙ ap (λ k. drop k new) other in
      record {
        in_old = omega arith;
        in_new = omega arith;
        old_boundary = subst (IsCharBoundary old) back bound;
        new_boundary = IsCharBoundary-from_drop new (length new - (length old - i)) (omega arith) (subst IsUtf8 both (IsUtf8-drop old i u bound));
        same = ap (λ k. drop k old) (sym back) ∙ both;
      }

  module _ (xs ys : List ℕ) (e : xs ≡ old) (f : ys ≡ new) (block n i : ℕ) where
    pub front-from : BeginAlike xs ys block n → i ≤ n → IsCharBoundary old i → IsSharedFront old new i
    front-from h le bound = shared-front n i (omega (arith, h.in_second, ap length f)) (ap (take n) (sym e) ∙ h.same ∙ ap (take n) f) le bound

    pub end-from : EndAlike xs ys block n → length old - n ≤ i → IsCharBoundary old i → IsSharedEnd old new (length old - i)
    end-from h le bound = grind (arith, shared-end)

  -- the places there
  shares-front : (n : ℕ) → IsSharedFront old new n → Shares (chars old) (chars new) (place_at old n).ahead (place_at new n).ahead
  unfolding place_at
  shares-front n h = record { front = chars (take n old); first = chars-split old u n h.old_boundary; second = chars-split new v n h.new_boundary ∙ ap (λ t. chars t ++ chars (drop n new)) (sym h.same) }

  shares-end : (n : ℕ) → IsSharedEnd old new n → Shares (reverse (chars old)) (reverse (chars new)) (place_at old (length old - n)).before (place_at new (length new - n)).before
  unfolding place_at
  shares-end n h =
      let i = length old - n in
      let j = length new - n in
      record {
        front = reverse (chars (drop i old));
        first = ap reverse (chars-split old u i h.old_boundary) ∙ reverse-append (chars (take i old)) (chars (drop i old));
        second = ap reverse (chars-split new v j h.new_boundary) ∙ reverse-append (chars (take j new)) (chars (drop j new)) ∙ ap (λ t. reverse (chars t) ++ reverse (chars (take j new))) (sym h.same);
      }

  module _ (n : ℕ) (p q : Place) where
    -- the characters ahead of a shared front, and those before a shared end
    pub ahead-shared : IsSharedFront old new n → p ≡ place_at old n → q ≡ place_at new n → Shares (chars old) (chars new) p.ahead q.ahead
    ahead-shared h e f = rw (e, f) (shares-front n h)

    pub before-shared : IsSharedEnd old new n → p ≡ place_at old (length old - n) → q ≡ place_at new (length new - n) → Shares (reverse (chars old)) (reverse (chars new)) p.before q.before
    before-shared h e f = rw (e, f) (shares-end n h)
