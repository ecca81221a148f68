-- One try of `growth`.
use Rattle.typst_tree.proofs.Cited.{◌≡◌, ℕ, suc, ◌+◌, ◌-◌, ◌*◌, ◌<◌, true, false, max, List, Some, None, refl, arith, Head, Tree, growth, has_room, is_all}

module _ (h : Head) (xs : List Tree) (from to n tries c k : ℕ) (lt : c < tries) where
  one_more : tries - c ≡ suc (tries - (c + 1))
  one_more = omega arith

  pub growth_found : has_room h xs from to n k ≡ true → growth h xs from to n (tries - c) k ≡ Some k
  growth_found e = rw (one_more, e) refl

  pub growth_ends : has_room h xs from to n k ≡ false → is_all xs from to k ≡ true → growth h xs from to n (tries - c) k ≡ None
  growth_ends e f = rw (one_more, e, f) refl

  pub growth_goes : has_room h xs from to n k ≡ false → is_all xs from to k ≡ false → growth h xs from to n (tries - c) k ≡ growth h xs from to n (tries - (c + 1)) (max 1 (2 * k))
  growth_goes e f = rw (one_more, e, f) refl
