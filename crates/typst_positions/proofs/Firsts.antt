-- The first byte of a stretch that ends a line.
use Rattle.typst_positions.proofs.Cited.{◌≡◌, ℕ, ◌+◌, ◌-◌, ◌<◌, ◌≤◌, List, length, take, drop, get_or, None, Some, sym, ap, ◌∙◌, arith, length-drop, length-take-le, get_or-take, get_or-drop, is_line_end, IsFirst, IsFirstByte, Nowhere, Passes, is_byte2}

module _ (text : List ℕ) (from to : ℕ) (ordered : from ≤ to) (within : to ≤ length text) where
  abbrev part : List ℕ
  part = take (to - from) (drop from text)

  size : length part ≡ to - from
  size = length-take-le (to - from) (drop from text) (omega (arith, length-drop from text))

  at : (k i : ℕ) → i < to - from → k ≡ from + i → get_or part i 0 ≡ get_or text k 0
  at k i h e = get_or-take (to - from) (drop from text) i 0 h ∙ get_or-drop from text i 0 ∙ ap (λ j. get_or text j 0) (sym e)

  nowhere : (end m : ℕ) → end ≡ from + m → end ≤ to → Nowhere (Passes (is_byte2 10 13) part) 0 m → Nowhere (Passes is_line_end text) from end
  nowhere end m e within none k lo hi passes =
      let i : ℕ = k - from in
      none i (omega arith) (omega arith) (ap is_line_end (at k i (omega arith) (omega arith)) ∙ passes)

  pub none-first : IsFirstByte (is_byte2 10 13) part None → IsFirst (Passes is_line_end text) from to None
  none-first none = nowhere to (length part) (omega (arith, size)) (omega arith) none

  pub some-first : (k : ℕ) → IsFirstByte (is_byte2 10 13) part (Some k) → IsFirst (Passes is_line_end text) from to (Some (from + k))
  some-first k first =
      let low = first.0.low in
      let high = first.0.high in (
        record { low = omega arith; high = omega (arith, size, high); before = nowhere (from + k) k (omega arith) (omega (arith, size, high)) first.0.before },
        ap is_line_end (sym (at (from + k) k (omega (arith, size, high)) (omega arith))) ∙ first.1,
      )
