use Rattle.typst_candidates.proofs.Cited.{common_steps, ◌≡◌, ◌+◌, ◌≤◌, ◌<◌, ◌^◌, ℕ, List, length, take, length-take-le, sym, arith, Entry, Packed, EntryPlace, start_at, end_of, lengths, spans, unpacked, wides}
use Rattle.typst_candidates.proofs.Cursors.{end-within}
use Rattle.typst_candidates.proofs.Spans.{start-sum}
use Rattle.typst_candidates.proofs.Words.{wides-take}
use Rattle.typst_candidates.proofs.entries.WordCursor.start.Goals as goal

-- both sums, by the place
record Sums (ps : List Packed) (ws : List Entry) (n passed : ℕ) (p : EntryPlace) : Type 0 where
  sum : spans (take n ps) + lengths (take passed ws) ≡ start_at p
  fits : spans (take n ps) + lengths (take passed ws) < 2 ^ 64
  within : passed ≤ length ws

sums : (ps : List Packed) (ws : List Entry) (n passed : ℕ) (p : EntryPlace) → n ≤ length ps → passed ≡ wides (take n ps) → wides ps ≡ length ws → record { entries = unpacked ps ws; number = n } ≡ p → end_of 0 p.entries < 2 ^ 64 → Sums ps ws n passed p
sums ps ws n passed p le is all view small = let sum = start-sum ps ws n le all in grind (arith, common_steps, end-within, wides-take)

pub slice_bounds-lengths-end : goal.slice_bounds-lengths-end
slice_bounds-lengths-end c =
    sym (length-take-le c.self.inside.passed c.self.inside.wide.now (sums c.self.inside.words.now c.self.inside.wide.now c.self.inside.number c.self.inside.passed c.args.self.now c.self.invariant.0 c.self.invariant.1 c.self.invariant.2 c.self.view_is c.requires).within)

pub overflow_add-result : goal.overflow_add-result
overflow_add-result c =
    grind (arith, common_steps, (sums c.self.inside.words.now c.self.inside.wide.now c.self.inside.number c.self.inside.passed c.args.self.now c.self.invariant.0 c.self.invariant.1 c.self.invariant.2 c.self.view_is c.requires).fits)

pub returns : goal.returns
returns c = grind (arith, sums)
