use Rattle.typst_lines.proofs.Cited.{◌||◌, nat_lt, nat_le, leb, cond, refl, arith, slice_range, ◌+◌, length-chunk, chunk}
use Rattle.typst_lines.proofs.Lanes.{onto_splat, lanes-counted, count-small, units-parts}
use Rattle.typst_lines.proofs.blocks.InUnitsMeasure.of_lanes.Goals as goal

pub returns-clause-value : goal.returns-clause-value
returns-clause-value c =
    let d = c.args.bytes.now in
    let v = chunk c.args.at 16 d in
    let long = length-chunk c.args.at 16 d c.requires in
    let pairs = lanes-counted (λ b. nat_le 240 b) d c.args.at 16 _ c.requires (omega arith) c.type_inv.bytes _ (onto_splat (λ a b. cond (leb a b) 255 0) v 16 240 long) refl in
    omega (arith, pairs, c.of_lanes.ensures.value, units-parts (slice_range d c.args.at (c.args.at + 16)))

pub returns-clause-small : goal.returns-clause-small
returns-clause-small c =
    let d = c.args.bytes.now in
    omega (arith, returns-clause-value c, units-parts (slice_range d c.args.at (c.args.at + 16)), count-small (λ b. nat_le 240 b) d c.args.at 16, count-small (λ b. nat_lt b 128 || nat_le 192 b) d c.args.at 16)
