use Rattle.typst_lines.proofs.Cited.{ℕ, leb, cond, bit_or, bit_and, refl, arith, length-chunk, chunk}
use Rattle.typst_lines.proofs.Lanes.{joined, with_splat, onto_splat, plain_front}
use Rattle.typst_lines.proofs.blocks.plain_lanes.Goals as goal

at_most : ℕ → ℕ → ℕ
at_most a b = cond (leb a b) 255 0

pub returns : goal.returns
unfolding at_most
returns c =
    let v = chunk c.args.at 16 c.args.bytes.now in
    let long = length-chunk c.args.at 16 c.args.bytes.now c.requires in
    plain_front c.args.bytes.now c.args.at 16 _ _ c.requires (omega arith) c.type_inv.bytes c.lanes_before.ensures _
    (joined bit_or v _ _ (joined bit_and v _ _ (onto_splat at_most v 16 10 long) (with_splat at_most v 16 13 long)) (onto_splat at_most v 16 128 long)) refl
