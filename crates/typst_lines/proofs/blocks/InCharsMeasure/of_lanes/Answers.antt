use Rattle.typst_lines.proofs.Cited.{ℕ, Bool, ◌||◌, nat_lt, nat_le, leb, ltb, cond, bit_or, refl, arith, length-chunk, chunk}
use Rattle.typst_lines.proofs.Lanes.{joined, with_splat, onto_splat, lanes-counted, count-small}
use Rattle.typst_lines.proofs.blocks.InCharsMeasure.of_lanes.Goals as goal

begins : ℕ → Bool
begins b = nat_lt b 128 || nat_le 192 b

pub returns-clause-value : goal.returns-clause-value
unfolding begins
returns-clause-value c =
    let d = c.args.bytes.now in
    let v = chunk c.args.at 16 d in
    let long = length-chunk c.args.at 16 d c.requires in
    lanes-counted begins d c.args.at 16 _ c.requires (omega arith) c.type_inv.bytes _
    (joined bit_or v _ _ (with_splat (λ a b. cond (ltb a b) 255 0) v 16 128 long) (onto_splat (λ a b. cond (leb a b) 255 0) v 16 192 long)) refl

pub returns-clause-small : goal.returns-clause-small
unfolding begins
returns-clause-small c = omega (arith, returns-clause-value c, count-small begins c.args.bytes.now c.args.at 16)
