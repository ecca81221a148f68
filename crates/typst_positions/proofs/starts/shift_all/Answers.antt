use Rattle.typst_positions.proofs.Cited.{◌<◌, length, get_or, arith, get_or_default, shifted}
use Rattle.std.proofs.lemmas.List.Edits.{map_over_more}
use Rattle.typst_positions.proofs.starts.shift_all.Goals as goal

pub loop-at-preserved : goal.loop-at-preserved
loop-at-preserved c =
    let i = c.loop-at.at-index in
    let within : i < length c.loop-at.starts = omega arith in
    map_over_more (shifted c.args.from c.args.to) c.args.starts.now _ i (get_or _ i 0) (omega arith) c.loop-at.invariant (get_or_default _ i 0 (get_or _ i 0) within)
