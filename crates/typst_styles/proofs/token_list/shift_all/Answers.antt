use Rattle.typst_styles.proofs.Cited.{arith, wrapped}
use Rattle.std.proofs.lemmas.Grind.{common_steps}
use Rattle.std.proofs.lemmas.List.Edits.{map_over_more}
use Rattle.typst_styles.proofs.token_list.shift_all.Goals as goal

pub loop-token-preserved : goal.loop-token-preserved
loop-token-preserved c = grind (arith, common_steps, map_over_more (wrapped c.args.distance))
