use Rattle.typst_styles.proofs.Cited.{◌-◌, arith, length-drop, take_all}
use Rattle.typst_styles.proofs.DataEditsMade.{made_by_ends, front_differs}
use Rattle.typst_styles.proofs.delta.edit_between.Goals as goal
use Rattle.typst_styles.proofs.delta.edit_between.Goals.{else-front-old_end-via-then-front-old_end+else-front-new_end, else-front-old_end-via-else-front-old_end}

pub returns : goal.returns
returns c = grind (arith, take_all, length-drop, made_by_ends, front_differs, else-front-old_end-via-then-front-old_end+else-front-new_end, else-front-old_end-via-else-front-old_end)
