use Rattle.std.proofs.Common.{◌+◌, ◌-◌, append_assoc, arith}
use Rattle.typst_styles.proofs.TokenLines.{lines_ended, lines_going}
use Rattle.typst_styles.proofs.tokens.add_lines.Goals as goal
use Rattle.typst_styles.proofs.tokens.add_lines.Goals.{then-ends_line+in_ok-add_token, else-ends_line}

pub loop-at-preserved : goal.loop-at-preserved
loop-at-preserved c = grind (arith, then-ends_line+in_ok-add_token, lines_ended, append_assoc, else-ends_line, lines_going)
