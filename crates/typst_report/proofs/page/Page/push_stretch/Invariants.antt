use Rattle.std.proofs.Common.{◌-◌}
use Rattle.typst_report.proofs.page.Page.push_stretch.Given as goal

abbrev pub decreases-pieces : goal.decreases-pieces
decreases-pieces l = l.end - l.at
