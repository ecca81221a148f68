use Rattle.typst_report.proofs.Cited.{◌≡◌, map, length, take, min, take_min, take-map}
use Rattle.typst_report.proofs.report.first.Goals as goal

pub returns-in-Some : goal.returns-in-Some
returns-in-Some c = rw (c.in-Some.is, c.min.ensures, take_min, take-map)
