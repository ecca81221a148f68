use Rattle.std.proofs.Common.{◌∙◌}
use Rattle.typst_language.proofs.parser.Parser.look.Goals as goal

pub returns : goal.returns
returns g c l h = c.in_ok-read.ensures l (h.classes ∙ g.met.L.Levels.same _)
