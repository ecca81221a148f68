use Rattle.std.proofs.Common.{rules}
use Rattle.typst_language.proofs.parser.Parser.marker.Goals as goal

pub returns-clause-marker : goal.returns-clause-marker
returns-clause-marker c = search rules
