use Rattle.typst_lines.proofs.Cited.{ap, ◌∙◌, chars}
use Rattle.typst_lines.proofs.PlaceLemmas.{chars-ahead}
use Rattle.typst_lines.proofs.scanner.Scanner.after.Goals as goal

pub returns-clause-characters : goal.returns-clause-characters
returns-clause-characters c = ap chars c.range_from.ensures.value ∙ chars-ahead c.args.self.now.text.now c.args.self.now.cursor
