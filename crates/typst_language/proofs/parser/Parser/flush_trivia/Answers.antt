use Rattle.typst_language.proofs.Steps.{does-flush}
use Rattle.typst_language.proofs.parser.Parser.flush_trivia.Goals as goal

pub returns : goal.returns
returns c l = does-flush (c.in_ok-flush.ensures l)
