use Rattle.typst_lexer.proofs.Cited.{sym, ◌∙◌, none-is}
use Rattle.typst_lexer.proofs.math_arguments.has_nothing.Goals as goal

pub returns : goal.returns
returns c = c.is_empty.ensures ∙ sym (none-is c.args.text.now c.utf8.text)
