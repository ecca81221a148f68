use Rattle.typst_lexer.proofs.Cited.{sym, ◌∙◌, chars, none-is}
use Rattle.typst_lexer.proofs.Tags.{pair-is}
use Rattle.typst_lexer.proofs.raw.is_pair.Goals as goal

pub returns-then-delim-eq2 : goal.returns-then-delim-eq2
returns-then-delim-eq2 c = c.is_empty.ensures ∙ sym (none-is c.args.rest.now c.utf8.rest) ∙ pair-is (chars c.args.delim.now) (chars c.args.rest.now) (sym c.requires ∙ c.if-delim-eq2.true)
