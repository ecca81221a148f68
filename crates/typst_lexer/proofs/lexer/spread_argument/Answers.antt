use Rattle.typst_lexer.proofs.Cited.{◌∙◌, ap, sym, sight}
use Rattle.typst_lexer.specs.ArgumentTokens.{spread_argument as spread}
use Rattle.typst_lexer.proofs.lexer.spread_argument.Goals as goal

pub returns : goal.returns
returns c = c.read_up_to.ensures.scans spread c.args.start (ap (sight spread) (sym c.new-cursor.ensures) ∙ c.spread_argument-token.ensures)
