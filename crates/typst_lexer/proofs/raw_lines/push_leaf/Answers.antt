use Rattle.typst_lexer.proofs.Cited.{rules, encodes-chars}
use Rattle.typst_lexer.proofs.raw_lines.push_leaf.Goals as goal

pub returns : goal.returns
returns c = rw (encodes-chars c.args.text.now c.utf8.text) (search rules)
