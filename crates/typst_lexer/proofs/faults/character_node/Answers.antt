use Rattle.typst_lexer.proofs.Cited.{rules, encodes-chars}
use Rattle.typst_lexer.proofs.faults.character_node.Goals as goal

pub returns : goal.returns
returns c = rw (encodes-chars c.args.text.now c.utf8.text) (search rules)
