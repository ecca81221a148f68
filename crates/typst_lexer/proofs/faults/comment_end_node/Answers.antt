use Rattle.typst_lexer.proofs.Cited.{encodes-chars, rules}
use Rattle.typst_lexer.proofs.faults.comment_end_node.Goals as goal

pub returns : goal.returns
returns c = rw (encodes-chars c.args.text.now c.utf8.text) (search rules)
