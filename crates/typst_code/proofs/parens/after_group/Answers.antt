use Rattle.std.proofs.Common.{rules}
use Rattle.typst_code.proofs.parens.after_group.Goals as goal

pub returns-then-ne : goal.returns-then-ne
returns-then-ne c = search rules
