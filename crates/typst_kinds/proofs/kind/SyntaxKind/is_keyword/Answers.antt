use Rattle.std.proofs.Common.{rules}
use Rattle.typst_kinds.proofs.kind.SyntaxKind.is_keyword.Goals as goal

pub returns-in-As : goal.returns-in-As
returns-in-As c = search rules
