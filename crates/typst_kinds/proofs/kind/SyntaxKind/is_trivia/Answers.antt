use Rattle.std.proofs.Common.{rules}
use Rattle.typst_kinds.proofs.kind.SyntaxKind.is_trivia.Goals as goal

pub returns-in-Parbreak : goal.returns-in-Parbreak
returns-in-Parbreak c = search rules
