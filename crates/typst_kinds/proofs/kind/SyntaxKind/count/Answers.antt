use Rattle.std.proofs.Common.{◌<◌, subst}
use Rattle.typst_kinds.proofs.Places.{kind_with, placed}
use Rattle.typst_kinds.proofs.kind.SyntaxKind.count.Goals as goal

pub returns : goal.returns
returns c = λ place. (λ l. kind_with place l, λ k. subst (λ n. n < 137) k.1 (placed k.0))
