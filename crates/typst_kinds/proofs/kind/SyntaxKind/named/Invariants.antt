use Rattle.typst_kinds.proofs.Cited.{◌≡◌, ◌≤◌, place_of, name_of, SyntaxKind}
use Rattle.typst_kinds.proofs.kind.SyntaxKind.named.Given as goal

abbrev pub invariant-loop-place : goal.invariant-loop-place
invariant-loop-place l = (k : SyntaxKind) → name_of k ≡ l.fn.name → l.place ≤ place_of k
