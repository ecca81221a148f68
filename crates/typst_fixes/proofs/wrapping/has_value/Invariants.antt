use Rattle.typst_fixes.proofs.Cited.{◌≡◌, drop, list_any}
use Rattle.typst_fixes.specs.Wrapped as spec
use Rattle.typst_fixes.proofs.wrapping.has_value.Given as goal

abbrev pub invariant-loop-kid : goal.invariant-loop-kid
invariant-loop-kid l = list_any (λ t. spec.binds t.head.kind) (drop l.kid-index l.kids) ≡ list_any (λ t. spec.binds t.head.kind) l.kids
