use Rattle.std.proofs.Common.{◌≡◌, take}
use Rattle.typst_kinds.proofs.diagnostic.clone_diagnostics.Given as goal

abbrev pub invariant-loop-diagnostic : goal.invariant-loop-diagnostic
invariant-loop-diagnostic l = l.all.items ≡ take l.diagnostic-index l.diagnostics
