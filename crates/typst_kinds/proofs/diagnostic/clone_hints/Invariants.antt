use Rattle.std.proofs.Common.{◌≡◌, take}
use Rattle.typst_kinds.proofs.diagnostic.clone_hints.Given as goal

abbrev pub invariant-loop-hint : goal.invariant-loop-hint
invariant-loop-hint l = l.all.items ≡ take l.hint-index l.hints
