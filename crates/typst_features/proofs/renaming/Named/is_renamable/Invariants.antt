use Rattle.typst_features.proofs.Cited.{◌≡◌, drop, any_bound}
use Rattle.typst_features.proofs.renaming.Named.is_renamable.Given as goal

abbrev pub invariant-loop-occurrence : goal.invariant-loop-occurrence
invariant-loop-occurrence l = any_bound (drop l.occurrence-index l.occurrence-items) ≡ any_bound l.self.occurrences.items
