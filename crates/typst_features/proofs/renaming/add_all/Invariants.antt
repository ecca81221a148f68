use Rattle.typst_features.proofs.Cited.{◌≡◌, ◌++◌, drop, map, put, put_for}
use Rattle.typst_features.proofs.renaming.add_all.Given as goal

abbrev pub invariant-loop-occurrence : goal.invariant-loop-occurrence
invariant-loop-occurrence l = map put l.renamed.items ++ map put_for (drop l.occurrence-index l.occurrences) ≡ map put l.fn.renamed.items ++ map put_for l.occurrences
