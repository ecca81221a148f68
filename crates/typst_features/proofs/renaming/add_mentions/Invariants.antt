use Rattle.typst_features.proofs.Cited.{◌≡◌, ◌++◌, drop, map, mentioned, occurrence}
use Rattle.typst_features.proofs.renaming.add_mentions.Given as goal

abbrev pub invariant-loop-mention : goal.invariant-loop-mention
invariant-loop-mention l = l.occurrences.items ++ map (λ m. occurrence (mentioned m)) (drop l.mention-index l.found) ≡ l.fn.occurrences.items ++ map (λ m. occurrence (mentioned m)) l.found
