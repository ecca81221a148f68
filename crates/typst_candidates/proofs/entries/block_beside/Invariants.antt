use Rattle.typst_candidates.proofs.Cited.{◌≡◌, take, wides}
use Rattle.typst_candidates.proofs.entries.block_beside.Given as goal

abbrev pub invariant-loop-word : goal.invariant-loop-word
invariant-loop-word l = l.count ≡ wides (take l.word-index l.words)
