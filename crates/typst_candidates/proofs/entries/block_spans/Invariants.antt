use Rattle.typst_candidates.proofs.Cited.{◌≡◌, take, spans}
use Rattle.typst_candidates.proofs.entries.block_spans.Given as goal

abbrev pub invariant-loop-word : goal.invariant-loop-word
invariant-loop-word l = l.sum ≡ spans (take l.word-index l.words)
