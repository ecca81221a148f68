use Rattle.typst_highlight.proofs.Cited.{◌≡◌, take, reverse, ahead_of}
use Rattle.typst_highlight.proofs.progress.first_ahead.Given as goal

abbrev pub invariant-loop-index : goal.invariant-loop-index
invariant-loop-index l = ahead_of (reverse l.waiting) ≡ ahead_of (reverse (take l.index l.waiting))
