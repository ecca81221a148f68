use Rattle.typst_tree.proofs.Cited.{◌≡◌, ◌+◌, drop, reverse, front}
use Rattle.typst_tree.proofs.replace.shared_back.Given as goal

abbrev pub invariant-loop-i : goal.invariant-loop-i
invariant-loop-i l = front (reverse l.old) (reverse l.new) ≡ l.i + front (drop l.i (reverse l.old)) (drop l.i (reverse l.new))
