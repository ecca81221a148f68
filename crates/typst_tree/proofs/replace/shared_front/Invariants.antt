use Rattle.typst_tree.proofs.Cited.{◌≡◌, ◌+◌, drop, front}
use Rattle.typst_tree.proofs.replace.shared_front.Given as goal

abbrev pub invariant-loop-i : goal.invariant-loop-i
invariant-loop-i l = front l.old l.new ≡ l.i + front (drop l.i l.old) (drop l.i l.new)
