use Rattle.std.proofs.Common.{◌<◌, length}
use Rattle.typst_tree.proofs.node.heaviest.Given as goal

abbrev pub invariant-loop-i : goal.invariant-loop-i
invariant-loop-i l = l.heaviest < length l.row
