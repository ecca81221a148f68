use Rattle.std.proofs.Common.{◌<◌, drop}
use Rattle.typst_edited.specs.Tree.{forest, count, nodes}
use Rattle.typst_probe.proofs.example.+print_node.Given as goal

abbrev pub decreases-print_node : goal.decreases-print_node
decreases-print_node l = nodes l.node.now

abbrev pub invariant-loop-diagnostic : goal.invariant-loop-diagnostic
invariant-loop-diagnostic l = Unit {0}

abbrev pub invariant-loop-kid : goal.invariant-loop-kid
invariant-loop-kid l = count (forest (drop l.kid-index l.kid-items)) < nodes l.node
