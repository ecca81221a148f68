use Rattle.typst_flat.proofs.Cited.{◌≡◌, ◌++◌, List, Tree, nodes, places}
use Rattle.typst_flat.proofs.nodes.last_of.Given as goal

abbrev pub invariant-levels : goal.invariant-levels
invariant-levels l = (init : List Tree) × (places l.node ≡ init ++ places l.last)

abbrev pub decreases-levels : goal.decreases-levels
decreases-levels l = nodes l.last
