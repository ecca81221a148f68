use Rattle.typst_highlight.proofs.Cited.{◌≡◌, ◌+◌, ◌*◌, ◌≤◌, IfSome, count, forest, found, if_found}
use Rattle.typst_highlight.proofs.Places.{leaf_behind, steps_behind}
use Rattle.typst_highlight.proofs.walk.+places.Given as goal

abbrev pub decreases-leaf_below : goal.decreases-leaf_below
decreases-leaf_below l = 2 * count l.node.now.kids + 1

abbrev pub decreases-first_place : goal.decreases-first_place
decreases-first_place l = 2 * count (forest l.row.nodes.now)

abbrev pub invariant-first_place-nodes : goal.invariant-first_place-nodes
invariant-first_place-nodes l = record {
  found : (found l.fn.row.context (forest l.fn.row.nodes.now)).leaf ≡ if_found (found l.row.context (forest l.row.nodes.now)).leaf (leaf_behind l.behind);
  smaller : count (forest l.row.nodes.now) ≤ count (forest l.fn.row.nodes.now);
  behind : IfSome l.behind (λ b. count (forest b.nodes.now) ≤ count (forest l.fn.row.nodes.now));
}

abbrev pub decreases-first_place-nodes : goal.decreases-first_place-nodes
decreases-first_place-nodes l = 2 * count (forest l.row.nodes.now) + steps_behind l.behind
