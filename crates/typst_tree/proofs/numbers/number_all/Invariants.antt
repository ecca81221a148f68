use Rattle.typst_tree.proofs.Cited.{◌≡◌, ℕ, ◌+◌, ◌*◌, ◌++◌, ◌≤◌, take, drop, get_or, Tree, forest, count, numbered_list}
use Rattle.typst_tree.proofs.numbers.number_all.Given as goal

abbrev pub invariant-loop-kid : goal.invariant-loop-kid
invariant-loop-kid l = record {
  place : l.at ≡ l.start + count (forest (take l.kid-index l.initial.kids)) * l.stride;
  unvisited : (k : ℕ) (d : Tree) → l.kid-index ≤ k → get_or l.kids k d ≡ get_or l.initial.kids k d;
  done : l.kids ≡ numbered_list l.id l.stride l.start (take l.kid-index l.initial.kids) ++ drop l.kid-index l.initial.kids;
}
