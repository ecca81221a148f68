use Rattle.typst_tree.proofs.Cited.{◌≡◌, ◌+◌, ◌*◌, ◌<◌, take, vec_len, forest, count}
use Rattle.typst_tree.proofs.LastChild.{ButLast, counted}
use Rattle.typst_tree.proofs.node.SyntaxNode.+number.Given as goal

abbrev pub invariant-loop-i : goal.invariant-loop-i
invariant-loop-i l = record {
  own : l.self-inside.own ≡ l.initial.self-inside.own;
  many : vec_len l.self-inside.kids ≡ vec_len l.initial.self-inside.kids;
  place : l.at ≡ l.start + l.step + count (forest (take l.i l.initial.self-inside.kids.items)) * l.step;
  last_place : l.last < l.i → l.start_of_last ≡ l.start + l.step + count (forest (take l.last l.initial.self-inside.kids.items)) * l.step;
  done : ButLast l.self-inside.kids.items (counted l.id l.step (l.start + l.step) l.i l.initial.self-inside.kids.items) l.initial.self-inside.kids.items l.last;
}
