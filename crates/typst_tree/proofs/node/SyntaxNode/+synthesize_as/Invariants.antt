use Rattle.typst_tree.proofs.Cited.{◌≡◌, vec_len, synthesized}
use Rattle.typst_tree.proofs.LastChild.{ButLast, mapped}
use Rattle.typst_tree.proofs.node.SyntaxNode.+synthesize_as.Given as goal

abbrev pub invariant-loop-i : goal.invariant-loop-i
invariant-loop-i l = record {
  own : l.self-inside.own ≡ l.initial.self-inside.own;
  many : vec_len l.self-inside.kids ≡ vec_len l.initial.self-inside.kids;
  done : ButLast l.self-inside.kids.items (mapped (synthesized l.span) l.i l.initial.self-inside.kids.items) l.initial.self-inside.kids.items l.last;
}
