use Rattle.typst_tree.proofs.Cited.{arith, refl, ap, nodes}
use Rattle.typst_tree.proofs.SpansAside.{parts_from_bare, bare_from_parts, lengths_from_bare, same_at, same_but, same_in}
use Rattle.typst_tree.proofs.Numbering.{nodes_at}
use Rattle.typst_tree.proofs.node.SyntaxNode.+spanless_eq.Goals as goal

pub returns-then-len : goal.returns-then-len
returns-then-len t c = (
  λ h. absurd (cc),
  λ e.
      let p = parts_from_bare c.left.inside.own.head c.right.inside.own.head c.left.inside.kids.items c.right.inside.kids.items c.left.view_is c.right.view_is (c.loop-left.invariant.there e) in
      absurd (c.if-len.true (omega (arith, c.left.inside.kids.ok.0, c.right.inside.kids.ok.0, lengths_from_bare _ _ p.kids))),
)

pub returns-then-not-spanless_eq : goal.returns-then-not-spanless_eq
returns-then-not-spanless_eq t c = (
  λ h. absurd (cc),
  λ e.
      let p = parts_from_bare c.left.inside.own.head c.right.inside.own.head c.left.inside.kids.items c.right.inside.kids.items c.left.view_is c.right.view_is (c.loop-left.invariant.there e) in
      c.if-not-spanless_eq.ensures.1 (same_at c.left.inside.kids.items c.right.inside.kids.items c.loop-i.i _ _ p.kids c.index.ensures c.index-then-i-last.ensures (omega (arith, c.left.inside.kids.ok.0))),
)

pub returns-then-last-len : goal.returns-then-last-len
returns-then-last-len t c = (
  λ h.
      c.loop-left.invariant.back (bare_from_parts c.left.inside.own.head c.right.inside.own.head c.left.inside.kids.items c.right.inside.kids.items c.left.view_is c.right.view_is
      (c.if-not-same_bare.ensures.0 refl)
      (same_but c.left.inside.kids.items c.right.inside.kids.items c.last_to_go-last.result (omega (arith, c.left.inside.kids.ok.0, c.right.inside.kids.ok.0))
      (λ k d p q. c.loop-i.invariant k d (omega (arith, p, c.left.inside.kids.ok.0)) q)
      (λ d p. absurd (omega (arith, p, c.left.inside.kids.ok.0))))),
  λ e. refl,
)

pub loop-left-preserved : goal.loop-left-preserved
loop-left-preserved t c = record {
  size = omega (arith, nodes_at c.left.inside.kids.items c.last_to_go-last.result c.index-left.result.now (omega (arith, c.left.inside.kids.ok.0)), ap nodes c.index-left.ensures, ap nodes c.left.view_is, c.loop-left.invariant.size);
  there = λ e.
      let p = parts_from_bare c.left.inside.own.head c.right.inside.own.head c.left.inside.kids.items c.right.inside.kids.items c.left.view_is c.right.view_is (c.loop-left.invariant.there e) in
      same_at c.left.inside.kids.items c.right.inside.kids.items c.last_to_go-last.result _ _ p.kids c.index-left.ensures c.index-right.ensures (omega (arith, c.left.inside.kids.ok.0));
  back = λ e.
      c.loop-left.invariant.back (bare_from_parts c.left.inside.own.head c.right.inside.own.head c.left.inside.kids.items c.right.inside.kids.items c.left.view_is c.right.view_is
      (c.if-not-same_bare.ensures.0 refl)
      (same_but c.left.inside.kids.items c.right.inside.kids.items c.last_to_go-last.result (omega (arith, c.left.inside.kids.ok.0, c.right.inside.kids.ok.0))
      (λ k d p q. c.loop-i.invariant k d (omega (arith, p, c.left.inside.kids.ok.0)) q)
      (λ d p. same_in c.left.inside.kids.items c.right.inside.kids.items c.last_to_go-last.result d _ _ c.index-left.ensures c.index-right.ensures e p (omega (arith, p, c.left.inside.kids.ok.0, c.right.inside.kids.ok.0)))));
}
