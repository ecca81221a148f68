use Rattle.typst_tree.proofs.Cited.{◌||◌, arith, refl, ap, sym, ◌∙◌, has_any, with_kind, at_tree, forest}
use Rattle.typst_tree.proofs.ChildlessLeaves.{whole_kind}
use Rattle.typst_tree.proofs.Forests.{forest_set, at_tree_past, joined_kind, count_kind}
use Rattle.typst_tree.proofs.Marks.{have_kind}
use Rattle.typst_tree.proofs.node.SyntaxNode.convert_child_to_kind.Goals as goal

pub invariant_of-self : goal.invariant_of-self
invariant_of-self c =
    rw (c.convert_to_kind.ensures, forest_set (with_kind c.args.kind) c.self.inside.kids.items c.args.i c.index_mut-kid.result.now (omega (arith, c.self.inside.kids.ok.0)) c.index_mut-kid.ensures.value, joined_kind, count_kind)
    (c.self.invariant.0, c.self.invariant.1, (λ q. ap (at_tree (with_kind c.args.kind) c.args.i) (c.self.invariant.2.0 q), whole_kind c.args.kind c.args.i (forest c.self.inside.kids.items) c.self.invariant.2.1), c.self.invariant.3 ∙ ap (λ b. has_any c.self.inside.own.head.diagnostics || b) (sym (have_kind c.args.kind c.args.i (forest c.self.inside.kids.items))))

pub returns : goal.returns
returns c =
    rw (← c.self.view_is, c.convert_to_kind.ensures, forest_set (with_kind c.args.kind) c.self.inside.kids.items c.args.i c.index_mut-kid.result.now (omega (arith, c.self.inside.kids.ok.0)) c.index_mut-kid.ensures.value)
    refl

pub returns-then-i-len : goal.returns-then-i-len
returns-then-i-len c = grind (arith, at_tree_past)
