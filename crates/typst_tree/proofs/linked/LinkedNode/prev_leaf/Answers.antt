use Rattle.std.proofs.Common.{ap, sym, ◌∙◌, arith}
use Rattle.typst_tree.proofs.Branches.{inside_top, until_top}
use Rattle.typst_tree.proofs.linked.LinkedNode.prev_leaf.Goals as goal

pub last_leaf-requires-clause-to : goal.last_leaf-requires-clause-to
last_leaf-requires-clause-to c = omega (arith, inside_top c.args.self c.top.result (ap (λ a. a.root) c.top.ensures) (ap (λ a. a.number) c.top.ensures))

pub returns-in_default-branch : goal.returns-in_default-branch
returns-in_default-branch c = grind (arith, until_top)

pub last_leaf-requires-3-clause-to : goal.last_leaf-requires-3-clause-to
last_leaf-requires-3-clause-to c =
    let w = c.in_Some-branch.ensures in
    omega (arith, inside_top c.in_Some-branch.branch.above.parent c.top-2.result (ap (λ a. a.root) c.top-2.ensures ∙ sym (w.above.root ∙ w.root)) (ap (λ a. a.number) c.top-2.ensures))

pub returns : goal.returns
returns c = grind (arith, until_top)
