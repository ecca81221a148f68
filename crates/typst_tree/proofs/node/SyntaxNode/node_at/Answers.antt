use Rattle.typst_tree.proofs.Cited.{◌≤◌, Some, length, get_or, ap, sym, ◌∙◌, arith, nat_tests}
use Rattle.typst_tree.proofs.StepDown.{slice_get_is}
use Rattle.typst_tree.proofs.PutAt.{walk_on, walk_off}
use Rattle.typst_tree.proofs.node.SyntaxNode.node_at.Goals as goal

pub returns-in_err-node : goal.returns-in_err-node
returns-in_err-node c =
    let path = c.args.path.now in
    let past : length c.node.inside.kids.items ≤ get_or path c.loop-at.at-index 0 = grind (arith, nat_tests, (rw c.deref.ensures.value at c.in_err-node.ensures.lookup)) in
    rw c.from_residual.ensures (sym (walk_off path _ c.loop-at.node.now c.node.inside.own.head _ c.loop-at-test.true c.node.view_is past) ∙ c.loop-at.invariant)

pub loop-at-preserved : goal.loop-at-preserved
loop-at-preserved c =
    let path = c.args.path.now in
    let found = rw c.deref.ensures.value at c.in_ok-node.ensures.lookup in
    let got = slice_get_is _ (get_or path _ 0) _ found.3.0 ∙ ap Some (sym found.1) in
    sym (walk_on path _ c.loop-at.node.now _ c.node.inside.own.head _ c.loop-at-test.true c.node.view_is got) ∙ c.loop-at.invariant
