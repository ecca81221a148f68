use Rattle.typst_tree.proofs.Cited.{common_steps, ◌≤◌, Some, length, get_or, ap, sym, ◌∙◌, arith, nat_tests}
use Rattle.typst_tree.proofs.SpansAside.{trees_forest}
use Rattle.typst_tree.proofs.StepDown.{slice_get_is}
use Rattle.typst_tree.proofs.PathMarks.{all_levels, level_on, level_off}
use Rattle.typst_tree.proofs.node.SyntaxNode.marked_levels.Goals as goal
use Rattle.typst_tree.proofs.node.SyntaxNode.marked_levels.Goals.{then-has_elsewhere, else-has_elsewhere}

pub loop-at-preserved : goal.loop-at-preserved
loop-at-preserved c =
    let path = c.args.path.now in
    let levels = c.loop-at.levels in
    let found = rw c.deref.ensures.value at c.in-Some.ensures.lookup in
    let got = slice_get_is _ (get_or path _ 0) _ found.3.0 ∙ ap Some (sym found.1) in
    let step = level_on path _ c.loop-at.node.now _ c.node.inside.own.head _ levels c.has_elsewhere.result c.loop-at-test.true c.node.view_is got c.has_elsewhere.ensures in
    grind (arith, common_steps, then-has_elsewhere, else-has_elsewhere)

pub has_elsewhere-requires : goal.has_elsewhere-requires
has_elsewhere-requires c = grind (arith, trees_forest)

pub returns-in_default : goal.returns-in_default
returns-in_default c =
    let path = c.args.path.now in
    let past : length c.node.inside.kids.items ≤ get_or path c.loop-at.at-index 0 = grind (arith, nat_tests, (rw c.deref.ensures.value at c.in_default.ensures.lookup)) in
    sym (ap (all_levels _ c.loop-at.levels) (level_off path _ c.loop-at.node.now c.node.inside.own.head _ c.loop-at-test.true c.node.view_is past))
    ∙ c.loop-at.invariant.levels
