use Rattle.typst_tree.proofs.Cited.{ap, arith, refl, sym, ◌∙◌, long, nat_lt}
use Rattle.typst_tree.proofs.FoundBelow.{above, seen}
use Rattle.typst_tree.proofs.Rows.{length_row}
use Rattle.typst_tree.proofs.StepDown.{at_slice_get}
use Rattle.typst_tree.proofs.back.Found.below.Goals as goal

pub before_index-at-requires-clause-within : goal.before_index-at-requires-clause-within
before_index-at-requires-clause-within c = grind (arith, at_slice_get, length_row)

pub overflow_sub-self : goal.overflow_sub-self
overflow_sub-self c =
    let at = c.before_index-at.result in
    (seen c.args.over.now c.args.number c.args.index at.number at.offset _ c.args.self c.children-row.result.now c.children-row.ensures c.requires.child c.before_index-at.ensures).from

pub returns-clause-below : goal.returns-clause-below
returns-clause-below c =
    let at = c.before_index-at.result in
    let w = seen _ _ c.args.index at.number at.offset _ c.args.self _ c.children-row.ensures c.requires.child c.before_index-at.ensures in
    let is_long = ap (nat_lt long) (sym (length_row _ _ c.children-row.ensures)) in
    let order = c.of_child-way.ensures.in_order ∙ (c.open.ensures.in_order ∙ c.in_order.ensures) in
    above _ _ w.kid at.number at.offset c.args.index c.open.result c.of_child-way.result _ c.args.self _ w.child w.within w.below is_long c.open.ensures.reach c.of_child-way.ensures.follows c.then.ensures.joins (c.then.ensures.in_order (sym order) ∙ order) refl refl c.saturating_add.ensures
