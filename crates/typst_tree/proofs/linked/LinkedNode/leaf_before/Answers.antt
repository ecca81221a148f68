use Rattle.typst_tree.proofs.Cited.{common_steps, ◌≡◌, ◌+◌, ap, arith, refl, subst, sym, take, ◌∙◌, count, forest, leaf_until}
use Rattle.typst_tree.proofs.Branches.{beside_of, none_alone, until_here, until_row}
use Rattle.typst_tree.proofs.Parents.{child_bounds}
use Rattle.typst_tree.proofs.Rows.{StepBack, step_back}
use Rattle.typst_tree.proofs.linked.LinkedNode.leaf_before.Goals as goal
use Rattle.typst_tree.proofs.linked.LinkedNode.leaf_before.Goals.{After-index-row-at}

pub last_leaf-requires : goal.last_leaf-requires
last_leaf-requires c = grind (arith, common_steps, child_bounds _ _ _ _ _ c.requires.child)

pub loop-at-init : goal.loop-at-init
loop-at-init c = let b = beside_of c.args.self c.args.above c.children-row.result.now c.requires c.children-row.ensures in grind (arith, common_steps)

-- the child that is looked at
here : (c : After-index-row-at) → StepBack c.args.above.parent.root.now c.args.above.parent.node.now c.args.above.parent.number c.args.above.parent.offset c.loop-at.at.index c.children-row.result.now c.index-row-at.result c.loop-at.at.number c.loop-at.at.offset
here c =
    let i = c.loop-at.invariant in
    step_back c.args.above.parent.root.now c.args.above.parent.node.now _ _ _ _ _ _ _ c.children-row.ensures c.args.above.parent.stands (omega (arith, c.loop-at-test.true)) i.within c.index-row-at.is i.number i.offset i.small

pub before-at-requires : goal.before-at-requires
before-at-requires c =
    let s = here (goal.at.before-at-requires c).After-index-row-at in
    record { index = omega (arith, c.loop-at-test.true); counted = s.counts; measured = s.reaches }

pub child-kid-requires : goal.child-kid-requires
child-kid-requires c =
    let s = here (goal.at.child-kid-requires c).After-index-row-at in
    let t = c.tree.ensures in
    let b = c.before-at.ensures in
    record {
      stands = rw (t.node, t.number, t.offset, b.number, b.offset) s.kid.stands;
      child = rw (t.node, t.number, t.index, b.number, b.index) s.kid.child;
    }

pub loop-at-preserved : goal.loop-at-preserved
loop-at-preserved c =
    let at = c.loop-at.at in
    let i = c.loop-at.invariant in
    let s = here (goal.at.loop-at-preserved c).After-index-row-at in
    let root : c.child-kid.result.root.now ≡ c.args.self.root.now = c.child-kid.ensures.root ∙ c.requires.root in
    let b = c.before-at.ensures in
    record {
      within = omega (arith, b.index, i.within);
      found = i.found ∙ (ap (λ r. leaf_until r at.number) (sym root) ∙ (c.in_default.ensures ∙ (ap (λ r. leaf_until r c.child-kid.result.number) root ∙ ap (leaf_until c.args.self.root.now) (c.child-kid.ensures.number ∙ c.tree.ensures.number))));
      number = rw (b.number, b.index) s.number;
      offset = rw (b.offset, b.index) s.offset;
      small = omega (arith, b.offset, i.small);
    }

pub returns : goal.returns
returns c =
    let p = c.args.above.parent in
    let at = c.loop-at.at in
    let row = c.children-row.result.now in
    let index : c.loop-at.at.index ≡ 0 = omega (arith, c.loop-at-test.false) in
    let first : c.loop-at.at.number ≡ c.args.above.parent.number + 1 + 0 = c.loop-at.invariant.number ∙ ap (λ j. p.number + 1 + count (forest (take j row))) index in
    let nothing = until_row p.node.now p.number at.number 0 row c.children-row.ensures first ∙ none_alone p.node.now p.number c.args.self.number 0 c.args.self.node.now at.number row c.requires.child (omega (arith, first)) refl in
    let before = until_here p at.number _ (omega (arith, first)) (omega (arith, first)) (sym nothing) in
    c.loop-at.invariant.found ∙ subst (λ r. leaf_until r at.number ≡ leaf_until r p.number) c.requires.root before
