use Rattle.typst_tree.proofs.Cited.{common_steps, arith, ap, sym, subst, Tree}
use Rattle.typst_tree.proofs.Copies.{IsWay, Upper, way_down, way_up, way_nodes, without_push, without_skip, without_all, child_at, copied, copied_back, room_for}
use Rattle.typst_tree.proofs.Numbering.{nodes_at}
use Rattle.typst_tree.proofs.node.SyntaxNode.+clone.Goals as goal
use Rattle.typst_tree.proofs.node.SyntaxNode.+clone.Goals.{clone_kids_but-then-i-last+in_ok-kid+in_ok-push, clone_kids_but-else-i-last, try_clone-In-Some}

pub clone_kids_but-try_clone-requires : goal.clone_kids_but-try_clone-requires
clone_kids_but-try_clone-requires t c = grind (arith, nodes_at)

pub clone_kids_but-loop-i-preserved : goal.clone_kids_but-loop-i-preserved
clone_kids_but-loop-i-preserved t c = grind (arith, clone_kids_but-then-i-last+in_ok-kid+in_ok-push, without_push, clone_kids_but-else-i-last, without_skip)

pub clone_kids_but-returns : goal.clone_kids_but-returns
clone_kids_but-returns t c =
    without_all c.args.self.now c.self.inside.kids.items c.loop-i.kids.items c.args.last c.loop-i.i (sym (ap (λ (u : Tree). u.kids) c.self.view_is)) c.loop-i.invariant (omega (arith, c.self.inside.kids.ok.0))

pub try_clone-loop-last-preserved : goal.try_clone-loop-last-preserved
try_clone-loop-last-preserved t c =
    let kid = child_at c.loop-last.node.now c.node.inside.kids.items c.loop-last.last c.index-node.result.now (sym (ap (λ (u : Tree). u.kids) c.node.view_is)) (omega (arith, c.node.inside.kids.ok.0)) c.index-node.ensures in
    grind (arith, common_steps, way_down)

pub try_clone-clone_kids_but-requires : goal.try_clone-clone_kids_but-requires
try_clone-clone_kids_but-requires t c = grind (arith, way_nodes)

pub try_clone-clone_over-requires : goal.try_clone-clone_over-requires
try_clone-clone_over-requires t c = grind (arith, copied)

-- the last parent, of which a child was copied
upper : (t : _) (c : try_clone-In-Some t) → Upper c.args.self.now c.pop.new.self.items c.in-Some.field-0 c.loop-node.copy
upper t c =
    way_up c.args.self.now c.loop-node.above.items c.pop.new.self.items c.in-Some.field-0 c.loop-node.copy c.in-Some.ensures.items c.loop-node.invariant

pub try_clone-clone_kids_but-requires-in-Some : goal.try_clone-clone_kids_but-requires-in-Some
try_clone-clone_kids_but-requires-in-Some t c =
    let u = upper t (goal.at.try_clone-clone_kids_but-requires-in-Some t c).In-Some in
    (omega (arith, c.decreases, way_nodes c.args.self.now c.pop.new.self.items c.in-Some.field-0.node.now u.way), tt)

pub try_clone-insert-requires : goal.try_clone-insert-requires
try_clone-insert-requires t c =
    let u = upper t (goal.at.try_clone-insert-requires t c).In-Some in
    omega (arith, c.in_ok-kids-2.kids.ok.0, room_for c.in-Some.field-0.node.now c.in_ok-kids-2.kids.items c.in-Some.field-0.last u.within c.in_ok-kids-2.ensures)

pub try_clone-clone_over-requires-in-Some : goal.try_clone-clone_over-requires-in-Some
try_clone-clone_over-requires-in-Some t c =
    let u = upper t (goal.at.try_clone-clone_over-requires-in-Some t c).In-Some in
    copied_back c.in-Some.field-0.node.now c.in_ok-kids-2.kids.items c.insert.new.self.items c.in-Some.field-0.last c.loop-node.copy u.within u.child c.in_ok-kids-2.ensures c.in_ok-insert.ensures.items

pub try_clone-loop-node-preserved : goal.try_clone-loop-node-preserved
try_clone-loop-node-preserved t c =
    let u = upper t (goal.at.try_clone-loop-node-preserved t c).In-Some in
    subst (λ (v : Tree). IsWay c.args.self.now c.pop.new.self.items v) (sym c.in_ok-copy-2.ensures) u.way
