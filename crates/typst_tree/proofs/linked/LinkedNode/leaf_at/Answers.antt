use Rattle.typst_tree.proofs.Cited.{common_steps, ◌≡◌, None, Some, ap, arith, sym, ◌∙◌, nodes, places, at, first_at, holds_byte, if◌then◌else◌}
use Rattle.std.specs.Option.{option_map}
use Rattle.typst_tree.proofs.Branches.{room}
use Rattle.typst_tree.proofs.NodesOfStretch.{first_here, stands_row}
use Rattle.typst_tree.proofs.Parents.{child_bounds}
use Rattle.typst_tree.proofs.PassesOver.{no_byte_after, no_byte_before}
use Rattle.typst_tree.proofs.linked.LinkedNode.leaf_at.Goals as goal
use Rattle.typst_tree.proofs.linked.LinkedNode.leaf_at.Goals.{In_default, then-byte-self-via-then-byte-self, then-byte-self-via-else-byte-self+then-saturating_add-byte}

pub returns-then-byte-self : goal.returns-then-byte-self
returns-then-byte-self c =
    let a = c.args.self in
    let nothing : first_at (holds_byte c.args.byte) c.args.self.number c.args.self.offset (places c.args.self.node.now) ≡ None = elim c.then-byte-self.branch [
      | then-byte-self-via-then-byte-self w ↦ no_byte_before c.args.byte a.number a.offset (places a.node.now) (omega (arith, w.if-byte-self.true, a.stands.begins))
      | then-byte-self-via-else-byte-self+then-saturating_add-byte w ↦ no_byte_after c.args.byte a.number a.offset a.node.now (omega (arith, w.if-saturating_add-byte.true, w.saturating_add.ensures, w.len.ensures))
    ] in
    ap (option_map (at a.root.now)) (sym nothing) ∙ first_here (holds_byte c.args.byte) a.root.now a.number a.offset a.node.now a.stands

pub child_at-requires : goal.child_at-requires
child_at-requires c = omega (arith, room c.loop-kid.over, c.spot.ensures.number, ap nodes c.spot.ensures.node)

pub child-over-requires-clause-stands : goal.child-over-requires-clause-stands
child-over-requires-clause-stands c =
    stands_row (places c.loop-kid.over.root.now) c.spot.result.number c.spot.result.offset _ _ (places c.spot.result.node.now) _
    (rw (c.spot.ensures.number, c.spot.ensures.offset, c.spot.ensures.node) c.loop-kid.over.stands) c.in-Some.ensures.kid.within

pub loop-kid-smaller : goal.loop-kid-smaller
loop-kid-smaller c = grind (arith, common_steps, child_bounds _ _ _ _ _ c.in-Some.ensures.kid.child)

-- the last node is the one that may hold it
own : (c : In_default) → first_at (holds_byte c.args.byte) c.args.self.number c.args.self.offset (places c.args.self.node.now) ≡ (if holds_byte c.args.byte 0 c.loop-kid.over.offset c.loop-kid.over.node.now then Some c.loop-kid.over.number else None)
own c = c.loop-kid.invariant.found ∙ rw (sym c.spot.ensures.node, sym c.spot.ensures.number, sym c.spot.ensures.offset) (c.child_at.ensures.none c.in_default.is)

pub returns-then-holds_byte : goal.returns-then-holds_byte
returns-then-holds_byte c =
    let a = c.args.self in
    let found = own (goal.at.returns-then-holds_byte c).In_default ∙ ap (λ h. if h then Some c.loop-kid.over.number else None) (sym c.if-holds_byte.ensures) in
    ap (λ r. Some (at r c.loop-kid.over.number)) c.loop-kid.invariant.root ∙ (ap (option_map (at a.root.now)) (sym found) ∙ first_here (holds_byte c.args.byte) a.root.now a.number a.offset a.node.now a.stands)

pub returns-else-holds_byte : goal.returns-else-holds_byte
returns-else-holds_byte c =
    let a = c.args.self in
    let found = own (goal.at.returns-else-holds_byte c).In_default ∙ ap (λ h. if h then Some c.loop-kid.over.number else None) (sym c.if-holds_byte.ensures) in
    ap (option_map (at a.root.now)) (sym found) ∙ first_here (holds_byte c.args.byte) a.root.now a.number a.offset a.node.now a.stands
