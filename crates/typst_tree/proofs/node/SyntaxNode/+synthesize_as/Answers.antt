use Rattle.typst_tree.proofs.Cited.{◌≡◌, ◌<◌, ◌≤◌, length, map, arith, ap, sym, refl, ◌∙◌, set, Tree, nodes, forest, synthesized}
use Rattle.typst_tree.proofs.ChildlessLeaves.{whole_synthesized}
use Rattle.typst_tree.proofs.Forests.{joined_spanned, count_with_each, forest_synthesized}
use Rattle.typst_tree.proofs.LastChild.{mapped_still, mapped_more, mapped_here, mapped_same, mapped_all, mapped_none}
use Rattle.typst_tree.proofs.Numbering.{nodes_at}
use Rattle.typst_tree.proofs.Marks.{has_synthesized}
use Rattle.typst_tree.proofs.node.SyntaxNode.+synthesize_as.Goals as goal
use Rattle.typst_tree.proofs.node.SyntaxNode.+synthesize_as.Goals.{then-i-last, else-i-last, After-synthesize_as-then-last-len, Else-last-len}

pub synthesize_as-requires : goal.synthesize_as-requires
synthesize_as-requires t c =
    let x = c.index_mut-kid.result.now in
    let within : c.loop-i.i < length c.self.inside.kids.items = omega (arith, c.self.inside.kids.ok.0) in
    let is = mapped_still (synthesized c.args.span.now) c.loop-i.self-inside.kids.items _ c.last_to_go-last.result c.loop-i.i x c.loop-i.invariant.done within c.index_mut-kid.ensures.value in
    (omega (arith, c.decreases, nodes_at _ c.loop-i.i x within, ap nodes is, ap nodes c.self.view_is), tt)

pub synthesize_as-requires-then-last-len : goal.synthesize_as-requires-then-last-len
synthesize_as-requires-then-last-len t c =
    let x = c.index_mut-kid-then-last-len.result.now in
    let passed : length c.self.inside.kids.items ≤ c.loop-i.i = omega (arith, c.self.inside.kids.ok.0) in
    let within : c.last_to_go-last.result < length c.self.inside.kids.items = omega (arith, c.self.inside.kids.ok.0, c.loop-i.invariant.many) in
    let is = mapped_same (synthesized c.args.span.now) c.loop-i.self-inside.kids.items _ _ c.loop-i.i x c.loop-i.invariant.done passed within c.index_mut-kid-then-last-len.ensures.value in
    (omega (arith, c.decreases, nodes_at _ _ x within, ap nodes is, ap nodes c.self.view_is), tt)

pub loop-i-preserved : goal.loop-i-preserved
loop-i-preserved t c =
    let within : c.loop-i.i < length c.self.inside.kids.items = omega (arith, c.self.inside.kids.ok.0) in
    elim c.if-i-last.branch [
      | then-i-last w ↦
          rw (w.self-inside-is, w.synthesize_as.ensures)
          (record {
            own = c.loop-i.invariant.own;
            many = c.loop-i.invariant.many;
            done = mapped_more _ _ _ _ c.loop-i.i w.index_mut-kid.result.now c.loop-i.invariant.done within w.if-i-last.true w.index_mut-kid.ensures.value;
          })
      | else-i-last w ↦
          rw w.self-inside-is
          (record {
            own = c.loop-i.invariant.own;
            many = c.loop-i.invariant.many;
            done = mapped_here _ _ _ _ c.loop-i.i c.args.self.now c.loop-i.invariant.done within w.if-i-last.false;
          })
    ]

-- the children where one was left to the end
all : (t : _) (c : After-synthesize_as-then-last-len t) → set c.loop-i.self-inside.kids.items c.last_to_go-last.result c.synthesize_as-then-last-len.new.self ≡ map (synthesized c.args.span.now) c.self.inside.kids.items
all t c =
    let f = synthesized c.args.span.now in
    let ys = c.loop-i.self-inside.kids.items in
    let last = c.last_to_go-last.result in
    let passed : length c.self.inside.kids.items ≤ c.loop-i.i = omega (arith, c.self.inside.kids.ok.0) in
    let within : last < length c.self.inside.kids.items = omega (arith, c.self.inside.kids.ok.0, c.loop-i.invariant.many) in
    ap (λ (u : Tree). set ys last u) c.synthesize_as-then-last-len.ensures
    ∙ mapped_all f ys _ last c.loop-i.i c.index_mut-kid-then-last-len.result.now c.loop-i.invariant.done passed within c.index_mut-kid-then-last-len.ensures.value

-- and where none was
none_left : (t : _) (c : Else-last-len t) → c.loop-i.self-inside.kids.items ≡ map (synthesized c.args.span.now) c.self.inside.kids.items
none_left t c = grind (arith, mapped_none)

pub invariant_of-self : goal.invariant_of-self
invariant_of-self t c =
    rw (all t (goal.at.invariant_of-self t c).After-synthesize_as-then-last-len, forest_synthesized, joined_spanned, count_with_each, c.loop-i.invariant.own, c.set_span.ensures)
    (c.self.invariant.0, c.self.invariant.1, whole_synthesized c.args.span.now (record { head = c.self.inside.own.head; kids = forest c.self.inside.kids.items }) c.self.invariant.2, c.self.invariant.3 ∙ sym (has_synthesized c.args.span.now (record { head = c.self.inside.own.head; kids = forest c.self.inside.kids.items })))

pub invariant_of-self-else-last-len : goal.invariant_of-self-else-last-len
invariant_of-self-else-last-len t c =
    rw (none_left t c, forest_synthesized, joined_spanned, count_with_each, c.loop-i.invariant.own, c.set_span.ensures)
    (c.self.invariant.0, c.self.invariant.1, whole_synthesized c.args.span.now (record { head = c.self.inside.own.head; kids = forest c.self.inside.kids.items }) c.self.invariant.2, c.self.invariant.3 ∙ sym (has_synthesized c.args.span.now (record { head = c.self.inside.own.head; kids = forest c.self.inside.kids.items })))

pub returns-then-last-len : goal.returns-then-last-len
returns-then-last-len t c =
    rw (← c.self.view_is, all t (goal.at.returns-then-last-len t c).After-synthesize_as-then-last-len, forest_synthesized, c.loop-i.invariant.own, c.set_span.ensures)
    refl

pub returns-else-last-len : goal.returns-else-last-len
returns-else-last-len t c =
    rw (← c.self.view_is, none_left t c, forest_synthesized, c.loop-i.invariant.own, c.set_span.ensures) refl
