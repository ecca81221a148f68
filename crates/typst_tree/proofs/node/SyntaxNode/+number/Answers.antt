use Rattle.typst_tree.proofs.Cited.{common_steps, ◌≡◌, ◌+◌, ◌*◌, ◌<◌, ◌≤◌, length, arith, refl, ap, sym, ◌∙◌, set, Tree, nodes, forest, count, numbered, numbered_list}
use Rattle.typst_tree.proofs.Numbering.{Next, next_at, forest_numbered, nodes_numbered, text_numbered, numbered_bare}
use Rattle.typst_tree.proofs.LastChild.{but_kept, counted, counted_still, counted_more, counted_here, counted_same, counted_all, counted_none}
use Rattle.typst_tree.proofs.ChildlessLeaves.{whole_same_tree}
use Rattle.typst_tree.proofs.Marks.{has_same}
use Rattle.typst_tree.proofs.node.SyntaxNode.+number.Goals as goal
use Rattle.typst_tree.proofs.node.SyntaxNode.+number.Goals.{then-i-last, else-i-last, After-len-i-end, After-descendants-in-loop-i, After-descendants-then-last-len, After-number-then-last-len, Else-last-len}

-- how many nodes there are, the root and those below it
all : (t : _) (c : After-len-i-end t) → c.descendants-2.result ≡ 1 + count (forest c.self.inside.kids.items)
all t c = omega (arith, c.descendants-2.ensures, ap nodes c.self.view_is, c.requires.room, c.requires.fits)

-- the children's share of the stretch
below : (t : _) (c : After-len-i-end t) → c.args.start + c.stride-step.result + count (forest c.self.inside.kids.items) * c.stride-step.result ≤ c.args.start + c.args.room
below t c = let w = rw (all t c) at c.stride-step.ensures.within in omega (arith, w)

next : (t : _) (c : After-descendants-in-loop-i t) → Next c.stride-step.result (c.args.start + c.args.room) c.loop-i.at c.descendants-in-loop-i.result c.loop-i.i c.self.inside.kids.items c.index_mut-kid.result.now
next t c =
    let within : c.loop-i.i < length c.self.inside.kids.items = omega (arith, c.self.inside.kids.ok.0) in
    let is = counted_still c.args.id.now c.stride-step.result (c.args.start + c.stride-step.result) c.loop-i.self-inside.kids.items _ c.last_to_go-last.result c.loop-i.i _ c.loop-i.invariant.done within c.index_mut-kid.ensures.value in
    next_at c.stride-step.result (c.args.start + c.stride-step.result) (c.args.start + c.args.room) c.loop-i.at c.descendants-in-loop-i.result c.loop-i.i _ _
    c.stride-step.ensures.step within is c.loop-i.invariant.place (below t (goal.at.overflow_mul-share t c).After-len-i-end) c.requires.fits c.descendants-in-loop-i.ensures

last_next : (t : _) (c : After-descendants-then-last-len t) → Next c.stride-step.result (c.args.start + c.args.room) c.loop-i.start_of_last c.descendants-then-last-len.result c.last_to_go-last.result c.self.inside.kids.items c.index_mut-kid-then-last-len.result.now
last_next t c =
    let passed : length c.self.inside.kids.items ≤ c.loop-i.i = omega (arith, c.self.inside.kids.ok.0) in
    let within : c.last_to_go-last.result < length c.self.inside.kids.items = omega (arith, c.self.inside.kids.ok.0, c.loop-i.invariant.many) in
    let is = counted_same c.args.id.now c.stride-step.result (c.args.start + c.stride-step.result) c.loop-i.self-inside.kids.items _ c.last_to_go-last.result c.loop-i.i _ c.loop-i.invariant.done passed within c.index_mut-kid-then-last-len.ensures.value in
    next_at c.stride-step.result (c.args.start + c.stride-step.result) (c.args.start + c.args.room) c.loop-i.start_of_last c.descendants-then-last-len.result c.last_to_go-last.result _ _
    c.stride-step.ensures.step within is (c.loop-i.invariant.last_place (omega (arith, within, passed))) (below t (goal.at.overflow_mul-share-then-last-len t c).After-len-i-end) c.requires.fits c.descendants-then-last-len.ensures

pub overflow_mul-share : goal.overflow_mul-share
overflow_mul-share t c = let n = next t c in rw n.counted (omega (arith, n.fits, c.requires.fits))

pub overflow_add-at-in-loop-i : goal.overflow_add-at-in-loop-i
overflow_add-at-in-loop-i t c =
    let n = next t (goal.at.overflow_add-at-in-loop-i t c).After-descendants-in-loop-i in rw n.counted (omega (arith, n.fits, c.requires.fits))

pub number-requires : goal.number-requires
number-requires t c =
    let n = next t (goal.at.number-requires t c).After-descendants-in-loop-i in
    (omega (arith, c.decreases, n.below, ap nodes c.self.view_is), (omega (arith, c.loop-i.invariant.place, c.requires.low), (rw n.counted n.enough, rw n.counted (omega (arith, n.fits, c.requires.fits)))))

pub overflow_mul-share-then-last-len : goal.overflow_mul-share-then-last-len
overflow_mul-share-then-last-len t c = let n = last_next t c in rw n.counted (omega (arith, n.fits, c.requires.fits))

pub number-requires-then-last-len : goal.number-requires-then-last-len
number-requires-then-last-len t c = let n = last_next t c in grind (arith, common_steps)

pub loop-i-preserved : goal.loop-i-preserved
loop-i-preserved t c =
    let n = next t (goal.at.loop-i-preserved t c).After-descendants-in-loop-i in
    let xs = c.self.inside.kids.items in
    let ys = c.loop-i.self-inside.kids.items in
    let last = c.last_to_go-last.result in
    let first = c.args.start + c.stride-step.result in
    let within : c.loop-i.i < length xs = omega (arith, c.self.inside.kids.ok.0) in
    elim c.if-i-last.branch [
      | then-i-last w ↦
          rw (w.self-inside-is, w.start_of_last-is)
          (record {
            own = c.loop-i.invariant.own;
            many = c.loop-i.invariant.many;
            place = rw (n.counted, n.more_by) (omega (arith, c.loop-i.invariant.place));
            last_place = λ _. rw (← w.if-i-last.true) c.loop-i.invariant.place;
            done = but_kept ys (counted c.args.id.now c.stride-step.result first (c.loop-i.i + 1) xs) xs last c.loop-i.i c.index_mut-kid.result.now c.index_mut-kid.ensures.value (counted_here c.args.id.now c.stride-step.result first ys xs last c.loop-i.i c.args.self.now c.loop-i.invariant.done within w.if-i-last.true);
          })
      | else-i-last w ↦
          rw (w.self-inside-is, w.start_of_last-is, w.number.ensures)
          (record {
            own = c.loop-i.invariant.own;
            many = c.loop-i.invariant.many;
            place = rw (n.counted, n.more_by) (omega (arith, c.loop-i.invariant.place));
            last_place = λ h. c.loop-i.invariant.last_place (omega (arith, h, w.if-i-last.false));
            done = rw n.counted (counted_more c.args.id.now c.stride-step.result first c.loop-i.at ys xs last c.loop-i.i c.index_mut-kid.result.now c.loop-i.invariant.done within w.if-i-last.false c.index_mut-kid.ensures.value c.loop-i.invariant.place);
          })
    ]

-- the children where one was left to the end
all_kids : (t : _) (c : After-number-then-last-len t) (n : Next c.stride-step.result (c.args.start + c.args.room) c.loop-i.start_of_last c.descendants-then-last-len.result c.last_to_go-last.result c.self.inside.kids.items c.index_mut-kid-then-last-len.result.now) → set c.loop-i.self-inside.kids.items c.last_to_go-last.result c.number-then-last-len.new.self ≡ numbered_list c.args.id.now c.stride-step.result (c.args.start + c.stride-step.result) c.self.inside.kids.items
all_kids t c n = grind (arith, counted_all)

-- and where none was
none_left : (t : _) (c : Else-last-len t) → c.loop-i.self-inside.kids.items ≡ numbered_list c.args.id.now c.stride-step.result (c.args.start + c.stride-step.result) c.self.inside.kids.items
none_left t c = grind (arith, counted_none)

pub invariant_of-self : goal.invariant_of-self
invariant_of-self t c =
    let one : Tree = record { head = c.self.inside.own.head; kids = forest c.self.inside.kids.items } in
    rw (all_kids t (goal.at.invariant_of-self t c).After-number-then-last-len (last_next t (goal.at.invariant_of-self t c).After-descendants-then-last-len), forest_numbered, c.loop-i.invariant.own, c.place.ensures, c.stride-step.ensures.value, all t (goal.at.invariant_of-self t c).After-len-i-end, text_numbered c.args.id.now c.args.start c.args.room one, nodes_numbered c.args.id.now c.args.start c.args.room one)
    (c.self.invariant.0, c.self.invariant.1, whole_same_tree (numbered c.args.id.now c.args.start c.args.room one) one (numbered_bare c.args.id.now c.args.start c.args.room one) c.self.invariant.2, c.self.invariant.3 ∙ sym (has_same (numbered c.args.id.now c.args.start c.args.room one) one (numbered_bare c.args.id.now c.args.start c.args.room one)))

pub invariant_of-self-else-last-len : goal.invariant_of-self-else-last-len
invariant_of-self-else-last-len t c =
    let one : Tree = record { head = c.self.inside.own.head; kids = forest c.self.inside.kids.items } in
    rw (none_left t c, forest_numbered, c.loop-i.invariant.own, c.place.ensures, c.stride-step.ensures.value, all t (goal.at.invariant_of-self-else-last-len t c).After-len-i-end, text_numbered c.args.id.now c.args.start c.args.room one, nodes_numbered c.args.id.now c.args.start c.args.room one)
    (c.self.invariant.0, c.self.invariant.1, whole_same_tree (numbered c.args.id.now c.args.start c.args.room one) one (numbered_bare c.args.id.now c.args.start c.args.room one) c.self.invariant.2, c.self.invariant.3 ∙ sym (has_same (numbered c.args.id.now c.args.start c.args.room one) one (numbered_bare c.args.id.now c.args.start c.args.room one)))

pub returns-then-last-len : goal.returns-then-last-len
returns-then-last-len t c =
    rw (all_kids t (goal.at.returns-then-last-len t c).After-number-then-last-len (last_next t (goal.at.returns-then-last-len t c).After-descendants-then-last-len), c.loop-i.invariant.own, c.place.ensures, forest_numbered, c.stride-step.ensures.value, all t (goal.at.returns-then-last-len t c).After-len-i-end, ← c.self.view_is)
    refl

pub returns-else-last-len : goal.returns-else-last-len
returns-else-last-len t c =
    rw (none_left t c, c.loop-i.invariant.own, c.place.ensures, forest_numbered, c.stride-step.ensures.value, all t (goal.at.returns-else-last-len t c).After-len-i-end, ← c.self.view_is)
    refl
