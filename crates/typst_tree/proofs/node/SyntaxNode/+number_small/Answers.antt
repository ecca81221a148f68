use Rattle.typst_tree.proofs.Cited.{common_steps, ◌≡◌, ◌+◌, ◌*◌, ◌≤◌, get_or, arith, ap, sym, ◌∙◌, length-set, Tree, nodes, forest, count, numbered}
use Rattle.typst_tree.proofs.Numbering.{Next, next_fits, numbered_more, numbered_vec, forest_numbered, nodes_numbered, text_numbered, numbered_bare, later}
use Rattle.typst_tree.proofs.ChildlessLeaves.{whole_same_tree}
use Rattle.typst_tree.proofs.Marks.{has_same}
use Rattle.typst_tree.proofs.node.SyntaxNode.+number_small.Goals as goal
use Rattle.typst_tree.proofs.node.SyntaxNode.+number_small.Goals.{number_kids-After-descendants-in-loop-kid}

-- the children's share of the stretch
below : (t : _) (c : number_kids-After-descendants-in-loop-kid t) → c.args.start + c.stride-step.result + count (forest c.self.inside.kids.items) * c.stride-step.result ≤ c.args.start + c.args.room
below t c = grind arith

next : (t : _) (c : number_kids-After-descendants-in-loop-kid t) → Next c.stride-step.result (c.args.start + c.args.room) c.loop-kid.at c.descendants-in-loop-kid.result c.loop-kid.kid-index c.deref_mut-kid-items.result.now (get_or c.loop-kid.kid-items c.loop-kid.kid-index c.kid-item.result)
next t c =
    next_fits c.stride-step.result (c.args.start + c.stride-step.result) (c.args.start + c.args.room) c.loop-kid.at c.descendants-in-loop-kid.result c.loop-kid.kid-index c.deref_mut-kid-items.result.now c.loop-kid.kid-items c.kid-item.result
    c.stride-step.ensures.step c.loop-kid-test.true c.loop-kid.invariant.unvisited.1 c.loop-kid.invariant.place (rw (c.deref_mut-kid-items.ensures.value) (below t c)) c.requires.fits c.descendants-in-loop-kid.ensures

pub number_kids-overflow_mul-share : goal.number_kids-overflow_mul-share
number_kids-overflow_mul-share t c = let n = next t c in rw n.counted (omega (arith, n.fits, c.requires.fits))

pub number_kids-number_small-requires : goal.number_kids-number_small-requires
number_kids-number_small-requires t c = grind (arith, common_steps, next t c)

pub number_kids-overflow_add-at-in-loop-kid : goal.number_kids-overflow_add-at-in-loop-kid
number_kids-overflow_add-at-in-loop-kid t c = let n = next t c.before in rw n.counted (omega (arith, n.fits, c.requires.fits))

pub number_kids-loop-kid-preserved : goal.number_kids-loop-kid-preserved
number_kids-loop-kid-preserved t c =
    let n = next t c.before in
    let m = numbered_more c.args.id.now c.stride-step.result (c.args.start + c.stride-step.result) c.loop-kid.at _ c.loop-kid.kid-items _ c.kid-item.result (omega arith) c.loop-kid.invariant.done c.kid-item.is c.loop-kid.invariant.place in
    record {
      unvisited = (length-set _ _ _ ∙ c.loop-kid.invariant.unvisited.0, later _ c.loop-kid.kid-items _ c.number_small.new.self c.loop-kid.invariant.unvisited.1);
      place = rw (n.counted, n.more_by) (omega (arith, c.loop-kid.invariant.place));
      done = rw (c.number_small.ensures, n.counted, ← c.kid-item.is) m;
    }

pub number_kids-invariant_of-self : goal.number_kids-invariant_of-self
number_kids-invariant_of-self t c =
    let all : c.descendants.result ≡ 1 + count (forest c.self.inside.kids.items) = omega (arith, c.descendants.ensures, ap nodes c.self.view_is, c.requires.room, c.requires.fits) in
    let is = numbered_vec c.args.id.now c.stride-step.result (c.args.start + c.stride-step.result) c.self.inside.kids _ c.loop-kid.kid-items _ c.deref_mut-kid-items.ensures.value c.loop-kid.invariant.done (omega arith) in
    let one : Tree = record { head = c.self.inside.own.head; kids = forest c.self.inside.kids.items } in
    rw (is, forest_numbered, c.place.ensures, c.stride-step.ensures.value, all, text_numbered c.args.id.now c.args.start c.args.room one, nodes_numbered c.args.id.now c.args.start c.args.room one)
    (c.self.invariant.0, c.self.invariant.1, whole_same_tree (numbered c.args.id.now c.args.start c.args.room one) one (numbered_bare c.args.id.now c.args.start c.args.room one) c.self.invariant.2, c.self.invariant.3 ∙ sym (has_same (numbered c.args.id.now c.args.start c.args.room one) one (numbered_bare c.args.id.now c.args.start c.args.room one)))

pub number_kids-returns : goal.number_kids-returns
number_kids-returns t c = grind (arith, common_steps, numbered_vec, forest_numbered)
