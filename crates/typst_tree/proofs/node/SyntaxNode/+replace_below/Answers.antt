use Rattle.typst_tree.proofs.Cited.{common_steps, ℕ, [], ◌∷◌, arith, set}
use Rattle.typst_tree.proofs.Numbering.{some_nodes}
use Rattle.typst_tree.proofs.StepDown.{reached, replaced_on, replaced_at_not}
use Rattle.typst_tree.proofs.MovedCounts.{Recounted, set_moved, one_total, recounted}
use Rattle.typst_tree.proofs.Marks.{Marks, set_marks}
use Rattle.typst_tree.proofs.node.SyntaxNode.+replace_below.Goals as goal

pub index_mut-kid-requires : goal.index_mut-kid-requires
index_mut-kid-requires t c =
    let r = reached c.args.path.now c.in-Some.rest.now c.in-Some.first.now c.args.from c.args.to c.args.self.now c.self-2.inside.own.head c.self-2.inside.kids.items c.self-2.view_is c.in-Some.ensures.cases.0 c.requires.reaches in
    omega (arith, r.within, c.self-2.inside.kids.ok.0)

pub replace_below-requires : goal.replace_below-requires
replace_below-requires t c =
    let r = reached c.args.path.now c.in-Some.rest.now c.in-Some.first.now c.args.from c.args.to c.args.self.now c.self-2.inside.own.head c.self-2.inside.kids.items c.self-2.view_is c.in-Some.ensures.cases.0 c.requires.reaches in
    (omega (arith, c.decreases, c.in-Some.ensures.cases.1), rw c.index_mut-kid.ensures.value (r.on c.index_mut-kid.result.now))

counted : (t : ℕ) (c : goal.After-as_slice t) → Recounted c.self-2.inside.own c.as_slice.result.now c.counts-gone.result c.counts-come.result
counted t c =
    let r = reached c.args.path.now c.in-Some.rest.now c.in-Some.first.now c.args.from c.args.to c.args.self.now c.self-2.inside.own.head c.self-2.inside.kids.items c.self-2.view_is c.in-Some.ensures.cases.0 c.requires.reaches in
    let m = set_moved c.self-2.inside.kids.items c.in-Some.first.now c.index_mut-kid.result.now c.replace_below.new.self r.within c.index_mut-kid.ensures.value in
    rw c.as_slice.ensures.value
    (recounted c.self-2.inside.own c.self-2.inside.kids.items (set c.self-2.inside.kids.items c.in-Some.first.now c.replace_below.new.self) (c.index_mut-kid.result.now ∷ []) (c.replace_below.new.self ∷ []) c.counts-gone.result c.counts-come.result m c.self-2.invariant.0 c.self-2.invariant.1
    (one_total c.index_mut-kid.result.now c.counts-gone.result c.counts-gone.ensures.len c.counts-gone.ensures.nodes)
    (one_total c.replace_below.new.self c.counts-come.result c.counts-come.ensures.len c.counts-come.ensures.nodes))

pub recount-requires-clause-shorter : goal.recount-requires-clause-shorter
recount-requires-clause-shorter t c = (counted t c).shorter

pub recount-requires-clause-fewer : goal.recount-requires-clause-fewer
recount-requires-clause-fewer t c = (counted t c).fewer

pub recount-requires-clause-len : goal.recount-requires-clause-len
recount-requires-clause-len t c = (counted t c).len

marks : (t : ℕ) (c : goal.After-as_slice t) → Marks c.self-2.inside.own c.as_slice.result.now c.counts-gone.result c.counts-come.result
marks t c =
    let r = reached c.args.path.now c.in-Some.rest.now c.in-Some.first.now c.args.from c.args.to c.args.self.now c.self-2.inside.own.head c.self-2.inside.kids.items c.self-2.view_is c.in-Some.ensures.cases.0 c.requires.reaches in
    grind (arith, common_steps, set_marks)

pub recount-requires-clause-mark : goal.recount-requires-clause-mark
recount-requires-clause-mark t c = marks t c

pub recount-requires-clause-nodes : goal.recount-requires-clause-nodes
recount-requires-clause-nodes t c = (counted t c).nodes

pub invariant_of-self-2 : goal.invariant_of-self-2
invariant_of-self-2 t c = grind (arith, common_steps, reached, set_moved, some_nodes)

pub returns-clause-ok : goal.returns-clause-ok
returns-clause-ok t c =
    let r = reached c.args.path.now c.in-Some.rest.now c.in-Some.first.now c.args.from c.args.to c.args.self.now c.self-2.inside.own.head c.self-2.inside.kids.items c.self-2.view_is c.in-Some.ensures.cases.0 c.requires.reaches in
    rw c.recount.ensures
    (replaced_on c.args.path.now c.in-Some.rest.now c.in-Some.first.now c.args.from c.args.to c.args.nodes.items c.args.self.now c.index_mut-kid.result.now c.replace_below.new.self c.self-2.inside.own.head c.self-2.inside.kids.items c.self-2.view_is c.in-Some.ensures.cases.0 r.within c.index_mut-kid.ensures.value c.in_default-replace_below.ensures.ok)

pub returns-in-Err-clause-refused : goal.returns-in-Err-clause-refused
returns-in-Err-clause-refused t c = λ e.
    let r = reached c.args.path.now c.in-Some.rest.now c.in-Some.first.now c.args.from c.args.to c.args.self.now c.self-2.inside.own.head c.self-2.inside.kids.items c.self-2.view_is c.in-Some.ensures.cases.0 c.requires.reaches in
    replaced_at_not c.args.path.now c.in-Some.rest.now c.in-Some.first.now c.args.from c.args.to c.args.nodes.items c.args.self.now c.index_mut-kid.result.now c.self-2.inside.own.head c.self-2.inside.kids.items c.self-2.view_is c.in-Some.ensures.cases.0 r.within c.index_mut-kid.ensures.value (c.in-Err.ensures.refused e)
