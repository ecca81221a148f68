use Rattle.typst_server.proofs.Cited.{common_steps, arith}
use Rattle.std.specs.Vec as Vec
use Rattle.typst_server.proofs.Held.{drop-set, keeps-set, knows-none, not-placed, others-set, sets-at}
use Rattle.typst_server.proofs.documents.Documents.give.Goals as goal

pub returns-in-Some-clause-text : goal.returns-in-Some-clause-text
returns-in-Some-clause-text c = grind (arith, sets-at, keeps-set)

pub returns-in-Some-clause-others : goal.returns-in-Some-clause-others
returns-in-Some-clause-others c =
    grind (arith, common_steps, sets-at c.args.uri.now c.args.self.now.entries.items c.in-Some.place c.index_mut.result.now c.change.new.self c.in-Some.ensures c.index_mut.ensures.value c.change.ensures.uri, others-set)

pub returns-in-Some-clause-sent : goal.returns-in-Some-clause-sent
returns-in-Some-clause-sent c =
    let s = sets-at c.args.uri.now c.args.self.now.entries.items c.in-Some.place c.index_mut.result.now c.change.new.self c.in-Some.ensures c.index_mut.ensures.value c.change.ensures.uri in
    drop-set c.args.uri.now c.args.self.now.entries.items (Vec.with_item c.args.self.now.entries c.in-Some.place c.change.new.self).items c.index_mut.result.now c.change.new.self s c.change.ensures.sent

pub returns-in_default-clause-text : goal.returns-in_default-clause-text
returns-in_default-clause-text c = grind (arith, knows-none, not-placed)
