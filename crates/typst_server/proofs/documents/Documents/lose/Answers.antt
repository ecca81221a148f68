use Rattle.typst_server.proofs.Cited.{common_steps, sym, ◌∙◌, arith}
use Rattle.std.specs.Vec as Vec
use Rattle.typst_server.proofs.Held.{drop-set, lost-may, lost-set, not-placed, others-set, sets-at, unknown-none}
use Rattle.typst_server.proofs.documents.Documents.lose.Goals as goal

pub returns-in-Some-clause-lost : goal.returns-in-Some-clause-lost
returns-in-Some-clause-lost c =
    grind (arith, common_steps, sets-at c.args.uri.now c.args.self.now.entries.items c.in-Some.place c.index_mut.result.now c.lose.new.self c.in-Some.ensures c.index_mut.ensures.value c.lose.ensures.uri, lost-set)

pub returns-in-Some-clause-others : goal.returns-in-Some-clause-others
returns-in-Some-clause-others c =
    grind (arith, common_steps, sets-at c.args.uri.now c.args.self.now.entries.items c.in-Some.place c.index_mut.result.now c.lose.new.self c.in-Some.ensures c.index_mut.ensures.value c.lose.ensures.uri, others-set)

pub returns-in-Some-clause-sent : goal.returns-in-Some-clause-sent
returns-in-Some-clause-sent c =
    let s = sets-at c.args.uri.now c.args.self.now.entries.items c.in-Some.place c.index_mut.result.now c.lose.new.self c.in-Some.ensures c.index_mut.ensures.value c.lose.ensures.uri in
    drop-set c.args.uri.now c.args.self.now.entries.items (Vec.with_item c.args.self.now.entries c.in-Some.place c.lose.new.self).items c.index_mut.result.now c.lose.new.self s (lost-may c.index_mut.result.now c.lose.new.self c.lose.ensures.lost)

pub returns-in_default-clause-lost : goal.returns-in_default-clause-lost
returns-in_default-clause-lost c = unknown-none _ (not-placed c.args.uri.now c.args.self.now.entries.items (sym c.in_default.is ∙ c.place_of.ensures))
