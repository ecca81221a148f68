use Rattle.typst_server.proofs.Cited.{common_steps, refl, sym, ◌∙◌, arith, string_bytes}
use Rattle.typst_server.proofs.Held.{kept-none, kept-set, known-set, may-be, not-placed, others-sent, sets-at}
use Rattle.typst_server.proofs.documents.Documents.keep.Goals as goal

pub keep-requires : goal.keep-requires
keep-requires c =
    grind (arith, common_steps, sets-at c.args.uri.now c.args.self.now.entries.items c.in-Some.place c.index_mut.result.now c.index_mut.result.now c.in-Some.ensures c.index_mut.ensures.value refl, may-be)

pub returns-in-Some-clause-known : goal.returns-in-Some-clause-known
returns-in-Some-clause-known c = grind (arith, sets-at, known-set)

pub returns-in-Some-clause-sent : goal.returns-in-Some-clause-sent
returns-in-Some-clause-sent c = grind (arith, sets-at, kept-set)

pub returns-in-Some-clause-others : goal.returns-in-Some-clause-others
returns-in-Some-clause-others c =
    grind (arith, common_steps, sets-at c.args.uri.now c.args.self.now.entries.items c.in-Some.place c.index_mut.result.now c.keep.new.self c.in-Some.ensures c.index_mut.ensures.value c.keep.ensures.uri, others-sent)

pub returns-in_default-clause-sent : goal.returns-in_default-clause-sent
returns-in_default-clause-sent c = kept-none (string_bytes c.args.fresh.name) _ (not-placed c.args.uri.now c.args.self.now.entries.items (sym c.in_default.is ∙ c.place_of.ensures))
