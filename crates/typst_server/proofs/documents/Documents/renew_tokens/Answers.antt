use Rattle.typst_server.proofs.Cited.{ap, ◌∙◌, with_item}
use Rattle.typst_server.proofs.Held.{set-itself}
use Rattle.typst_server.proofs.documents.Documents.renew_tokens.Goals as goal

pub returns-in-Some : goal.returns-in-Some
returns-in-Some c =
    let entries = c.args.self.now.entries in
    let same = ap (with_item entries c.in-Some.place) c.renew_tokens.ensures ∙ set-itself entries c.in-Some.place c.index_mut.result.now c.index_mut.ensures.value in
    λ j. record { alloc = c.args.self.now.alloc; entries = same j }
