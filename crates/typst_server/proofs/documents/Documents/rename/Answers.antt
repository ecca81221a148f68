use Rattle.typst_server.proofs.Cited.{refl, Entry}
use Rattle.std.specs.Vec as Vec
use Rattle.typst_server.proofs.Held.{known-set, renames-at, sent-kept}
use Rattle.typst_server.proofs.documents.Documents.rename.Goals as goal

pub returns-clause-known : goal.returns-clause-known
returns-clause-known c =
    let new : Entry = record { uri = c.in_ok-name.name; held = c.index_mut.result.now.held } in
    let s = renames-at c.args.uri.now c.args.self.now.entries.items c.in-Some.place c.index_mut.result.now new c.in-Some.ensures c.index_mut.ensures.value c.in_ok-name.ensures.ok in
    known-set c.args.uri.now c.args.self.now.entries.items (Vec.with_item c.args.self.now.entries c.in-Some.place new).items c.index_mut.result.now new s refl

pub returns-clause-sent : goal.returns-clause-sent
returns-clause-sent c =
    let new : Entry = record { uri = c.in_ok-name.name; held = c.index_mut.result.now.held } in
    let s = renames-at c.args.uri.now c.args.self.now.entries.items c.in-Some.place c.index_mut.result.now new c.in-Some.ensures c.index_mut.ensures.value c.in_ok-name.ensures.ok in
    sent-kept c.args.uri.now c.args.self.now.entries.items (Vec.with_item c.args.self.now.entries c.in-Some.place new).items c.index_mut.result.now new s refl
