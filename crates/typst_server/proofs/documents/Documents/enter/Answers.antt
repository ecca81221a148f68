use Rattle.typst_server.proofs.Cited.{option_map, ap, ◌∙◌, arith, known, Entry, is_same, Lost}
use Rattle.typst_server.proofs.Held.{others-in, same-self, sent-in, unknown-in}
use Rattle.typst_server.proofs.documents.Documents.enter.Goals as goal

pub returns-clause-unknown : goal.returns-clause-unknown
returns-clause-unknown c = grind (arith, unknown-in)

pub returns-clause-others : goal.returns-clause-others
returns-clause-others c =
    let new : Entry = record { uri = c.in_ok-name.name; held = Lost } in
    λ other far.
    rw c.in_ok-push.ensures.items
    (
    ap (option_map (λ (entry : Entry). known entry.held))
    (others-in c.args.uri.now other c.args.self.now.entries.items new (ap (is_same c.args.uri.now) c.in_ok-name.ensures.ok ∙ same-self c.args.uri.now) far)
    )

pub returns-clause-sent : goal.returns-clause-sent
returns-clause-sent c = grind (arith, sent-in)
