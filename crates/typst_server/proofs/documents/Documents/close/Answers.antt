use Rattle.typst_server.proofs.Cited.{rules, not, option_map, ap, filter_same, is_named, known, Entry}
use Rattle.typst_server.proofs.Held.{drop-left, none-left, others-left}
use Rattle.typst_server.proofs.documents.Documents.close.Goals as goal

pub returns-clause-closed : goal.returns-clause-closed
returns-clause-closed c =
    let e = filter_same _ (λ e. not (is_named c.args.uri.now e)) _ (λ x b f' t. search rules) _ _ c.retain.ensures.filtered in
    rw e (ap (option_map (λ (entry : Entry). known entry.held)) (none-left c.args.uri.now c.args.self.now.entries.items))

pub returns-clause-others : goal.returns-clause-others
returns-clause-others c =
    let e = filter_same _ (λ e. not (is_named c.args.uri.now e)) _ (λ x b f' t. search rules) _ _ c.retain.ensures.filtered in
    λ other far. rw e (ap (option_map (λ (entry : Entry). known entry.held)) (others-left c.args.uri.now other c.args.self.now.entries.items far))

pub returns-clause-sent : goal.returns-clause-sent
returns-clause-sent c =
    let e = filter_same _ (λ e. not (is_named c.args.uri.now e)) _ (λ x b f' t. search rules) _ _ c.retain.ensures.filtered in
    λ other. rw e (drop-left c.args.uri.now other c.args.self.now.entries.items)
