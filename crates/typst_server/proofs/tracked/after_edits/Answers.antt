use Rattle.typst_server.proofs.Cited.{refl, Carried}
use Rattle.typst_server.proofs.KeptTokens.{edits_carried}
use Rattle.typst_server.proofs.tracked.after_edits.Goals as goal

pub returns : goal.returns
returns c =
    let text = c.text-text.result.now in
    let window = c.token_window-window.result in
    let carried : Carried = record { kept = c.renewed.result; front = c.tokens_outside-outside.result.front; back = c.saturating_sub-back.result } in
    edits_carried c.args.document.now text c.root-root.result.now c.args.read.now window c.args.was c.args.was_len _ carried c.text-text.ensures c.root-root.ensures.value c.token_window-window.ensures
    c.tokens_outside-outside.ensures c.renewed.ensures refl c.saturating_sub-back.ensures
