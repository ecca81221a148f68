use Rattle.typst_server.proofs.Cited.{None, length, refl, sym, ◌∙◌, Kept, AreRenewed}
use Rattle.typst_server.proofs.KeptTokens.{made_if, renewed_present}
use Rattle.typst_server.proofs.tracked.renewed.Goals as goal

pub returns : goal.returns
returns c =
    let window = c.args.window.now in
    let was = c.args.was in
    let kept : Kept = record { tokens = c.in_ok-tokens.tokens; was_len = length _; read = None } in
    let renewed : AreRenewed c.text-text.result.now c.root-root.result.now window was c.args.was_len kept.tokens =
    made_if c.renewed_tokens.result c.in_ok-tokens.tokens (AreRenewed _ _ window was c.args.was_len) (sym c.ok.ensures.value ∙ c.in_ok-tokens.was) c.renewed_tokens.ensures in
    renewed_present c.args.document.now _ _ window was c.args.was_len kept c.text-text.ensures c.root-root.ensures.value renewed refl refl
