use Rattle.std.proofs.Common.{◌-◌, ap, ◌∙◌}
use Rattle.typst_styles.proofs.RenewedTokens.{renewed}
use Rattle.typst_styles.proofs.renewed.renewed_tokens.Goals as goal

pub returns : goal.returns
returns c =
    renewed c.args.text.now c.args.root.now c.args.window.now c.args.was c.args.was_len c.saturating_sub-from.result c.in_ok-made.made.items c.in_ok-tokens.tokens
    (c.saturating_sub-from.ensures ∙ ap (λ n. c.args.was_len - n) c.saturating_sub-rest.ensures) c.in_ok-made.ensures.tokens c.in_ok-tokens.ensures
