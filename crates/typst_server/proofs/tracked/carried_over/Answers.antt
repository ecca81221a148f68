use Rattle.typst_server.proofs.Cited.{◌≡◌, None, Option, Some, refl, subst, sym, ◌∙◌, IsCarriedOver, Kept}
use Rattle.typst_server.proofs.KeptTokens.{all_carried}
use Rattle.typst_server.proofs.tracked.carried_over.Goals as goal

pub returns-in-None : goal.returns-in-None
returns-in-None c =
    let document = c.args.document.now in
    let carried = c.unchanged.result in
    let kept : Kept = record { tokens = c.in-Some.field-0.tokens; was_len = c.in-Some.field-0.was_len; read = None } in
    let is : c.args.kept ≡ Some kept = c.in-Some.is ∙ (λ i. Some (record { tokens = c.in-Some.field-0.tokens; was_len = c.in-Some.field-0.was_len; read = c.in-None.is i })) in
    subst (λ (k : Option Kept). IsCarriedOver document k carried) (sym is) (all_carried document kept carried refl c.unchanged.ensures.kept c.unchanged.ensures.front c.unchanged.ensures.back)
