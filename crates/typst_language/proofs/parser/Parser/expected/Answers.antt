use Rattle.typst_language.proofs.Cited.{ap, sym, ◌∙◌, is_error, itself, View, expected}
use Rattle.typst_language.proofs.Steps.{does-next, does-gives, does-peek, does-pick, does-other, does-erred, does-complains}
use Rattle.typst_language.proofs.parser.Parser.expected.Goals as goal

pub returns-then-is_error : goal.returns-then-is_error
unfolding expected
returns-then-is_error g c l h =
    let k = h.classes ∙ g.met.L.Levels.same _ in
    does-next (does-peek _) (does-pick (ap (λ (v : View). is_error v.hand.kind) (sym c.self.view_is) ∙ sym c.is_error.ensures ∙ c.if-is_error.true) (c.in_ok-take_apart.ensures l itself k (c.in_ok-node.ensures l.classes k)))

pub returns-then-self : goal.returns-then-self
unfolding expected
returns-then-self g c l h =
    rw (sym c.self.view_is) (does-next (does-peek _) (does-other (sym c.is_error.ensures ∙ c.if-is_error.false) (does-next (does-erred _) (does-pick c.if-self.true does-gives))))

pub returns : goal.returns
unfolding expected
returns g c l h =
    rw (sym c.self.view_is, c.in_ok-push.ensures.items, c.in_ok-node-2.ensures, c.in_ok-push_str.ensures.bytes, c.in_ok-message.ensures.ok)
    (does-next (does-peek _) (does-other (sym c.is_error.ensures ∙ c.if-is_error.false) (does-next (does-erred _) (does-other c.if-self.false (does-complains _ _)))))
