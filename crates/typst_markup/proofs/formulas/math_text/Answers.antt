use Rattle.typst_markup.proofs.Cited.{ap, ◌∙◌, map, seen, does-seeing, does-next, does-gives, does-value, math_text, text_callee}
use Rattle.typst_markup.proofs.formulas.math_text.Goals as goal

pub returns : goal.returns
unfolding math_text
returns g c l h =
    let k = g.L.Classes.classes c.args.g.now in
    rw (g.met.L.Levels.same c.args.g.now)
    (does-next (does-seeing h.sound c.marker-from.ensures.few c.marker-from.ensures.marker (c.in_ok-eat.ensures l h) c.in_ok-change.ensures)
    (does-value (c.text_callee.ensures ∙ ap (λ ts. text_callee k (map seen ts)) c.given_since.ensures) does-gives))
