use Rattle.typst_bindings.proofs.Cited.{◌∙◌, ap, map, seen, does-next, does-gives, does-node, does-value, does-seeing}
use Rattle.typst_language.specs.Shape.Shape.{keeps}
use Rattle.typst_bindings.specs.Patterns.{bound_name, bound_change, name_of}
use Rattle.typst_bindings.proofs.patterns.bound_name.Goals as goal

pub returns : goal.returns
unfolding bound_name
returns g c l h =
    does-next (does-node (λ name. keeps (bound_change c.args.role c.args.names name)) h.sound c.marker-from.ensures.few c.marker-from.ensures.marker
    (does-next (does-seeing h.sound c.marker-from.ensures.few c.marker-from.ensures.marker (c.in_ok-atomic_expression.ensures l h) c.in_ok-change.ensures)
    (does-value (c.in_ok-name.ensures ∙ ap (λ ts. name_of (map seen ts)) c.given_since.ensures) does-gives))
    c.in_ok-change_bound.ensures)
    (does-value c.in_ok-with_bound.ensures does-gives)
