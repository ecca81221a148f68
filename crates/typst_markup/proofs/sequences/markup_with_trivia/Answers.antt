use Rattle.typst_markup.proofs.Cited.{drop, sym, ◌∙◌, markup_is_empty, does-next, does-gives, does-node_with_trivia, nil-seen, does-value}
use Rattle.typst_markup.proofs.sequences.markup_with_trivia.Goals as goal

pub returns : goal.returns
unfolding markup_is_empty
returns g c l h =
    does-value (c.in_ok-wrap.ensures.empty ∙ sym (nil-seen (drop c.before_trivia-from.result c.flush_trivia.new.self.nodes))) (does-next (does-node_with_trivia h.sound c.before_trivia-from.ensures.few c.before_trivia-from.ensures.marker
    (c.in_ok-markup_exprs.ensures l h) (c.in_ok-flush_trivia.ensures l) c.in_ok-wrap.ensures.wrapped) does-gives)
