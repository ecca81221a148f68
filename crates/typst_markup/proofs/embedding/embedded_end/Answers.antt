use Rattle.typst_markup.proofs.Cited.{◌∙◌, sym, embedded_end, takes_semicolon, is_followed, does-next, does-peek, does-pick, does-other, does-gives, found}
use Rattle.typst_markup.proofs.embedding.embedded_end.Goals as goal

pub returns-then-takes_semicolon : goal.returns-then-takes_semicolon
unfolding embedded_end
returns-then-takes_semicolon g c l h =
    does-next (does-peek _) (does-pick (rw (sym c.current.ensures, sym c.had_trivia.ensures) (sym c.takes_semicolon.ensures ∙ c.if-takes_semicolon.true)) (c.in_ok-eat.ensures l h))

pub returns-in_ok-expected : goal.returns-in_ok-expected
unfolding embedded_end
returns-in_ok-expected g c l h =
    does-next (does-peek _) (does-other (rw (sym c.current.ensures, sym c.had_trivia.ensures) (sym c.takes_semicolon.ensures ∙ c.if-takes_semicolon.false))
    (does-pick (found (is_followed c.args.is_statement) c.current-2.ensures c.is_followed.ensures c.if-is_followed.true) (c.in_ok-expected.ensures l h)))

pub returns-else-is_followed : goal.returns-else-is_followed
unfolding embedded_end
returns-else-is_followed g c l h =
    does-next (does-peek _) (does-other (rw (sym c.current.ensures, sym c.had_trivia.ensures) (sym c.takes_semicolon.ensures ∙ c.if-takes_semicolon.false))
    (does-other (found (is_followed c.args.is_statement) c.current-2.ensures c.is_followed.ensures c.if-is_followed.false) does-gives))
