use Rattle.typst_language.specs.declared.reading.AtNewline.TheVariants as newline
use Rattle.typst_code.proofs.Cited.{does-next, does-gives, at_newline, asks-yes, asks-no, does-entered, code_turn, stops_at}
use Rattle.typst_code.proofs.sequences.code_turn.Goals as goal

pub returns-then-has : goal.returns-then-has
unfolding code_turn
returns-then-has g c l h = asks-yes (stops_at c.args.stop) c.current.ensures c.has.ensures c.if-has.true does-gives

pub returns : goal.returns
unfolding code_turn
returns g c l h =
    asks-no (stops_at c.args.stop) c.current.ensures c.has.ensures c.if-has.false
    (does-next (does-entered (at_newline newline.ContextualContinue) c.enter_rule-outer.ensures.view (c.in_ok-statement.ensures l h) c.enter_rule-outer.ensures.outer (c.in_ok-leave.ensures l h)) does-gives)
