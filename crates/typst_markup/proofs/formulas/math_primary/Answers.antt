use Rattle.typst_markup.proofs.Cited.{sym, ap, ◌∙◌, does-next, does-gives, does-peek, math_primary, math_head}
use Rattle.typst_markup.specs.declared.math_heads.MathHead.TheVariants as head
use Rattle.typst_markup.proofs.Begins.{at-head}
use Rattle.typst_markup.proofs.formulas.math_primary.Goals as goal

pub returns-in_ok-embedded-in-Embedded : goal.returns-in_ok-embedded-in-Embedded
unfolding math_primary
returns-in_ok-embedded-in-Embedded g c l h = does-next (does-peek _) (at-head _ _ head.Embedded (ap math_head (sym c.current.ensures) ∙ sym c.math_head.ensures ∙ c.in-Embedded.is) (does-next (c.in_ok-embedded-in-Embedded.ensures l h) does-gives))

pub returns-in_ok-delimited-in-Delimited : goal.returns-in_ok-delimited-in-Delimited
unfolding math_primary
returns-in_ok-delimited-in-Delimited g c l h = does-next (does-peek _) (at-head _ _ head.Delimited (ap math_head (sym c.current.ensures) ∙ sym c.math_head.ensures ∙ c.in-Delimited.is) (does-next (c.in_ok-delimited-in-Delimited.ensures l h) does-gives))

pub returns-in_ok-delimiter-in-Closer : goal.returns-in_ok-delimiter-in-Closer
unfolding math_primary
returns-in_ok-delimiter-in-Closer g c l h = does-next (does-peek _) (at-head _ _ head.Closer (ap math_head (sym c.current.ensures) ∙ sym c.math_head.ensures ∙ c.in-Closer.is) (does-next (c.in_ok-delimiter-in-Closer.ensures l h) does-gives))

pub returns-in_ok-convert_and_eat-in-Plain : goal.returns-in_ok-convert_and_eat-in-Plain
unfolding math_primary
returns-in_ok-convert_and_eat-in-Plain g c l h = does-next (does-peek _) (at-head _ _ head.Plain (ap math_head (sym c.current.ensures) ∙ sym c.math_head.ensures ∙ c.in-Plain.is) (does-next (c.in_ok-convert_and_eat-in-Plain.ensures l h) does-gives))

pub returns-in_ok-eat-in-Itself : goal.returns-in_ok-eat-in-Itself
unfolding math_primary
returns-in_ok-eat-in-Itself g c l h = does-next (does-peek _) (at-head _ _ head.Itself (ap math_head (sym c.current.ensures) ∙ sym c.math_head.ensures ∙ c.in-Itself.is) (does-next (c.in_ok-eat-in-Itself.ensures l h) does-gives))

pub returns-in_ok-root-in-Root : goal.returns-in_ok-root-in-Root
unfolding math_primary
returns-in_ok-root-in-Root g c l h = does-next (does-peek _) (at-head _ _ head.Root (ap math_head (sym c.current.ensures) ∙ sym c.math_head.ensures ∙ c.in-Root.is) (does-next (c.in_ok-root-in-Root.ensures l h) does-gives))

pub returns-in_ok-expected-in-Missing : goal.returns-in_ok-expected-in-Missing
unfolding math_primary
returns-in_ok-expected-in-Missing g c l h = does-next (does-peek _) (at-head _ _ head.Missing (ap math_head (sym c.current.ensures) ∙ sym c.math_head.ensures ∙ c.in-Missing.is) (does-next (c.in_ok-expected-in-Missing.ensures l h) does-gives))

pub returns-in-Name : goal.returns-in-Name
unfolding math_primary
returns-in-Name g c l h = does-next (does-peek _) (at-head _ _ head.Name (ap math_head (sym c.current.ensures) ∙ sym c.math_head.ensures ∙ c.in-Name.is) (does-next (c.in_ok-eat-in-Name.ensures l h) does-gives))

pub returns-in-Symbol : goal.returns-in-Symbol
unfolding math_primary
returns-in-Symbol g c l h = does-next (does-peek _) (at-head _ _ head.Symbol (ap math_head (sym c.current.ensures) ∙ sym c.math_head.ensures ∙ c.in-Symbol.is) (does-next (c.in_ok-eat-in-Symbol.ensures l h) does-gives))

pub returns-in-Text : goal.returns-in-Text
unfolding math_primary
returns-in-Text g c l h = does-next (does-peek _) (at-head _ _ head.Text (ap math_head (sym c.current.ensures) ∙ sym c.math_head.ensures ∙ c.in-Text.is) (c.in_ok-math_text-in-Text.ensures l h))
