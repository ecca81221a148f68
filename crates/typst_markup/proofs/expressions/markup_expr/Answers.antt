use Rattle.typst_markup.proofs.Cited.{sym, ap, ◌∙◌, markup_expr, markup_head, does-value, does-next, does-gives, does-peek}
use Rattle.typst_markup.specs.declared.head.MarkupHead.TheVariants as head
use Rattle.typst_markup.proofs.MarkupHeads.{at-head}
use Rattle.typst_markup.proofs.expressions.markup_expr.Goals as goal

pub returns-in_ok-eat-in-Itself : goal.returns-in_ok-eat-in-Itself
unfolding markup_expr
returns-in_ok-eat-in-Itself g c l h b = does-next (does-peek _) (at-head c.args.nesting _ head.Itself (ap (markup_head c.args.at_start c.args.nesting) (sym c.current.ensures) ∙ sym c.markup_head.ensures ∙ c.in-Itself.is) (does-next (c.in_ok-eat-in-Itself.ensures l h) does-gives))

pub returns-in_ok-unexpected_with_hint-in-Stray : goal.returns-in_ok-unexpected_with_hint-in-Stray
unfolding markup_expr
returns-in_ok-unexpected_with_hint-in-Stray g c l h b = does-next (does-peek _) (at-head c.args.nesting _ head.Stray (ap (markup_head c.args.at_start c.args.nesting) (sym c.current.ensures) ∙ sym c.markup_head.ensures ∙ c.in-Stray.is) (does-next (c.in_ok-unexpected_with_hint-in-Stray.ensures l h) does-gives))

pub returns-in_ok-strong-in-Strong : goal.returns-in_ok-strong-in-Strong
unfolding markup_expr
returns-in_ok-strong-in-Strong g c l h b = does-next (does-peek _) (at-head c.args.nesting _ head.Strong (ap (markup_head c.args.at_start c.args.nesting) (sym c.current.ensures) ∙ sym c.markup_head.ensures ∙ c.in-Strong.is) (does-next (c.in_ok-strong-in-Strong.ensures l h) does-gives))

pub returns-in_ok-emph-in-Emph : goal.returns-in_ok-emph-in-Emph
unfolding markup_expr
returns-in_ok-emph-in-Emph g c l h b = does-next (does-peek _) (at-head c.args.nesting _ head.Emph (ap (markup_head c.args.at_start c.args.nesting) (sym c.current.ensures) ∙ sym c.markup_head.ensures ∙ c.in-Emph.is) (does-next (c.in_ok-emph-in-Emph.ensures l h) does-gives))

pub returns-in_ok-heading-in-Heading : goal.returns-in_ok-heading-in-Heading
unfolding markup_expr
returns-in_ok-heading-in-Heading g c l h b = does-next (does-peek _) (at-head c.args.nesting _ head.Heading (ap (markup_head c.args.at_start c.args.nesting) (sym c.current.ensures) ∙ sym c.markup_head.ensures ∙ c.in-Heading.is) (does-next (c.in_ok-heading-in-Heading.ensures l h) does-gives))

pub returns-in_ok-item-in-ListItem : goal.returns-in_ok-item-in-ListItem
unfolding markup_expr
returns-in_ok-item-in-ListItem g c l h b = does-next (does-peek _) (at-head c.args.nesting _ head.ListItem (ap (markup_head c.args.at_start c.args.nesting) (sym c.current.ensures) ∙ sym c.markup_head.ensures ∙ c.in-ListItem.is) (does-next (c.in_ok-item-in-ListItem.ensures l h) does-gives))

pub returns-in_ok-item-in-EnumItem : goal.returns-in_ok-item-in-EnumItem
unfolding markup_expr
returns-in_ok-item-in-EnumItem g c l h b = does-next (does-peek _) (at-head c.args.nesting _ head.EnumItem (ap (markup_head c.args.at_start c.args.nesting) (sym c.current.ensures) ∙ sym c.markup_head.ensures ∙ c.in-EnumItem.is) (does-next (c.in_ok-item-in-EnumItem.ensures l h) does-gives))

pub returns-in_ok-term_item-in-TermItem : goal.returns-in_ok-term_item-in-TermItem
unfolding markup_expr
returns-in_ok-term_item-in-TermItem g c l h b = does-next (does-peek _) (at-head c.args.nesting _ head.TermItem (ap (markup_head c.args.at_start c.args.nesting) (sym c.current.ensures) ∙ sym c.markup_head.ensures ∙ c.in-TermItem.is) (does-next (c.in_ok-term_item-in-TermItem.ensures l h) does-gives))

pub returns-in_ok-convert_and_eat-in-Plain : goal.returns-in_ok-convert_and_eat-in-Plain
unfolding markup_expr
returns-in_ok-convert_and_eat-in-Plain g c l h b = does-next (does-peek _) (at-head c.args.nesting _ head.Plain (ap (markup_head c.args.at_start c.args.nesting) (sym c.current.ensures) ∙ sym c.markup_head.ensures ∙ c.in-Plain.is) (does-next (c.in_ok-convert_and_eat-in-Plain.ensures l h) does-gives))

pub returns-in_ok-unexpected-in-Unexpected : goal.returns-in_ok-unexpected-in-Unexpected
unfolding markup_expr
returns-in_ok-unexpected-in-Unexpected g c l h b = does-next (does-peek _) (at-head c.args.nesting _ head.Unexpected (ap (markup_head c.args.at_start c.args.nesting) (sym c.current.ensures) ∙ sym c.markup_head.ensures ∙ c.in-Unexpected.is) (does-next (c.in_ok-unexpected-in-Unexpected.ensures l h) does-gives))

pub returns-in-Opening : goal.returns-in-Opening
unfolding markup_expr
returns-in-Opening g c l h b = does-next (does-peek _) (at-head c.args.nesting _ head.Opening (ap (markup_head c.args.at_start c.args.nesting) (sym c.current.ensures) ∙ sym c.markup_head.ensures ∙ c.in-Opening.is) (does-value c.saturating_add.ensures (does-next (c.in_ok-convert_and_eat-in-Opening.ensures l h) does-gives)))

pub returns-in-Closing : goal.returns-in-Closing
unfolding markup_expr
returns-in-Closing g c l h b = does-next (does-peek _) (at-head c.args.nesting _ head.Closing (ap (markup_head c.args.at_start c.args.nesting) (sym c.current.ensures) ∙ sym c.markup_head.ensures ∙ c.in-Closing.is) (does-value c.saturating_sub.ensures (does-next (c.in_ok-convert_and_eat-in-Closing.ensures l h) does-gives)))

pub returns-in_ok-reference-in-Reference : goal.returns-in_ok-reference-in-Reference
unfolding markup_expr
returns-in_ok-reference-in-Reference g c l h b = does-next (does-peek _) (at-head c.args.nesting _ head.Reference (ap (markup_head c.args.at_start c.args.nesting) (sym c.current.ensures) ∙ sym c.markup_head.ensures ∙ c.in-Reference.is) (does-next (c.in_ok-reference-in-Reference.ensures l h b) does-gives))

pub returns-in_ok-embedded-in-Embedded : goal.returns-in_ok-embedded-in-Embedded
unfolding markup_expr
returns-in_ok-embedded-in-Embedded g c l h b = does-next (does-peek _) (at-head c.args.nesting _ head.Embedded (ap (markup_head c.args.at_start c.args.nesting) (sym c.current.ensures) ∙ sym c.markup_head.ensures ∙ c.in-Embedded.is) (does-next (c.in_ok-embedded-in-Embedded.ensures l h) does-gives))

pub returns-in_ok-equation-in-Equation : goal.returns-in_ok-equation-in-Equation
unfolding markup_expr
returns-in_ok-equation-in-Equation g c l h b = does-next (does-peek _) (at-head c.args.nesting _ head.Equation (ap (markup_head c.args.at_start c.args.nesting) (sym c.current.ensures) ∙ sym c.markup_head.ensures ∙ c.in-Equation.is) (does-next (c.in_ok-equation-in-Equation.ensures l h) does-gives))
