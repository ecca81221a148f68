use Rattle.typst_code.proofs.Cited.{sym, ap, ◌∙◌, does-next, does-peek, does-gives, code_primary, code_head}
use Rattle.typst_code.specs.declared.heads.CodeHead.TheVariants as head
use Rattle.typst_code.proofs.Begins.{at-head}
use Rattle.typst_code.proofs.expressions.code_primary.Goals as goal

pub returns-in_ok-eat-in-Itself : goal.returns-in_ok-eat-in-Itself
unfolding code_primary
returns-in_ok-eat-in-Itself g c l h b = does-next (does-peek _) (at-head c.args.atomic _ head.Itself (ap (code_head c.args.atomic) (sym c.current.ensures) ∙ sym c.code_head.ensures ∙ c.in-Itself.is) (c.in_ok-eat-in-Itself.ensures l h))

pub returns-in_ok-unary_expr-in-Unary : goal.returns-in_ok-unary_expr-in-Unary
unfolding code_primary
returns-in_ok-unary_expr-in-Unary g c l h b = does-next (does-peek _) (at-head c.args.atomic _ (head.Unary _) (ap (code_head c.args.atomic) (sym c.current.ensures) ∙ sym c.code_head.ensures ∙ c.in-Unary.is) (c.in_ok-unary_expr-in-Unary.ensures l h))

pub returns-in_ok-unexpected_with_hint-in-StrayOperator : goal.returns-in_ok-unexpected_with_hint-in-StrayOperator
unfolding code_primary
returns-in_ok-unexpected_with_hint-in-StrayOperator g c l h b = does-next (does-peek _) (at-head c.args.atomic _ head.StrayOperator (ap (code_head c.args.atomic) (sym c.current.ensures) ∙ sym c.code_head.ensures ∙ c.in-StrayOperator.is) (c.in_ok-unexpected_with_hint-in-StrayOperator.ensures l h))

pub returns-in_ok-named-in-Named : goal.returns-in_ok-named-in-Named
unfolding code_primary
returns-in_ok-named-in-Named g c l h b = does-next (does-peek _) (at-head c.args.atomic _ head.Named (ap (code_head c.args.atomic) (sym c.current.ensures) ∙ sym c.code_head.ensures ∙ c.in-Named.is) (c.in_ok-named-in-Named.ensures l h))

pub returns-in_ok-placeholder-in-Placeholder : goal.returns-in_ok-placeholder-in-Placeholder
unfolding code_primary
returns-in_ok-placeholder-in-Placeholder g c l h b = does-next (does-peek _) (at-head c.args.atomic _ head.Placeholder (ap (code_head c.args.atomic) (sym c.current.ensures) ∙ sym c.code_head.ensures ∙ c.in-Placeholder.is) (c.in_ok-placeholder-in-Placeholder.ensures l h))

pub returns-in_ok-read_code-in-CodeBlock : goal.returns-in_ok-read_code-in-CodeBlock
unfolding code_primary
returns-in_ok-read_code-in-CodeBlock g c l h b = does-next (does-peek _) (at-head c.args.atomic _ head.CodeBlock (ap (code_head c.args.atomic) (sym c.current.ensures) ∙ sym c.code_head.ensures ∙ c.in-CodeBlock.is) (c.in_ok-read_code-in-CodeBlock.ensures l h b))

pub returns-in_ok-read_content-in-ContentBlock : goal.returns-in_ok-read_content-in-ContentBlock
unfolding code_primary
returns-in_ok-read_content-in-ContentBlock g c l h b = does-next (does-peek _) (at-head c.args.atomic _ head.ContentBlock (ap (code_head c.args.atomic) (sym c.current.ensures) ∙ sym c.code_head.ensures ∙ c.in-ContentBlock.is) (c.in_ok-read_content-in-ContentBlock.ensures l h b.outside))

pub returns-in_ok-group-in-Group : goal.returns-in_ok-group-in-Group
unfolding code_primary
returns-in_ok-group-in-Group g c l h b = does-next (does-peek _) (at-head c.args.atomic _ head.Group (ap (code_head c.args.atomic) (sym c.current.ensures) ∙ sym c.code_head.ensures ∙ c.in-Group.is) (does-next (c.in_ok-group-in-Group.ensures l h) does-gives))

pub returns-in_ok-parens-in-Parens : goal.returns-in_ok-parens-in-Parens
unfolding code_primary
returns-in_ok-parens-in-Parens g c l h b = does-next (does-peek _) (at-head c.args.atomic _ head.Parens (ap (code_head c.args.atomic) (sym c.current.ensures) ∙ sym c.code_head.ensures ∙ c.in-Parens.is) (c.in_ok-parens-in-Parens.ensures l h b))

pub returns-in_ok-let_binding-in-Let : goal.returns-in_ok-let_binding-in-Let
unfolding code_primary
returns-in_ok-let_binding-in-Let g c l h b = does-next (does-peek _) (at-head c.args.atomic _ head.Let (ap (code_head c.args.atomic) (sym c.current.ensures) ∙ sym c.code_head.ensures ∙ c.in-Let.is) (c.in_ok-let_binding-in-Let.ensures l h))

pub returns-in_ok-set_rule-in-Set : goal.returns-in_ok-set_rule-in-Set
unfolding code_primary
returns-in_ok-set_rule-in-Set g c l h b = does-next (does-peek _) (at-head c.args.atomic _ head.Set (ap (code_head c.args.atomic) (sym c.current.ensures) ∙ sym c.code_head.ensures ∙ c.in-Set.is) (c.in_ok-set_rule-in-Set.ensures l h b))

pub returns-in_ok-show_rule-in-Show : goal.returns-in_ok-show_rule-in-Show
unfolding code_primary
returns-in_ok-show_rule-in-Show g c l h b = does-next (does-peek _) (at-head c.args.atomic _ head.Show (ap (code_head c.args.atomic) (sym c.current.ensures) ∙ sym c.code_head.ensures ∙ c.in-Show.is) (c.in_ok-show_rule-in-Show.ensures l h))

pub returns-in_ok-contextual-in-Context : goal.returns-in_ok-contextual-in-Context
unfolding code_primary
returns-in_ok-contextual-in-Context g c l h b = does-next (does-peek _) (at-head c.args.atomic _ head.Context (ap (code_head c.args.atomic) (sym c.current.ensures) ∙ sym c.code_head.ensures ∙ c.in-Context.is) (c.in_ok-contextual-in-Context.ensures l h))

pub returns-in_ok-conditional-in-If : goal.returns-in_ok-conditional-in-If
unfolding code_primary
returns-in_ok-conditional-in-If g c l h b = does-next (does-peek _) (at-head c.args.atomic _ head.If (ap (code_head c.args.atomic) (sym c.current.ensures) ∙ sym c.code_head.ensures ∙ c.in-If.is) (c.in_ok-conditional-in-If.ensures l h b))

pub returns-in_ok-while_loop-in-While : goal.returns-in_ok-while_loop-in-While
unfolding code_primary
returns-in_ok-while_loop-in-While g c l h b = does-next (does-peek _) (at-head c.args.atomic _ head.While (ap (code_head c.args.atomic) (sym c.current.ensures) ∙ sym c.code_head.ensures ∙ c.in-While.is) (c.in_ok-while_loop-in-While.ensures l h b))

pub returns-in_ok-for_loop-in-For : goal.returns-in_ok-for_loop-in-For
unfolding code_primary
returns-in_ok-for_loop-in-For g c l h b = does-next (does-peek _) (at-head c.args.atomic _ head.For (ap (code_head c.args.atomic) (sym c.current.ensures) ∙ sym c.code_head.ensures ∙ c.in-For.is) (c.in_ok-for_loop-in-For.ensures l h b))

pub returns-in_ok-module_import-in-Import : goal.returns-in_ok-module_import-in-Import
unfolding code_primary
returns-in_ok-module_import-in-Import g c l h b = does-next (does-peek _) (at-head c.args.atomic _ head.Import (ap (code_head c.args.atomic) (sym c.current.ensures) ∙ sym c.code_head.ensures ∙ c.in-Import.is) (c.in_ok-module_import-in-Import.ensures l h))

pub returns-in_ok-module_include-in-Include : goal.returns-in_ok-module_include-in-Include
unfolding code_primary
returns-in_ok-module_include-in-Include g c l h b = does-next (does-peek _) (at-head c.args.atomic _ head.Include (ap (code_head c.args.atomic) (sym c.current.ensures) ∙ sym c.code_head.ensures ∙ c.in-Include.is) (c.in_ok-module_include-in-Include.ensures l h))

pub returns-in_ok-jump-in-Break : goal.returns-in_ok-jump-in-Break
unfolding code_primary
returns-in_ok-jump-in-Break g c l h b = does-next (does-peek _) (at-head c.args.atomic _ head.Break (ap (code_head c.args.atomic) (sym c.current.ensures) ∙ sym c.code_head.ensures ∙ c.in-Break.is) (c.in_ok-jump-in-Break.ensures l h))

pub returns-in_ok-jump-in-Continue : goal.returns-in_ok-jump-in-Continue
unfolding code_primary
returns-in_ok-jump-in-Continue g c l h b = does-next (does-peek _) (at-head c.args.atomic _ head.Continue (ap (code_head c.args.atomic) (sym c.current.ensures) ∙ sym c.code_head.ensures ∙ c.in-Continue.is) (c.in_ok-jump-in-Continue.ensures l h))

pub returns-in_ok-func_return-in-Return : goal.returns-in_ok-func_return-in-Return
unfolding code_primary
returns-in_ok-func_return-in-Return g c l h b = does-next (does-peek _) (at-head c.args.atomic _ head.Return (ap (code_head c.args.atomic) (sym c.current.ensures) ∙ sym c.code_head.ensures ∙ c.in-Return.is) (c.in_ok-func_return-in-Return.ensures l h))

pub returns-in_ok-unexpected-in-Unexpected : goal.returns-in_ok-unexpected-in-Unexpected
unfolding code_primary
returns-in_ok-unexpected-in-Unexpected g c l h b = does-next (does-peek _) (at-head c.args.atomic _ head.Unexpected (ap (code_head c.args.atomic) (sym c.current.ensures) ∙ sym c.code_head.ensures ∙ c.in-Unexpected.is) (c.in_ok-unexpected-in-Unexpected.ensures l h))

pub returns-in_ok-expected-in-Missing : goal.returns-in_ok-expected-in-Missing
unfolding code_primary
returns-in_ok-expected-in-Missing g c l h b = does-next (does-peek _) (at-head c.args.atomic _ head.Missing (ap (code_head c.args.atomic) (sym c.current.ensures) ∙ sym c.code_head.ensures ∙ c.in-Missing.is) (c.in_ok-expected-in-Missing.ensures l h))

pub returns-in_ok-equation-in-Equation : goal.returns-in_ok-equation-in-Equation
unfolding code_primary
returns-in_ok-equation-in-Equation g c l h b = does-next (does-peek _) (at-head c.args.atomic _ head.Equation (ap (code_head c.args.atomic) (sym c.current.ensures) ∙ sym c.code_head.ensures ∙ c.in-Equation.is) (c.in_ok-equation-in-Equation.ensures l h))
