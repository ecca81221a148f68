use Rattle.typst_lexer.proofs.Cited.{ap, sym, ◌∙◌, ◌++◌, codes, encodes-chars, chars, operator_hints, all_advised, InvalidOperator}
use Rattle.typst_lexer.proofs.TokenTexts.{fault-is}
use Rattle.typst_lexer.proofs.faults.operator_node.Goals as goal

pub returns : goal.returns
returns c =
    let text = c.args.text.now in
    let same = encodes-chars text c.utf8.text in
    fault-is InvalidOperator (chars text) text _ c.in_ok-node.node _ same c.in_ok-node.ensures
    (c.in_ok-message.ensures.ok ∙ ap (λ t. codes "`" ++ (t ++ codes "` is not valid in code")) (sym same))
    (c.in_ok-hint_at_operator.ensures ∙ ap (λ t. all_advised (operator_hints t) c.in_ok-node.node) (sym same))
