use Rattle.std.proofs.Common.{◌++◌, append-nil, sym, ap, ◌∙◌}
use Rattle.typst_lexer.proofs.Loops.{trimmed-none, trimmed-some}
use Rattle.typst_lexer.proofs.raw_lines.push_trimmed.Goals as goal

pub returns-in_ok-push_leaf : goal.returns-in_ok-push_leaf
returns-in_ok-push_leaf c = c.in_ok-push_leaf.ensures ∙ ap (λ t. c.args.leaves.now.items ++ t) (sym (trimmed-some c.args.text.now c.utf8.text (sym c.if-not-is_empty.ensures)))

pub returns-else-not-is_empty : goal.returns-else-not-is_empty
returns-else-not-is_empty c = sym (append-nil c.args.leaves.now.items) ∙ ap (λ t. c.args.leaves.now.items ++ t) (sym (trimmed-none c.args.text.now (sym c.if-not-is_empty.ensures)))
