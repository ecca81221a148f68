use Rattle.std.proofs.Common.{◌++◌, append-nil, sym, ap, ◌∙◌}
use Rattle.typst_lexer.proofs.Tags.{tag_leaves-none, tag_leaves-some}
use Rattle.typst_lexer.proofs.raw.push_tag.Goals as goal

pub returns-in_ok-push_leaf : goal.returns-in_ok-push_leaf
returns-in_ok-push_leaf c = c.in_ok-push_leaf.ensures ∙ ap (λ t. c.args.leaves.now.items ++ t) (sym (tag_leaves-some c.args.tag.now c.utf8.tag (sym c.if-not-is_empty.ensures)))

pub returns-else-not-is_empty : goal.returns-else-not-is_empty
returns-else-not-is_empty c = sym (append-nil c.args.leaves.now.items) ∙ ap (λ t. c.args.leaves.now.items ++ t) (sym (tag_leaves-none c.args.tag.now (sym c.if-not-is_empty.ensures)))
