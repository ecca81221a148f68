use Rattle.typst_highlight.proofs.Cited.{ap, ◌∙◌, forest, spanned, rule_of, joined, next_kind, tag_under}
use Rattle.typst_highlight.proofs.Levels.{under_tag}
use Rattle.typst_highlight.proofs.spans.span_asked.Goals as goal

pub returns-in-Some : goal.returns-in-Some
returns-in-Some c =
    let later = forest c.args.later.now in
    let told = c.in-Some.ensures ∙ (λ i. tag_under (rule_of (c.kind.ensures i)) (c.parent.ensures i) (next_kind later)) in
    c.spanned.ensures ∙ ap spanned (under_tag (rule_of c.args.node.now.head.kind) (joined c.args.progress.now) c.args.node.now later _ c.in-Some.tag told)
