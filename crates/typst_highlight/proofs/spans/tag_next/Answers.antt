use Rattle.typst_highlight.proofs.Cited.{ap, sym, ◌∙◌, forest, joined, name}
use Rattle.typst_highlight.proofs.NameRules.{fixed_rule, name_none, name_some, named_rule, other_rule}
use Rattle.typst_highlight.proofs.spans.tag_next.Goals as goal
