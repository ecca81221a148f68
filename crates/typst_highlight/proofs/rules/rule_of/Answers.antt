use Rattle.typst_highlight.proofs.RuleTable.{rule_placed}
use Rattle.typst_highlight.proofs.rules.rule_of.Goals as goal

pub returns : goal.returns
returns c = rule_placed _ c.place.result c.args.kind c.place.ensures.place
