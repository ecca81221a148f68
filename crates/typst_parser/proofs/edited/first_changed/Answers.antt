use Rattle.std.proofs.Common.{sym, ◌∙◌}
use Rattle.typst_parser.proofs.KeptBoundaries.{at-root, below-root}
use Rattle.typst_parser.proofs.edited.first_changed.Goals as goal

pub returns-then-is_empty : goal.returns-then-is_empty
returns-then-is_empty c = at-root c.args.path.now c.args.candidate c.args.step (sym c.is_empty.ensures ∙ c.if-is_empty.true)

pub returns : goal.returns
returns c = below-root c.args.path.now c.args.candidate c.args.step (sym c.is_empty.ensures ∙ c.if-is_empty.false)
