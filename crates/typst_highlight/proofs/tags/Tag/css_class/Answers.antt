use Rattle.std.proofs.Common.{rules}
use Rattle.typst_highlight.proofs.tags.Tag.css_class.Goals as goal

pub returns-in-Link : goal.returns-in-Link
returns-in-Link c = search rules
