use Rattle.std.proofs.Common.{rules}
use Rattle.typst_highlight.proofs.entities.entity.Goals as goal

pub returns-in-38 : goal.returns-in-38
returns-in-38 c = search rules

pub returns-in-60 : goal.returns-in-60
returns-in-60 c = search rules

pub returns-in-62 : goal.returns-in-62
returns-in-62 c = search rules

pub returns-in-39 : goal.returns-in-39
returns-in-39 c = search rules

pub returns-in-34 : goal.returns-in-34
returns-in-34 c = search rules
