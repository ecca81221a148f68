use Rattle.std.proofs.Common.{ap, sym}
use Rattle.typst_protocol.specs.Bodies.{text_of, warning}
use Rattle.typst_protocol.proofs.refusal.Loss.warning.Goals as goal

pub returns-in-Document : goal.returns-in-Document
returns-in-Document c = ap (λ loss. warning (text_of loss)) (sym c.in-Document.is)

pub returns-in-All : goal.returns-in-All
returns-in-All c = ap (λ loss. warning (text_of loss)) (sym c.in-All.is)
