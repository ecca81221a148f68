use Rattle.std.proofs.Common.{arith}
use Rattle.typst_highlight.proofs.Pages.{utf8_behind}
use Rattle.typst_highlight.proofs.page.Writer.push.Goals as goal

pub invariant_of-self : goal.invariant_of-self
invariant_of-self c =
    (omega (arith, c.put-self-inside.ensures.end, c.if-text-self.false), utf8_behind _ _ _ c.put-self-inside.ensures.written c.self.invariant.1 c.utf8.text)
