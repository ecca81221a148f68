use Rattle.std.proofs.Common.{arith, refl}
use Rattle.typst_highlight.proofs.Pages.{utf8_behind, utf8_byte, utf8_span}
use Rattle.typst_highlight.proofs.page.Writer.write.Goals as goal

pub invariant_of-self : goal.invariant_of-self
invariant_of-self c =
    (omega (arith, c.put_byte-self-inside.ensures.end, c.if-self.true), utf8_behind _ _ _ c.put_byte-self-inside.ensures.written c.self.invariant.1 (utf8_span c.args.tag _ (utf8_byte _ (c.if-is_itself.ensures.small refl))))
