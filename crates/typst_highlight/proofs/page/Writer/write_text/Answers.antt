use Rattle.std.proofs.Common.{◌≡◌, ℕ, ◌+◌, ◌++◌, List, length, take, subst, refl, arith}
use Rattle.typst_highlight.proofs.Pages.{utf8_behind, utf8_span}
use Rattle.typst_highlight.proofs.page.Writer.write_text.Goals as goal

pub invariant_of-self-then-text-le-FEW : goal.invariant_of-self-then-text-le-FEW
invariant_of-self-then-text-le-FEW c =
    let len = c.self.inside.len in
    let written = subst (λ (bs : List ℕ). take (len + length bs) c.put_few.new.page ≡ take len c.self.inside.page ++ bs) c.as_bytes.ensures.value (c.if-not-put_few.ensures.written refl) in
    (omega (arith, c.if-text-le-FEW.true, c.if-self.false), utf8_behind _ _ _ written c.self.invariant.1 c.utf8.text)

pub invariant_of-self-2 : goal.invariant_of-self-2
invariant_of-self-2 c =
    (omega (arith, c.put_span-self-inside.ensures.end, c.if-text-gt-SHORT.false, c.if-self.false), utf8_behind _ _ _ c.put_span-self-inside.ensures.written c.self.invariant.1 (utf8_span c.args.tag c.args.text.now c.utf8.text))
