use Rattle.typst_markup.proofs.Cited.{◌++◌, ap, ◌∙◌, sym, append_assoc, arith, place, escape, escaped, unescaped, string_key, string_bytes}
use Rattle.typst_lines.proofs.LineTable.{ahead-text}
use Rattle.typst_markup.proofs.Backslashes.{shorter, unescaped-at}
use Rattle.typst_markup.proofs.escapes.string_key.Goals as goal

pub loop-c-init : goal.loop-c-init
unfolding string_key
loop-c-init c = grind (arith, ahead-text)

pub loop-c-smaller : goal.loop-c-smaller
loop-c-smaller c = shorter _ c.in-Some.c (place c.loop-c.s) (place c.eat.new.self) (place c.read_escape.new.s) c.in-Some.ensures.next c.in-Some.ensures.moved c.read_escape.ensures.moved

pub loop-c-preserved : goal.loop-c-preserved
loop-c-preserved c =
    let start = string_bytes c.loop-c.key in
    ap (λ t. t ++ unescaped 0 (place c.read_escape.new.s).ahead) c.in_ok-read_escape.ensures.key
    ∙ append_assoc start (escaped (place c.eat.new.self).ahead (escape (place c.eat.new.self).ahead)) (unescaped 0 (place c.read_escape.new.s).ahead)
    ∙ ap (λ t. start ++ t) (sym (unescaped-at (place c.loop-c.s) (place c.eat.new.self) (place c.read_escape.new.s) c.in-Some.c c.in-Some.ensures.next c.if-c-ne92.false c.in-Some.ensures.moved c.read_escape.ensures.moved))
    ∙ c.loop-c.invariant
