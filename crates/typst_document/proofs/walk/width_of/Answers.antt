use Rattle.typst_document.proofs.Cited.{length, drop, ap, arith, at_drop_all, length_push, chars, wide}
use Rattle.std.proofs.lemmas.Iterator.{YieldsList-from_chars}
use Rattle.std.proofs.lemmas.Iterator.Consumers.{YieldsList-turn, YieldsList-end}
use Rattle.typst_document.proofs.Walking.{wide-more, wide-text}
use Rattle.typst_document.proofs.walk.width_of.Goals as goal

pub loop-c-preserved : goal.loop-c-preserved
loop-c-preserved c =
    let t = YieldsList-turn (YieldsList-from_chars c.args.text.now c.utf8.text cc) c.loop-c.yielded _ c.loop-c.yielded_by _ _ c.in-Some.c c.in-Some.is c.next.ensures.steps in
    let cs = chars c.args.text.now in
    let n = length c.loop-c.yielded in
    let more = wide-more c.args.encoding cs n c.in-Some.c t in
    let rest = ap (λ k. wide c.args.encoding (drop k cs)) (length_push c.loop-c.yielded c.in-Some.c) in
    let bound = wide-text c.args.encoding c.args.text.now c.utf8.text in
    omega (arith, c.loop-c.invariant, more, rest, bound, c.unit_count.ensures, c.saturating_add-count.ensures)

pub returns : goal.returns
returns c =
    let t = YieldsList-end (YieldsList-from_chars c.args.text.now c.utf8.text cc) c.loop-c.yielded _ c.loop-c.yielded_by _ _ c.in-None.is c.next.ensures.steps in
    let none = at_drop_all (wide c.args.encoding) (chars c.args.text.now) (length c.loop-c.yielded) (omega (arith, t.1)) in
    omega (arith, c.loop-c.invariant, none)
