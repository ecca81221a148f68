use Rattle.typst_lines.proofs.Cited.{common_steps, ◌∙◌, ◌-◌, ap, sym, length, slice_get, refl, arith, place}
use Rattle.typst_lines.proofs.Alike.{before-shared}
use Rattle.typst_lines.proofs.CommonEnds.{shares-more, common-back, differ-heads, differ-end, not-next, is-next, before-step, before-none}
use Rattle.typst_lines.proofs.lines.common_end_len.Goals as goal

pub jump-requires : goal.jump-requires
jump-requires c = grind (arith, common_steps)

pub jump-requires-2 : goal.jump-requires-2
jump-requires-2 c = grind (arith, common_steps)

pub loop-c-init : goal.loop-c-init
loop-c-init c = grind (arith, before-shared)

pub loop-c-preserved : goal.loop-c-preserved
loop-c-preserved c = grind (arith, is-next, shares-more, before-step)

pub returns-then-not-is_after : goal.returns-then-not-is_after
returns-then-not-is_after c =
    let i = c.loop-c.invariant in
    let p = c.loop-c.first in
    let q = c.loop-c.second in
    ap (λ n. length c.args.old.now - n) c.cursor.ensures
    ∙ common-back c.args.old.now c.args.new.now p.text.now c.utf8.old i.old_text p.cursor (place p).before (place q).before p.boundary refl i.shared
    (differ-heads (place p).before (place q).before c.in-Some.c (sym c.in-Some.ensures) (not-next c.in-Some.c (slice_get (place q).before 0) (sym c.if-not-is_after.ensures)))

pub returns : goal.returns
returns c =
    let i = c.loop-c.invariant in
    let p = c.loop-c.first in
    let q = c.loop-c.second in
    ap (λ n. length c.args.old.now - n) c.cursor-2.ensures
    ∙ common-back c.args.old.now c.args.new.now p.text.now c.utf8.old i.old_text p.cursor (place p).before (place q).before p.boundary refl i.shared
    (differ-end (place p).before (place q).before (before-none (place p) c.in_default.ensures))
