use Rattle.typst_lines.proofs.Cited.{sym, subst, arith, IsCommonFront, scout, place}
use Rattle.typst_lines.proofs.Alike.{ahead-shared}
use Rattle.typst_lines.proofs.CommonEnds.{shares-more, IsCommonFront-at, differ-heads, differ-end, not-next, is-next, ahead-step}
use Rattle.typst_lines.proofs.LineTable.{place-end}
use Rattle.typst_lines.proofs.lines.common_front_len.Goals as goal

pub loop-c-init : goal.loop-c-init
loop-c-init c = grind (arith, ahead-shared)

pub loop-c-preserved : goal.loop-c-preserved
loop-c-preserved c = grind (arith, is-next, shares-more, ahead-step)

pub returns-then-not-at : goal.returns-then-not-at
returns-then-not-at c =
    let i = c.loop-c.invariant in
    let p = c.loop-c.first in
    let q = c.loop-c.second in
    subst (IsCommonFront c.args.old.now c.args.new.now) (sym c.cursor.ensures)
    (IsCommonFront-at c.args.old.now c.args.new.now p.text.now q.text.now c.utf8.old c.utf8.new i.old_text i.new_text p.cursor q.cursor p.boundary q.boundary i.shared
    (differ-heads (place p).ahead (place q).ahead c.in-Some.c (sym c.in-Some.ensures) (not-next c.in-Some.c (scout 0 (place q)) (sym c.if-not-at.ensures))))

pub returns : goal.returns
returns c =
    let i = c.loop-c.invariant in
    let p = c.loop-c.first in
    let q = c.loop-c.second in
    subst (IsCommonFront c.args.old.now c.args.new.now) (sym c.cursor-2.ensures)
    (IsCommonFront-at c.args.old.now c.args.new.now p.text.now q.text.now c.utf8.old c.utf8.new i.old_text i.new_text p.cursor q.cursor p.boundary q.boundary i.shared
    (differ-end (place p).ahead (place q).ahead (place-end (place p) c.in_default.ensures)))
