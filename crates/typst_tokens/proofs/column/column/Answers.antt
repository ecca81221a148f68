use Rattle.typst_tokens.proofs.Cited.{common_steps, length, ◌∙◌, sym, ap, zero-add, refl, arith, IsUtf8-had, prefix_len, Place, place, in_line, column_at, position}
use Rattle.typst_tokens.proofs.Columns.{same-hull, before-most, some-before, back-is, line-more, column-back, column-least, column-start, back-smaller}
use Rattle.typst_tokens.proofs.Sights.{offset-is, far-none}
use Rattle.typst_tokens.proofs.column.column.Goals as goal

pub back-init : goal.back-init
unfolding column_at
back-init c = record { rest = zero-add _; near = refl; before = omega arith; size = zero-add _ }

pub back-preserved : goal.back-preserved
back-preserved c =
    let s = c.args.s.now in
    let z = place c.back.at in
    let w = place c.uneat.new.self in
    let first = some-before z.before c.in-Some.c c.in-Some.ensures.last in
    let rest = ap (λ (p : Place). p.before) c.in-Some.ensures.moved ∙ back-is z c.in-Some.c c.in-Some.ensures.last in
    let more = line-more z.before _ c.in-Some.c first (sym c.is_newline.ensures ∙ c.if-is_newline.false) in
    let same = ap (prefix_len in_line) rest in
    let long = ap length first in
    let long_rest = ap length rest in
    let i = c.back.invariant.rest in
    let j = c.back.invariant.size in
    let most = before-most s.text.now s.cursor (IsUtf8-had _ s.utf8) s.boundary in
    grind (arith, common_steps, column-back, back-smaller)

pub overflow_add-least : goal.overflow_add-least
overflow_add-least c =
    let s = c.args.s.now in
    let y = place c.back.at in
    let b = c.uneat.new.self in
    let at = offset-is b.text.now b.cursor (IsUtf8-had _ b.utf8) b.boundary ∙ ap position c.in-Some.ensures.moved in
    let whole = c.cursor-reach.ensures ∙ offset-is s.text.now s.cursor (IsUtf8-had _ s.utf8) s.boundary in
    let fits = c.cursor-reach.type_inv in
    omega (arith, c.cursor-least.ensures, at, whole, fits, back-smaller y c.in-Some.c c.in-Some.ensures.last, c.back.invariant.before)

pub returns-then-is_newline-clause-hull : goal.returns-then-is_newline-clause-hull
unfolding column_at
returns-then-is_newline-clause-hull c =
    let s = c.args.s.now in
    let z = place s in
    let y = place c.back.at in
    let b = c.uneat.new.self in
    let at = offset-is b.text.now b.cursor (IsUtf8-had _ b.utf8) b.boundary ∙ ap position c.in-Some.ensures.moved in
    same-hull _ _ _ _ (c.cursor-reach.ensures ∙ offset-is s.text.now s.cursor (IsUtf8-had _ s.utf8) s.boundary ∙ sym (far-none z))
    (omega (arith, c.cursor-least.ensures, at, column-least z y c.in-Some.c c.back.invariant.near c.in-Some.ensures.last (sym c.is_newline.ensures ∙ c.if-is_newline.true)))

pub returns-clause-hull : goal.returns-clause-hull
returns-clause-hull c =
    let s = c.args.s.now in
    let z = place s in
    same-hull _ _ _ _ (c.cursor-reach.ensures ∙ offset-is s.text.now s.cursor (IsUtf8-had _ s.utf8) s.boundary ∙ sym (far-none z))
    (column-start z (place c.back.at) c.back.invariant.near c.in_default.ensures.last)
