use Rattle.typst_c.proofs.Cited.{◌≡◌, ◌+◌, ap, sym, subst, ◌∙◌, arith, length, same_Some, none-some, IsUtf8, IsCharBoundary, utf16_before, units_before}
use Rattle.typst_c.proofs.Columns.{none_at, units_fit, units_found, units_within}
use Rattle.typst_c.proofs.positions.at_units.Goals as goal
use Rattle.typst_c.proofs.positions.at_units.Goals.{then-there-utf16-via-then-there-utf16, then-there-utf16-via-else-there-utf16+then-byte-range}

pub returns-in_err-utf16-clause-none : goal.returns-in_err-utf16-clause-none
returns-in_err-utf16-clause-none c =
    let text = c.args.lines.now in
    let utf8 : IsUtf8 text = subst IsUtf8 c.text-text.ensures c.text-text.utf8 in
    none_at text c.args.line c.args.column _ (λ b h. c.in_err-utf16.ensures (omega (arith, c.units_before.ensures, units_fit text c.args.line c.args.column b h utf8 (omega (arith, c.text-text.type_inv, ap length c.text-text.ensures)))))

pub returns-in_err-byte-clause-none : goal.returns-in_err-byte-clause-none
returns-in_err-byte-clause-none c =
    let text = c.args.lines.now in
    let utf8 : IsUtf8 text = subst IsUtf8 c.text-text.ensures c.text-text.utf8 in
    let units : c.in_ok-utf16.utf16 ≡ units_before text c.args.line + c.args.column = omega (arith, c.in_ok-utf16.ensures.1, c.units_before.ensures) in
    none_at text c.args.line c.args.column _ (λ b h. none-some b (c.in_err-byte.ensures ∙ units_found text c.args.line c.args.column b h c.in_ok-utf16.utf16 utf8 units))

pub returns-in_err-there-clause-none : goal.returns-in_err-there-clause-none
returns-in_err-there-clause-none c =
    let text = c.args.lines.now in
    let utf8 : IsUtf8 text = subst IsUtf8 c.text-text.ensures c.text-text.utf8 in
    let units : c.in_ok-utf16.utf16 ≡ units_before text c.args.line + c.args.column = omega (arith, c.in_ok-utf16.ensures.1, c.units_before.ensures) in
    none_at text c.args.line c.args.column _ (λ b h.
    let same : c.in_ok-byte.byte ≡ b = same_Some c.in_ok-byte.byte b (c.in_ok-byte.ensures ∙ units_found text c.args.line c.args.column b h c.in_ok-utf16.utf16 utf8 units) in
    c.in_err-there.ensures.value (subst (IsCharBoundary text) (sym same) h.boundary))

pub returns-then-there-utf16-clause-none : goal.returns-then-there-utf16-clause-none
returns-then-there-utf16-clause-none c = λ b h.
    let text = c.args.lines.now in
    let utf8 : IsUtf8 text = subst IsUtf8 c.text-text.ensures c.text-text.utf8 in
    let units : c.in_ok-utf16.utf16 ≡ units_before text c.args.line + c.args.column = omega (arith, c.in_ok-utf16.ensures.1, c.units_before.ensures) in
    let same : c.in_ok-byte.byte ≡ b = same_Some c.in_ok-byte.byte b (c.in_ok-byte.ensures ∙ units_found text c.args.line c.args.column b h c.in_ok-utf16.utf16 utf8 units) in
    let there : c.in_ok-there.there ≡ c.in_ok-utf16.utf16 = c.in_ok-there.ensures.value.1 ∙ (ap (utf16_before text) same ∙ (h.at ∙ sym units)) in
    let within = units_within text c.args.line c.args.column b h c.in_ok-range.range c.in_ok-range.ensures in
    elim c.then-there-utf16.branch [
      | then-there-utf16-via-then-there-utf16 w ↦ w.if-there-utf16.true there
      | then-there-utf16-via-else-there-utf16+then-byte-range w ↦ omega (arith, within, w.if-byte-range.true)
    ]
