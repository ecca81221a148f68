use Rattle.typst_protocol.proofs.Cited.{◌≡◌, ℕ, suc, ◌+◌, ◌-◌, IfSome, Ok, Err, Result, sym, ap, subst, ◌∙◌, arith, ReadsHead, ReadsLine, End, Malformed, err_from_is_err_and}
use Rattle.typst_protocol.proofs.Heads.{GoesOn, goes-end, goes-err, goes-malformed, goes-on, goes-out, none-of, some-of}
use Rattle.typst_protocol.proofs.frames.reader.read_head.Goals as goal

pub returns-in_err-end : goal.returns-in_err-end
returns-in_err-end g c =
    let old = g.R.Read.remaining c.args.reader.now in
    let now = g.R.Read.remaining c.loop-number.reader in
    let new = g.R.Read.remaining c.read_line.new.reader in
    let step : 64 - c.loop-number._number ≡ suc (64 - (c.loop-number._number + 1)) = omega arith in
    let before = subst (λ n. GoesOn old now n c.loop-number.length) step c.loop-number.invariant in
    let p = err_from_is_err_and c.from_residual.result c.from_residual.ensures.1 in
    subst (λ (r : Result ℕ End). IfSome old (λ bytes. ReadsHead bytes r new)) (sym (p.1 ∙ ap (λ e. Err e) p.2))
    (goes-err old now new new (64 - (c.loop-number._number + 1)) c.loop-number.length c.in_err-end.field-0.0 c.read_line.new.line before c.in_err-end.ensures.line)

pub returns-then-end-eq0 : goal.returns-then-end-eq0
returns-then-end-eq0 g c =
    let old = g.R.Read.remaining c.args.reader.now in
    let now = g.R.Read.remaining c.loop-number.reader in
    let new = g.R.Read.remaining c.read_line.new.reader in
    let step : 64 - c.loop-number._number ≡ suc (64 - (c.loop-number._number + 1)) = omega arith in
    let before = subst (λ n. GoesOn old now n c.loop-number.length) step c.loop-number.invariant in
    let line = subst (λ (n : ℕ). IfSome now (λ bytes. ReadsLine bytes (Ok n) c.read_line.new.line new)) c.if-end-eq0.true c.in_ok-end.ensures.line in
    subst (λ (r : Result ℕ End). IfSome old (λ bytes. ReadsHead bytes r new)) (sym c.ok_or.ensures.value)
    (goes-end old now new (64 - (c.loop-number._number + 1)) c.loop-number.length c.read_line.new.line before line)

pub returns-in_err-length : goal.returns-in_err-length
returns-in_err-length g c =
    let old = g.R.Read.remaining c.args.reader.now in
    let now = g.R.Read.remaining c.loop-number.reader in
    let new = g.R.Read.remaining c.read_line.new.reader in
    let step : 64 - c.loop-number._number ≡ suc (64 - (c.loop-number._number + 1)) = omega arith in
    let before = subst (λ n. GoesOn old now n c.loop-number.length) step c.loop-number.invariant in
    let none = none-of c.length_after.result c.in_err-length.field-0.0 c.in_err-length.ensures.value in
    let p = err_from_is_err_and c.from_residual-in_err-length.result c.from_residual-in_err-length.ensures.1 in
    subst (λ (r : Result ℕ End). IfSome old (λ bytes. ReadsHead bytes r new)) (sym (p.1 ∙ ap (λ e. Err e) (p.2 ∙ none.1)))
    (goes-malformed old now new new (64 - (c.loop-number._number + 1)) c.in_ok-end.end c.loop-number.length c.read_line.new.line before c.in_ok-end.ensures.line c.if-end-eq0.false (sym c.length_after.ensures ∙ none.0))

pub loop-number-preserved : goal.loop-number-preserved
loop-number-preserved g c =
    let old = g.R.Read.remaining c.args.reader.now in
    let now = g.R.Read.remaining c.loop-number.reader in
    let new = g.R.Read.remaining c.read_line.new.reader in
    let step : 64 - c.loop-number._number ≡ suc (64 - (c.loop-number._number + 1)) = omega arith in
    let before = subst (λ n. GoesOn old now n c.loop-number.length) step c.loop-number.invariant in
    let some = some-of c.length_after.result c.in_ok-length.length Malformed c.in_ok-length.ensures.value in
    goes-on old now new (64 - (c.loop-number._number + 1)) c.in_ok-end.end c.loop-number.length c.in_ok-length.length c.read_line.new.line before c.in_ok-end.ensures.line c.if-end-eq0.false (sym c.length_after.ensures ∙ some)

pub returns : goal.returns
returns g c =
    let old = g.R.Read.remaining c.args.reader.now in
    let now = g.R.Read.remaining c.loop-number.reader in
    let end : 64 - c.loop-number._number ≡ 0 = omega arith in
    goes-out old now now c.loop-number.length (subst (λ n. GoesOn old now n c.loop-number.length) end c.loop-number.invariant)
