use Rattle.typst_lines.proofs.Cited.{◌≡◌, ◌∙◌, ◌+◌, ap, sym, subst, arith, Some, refl, slice_range, List, ℕ, IsUtf8, chars, place_at, place, Range}
use Rattle.typst_lines.proofs.Counts.{HasPassed-front}
use Rattle.typst_lines.proofs.RoundTrip.{IsSoundRange, line_range-sound, HasPassed, HasPassed-more, byte_at-short, byte_at-found, byte_at-none}
use Rattle.typst_lines.proofs.lines.Lines.line_column_to_byte.Goals as goal

pub range-line-requires : goal.range-line-requires
range-line-requires g c =
    let s = c.args.self.now in
    let r = c.in_ok-range.range in
    let sound : IsSoundRange c.text.result.now r = subst (λ t. IsSoundRange t r) (sym c.text.ensures) (line_range-sound s (subst IsUtf8 c.text.ensures c.text.utf8) c.args.line_idx r (sym c.in_ok-range.ensures)) in
    record { start_le_end = sound.ordered; start_boundary = λ _. sound.start; end_boundary = sound.end }

pub returns-in_err-range : goal.returns-in_err-range
returns-in_err-range g c = c.from_residual.ensures ∙ sym (byte_at-none c.args.self.now c.args.line_idx c.args.column_idx (sym c.in_err-range.ensures))

pub loop-i-init : goal.loop-i-init
loop-i-init g c =
    let near = c.boundary_within-near in
    let there = c.jump.new.self in
    let here : place there ≡ place_at c.range-line.result.now near.result.0 = c.jump.ensures.moved ∙ ap (λ t. place_at t near.result.0) c.new-scanner.ensures.text in
    let front = HasPassed-front c.range-line.result.now there.text.now c.range-line.utf8 (c.jump.ensures.same_text ∙ c.new-scanner.ensures.text) near.result.0 near.result.1 (place there) near.ensures.boundary near.ensures.measured here in
    record { passed = subst (λ n. HasPassed (chars there.text.now) near.result.1 n (place there)) (sym c.jump.ensures.cursor) front; same_text = refl }

-- the characters of the line
line-text : (s t line initial : List ℕ) (r : Range ℕ) → t ≡ s → line ≡ slice_range t r.start r.end → initial ≡ line → chars initial ≡ chars (slice_range s r.start r.end)
line-text s t line initial r e f i = ap chars (i ∙ f ∙ ap (λ x. slice_range x r.start r.end) e)

pub returns-in_err-eat : goal.returns-in_err-eat
returns-in_err-eat g c =
    let s = c.args.self.now in
    let r = c.in_ok-range.range in
    let p = place c.loop-i.scanner in
    let text = line-text s c.text.result.now c.range-line.result.now c.jump.new.self.text.now r c.text.ensures c.range-line.ensures.value (c.jump.ensures.same_text ∙ c.new-scanner.ensures.text) in
    let passed = subst (λ cs. HasPassed cs c.loop-i.i c.loop-i.scanner.cursor p) text c.loop-i.invariant.passed in
    c.from_residual-in_err-eat.ensures ∙ sym (byte_at-short s c.args.line_idx c.args.column_idx r (sym c.in_ok-range.ensures) c.loop-i.i c.loop-i.scanner.cursor p passed c.in_err-eat.ensures.next c.loop-i-test.true)

pub loop-i-preserved : goal.loop-i-preserved
loop-i-preserved g c =
    let p = place c.loop-i.scanner in
    let e = c.in_ok-eat.ensures in
    record {
      passed = HasPassed-more (chars c.jump.new.self.text.now) c.loop-i.i c.loop-i.scanner.cursor p (place c.eat.new.self) c.in_ok-eat.field-0 c.eat.new.self.cursor c.loop-i.invariant.passed e.next e.moved e.width;
      same_text = e.same_text ∙ c.loop-i.invariant.same_text;
    }

pub returns : goal.returns
returns g c =
    let s = c.args.self.now in
    let r = c.in_ok-range.range in
    let p = place c.loop-i.scanner in
    let text = line-text s c.text.result.now c.range-line.result.now c.jump.new.self.text.now r c.text.ensures c.range-line.ensures.value (c.jump.ensures.same_text ∙ c.new-scanner.ensures.text) in
    let all : c.loop-i.i ≡ c.args.column_idx = omega (arith, c.loop-i-test.false, c.loop-i.auto.i-end) in
    let passed = subst (λ cs. HasPassed cs c.loop-i.i c.loop-i.scanner.cursor p) text c.loop-i.invariant.passed in
    let done = subst (λ n. HasPassed (chars (slice_range s r.start r.end)) n c.loop-i.scanner.cursor p) all passed in
    ap (λ n. Some (r.start + n)) c.cursor.ensures ∙ sym (byte_at-found s c.args.line_idx c.args.column_idx r (sym c.in_ok-range.ensures) c.loop-i.scanner.cursor p done)
