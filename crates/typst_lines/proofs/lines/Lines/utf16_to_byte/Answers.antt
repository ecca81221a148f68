use Rattle.typst_lines.proofs.Cited.{common_steps, ◌≡◌, ◌+◌, ◌∙◌, ap, arith, place_at, place}
use Rattle.typst_lines.proofs.Counts.{near-reach, near-units, near-before}
use Rattle.typst_lines.proofs.RoundTrip.{upto-boundary, utf16-found, utf16-short, utf16-over, reach-on, units-moved, none-from, overshot-some, overshot-low}
use Rattle.typst_lines.proofs.lines.Lines.utf16_to_byte.Goals as goal
use Rattle.typst_lines.proofs.lines.Lines.utf16_to_byte.Goals.{else-units-left-via-then-units-left+else-done, else-units-left-via-else-units-left}

pub range_from-requires : goal.range_from-requires
range_from-requires g c _ =
    upto-boundary c.args.self.now c.text-text.result.now c.text-text.utf8 c.text-text.ensures c.args.utf16_idx c.line_before_utf16-line.result c.line_before_utf16-line.ensures

pub loop-left-init : goal.loop-left-init
loop-left-init g c =
    let line = c.line_before_utf16-line.result in
    let near = c.boundary_within-near in
    let here : place c.jump.new.self ≡ place_at c.text-text.result.now (line.byte_idx + near.result.0) =
    c.jump.ensures.moved ∙ ap (λ x. place_at x (line.byte_idx + near.result.0)) c.new-scanner.ensures.text in
    let passed = near-units c.args.self.now c.text-text.result.now c.text-text.utf8 c.text-text.ensures c.args.utf16_idx line c.line_before_utf16-line.ensures c.range_from.result.now c.range_from.ensures.value near.result.0 near.result.1 near.ensures.boundary near.ensures.measured near.ensures.bounded in
    grind (arith, common_steps, near-reach, near-before)

pub returns-in_err-eat : goal.returns-in_err-eat
returns-in_err-eat g c = grind (arith, utf16-short)

pub returns-then-done : goal.returns-then-done
returns-then-done g c = grind (arith, units-moved, reach-on, utf16-over, none-from)

pub loop-left-preserved : goal.loop-left-preserved
loop-left-preserved g c = grind (arith, units-moved, else-units-left-via-then-units-left+else-done, overshot-some, else-units-left-via-else-units-left, overshot-low, reach-on)

pub returns : goal.returns
returns g c = grind (arith, utf16-found)
