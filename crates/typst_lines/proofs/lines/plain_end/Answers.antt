use Rattle.typst_lines.proofs.Cited.{◌≡◌, ◌+◌, ap, subst, arith, refl, length, get_or, IsPlainRun}
use Rattle.typst_lines.proofs.LinesFromLaw.{plain-step, plain-block}
use Rattle.typst_lines.proofs.lines.plain_end.Goals as goal

pub loop-at-preserved : goal.loop-at-preserved
loop-at-preserved c =
    let block = c.plain_lanes-run in
    let whole : block.result ≡ 16 = omega (arith, block.ensures.within) in
    subst (λ n. IsPlainRun c.args.text.now c.args.start (c.loop-at.at + n)) whole
    (plain-block c.args.text.now c.as_bytes-bytes.result.now c.utf8.text c.as_bytes-bytes.ensures.value c.args.start c.loop-at.at 16 block.result c.loop-at.invariant (omega arith) block.ensures)

pub returns-then-run-lt-LANES : goal.returns-then-run-lt-LANES
returns-then-run-lt-LANES c =
    let block = c.plain_lanes-run in
    plain-block c.args.text.now c.as_bytes-bytes.result.now c.utf8.text c.as_bytes-bytes.ensures.value c.args.start c.loop-at.at 16 block.result c.loop-at.invariant (omega arith) block.ensures

pub loop-at-2-preserved : goal.loop-at-2-preserved
loop-at-2-preserved c =
    let plain = c.if-is_plain.ensures.0 refl in
    let same = c.as_bytes-bytes.ensures.value in
    plain-step c.args.text.now c.utf8.text c.args.start c.loop-at-2.at _ c.loop-at-2.invariant (omega (arith, ap length same, c.loop-at-2-test.true))
    (ap (λ t. get_or t c.loop-at-2.at 0) same) plain.0 plain.1
