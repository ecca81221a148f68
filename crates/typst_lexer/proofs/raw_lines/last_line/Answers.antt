use Rattle.typst_lexer.proofs.Cited.{common_steps, sym, arith, chars, place, ahead-text}
use Rattle.typst_lexer.proofs.Moves.{start-before, end-next, line-shorter}
use Rattle.typst_lexer.proofs.Loops.{row-first, row-step, last-line}
use Rattle.typst_lexer.proofs.raw_lines.last_line.Goals as goal

pub loop-start-init : goal.loop-start-init
loop-start-init c = grind (arith, row-first, start-before, ahead-text)

pub loop-start-smaller : goal.loop-start-smaller
loop-start-smaller c = grind (arith, line-shorter, end-next)

pub loop-start-preserved : goal.loop-start-preserved
loop-start-preserved c =
    let s = place c.loop-start.s in
    let h = c.loop-start.invariant.1 in
    let some = sym c.loop-start-test.ensures in
    (c.eat_while-line-in-loop-start.utf8, row-step (chars c.args.text.now) (chars c.loop-start.line.now) (chars c.eat_while-line-in-loop-start.result.now) (place c.loop-start.start) s (place c.eat_newline.new.self) (place c.eat_while-line-in-loop-start.new.self) h some (end-next s.ahead h.at_end some) c.eat_newline.ensures.moved c.eat_while-line-in-loop-start.ensures.moved c.eat_while-line-in-loop-start.ensures.taken)

pub returns : goal.returns
returns c =
    grind (arith, common_steps, last-line (chars c.args.text.now) (chars c.loop-start.line.now) (place c.loop-start.start) (place c.loop-start.s) c.loop-start.invariant.1 (sym c.loop-start-test.ensures))
