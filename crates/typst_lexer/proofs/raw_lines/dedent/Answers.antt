use Rattle.typst_lexer.proofs.Cited.{refl, sym, ap, ◌∙◌, min, arith, chars, place}
use Rattle.typst_lexer.proofs.Moves.{later-first, past-end, line-shorter, nothing-left}
use Rattle.typst_lexer.proofs.Loops.{least-step}
use Rattle.typst_lexer.proofs.Rows.{later-none}
use Rattle.typst_lexer.proofs.raw_lines.dedent.Goals as goal

pub loop-s-init : goal.loop-s-init
loop-s-init c = grind (arith, later-first, past-end)

pub loop-s-smaller-then-not-is_blank : goal.loop-s-smaller-then-not-is_blank
loop-s-smaller-then-not-is_blank c = line-shorter (place c.loop-s.s) (place c.eat_newline.new.self) (place c.eat_while-line.new.self) (sym c.loop-s-test.ensures.taken) c.eat_newline.ensures.moved c.eat_while-line.ensures.moved

pub loop-s-preserved-then-not-is_blank : goal.loop-s-preserved-then-not-is_blank
loop-s-preserved-then-not-is_blank c =
    let q = place c.eat_newline.new.self in
    let t = place c.eat_while-line.new.self in
    record {
      least =
          least-step c.loop-s.least _ _ (chars c.eat_while-line.result.now) (place c.loop-s.s) q t (sym c.loop-s-test.ensures.taken) c.eat_newline.ensures.moved c.eat_while-line.ensures.moved c.eat_while-line.ensures.taken c.if-not-is_blank.ensures (c.min-least.ensures ∙ ap (min c.loop-s.least) c.indent.ensures)
          ∙ c.loop-s.invariant.least;
      at_end = past-end q t c.eat_while-line.ensures.moved;
    }

pub loop-s-smaller : goal.loop-s-smaller
loop-s-smaller c = line-shorter (place c.loop-s.s) (place c.eat_newline.new.self) (place c.eat_while-line.new.self) (sym c.loop-s-test.ensures.taken) c.eat_newline.ensures.moved c.eat_while-line.ensures.moved

pub loop-s-preserved : goal.loop-s-preserved
loop-s-preserved c =
    let q = place c.eat_newline.new.self in
    let t = place c.eat_while-line.new.self in
    record {
      least =
          least-step c.loop-s.least c.loop-s.least _ (chars c.eat_while-line.result.now) (place c.loop-s.s) q t (sym c.loop-s-test.ensures.taken) c.eat_newline.ensures.moved c.eat_while-line.ensures.moved c.eat_while-line.ensures.taken c.if-not-is_blank.ensures refl
          ∙ c.loop-s.invariant.least;
      at_end = past-end q t c.eat_while-line.ensures.moved;
    }

pub returns : goal.returns
returns c = grind (arith, nothing-left, later-none)
