use Rattle.typst_lexer.proofs.Cited.{refl, sym, arith, chars, moved, place}
use Rattle.typst_lexer.proofs.Moves.{moved-more, skipped-shorter}
use Rattle.typst_lexer.proofs.Loops.{way-step, way-end}
use Rattle.typst_lexer.proofs.raw_lines.push_lines.Goals as goal

pub since-requires-clause-after : goal.since-requires-clause-after
since-requires-clause-after c = grind (arith, moved-more)

pub loop-s-smaller : goal.loop-s-smaller
loop-s-smaller c = skipped-shorter (place c.loop-s.s) (place c.eat_newline.new.self) (place c.skip_in_line.new.s) (place c.eat_while.new.self) _ (sym c.loop-s-test.ensures.taken) c.eat_newline.ensures.moved c.skip_in_line.ensures.moved c.eat_while.ensures.moved

pub loop-s-preserved : goal.loop-s-preserved
loop-s-preserved c = record {
  on_way =
      way-step c.args.dedent c.loop-s.leaves.items c.push_leaf.new.leaves.items c.push_leaf-in-loop-s.new.leaves.items c.args.leaves.now.items (place c.loop-s.from) (place c.loop-s.s) (place c.eat_newline.new.self) (place c.skip_in_line.new.s) (place c.eat_while.new.self) (place c.args.from.now) (place c.args.s.now) (chars c.since.result.now) (chars c.eat_while.result.now) c.loop-s.invariant.on_way (sym c.loop-s-test.ensures.taken) c.eat_newline.ensures.moved c.skip_in_line.ensures.moved c.since.ensures c.eat_while.ensures.moved c.eat_while.ensures.taken c.in_ok-push_leaf.ensures c.in_ok-push_leaf-2.ensures;
  same_text = refl;
}

pub returns : goal.returns
returns c = way-end c.args.dedent c.loop-s.leaves.items c.args.leaves.now.items (place c.loop-s.from) (place c.loop-s.s) (place c.args.from.now) (place c.args.s.now) c.loop-s.invariant.on_way (sym c.loop-s-test.ensures.taken)
