use Rattle.typst_lines.proofs.Cited.{◌==◌, Some, None, length, ap, ◌∙◌, if◌then◌else◌, arith, place}
use Rattle.typst_lines.proofs.Fronts.{left-step, left-stop, left-end}
use Rattle.typst_lines.proofs.links.eat_front.Goals as goal

pub loop-c-preserved : goal.loop-c-preserved
loop-c-preserved c = record {
  left = left-step c.loop-c.brackets c.pass.new.self (place c.loop-c.s) (place c.eat.new.self) (place c.args.s.now) c.in-Some.c c.loop-c.invariant.left c.in-Some.ensures (c.in_ok-pass.ensures.turn ∙ ap (λ b. if b then Some c.pass.new.self else None) c.if-not-branch.false) c.eat.ensures.moved;
  same_text = c.eat.ensures.same_text ∙ c.loop-c.invariant.same_text;
}

pub returns-then-not-branch-clause-front : goal.returns-then-not-branch-clause-front
returns-then-not-branch-clause-front c = grind (arith, left-stop)

pub returns-then-not-branch-clause-balanced : goal.returns-then-not-branch-clause-balanced
returns-then-not-branch-clause-balanced c = grind (arith, left-stop)

pub returns-clause-front : goal.returns-clause-front
returns-clause-front c = (left-end c.loop-c.brackets (place c.loop-c.s) (place c.args.s.now) c.loop-c.invariant.left c.in_default.ensures).0

pub returns-clause-balanced : goal.returns-clause-balanced
returns-clause-balanced c = c.is_empty-2.ensures ∙ ap (λ x. length x == 0) (left-end c.loop-c.brackets (place c.loop-c.s) (place c.args.s.now) c.loop-c.invariant.left c.in_default.ensures).1
