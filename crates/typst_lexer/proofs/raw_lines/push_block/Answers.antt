use Rattle.typst_lexer.proofs.Cited.{sym, ap, ◌∙◌, arith, chars, place, closing, ahead-text}
use Rattle.typst_lexer.proofs.Moves.{past-end}
use Rattle.typst_lexer.proofs.Loops.{block-first, block-held, block-blank, dedent-is}
use Rattle.typst_lexer.proofs.raw_lines.push_block.Goals as goal

pub push_lines-requires-clause-at_end : goal.push_lines-requires-clause-at_end
push_lines-requires-clause-at_end c = past-end (place c.new-start.result) (place c.eat_while-first.new.self) c.eat_while-first.ensures.moved

pub push_lines-requires-2-clause-at_end : goal.push_lines-requires-2-clause-at_end
push_lines-requires-2-clause-at_end c = past-end (place c.new-start.result) (place c.eat_while-first.new.self) c.eat_while-first.ensures.moved

pub returns-then-not-is_blank : goal.returns-then-not-is_blank
returns-then-not-is_blank c =
    let cs = chars c.args.text.now in
    let last = c.last_line-last.ensures in
    block-first cs c.dedent-dedent.result (place c.new-start.result) (place c.eat_while-first.new.self) (chars c.eat_while-first.result.now) (chars c.after.result.now)
    (ap (λ p. p.ahead) c.new-start.ensures.place ∙ ahead-text c.before-2.result.now ∙ c.before-2.ensures.characters ∙ c.trimmed_from-end.ensures.front cs last) c.eat_while-first.ensures.moved c.eat_while-first.ensures.taken
    (dedent-is cs (chars c.last_line-last.result.line.now) c.dedent-dedent.result last.line c.dedent-dedent.ensures) (c.after.ensures.characters ∙ c.trimmed_from-end.ensures.closing cs last) c.args.leaves.now.items c.push_first.new.leaves.items c.push_lines.new.leaves.items c.push_trimmed.new.leaves.items c.if-not-is_blank.ensures c.in_ok-push_first.ensures c.in_ok-push_lines.ensures c.in_ok-push_trimmed.ensures

pub returns-then-done : goal.returns-then-done
returns-then-done c = grind (arith, block-blank, ahead-text, dedent-is)

pub returns : goal.returns
returns c =
    let cs = chars c.args.text.now in
    let last = c.last_line-last.ensures in
    block-held cs c.dedent-dedent.result (place c.new-start.result) (place c.eat_while-first.new.self) (chars c.eat_while-first.result.now) (chars c.after-2.result.now)
    (ap (λ p. p.ahead) c.new-start.ensures.place ∙ ahead-text c.before-2.result.now ∙ c.before-2.ensures.characters ∙ c.trimmed_from-end.ensures.front cs last) c.eat_while-first.ensures.moved c.eat_while-first.ensures.taken
    (dedent-is cs (chars c.last_line-last.result.line.now) c.dedent-dedent.result last.line c.dedent-dedent.ensures) (c.after-2.ensures.characters ∙ c.trimmed_from-end.ensures.closing cs last) c.args.leaves.now.items c.push_lines-2.new.leaves.items c.push_trimmed-2.new.leaves.items c.if-not-is_blank.ensures (sym c.if-done.ensures) c.in_ok-push_lines-2.ensures c.in_ok-push_trimmed-3.ensures
