use Rattle.typst_lines.proofs.Cited.{◌∙◌, ◌++◌, [], ap, sym, length, arith, chars, stretches, line_ends, woven, all_lack_newlines, place}
use Rattle.typst_lines.proofs.SplitLaw.{glued, since-none, since-more, glued-none, glued-plain, stretches-more, stretches-all, put-back, none-inside, texts_of}
use Rattle.typst_lines.proofs.LineTable.{ahead-text}
use Rattle.typst_lines.proofs.newline.split_newlines.Goals as goal

pub loop-c-init : goal.loop-c-init
loop-c-init c =
    let p = place c.new-scanner.result in
    let e = c.new-scanner.ensures in (
      since-none p,
      ap (λ t. texts_of t ++ glued [] (stretches p.ahead)) c.new-stretches.ensures.items ∙ glued-none (stretches p.ahead) ∙ ap stretches (ap (λ x. x.ahead) e.place ∙ ahead-text c.args.text.now),
      e.text,
      e.text,
    )

pub loop-c-preserved-then-is_newline : goal.loop-c-preserved-then-is_newline
loop-c-preserved-then-is_newline c =
    let i = c.loop-c.invariant in
    let p = place c.loop-c.start in
    let q = place c.loop-c.scanner in
    let r = place c.eat_newline.new.self in
    let text = c.eat_newline.ensures.same_text ∙ i.2 in (
      since-none r,
      stretches-more c.loop-c.stretches.items c.push.new.self.items c.since.result p q r c.in-Some.c _ i.0 i.1 c.in-Some.ensures (sym c.if-is_newline.ensures) c.eat_newline.ensures.moved
          (c.since.ensures (length i.0.passed) i.0.moves) c.in_ok-push.ensures.items,
      text,
      text,
    )

pub loop-c-preserved : goal.loop-c-preserved
loop-c-preserved c =
    let i = c.loop-c.invariant in
    let p = place c.loop-c.start in
    let q = place c.loop-c.scanner in
    let r = place c.eat.new.self in (
      since-more p q r c.in-Some.c i.0 c.in-Some.ensures c.eat.ensures.moved,
      ap (λ t. texts_of c.loop-c.stretches.items ++ t) (sym (glued-plain i.0.passed q r c.in-Some.c c.in-Some.ensures c.eat.ensures.moved (sym c.if-is_newline.ensures))) ∙ i.1,
      c.eat.ensures.same_text ∙ i.2,
      i.3,
    )

pub returns-clause-stretches : goal.returns-clause-stretches
returns-clause-stretches c = grind (arith, stretches-all)

pub returns-clause-put_back : goal.returns-clause-put_back
returns-clause-put_back c = ap (λ t. woven t (line_ends (chars c.args.text.now))) (returns-clause-stretches c) ∙ put-back (chars c.args.text.now)

pub returns-clause-none_inside : goal.returns-clause-none_inside
returns-clause-none_inside c = ap all_lack_newlines (returns-clause-stretches c) ∙ none-inside (chars c.args.text.now)
