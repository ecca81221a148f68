use Rattle.typst_tokens.proofs.Cited.{◌+◌, ◌∙◌, max, sym, ap, subst, arith, place}
use Rattle.typst_tokens.proofs.Sights.{far-read}
use Rattle.typst_tokens.proofs.Words.{Looking, looking-on, looking-off}
use Rattle.typst_tokens.proofs.cursor.see_word.Goals as goal

pub returns-then-not-is-clause-found : goal.returns-then-not-is-clause-found
returns-then-not-is-clause-found c =
    let l = c.loop-b in
    sym (looking-off c.args.word.now (place c.args.s.now) c.args.reach l.b-index (place l.s) (place c.eat-c.new.self) l.reach c.eat-c.result (omega arith) l.invariant.looking c.eat-c.ensures.next c.eat-c.ensures.moved (sym c.is.ensures ∙ c.if-not-is.true)).0

pub returns-then-not-is-clause-reach : goal.returns-then-not-is-clause-reach
returns-then-not-is-clause-reach c =
    let l = c.loop-b in
    let far = far-read 0 (place l.s) (place c.eat-c.new.self) c.eat-c.result c.end_of.result c.end_of.ensures c.eat-c.ensures.moved c.eat-c.ensures.next in
    c.max-reach.ensures ∙ ap (max l.reach) far
    ∙ sym (looking-off c.args.word.now (place c.args.s.now) c.args.reach l.b-index (place l.s) (place c.eat-c.new.self) l.reach c.eat-c.result (omega arith) l.invariant.looking c.eat-c.ensures.next c.eat-c.ensures.moved (sym c.is.ensures ∙ c.if-not-is.true)).1

pub loop-b-preserved : goal.loop-b-preserved
loop-b-preserved c =
    let l = c.loop-b in
    let far = far-read 0 (place l.s) (place c.eat-c.new.self) c.eat-c.result c.end_of.result c.end_of.ensures c.eat-c.ensures.moved c.eat-c.ensures.next in
    record {
      looking =
          subst (λ m. Looking c.args.word.now (place c.args.s.now) c.args.reach (l.b-index + 1) (place c.eat-c.new.self) m) (sym (c.max-reach.ensures ∙ ap (max l.reach) far))
          (looking-on c.args.word.now (place c.args.s.now) c.args.reach l.b-index (place l.s) (place c.eat-c.new.self) l.reach c.eat-c.result (omega arith) l.invariant.looking c.eat-c.ensures.next c.eat-c.ensures.moved (sym c.is.ensures ∙ c.if-not-is.false));
      text = c.eat-c.ensures.same_text ∙ l.invariant.text;
    }
