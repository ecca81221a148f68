use Rattle.typst_tokens.proofs.Cited.{sym, ap, ◌∙◌, chars, place}
use Rattle.typst_tokens.proofs.Links.{ended, link-is}
use Rattle.typst_tokens.proofs.link.link.Goals as goal

pub returns-then-is_balanced : goal.returns-then-is_balanced
returns-then-is_balanced c =
    let v = c.args.s.now in
    link-is v c.saw_to.new.self c.skip.new.self (place c.ahead-start.result) (place c.eat_front.new.s) (chars c.since.result.now) (chars c.without_last_signs.result.now) c.in_ok-is_balanced.is_balanced
    c.saw_to.ensures.covers c.ahead-start.ensures.place c.in_ok-is_balanced.ensures.front c.in_ok-is_balanced.ensures.balanced c.saw_to.ensures.sight c.since.ensures c.without_last_signs.ensures c.skip.ensures
    ∙ ap (λ x. (x, c.skip.new.self)) (ap ended c.if-is_balanced.true ∙ sym c.plain.ensures)

pub returns : goal.returns
returns c =
    let v = c.args.s.now in
    link-is v c.saw_to.new.self c.skip.new.self (place c.ahead-start.result) (place c.eat_front.new.s) (chars c.since.result.now) (chars c.without_last_signs.result.now) c.in_ok-is_balanced.is_balanced
    c.saw_to.ensures.covers c.ahead-start.ensures.place c.in_ok-is_balanced.ensures.front c.in_ok-is_balanced.ensures.balanced c.saw_to.ensures.sight c.since.ensures c.without_last_signs.ensures c.skip.ensures
    ∙ ap (λ x. (x, c.skip.new.self)) (ap ended c.if-is_balanced.false ∙ sym c.faulty.ensures)
