use Rattle.typst_tokens.proofs.Cited.{◌∙◌, ap, sym, subst, place, sight_of, Covers, went, saw}
use Rattle.typst_tokens.proofs.Sights.{ate, covers-went, peeked, went-seen}
use Rattle.typst_tokens.proofs.Lines.{line-kept}
use Rattle.typst_tokens.proofs.cursor.Cursor.eat_if.Goals as goal

pub returns-then-not-is-clause-sight : goal.returns-then-not-is-clause-sight
returns-then-not-is-clause-sight c =
    let i = c.self.inside in
    peeked 0 (place i.s) (place c.eat-c.new.self) c.eat-c.result i.reach i.least c.max-self-inside.result c.end_of.result c.max-self-inside.ensures c.end_of.ensures c.eat-c.ensures.moved c.eat-c.ensures.next
    ∙ ap (saw 1) c.self.view_is

pub invariant_of-self-2 : goal.invariant_of-self-2
invariant_of-self-2 c =
    let i = c.self.inside in
    record { looks = subst Covers (sym (ate 0 (place i.s) (place c.eat-c.new.self) c.eat-c.result i.reach i.least c.max-self-inside.result c.end_of.result c.max-self-inside.ensures c.end_of.ensures c.eat-c.ensures.moved c.eat-c.ensures.next)) (covers-went 1 (sight_of i) c.self.invariant.looks); line = line-kept _ _ _ _ (c.eat-c.ensures.same_text) c.self.invariant.line }

pub returns-clause-sight : goal.returns-clause-sight
returns-clause-sight c =
    let i = c.self.inside in
    ate 0 (place i.s) (place c.eat-c.new.self) c.eat-c.result i.reach i.least c.max-self-inside.result c.end_of.result c.max-self-inside.ensures c.end_of.ensures c.eat-c.ensures.moved c.eat-c.ensures.next
    ∙ sym (went-seen (sight_of i)) ∙ ap (λ v. went 1 (saw 1 v)) c.self.view_is
