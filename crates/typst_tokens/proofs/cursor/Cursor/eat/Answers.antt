use Rattle.typst_tokens.proofs.Cited.{◌∙◌, ap, sym, subst, place, sight_of, Covers, went}
use Rattle.typst_tokens.proofs.Sights.{ate, covers-went}
use Rattle.typst_tokens.proofs.Lines.{line-kept}
use Rattle.typst_tokens.proofs.cursor.Cursor.eat.Goals as goal

pub invariant_of-self : goal.invariant_of-self
invariant_of-self c = let i = c.self.inside in record { looks = subst Covers (sym (ate 0 (place i.s) (place c.eat-c.new.self) c.eat-c.result i.reach i.least c.max-self-inside.result c.end_of.result c.max-self-inside.ensures c.end_of.ensures c.eat-c.ensures.moved c.eat-c.ensures.next)) (covers-went 1 (sight_of i) c.self.invariant.looks); line = line-kept _ _ _ _ (c.eat-c.ensures.same_text) c.self.invariant.line }

pub returns-clause-sight : goal.returns-clause-sight
returns-clause-sight c = let i = c.self.inside in ate 0 (place i.s) (place c.eat-c.new.self) c.eat-c.result i.reach i.least c.max-self-inside.result c.end_of.result c.max-self-inside.ensures c.end_of.ensures c.eat-c.ensures.moved c.eat-c.ensures.next ∙ ap (went 1) c.self.view_is

pub returns-clause-covers : goal.returns-clause-covers
returns-clause-covers c = (invariant_of-self c).looks
