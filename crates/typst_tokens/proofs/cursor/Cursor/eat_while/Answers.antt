use Rattle.typst_tokens.proofs.Cited.{◌∙◌, ap, sym, subst, prefix_len, place, sight_of, Covers, went_past}
use Rattle.typst_tokens.proofs.Sights.{covers-past, ran}
use Rattle.typst_tokens.proofs.Lines.{line-kept}
use Rattle.typst_tokens.proofs.cursor.Cursor.eat_while.Goals as goal

pub invariant_of-self : goal.invariant_of-self
invariant_of-self g c = let i = c.self.inside in record { looks = subst Covers (sym (ran (prefix_len (g.S.CharSet.members c.args.set.now) (place i.s).ahead) (place i.s) (place c.eat_while-taken.new.self) (place c.eat-c.new.self) c.eat-c.result i.reach i.least c.max-self-inside.result c.end_of.result c.max-self-inside.ensures c.end_of.ensures c.eat-c.ensures.moved c.eat-c.ensures.next c.eat_while-taken.ensures.moved)) (covers-past (g.S.CharSet.members c.args.set.now) (sight_of i) c.self.invariant.looks); line = line-kept _ _ _ _ (c.eat_while-taken.ensures.same_text) c.self.invariant.line }

pub returns-clause-sight : goal.returns-clause-sight
returns-clause-sight g c = let i = c.self.inside in ran (prefix_len (g.S.CharSet.members c.args.set.now) (place i.s).ahead) (place i.s) (place c.eat_while-taken.new.self) (place c.eat-c.new.self) c.eat-c.result i.reach i.least c.max-self-inside.result c.end_of.result c.max-self-inside.ensures c.end_of.ensures c.eat-c.ensures.moved c.eat-c.ensures.next c.eat_while-taken.ensures.moved ∙ ap (went_past (g.S.CharSet.members c.args.set.now)) c.self.view_is

pub returns-clause-covers : goal.returns-clause-covers
returns-clause-covers g c = (invariant_of-self g c).looks
