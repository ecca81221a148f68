use Rattle.typst_tokens.proofs.Cited.{◌∙◌, ap, sym, subst, arith, place, sight_of, Covers, word_reach}
use Rattle.typst_tokens.proofs.Sights.{same-sight}
use Rattle.typst_tokens.proofs.Words.{covers-word, word_at-moved, word_reach-moved}
use Rattle.typst_tokens.proofs.cursor.Cursor.word_after.Goals as goal

pub invariant_of-self : goal.invariant_of-self
invariant_of-self c =
    let i = c.self.inside in
    let w = c.args.word.now in
    let e = c.see_word-found.ensures.reach ∙ ap (λ z. word_reach 0 w z i.reach) c.eat.ensures.moved ∙ word_reach-moved 0 w (place i.s) i.reach in
    record { looks = subst (λ m. Covers (record { place = place i.s; reach = m; least = i.least })) (sym e) (covers-word 1 w (sight_of i) c.self.invariant.looks); line = c.self.invariant.line }

pub returns-clause-found : goal.returns-clause-found
returns-clause-found c = grind (arith, word_at-moved)

pub returns-clause-sight : goal.returns-clause-sight
returns-clause-sight c = grind (arith, word_reach-moved, same-sight)
