use Rattle.typst_tokens.proofs.Cited.{◌∙◌, ap, sym, subst, length, place, sight_of, Sight, Covers, saw_word, went}
use Rattle.typst_tokens.proofs.Sights.{covers-went}
use Rattle.typst_tokens.proofs.Words.{covers-word, word-eaten}
use Rattle.typst_tokens.proofs.Lines.{line-kept}
use Rattle.typst_tokens.proofs.cursor.Cursor.eat_word.Goals as goal

pub invariant_of-self : goal.invariant_of-self
invariant_of-self c =
    let i = c.self.inside in
    let w = c.args.word.now in
    let f = c.see_word-found.ensures in
    record {
      looks = subst Covers (sym (word-eaten w (place i.s) (place c.see_word-found.new.s) i.reach i.least c.see_word-found.result.1 (sym f.found ∙ c.if-found.true) (f.moved c.if-found.true) f.reach c.self.invariant.looks))
          (covers-went (length w) _ (covers-word 0 w (sight_of i) c.self.invariant.looks));
      line = line-kept _ _ _ _ (c.see_word-found.ensures.same_text) c.self.invariant.line;
    }

pub invariant_of-self-else-found : goal.invariant_of-self-else-found
invariant_of-self-else-found c =
    let i = c.self.inside in
    record { looks = subst (λ m. Covers (record { place = place i.s; reach = m; least = i.least })) (sym c.see_word-found.ensures.reach) (covers-word 0 c.args.word.now (sight_of i) c.self.invariant.looks); line = c.self.invariant.line }

pub returns-then-found-clause-sight : goal.returns-then-found-clause-sight
returns-then-found-clause-sight c =
    let i = c.self.inside in
    let w = c.args.word.now in
    let f = c.see_word-found.ensures in
    rw c.if-found.true (word-eaten w (place i.s) (place c.see_word-found.new.s) i.reach i.least c.see_word-found.result.1 (sym f.found ∙ c.if-found.true) (f.moved c.if-found.true) f.reach c.self.invariant.looks
    ∙ ap (λ (v : Sight). went (length w) (saw_word 0 w v)) c.self.view_is)
