use Rattle.typst_tokens.proofs.Cited.{◌∙◌, ap, sym, subst, place, sight_of, either, pairs_len, went_past_pairs, Covers}
use Rattle.typst_tokens.proofs.PairRuns.{covers-pairs}
use Rattle.typst_tokens.proofs.Sights.{ran}
use Rattle.typst_tokens.proofs.Lines.{line-kept}
use Rattle.typst_tokens.proofs.cursor.Cursor.go_past.Goals as goal

pub invariant_of-self : goal.invariant_of-self
invariant_of-self g c =
    let i = c.self.inside in
    let p = c.past_pairs-c in
    let test = either (g.P.CharSet.members c.args.set.now) (g.P.PairSet.before c.args.set.now) in
    record { looks = subst Covers (sym (ran (pairs_len test (place i.s).ahead) (place i.s) (place p.new.s) (place p.result.0) p.result.1 i.reach i.least c.max-self-inside.result c.end_of.result c.max-self-inside.ensures c.end_of.ensures p.ensures.after p.ensures.next p.ensures.moved)) (covers-pairs test (sight_of i) c.self.invariant.looks); line = line-kept _ _ _ _ (c.past_pairs-c.ensures.same_text) c.self.invariant.line }

pub returns-clause-sight : goal.returns-clause-sight
returns-clause-sight g c =
    let i = c.self.inside in
    let p = c.past_pairs-c in
    let test = either (g.P.CharSet.members c.args.set.now) (g.P.PairSet.before c.args.set.now) in
    ran (pairs_len test (place i.s).ahead) (place i.s) (place p.new.s) (place p.result.0) p.result.1 i.reach i.least c.max-self-inside.result c.end_of.result c.max-self-inside.ensures c.end_of.ensures p.ensures.after p.ensures.next p.ensures.moved
    ∙ ap (went_past_pairs test) c.self.view_is
