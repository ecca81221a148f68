use Rattle.typst_tokens.proofs.Cited.{◌≡◌, ◌∙◌, ap, sym, false, arith, passes, scout, place, either, past_pairs}
use Rattle.typst_tokens.proofs.PairRuns.{pairs-past, past-stops, run-ends, run-on, run-shortens}
use Rattle.typst_tokens.proofs.pairs.past_pairs.Goals as goal

pub returns-then-not-passes-clause-moved : goal.returns-then-not-passes-clause-moved
returns-then-not-passes-clause-moved g c =
    let alone = g.P.CharSet.members c.args.set.now in
    let pairs = g.P.PairSet.before c.args.set.now in
    let z = place c.past_ascii.new.s in
    let y = place c.eat_while.new.self in
    let e = c.eat_while.ensures.moved in
    let stops : passes alone (scout 0 y) ≡ false = ap (λ x. passes alone (scout 0 x)) e ∙ past-stops alone z in
    sym (run-ends alone pairs c.eat-next.result c.eat.result y (place c.eat-next.new.self) c.eat-next.ensures.next c.eat-next.ensures.moved c.eat.ensures.next stops (sym c.passes.ensures ∙ c.if-not-passes.true))
    ∙ ap (past_pairs (either alone pairs)) e ∙ pairs-past alone pairs z ∙ c.past_ascii.ensures.past ∙ c.runs.invariant.past

pub runs-smaller : goal.runs-smaller
runs-smaller g c = grind (arith, run-shortens)

pub runs-preserved : goal.runs-preserved
runs-preserved g c =
    let alone = g.P.CharSet.members c.args.set.now in
    let pairs = g.P.PairSet.before c.args.set.now in
    let z = place c.past_ascii.new.s in
    let y = place c.eat_while.new.self in
    record {
      past =
          run-on alone pairs c.eat-next.result c.eat.result y (place c.eat-next.new.self) c.eat-next.ensures.next c.eat-next.ensures.moved c.eat.ensures.next (sym c.passes.ensures ∙ c.if-not-passes.false)
          ∙ ap (past_pairs (either alone pairs)) c.eat_while.ensures.moved ∙ pairs-past alone pairs z ∙ c.past_ascii.ensures.past ∙ c.runs.invariant.past;
      text = c.eat-next.ensures.same_text ∙ c.eat_while.ensures.same_text ∙ c.past_ascii.ensures.same_text ∙ c.runs.invariant.text;
    }
