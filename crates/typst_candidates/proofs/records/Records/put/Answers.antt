use Rattle.typst_candidates.proofs.Cited.{◌≡◌, ◌+◌, ◌-◌, ◌≤◌, ◌<◌, ◌%◌, ◌^◌, ◌++◌, suc, length, take, drop, ap, sym, ◌∙◌, arith, end_of, Kept}
use Rattle.std.proofs.lemmas.List.{length-append, length-take-le, take-append-drop, take-append-le}
use Rattle.typst_candidates.proofs.Tallies.{fewer}
use Rattle.typst_candidates.proofs.Rounds.{last-put}
use Rattle.typst_candidates.proofs.Walks.{end-sum}
use Rattle.typst_candidates.proofs.records.Records.put.Goals as goal

pub invariant_of-self : goal.invariant_of-self
invariant_of-self c =
    let es = c.self.inside.entries.entries in
    let qs = c.part.inside.entries.entries in
    let front = take (suc c.args.from) es in
    let upto = take (suc c.args.to) es in
    let after = drop (suc c.args.to) es in
    let last = c.self.inside.last in
    let parts : end_of 0 es ≡ end_of 0 upto + end_of 0 after = ap (end_of 0) (sym (take-append-drop (suc c.args.to) es)) ∙ end-sum 0 upto after in
    let was : last ≡ (end_of 0 upto + end_of 0 after) % 2 ^ 64 = c.self.invariant.0 ∙ ap (λ k. k % 2 ^ 64) parts in
    let is = ap (end_of 0) c.put-gone.ensures.entries in
    let new : (end_of 0 front + end_of 0 qs) + end_of 0 after ≡ end_of 0 c.put-gone.new.self.entries = omega (arith, (end-sum 0 front (qs ++ after)), end-sum 0 qs after, is) in
    let small : c.put-gone.result < 2 ^ 64 = omega arith in
    let one : c.args.from + 1 ≡ suc c.args.from = omega arith in
    let own = ap (λ (k : Kept). length k.units.entries) c.self.view_is in
    let few : suc c.args.from ≤ length front = (let l = length-take-le (suc c.args.from) es (omega (arith, own)) in omega (arith, l)) in
    let kept : take (c.args.from + 1) c.put-gone.new.self.entries ≡ take (c.args.from + 1) es =
    ap (λ n. take n c.put-gone.new.self.entries) one ∙ ap (take (suc c.args.from)) c.put-gone.ensures.entries ∙ take-append-le (suc c.args.from) front (qs ++ after) few ∙ sym (fewer (suc c.args.from) (suc c.args.from) es (omega arith)) ∙ sym (ap (λ n. take n es) one) in
    let long : c.args.from < length c.put-gone.new.self.entries = (let l = ap length c.put-gone.ensures.entries in let m = length-append front (qs ++ after) in omega (arith, l, m, few)) in
    let last_is = ap (λ k. ((last + (2 ^ 64 - c.put-gone.result)) % 2 ^ 64 + k) % 2 ^ 64) c.part.invariant.0
    ∙ last-put last _ (end_of 0 qs) (end_of 0 front) (end_of 0 upto) (end_of 0 after) was small c.put-gone.ensures.gone
    ∙ ap (λ k. k % 2 ^ 64) new in
    (last_is, c.upto-self-inside.ensures es c.put-gone.new.self.entries c.self.invariant.1 kept long)
