use Rattle.typst_candidates.proofs.Cited.{common_steps, ◌≡◌, ◌+◌, ◌-◌, ◌≤◌, ◌∙◌, length, take, drop, ap, sym, arith, spans, wides}
use Rattle.typst_candidates.proofs.Blocks.{block-of}
use Rattle.typst_candidates.proofs.Spans.{wides-more}
use Rattle.typst_candidates.proofs.Words.{unpacked-length}
use Rattle.typst_candidates.proofs.entries.WordCursor.pass_block_back.Goals as goal

pub invariant_of-self : goal.invariant_of-self
invariant_of-self c = grind (arith, wides-more c.self.inside.words.now c.in_ok-number.number 16)

pub returns-clause-some : goal.returns-clause-some
returns-clause-some c =
    let n = c.self.inside.number in
    let m = c.in_ok-number.number in
    let ps = c.self.inside.words.now in
    let long : n - m ≡ 16 = omega arith in
    let whole : m + 16 ≡ n = omega arith in
    let none : wides (take 16 (drop m ps)) ≡ 0 = sym (ap (λ k. wides (take k (drop m ps))) long) ∙ c.in_ok-span.ensures.0 in
    let sum : c.in_ok-span.span ≡ spans (take 16 (drop m ps)) = c.in_ok-span.ensures.1 ∙ ap (λ k. spans (take k (drop m ps))) long in
    let fits : m + 16 ≤ length ps = omega (arith, whole) in
    let b = block-of ps _ m 16 c.in_ok-span.span fits c.self.invariant.2 none sum in
    let count = unpacked-length ps _ c.self.invariant.2 in
    let less = c.if-span-most.false in
    grind (arith, common_steps)
