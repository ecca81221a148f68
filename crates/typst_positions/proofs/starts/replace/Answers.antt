use Rattle.std.proofs.Common.{◌≡◌, ℕ, nat_le, count_by, ap, ◌∙◌, arith}
use Rattle.typst_positions.proofs.Shifts.{count-mono, put-moved}
use Rattle.typst_positions.proofs.starts.replace.Goals as goal

pub splice-requires-clause-order : goal.splice-requires-clause-order
splice-requires-clause-order c =
    let xs = c.args.starts.now.items in
    let first : c.count_to-first.result ≡ count_by (λ (s : ℕ). nat_le s c.args.before) xs = c.count_to-first.ensures.value ∙ ap (count_by (λ (s : ℕ). nat_le s c.args.before)) c.as_slice.ensures.value in
    let last : c.count_to-last.result ≡ count_by (λ (s : ℕ). nat_le s c.args.end) xs = c.count_to-last.ensures.value ∙ ap (count_by (λ (s : ℕ). nat_le s c.args.end)) c.as_slice-2.ensures.value in
    omega (arith, first, last, count-mono c.args.before c.args.end xs c.requires.ordered)

pub returns-clause-ok : goal.returns-clause-ok
returns-clause-ok c = grind (arith, put-moved)
