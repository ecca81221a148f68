-- The table of rules has the rule of each kind at its place.
use Rattle.typst_highlight.proofs.Cited.{◌≡◌, ℕ, ap, ◌∙◌, slice_index_or, arith, SyntaxKind, Rule, rule_of, place_of}
use Rattle.typst_highlight.specs.declared.rules.TheConstants.{RULES}

pub rule_at : (x : Rule) (k : SyntaxKind) → slice_index_or RULES.now (place_of k) x ≡ rule_of k
unfolding place_of
rule_at x k = grind arith

pub rule_placed : (x : Rule) (n : ℕ) (k : SyntaxKind) → n ≡ place_of k → slice_index_or RULES.now n x ≡ rule_of k
rule_placed x n k e = ap (λ i. slice_index_or RULES.now i x) e ∙ rule_at x k
