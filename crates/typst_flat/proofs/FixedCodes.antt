-- The table of the numbers of tags, and what it tells of a node's tag.
use Rattle.typst_flat.proofs.Cited.{◌≡◌, ℕ, ap, ◌∙◌, arith, slice_index_or, SyntaxKind, fixed_code, place_of, rule_of}
use Rattle.typst_flat.specs.declared.tags.TheConstants.{FIXED_CODES}

-- the table has the number of each kind at its place
code_at : (x : ℕ) (k : SyntaxKind) → slice_index_or FIXED_CODES.now (place_of k) x ≡ fixed_code (rule_of k)
unfolding place_of
code_at x k = grind arith

pub code_placed : (x n : ℕ) (k : SyntaxKind) → n ≡ place_of k → slice_index_or FIXED_CODES.now n x ≡ fixed_code (rule_of k)
code_placed x n k e = ap (λ i. slice_index_or FIXED_CODES.now i x) e ∙ code_at x k
