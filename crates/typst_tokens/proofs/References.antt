-- Names of labels and references.
use Rattle.typst_tokens.proofs.Cited.{◌≡◌, ℕ, Bool, ◌||◌, ◌==◌, List, length, take, sym, ap, subst, ◌∙◌, prefix_len, Place, run}
use Rattle.typst_lines.proofs.Trimmed.{last-taken}
use Rattle.typst_lines.specs.Labels.{ref_name}

-- the name of a reference stands ahead
pub name-ahead : (test : ℕ → Bool) (z : Place) (s t : List ℕ) → s ≡ run test z → t ≡ ref_name s → take (length t) z.ahead ≡ t
name-ahead test z s t e f = subst (λ x. take (length x) z.ahead ≡ x) (sym (f ∙ ap ref_name e)) (last-taken (λ c. c == 58 || c == 46) (prefix_len test z.ahead) z.ahead)
