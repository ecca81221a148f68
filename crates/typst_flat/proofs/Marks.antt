-- What single bits say of a node that isn't marked.
use Rattle.typst_flat.proofs.Cited.{◌≡◌, false, arith, cond, Tree, has_diagnostics, flags_of, is_error}

pub usual_flags : (t : Tree) → has_diagnostics t ≡ false → is_error t.head.kind ≡ false → flags_of t.head ≡ cond t.head.is_inner 1 0
usual_flags t e f = grind arith
