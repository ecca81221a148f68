-- Candidates of a tree by all of it but its spans.
use Rattle.std.specs.Prelude.{◌≡◌, ℕ, List}
use Rattle.typst_language.specs.declared.calls.Note.{Note}
use Rattle.typst_tree.specs.Tree.{Tree, bare}
use Rattle.typst_candidates.specs.Candidates.{candidates}

-- Trees that are the same, spans aside, have the same candidates.
abbrev pub BareCandidatesLaw : Type 0
BareCandidatesLaw = (notes : List Note) (start end : ℕ) (t u : Tree) → bare t ≡ bare u → candidates notes start end t ≡ candidates notes start end u
