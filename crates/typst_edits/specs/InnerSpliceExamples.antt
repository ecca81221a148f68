-- Units of short texts before an edit in a content block and after it, as it follows from the definitions.
use Rattle.std.specs.Prelude.{◌≡◌, [], ◌∷◌, codes}
use Rattle.typst_lines.specs.Classes.{CharClasses, by_law}
use Rattle.typst_edits.specs.SpliceExamples.{steps}

-- what is computed
pub record InnerSplices (beyond : CharClasses) : Type 0 where
  -- the `b` goes from before a space: the block ends one after the token that its end was noted before, and then two after where its run begins
  pub space_old : steps (by_law beyond) (codes "@a[b ]") ≡ 0 ∷ 2 ∷ 1 ∷ 1 ∷ 1 ∷ 0 ∷ []
  pub space_new : steps (by_law beyond) (codes "@a[ ]") ≡ 0 ∷ 2 ∷ 1 ∷ 2 ∷ 0 ∷ []
  -- where no trivia are after it, its entry goes and the others stay
  pub bare_old : steps (by_law beyond) (codes "@a[b]") ≡ 0 ∷ 2 ∷ 1 ∷ 1 ∷ 1 ∷ 0 ∷ []
  pub bare_new : steps (by_law beyond) (codes "@a[]") ≡ 0 ∷ 2 ∷ 1 ∷ 1 ∷ 0 ∷ []
