use Rattle.typst_edits.proofs.Cited.{refl, arith, false, [], ◌∷◌, CharClasses, by_law, Trivia, no_newlines, Gives, start_before, asked_past, Candidate, part, ℕ, codes}
use Rattle.typst_edits.specs.AnswerExamples.{plus, first_four, new_four}
use Rattle.typst_edits.specs.Frame.Gives.{of_pieces}
use Rattle.typst_edits.specs.Frame.Run.{top}
use Rattle.typst_edits.proofs.Begins.{begins-all}
use Rattle.typst_edits.proofs.laws.answers_of_texts.Goals as goal
use Rattle.typst_edits.proofs.Computing.{computing}

-- the children from the first on
abbrev whole_to : ℕ → ℕ → Candidate
whole_to n end = record { is_block = false; path = []; from = 0; to = n; start = 0; end = end }

abbrev no_trivia : Trivia
no_trivia = record { nodes = []; gap = 0; newlines = no_newlines }

-- The first candidate of `abc~def~gh~`, where a plus replaces the `e`.
first-passes : (beyond : CharClasses) → Gives (by_law beyond) plus first_four new_four
unfolding computing
first-passes beyond = of_pieces top 0 4 4 2 no_trivia no_trivia refl refl refl ((λ h. h), (λ h. h)) refl (record {
  first_go = tt;
  old_go = (refl, (refl, (refl, (refl, tt))));
  new_go = (refl, (refl, (refl, (refl, tt))));
  before = λ h. absurd (omega (arith, h));
  after = begins-all 2 (codes "f~gh~") (asked_past (by_law beyond) 0 4 no_trivia (start_before plus)) refl;
  known = refl;
  known_now = refl;
  ends = refl;
  shifted = refl;
  agrees = (omega arith, refl);
}) refl

pub returns-clause-answer : goal.returns-clause-answer
unfolding computing
returns-clause-answer c = λ beyond. record {
  words = refl;
  passes = first-passes beyond;
  answer = λ was now e. part [] first_four (whole_to 5 10 ∷ whole_to 6 11 ∷ []) new_four refl tt (first-passes beyond) e refl refl;
}

pub returns-clause-conditions : goal.returns-clause-conditions
unfolding computing
returns-clause-conditions c = λ beyond. record { looks_before = refl; end_old = refl; end_new = refl; carried_old = refl; carried_new = refl; carried_ends = refl; open_old = refl; open_new = refl; block_ends = refl }
