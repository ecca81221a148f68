use Rattle.typst_edits.proofs.Cited.{codes, refl, arith, by_law, start_of, asked_past}
use Rattle.typst_edits.specs.JointExamples.{no_trivia, two_comments, a_comment}
use Rattle.typst_edits.proofs.Begins.{begins-all}
use Rattle.typst_edits.proofs.Joint.{ends-alike}
use Rattle.typst_edits.proofs.laws.joints_of_texts.Goals as goal
use Rattle.typst_edits.proofs.Computing.{computing}

pub returns : goal.returns
unfolding computing
returns c = λ beyond. record {
  newlines_pass = record {
    encloses = tt;
    first_go = tt;
    old_go = (refl, tt);
    new_go = (refl, tt);
    before = λ l. absurd (omega (arith, l));
    ends = refl;
    after = begins-all 6 (codes "\n/*d*/b~e") (asked_past (by_law beyond) 0 1 two_comments (start_of (codes "a\n//c\n/*d*/b~e"))) refl;
    shifted = refl;
    meets = record { known = refl; known_now = refl; value = λ o. refl; over = λ o k. refl; errors = λ o m. refl };
  };
  link_lengths = refl;
  link_now = refl;
  link_passes = record {
    encloses = tt;
    first_go = tt;
    old_go = (refl, (refl, (refl, (refl, tt))));
    new_go = (refl, tt);
    before = λ l. absurd (omega (arith, l));
    ends = refl;
    after = begins-all 6 (codes "b/*d*/{c") (asked_past (by_law beyond) 0 4 a_comment (start_of (codes "https:~b/*d*/{c"))) refl;
    shifted = refl;
    meets = record { known = refl; known_now = refl; value = λ o. refl; over = λ o k. refl; errors = λ o m. refl };
  };
  nesting_old = refl;
  nesting_now = refl;
  nesting_passes = record {
    encloses = tt;
    first_go = tt;
    old_go = (refl, (refl, (refl, tt)));
    new_go = (refl, (refl, (refl, tt)));
    before = λ l. absurd (omega (arith, l));
    ends = refl;
    after = begins-all 1 (codes "b") (asked_past (by_law beyond) 0 3 no_trivia (start_of (codes "a~b"))) refl;
    shifted = refl;
    meets = record { known = refl; known_now = refl; value = λ o. cc; over = λ o k. ends-alike 1 0 k; errors = λ o. cc };
  };
  own_nodes = refl;
  line_values = refl;
  line_over = refl;
}
