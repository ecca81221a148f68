use Rattle.typst_edits.proofs.Cited.{[], codes, refl, arith, by_law, start_of, asked_past}
use Rattle.typst_edits.specs.SpliceExamples.{newline}
use Rattle.typst_edits.proofs.Begins.{begins-all}
use Rattle.typst_edits.proofs.laws.splices_of_texts.Goals as goal
use Rattle.typst_edits.proofs.Computing.{computing}

pub returns : goal.returns
unfolding computing
returns c = λ beyond. record {
  start_passes = record {
    encloses = tt;
    first_go = tt;
    old_go = (refl, tt);
    new_go = tt;
    before = λ l. absurd (omega (arith, l));
    ends = refl;
    after = begins-all 1 (codes "\nb") (asked_past (by_law beyond) 0 1 newline (start_of (codes "a\nb"))) refl;
    shifted = refl;
    meets = record { known = refl; known_now = refl; value = λ o. refl; over = λ o k. refl; errors = λ o m. refl };
  };
  start_old = refl;
  start_new = refl;
  end_old = refl;
  end_new = refl;
}
