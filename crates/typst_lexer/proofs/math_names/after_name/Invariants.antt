use Rattle.typst_lexer.proofs.Cited.{◌≡◌, false, length, passes, scout, after_name, continues, Covers, sight}
use Rattle.typst_lexer.proofs.FieldNames.{rest}
use Rattle.typst_lexer.proofs.math_names.after_name.Given as goal

abbrev pub invariant-loop-s : goal.invariant-loop-s
invariant-loop-s g l =
    let k = g.C.Classes.classes l.classes in
    record {
      reads : sight (rest k) l.s ≡ sight (after_name k) l.fn.s;
      stops : passes (continues k) (scout 0 l.s.place) ≡ false;
      covers : Covers l.s;
    }

abbrev pub decreases-loop-s : goal.decreases-loop-s
decreases-loop-s g l = length l.s.place.ahead
