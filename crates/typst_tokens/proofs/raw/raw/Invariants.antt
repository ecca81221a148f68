use Rattle.typst_tokens.proofs.Cited.{◌≡◌, ◌≤◌, length, Covers, position, sight, raw}
use Rattle.typst_tokens.proofs.RawTexts.{rest}
use Rattle.typst_tokens.proofs.raw.raw.Given as goal

abbrev pub invariant-loop-c : goal.invariant-loop-c
invariant-loop-c l =
    record {
      reads : sight (rest l.backticks l.found) l.s ≡ sight raw l.fn.s;
      covers : Covers l.s;
      long : l.found ≤ position l.s.place;
    }

abbrev pub decreases-loop-c : goal.decreases-loop-c
decreases-loop-c l = length l.s.place.ahead
