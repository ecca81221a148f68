use Rattle.typst_tokens.proofs.Cited.{◌≡◌, length, string, Covers, sight}
use Rattle.typst_tokens.proofs.StringSteps.{rest}
use Rattle.typst_tokens.proofs.strings.string.Given as goal

abbrev pub invariant-loop-c : goal.invariant-loop-c
invariant-loop-c l =
    record {
      reads : sight (rest l.escaped) l.s ≡ sight string l.fn.s;
      covers : Covers l.s;
    }

abbrev pub decreases-loop-c : goal.decreases-loop-c
decreases-loop-c l = length l.s.place.ahead
