use Rattle.typst_tokens.proofs.Cited.{◌≡◌, ◌-◌, length, place, either}
use Rattle.typst_tokens.proofs.PairRuns.{RunsOn}
use Rattle.typst_tokens.proofs.pairs.past_ascii.Given as goal

abbrev pub invariant-fours : goal.invariant-fours
invariant-fours g l =
    let test = either (g.P.CharSet.members l.set) (g.P.PairSet.before l.set) in
    record {
      bytes : l.bytes ≡ l.s.text.now;
      runs : RunsOn test l.s.text.now (place l.fn.s) l.at;
      text : l.s.text.now ≡ l.fn.s.text.now;
    }

abbrev pub decreases-fours : goal.decreases-fours
decreases-fours g l = length l.bytes - l.at

abbrev pub invariant-ones : goal.invariant-ones
invariant-ones g l =
    let test = either (g.P.CharSet.members l.set) (g.P.PairSet.before l.set) in
    record {
      bytes : l.bytes ≡ l.s.text.now;
      runs : RunsOn test l.s.text.now (place l.fn.s) l.at;
      text : l.s.text.now ≡ l.fn.s.text.now;
    }

abbrev pub decreases-ones : goal.decreases-ones
decreases-ones g l = length l.bytes - l.at
