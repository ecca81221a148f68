use Rattle.typst_tokens.proofs.Cited.{◌≡◌, length, place, either, past_pairs}
use Rattle.typst_tokens.proofs.pairs.past_pairs.Given as goal

abbrev pub invariant-runs : goal.invariant-runs
invariant-runs g l =
    record {
      past : past_pairs (either (g.P.CharSet.members l.set) (g.P.PairSet.before l.set)) (place l.at) ≡ past_pairs (either (g.P.CharSet.members l.set) (g.P.PairSet.before l.set)) (place l.fn.s);
      text : l.at.text.now ≡ l.fn.s.text.now;
    }

abbrev pub decreases-runs : goal.decreases-runs
decreases-runs g l = length (place l.at).ahead
