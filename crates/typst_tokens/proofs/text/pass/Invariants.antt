use Rattle.typst_tokens.proofs.Cited.{◌≡◌, length, scout, Covers, saw, sight, text}
use Rattle.typst_tokens.proofs.Texts.{rest}
use Rattle.typst_tokens.proofs.text.pass.Given as goal

abbrev pub invariant-loop-next : goal.invariant-loop-next
invariant-loop-next g l =
    let k = g.C.Classes.classes l.classes in
    record {
      reads : sight (rest k) l.s ≡ sight (text k) l.fn.s;
      next : l.next ≡ scout 0 l.s.place;
      seen : saw 1 l.s ≡ l.s;
      covers : Covers l.s;
    }

abbrev pub decreases-loop-next : goal.decreases-loop-next
decreases-loop-next g l = length l.s.place.ahead
