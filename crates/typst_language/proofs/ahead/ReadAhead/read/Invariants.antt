use Rattle.typst_language.proofs.Cited.{◌≡◌, ◌≤◌, ◌-◌, ◌^◌, length, place, Stands, joined_hull, token_hull}
use Rattle.typst_language.proofs.Trivia.{Along, Looking}
use Rattle.typst_language.proofs.ahead.ReadAhead.read.Given as goal

abbrev pub invariant-tokens : goal.invariant-tokens
invariant-tokens g l =
    let k = g.C.Classes.classes l.classes in
    let m = l.held.mode in
    let own = token_hull k m (place l.start) in
    record {
      before : l.self.before ≡ l.fn.self.before;
      along : Along k m l.newlines l.trivia.items (place l.self.before) (place l.start);
      text : l.start.text.now ≡ l.self.before.text.now;
      line : l.self.line.text.now ≡ l.self.before.text.now;
      looks : own.least ≤ 2 ^ 64 - 1 → Looking k m (place l.self.before) (place l.start) (joined_hull l.tokens own);
      stands : Stands l.fn.self → Stands l.self;
    }

abbrev pub decreases-tokens : goal.decreases-tokens
decreases-tokens g l = length (place l.start).ahead
