use Rattle.typst_lines.proofs.Cited.{◌≡◌, ◌-◌, length, ℕ, Bool, IsScalar, IsCharBoundary, place_at, past}
use Rattle.typst_lines.proofs.scanner.Scanner.eat_while_fn.Given as goal

abbrev pub invariant-loop-c : goal.invariant-loop-c
invariant-loop-c g l =
    record {
      callable : goal.F-IsAlwaysCallable g l.test;
      boundary : IsCharBoundary l.text l.at;
      past : (p : ℕ → Bool) → ((c : ℕ) (r : Bool) → IsScalar c → goal.F-post g l.test c r → r ≡ p c) → past p (place_at l.text l.at) ≡ past p (place_at l.text l.fn.self.cursor);
    }

abbrev pub decreases-loop-c : goal.decreases-loop-c
decreases-loop-c g l = length l.text - l.at
