use Rattle.typst_flat.proofs.Cited.{◌≡◌, vec_len, IsReady, rows}
use Rattle.typst_flat.proofs.walk.Walk.come_below.Given as goal

abbrev pub invariant-rows : goal.invariant-rows
invariant-rows l = record {
  root : l.self.root.now ≡ l.fn.self.root.now;
  stretch : l.self.stretch ≡ l.fn.self.stretch;
  number : l.self.number ≡ l.fn.self.number;
  ready : IsReady l.fn.self.root.now l.fn.self.number (rows l.self);
}

abbrev pub decreases-rows : goal.decreases-rows
decreases-rows l = vec_len l.self.rows
