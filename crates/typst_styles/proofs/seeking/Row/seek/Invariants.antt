use Rattle.typst_styles.proofs.Cited.{◌≡◌, ◌≤◌, IsRow, left_of, steps_left, touching}
use Rattle.typst_styles.proofs.seeking.Row.seek.Given as goal

abbrev pub invariant-nodes : goal.invariant-nodes
invariant-nodes l = record {
  row : IsRow l.wanted.root.now l.self;
  left : touching l.wanted.within.now (left_of l.wanted.text.now l.wanted.root.now l.fn.self) ≡ touching l.wanted.within.now (left_of l.wanted.text.now l.wanted.root.now l.self);
  steps : steps_left l.self ≤ steps_left l.fn.self;
}

abbrev pub decreases-nodes : goal.decreases-nodes
decreases-nodes l = steps_left l.self
