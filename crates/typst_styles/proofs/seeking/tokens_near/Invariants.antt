use Rattle.typst_styles.proofs.Cited.{◌≡◌, ◌++◌, AreRows, left_of_all, steps_all, all_tokens, touching}
use Rattle.typst_styles.proofs.seeking.tokens_near.Given as goal

abbrev pub invariant-loop-row : goal.invariant-loop-row
invariant-loop-row l = record {
  found : touching l.wanted.within.now (l.found.items ++ left_of_all l.wanted.text.now l.wanted.root.now l.rows.items) ≡ touching l.wanted.within.now (all_tokens l.wanted.text.now l.wanted.root.now);
  rows : AreRows l.wanted.root.now l.rows.items;
}

abbrev pub decreases-loop-row : goal.decreases-loop-row
decreases-loop-row l = steps_all l.rows.items
