use Rattle.typst_tree.proofs.Cited.{◌≡◌, take, false, forest, have_diagnostics}
use Rattle.typst_tree.proofs.replace.have_diagnostics.Given as goal

abbrev pub invariant-loop-kid : goal.invariant-loop-kid
invariant-loop-kid l = have_diagnostics (forest (take l.kid-index l.kids)) ≡ false
