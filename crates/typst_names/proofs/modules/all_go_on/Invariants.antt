use Rattle.typst_names.proofs.Cited.{◌≡◌, drop, all_go_on}
use Rattle.typst_names.proofs.modules.all_go_on.Given as goal

abbrev pub invariant-loop-byte : goal.invariant-loop-byte
invariant-loop-byte l = all_go_on (drop l.byte-index l.rest) ≡ all_go_on l.rest
