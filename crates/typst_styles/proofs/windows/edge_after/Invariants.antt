use Rattle.typst_styles.proofs.Cited.{◌≡◌, take, saturated, bytes_of}
use Rattle.typst_styles.proofs.windows.edge_after.Given as goal

abbrev pub invariant-loop-index : goal.invariant-loop-index
invariant-loop-index l = l.start ≡ saturated (bytes_of (take l.index l.nodes))
