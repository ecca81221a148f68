use Rattle.typst_features.proofs.Cited.{◌≡◌, ◌++◌, drop, length, map, text_of, reported, own}
use Rattle.typst_features.proofs.report.add_own.Given as goal

abbrev pub invariant-loop-diagnostic : goal.invariant-loop-diagnostic
invariant-loop-diagnostic l =
    map reported l.found.items ++ own l.start (length (text_of l.node)) (drop l.diagnostic-index l.diagnostic-items) ≡ map reported l.fn.found.items ++ own l.start (length (text_of l.node)) l.node.head.diagnostics
