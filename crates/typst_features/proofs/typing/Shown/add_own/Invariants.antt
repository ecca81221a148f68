use Rattle.typst_features.proofs.Cited.{◌≡◌, List, ◌++◌, drop, length, text_of, told, Inside, own_in}
use Rattle.typst_features.proofs.typing.Shown.add_own.Given as goal

abbrev pub invariant-loop-diagnostic : goal.invariant-loop-diagnostic
invariant-loop-diagnostic l =
    (ps : List Inside) → told l.self (own_in l.end l.start (length (text_of l.node)) (drop l.diagnostic-index l.diagnostic-items) ++ ps)
    ≡ told l.fn.self (own_in l.end l.start (length (text_of l.node)) l.node.head.diagnostics ++ ps)
