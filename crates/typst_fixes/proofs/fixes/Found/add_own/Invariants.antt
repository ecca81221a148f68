use Rattle.typst_fixes.proofs.Cited.{◌≡◌, ◌++◌, drop, flat_map, of_diagnostic, stated, around}
use Rattle.typst_fixes.proofs.fixes.Found.add_own.Given as goal

abbrev pub invariant-loop-diagnostic : goal.invariant-loop-diagnostic
invariant-loop-diagnostic l =
    stated l.self.fixes.items ++ flat_map (of_diagnostic l.within (around l.site)) (drop l.diagnostic-index l.diagnostic-items)
    ≡ stated l.fn.self.fixes.items ++ flat_map (of_diagnostic l.within (around l.site)) l.site.node.node.now.head.diagnostics
