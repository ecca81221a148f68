use Rattle.typst_fixes.proofs.Cited.{◌≡◌, ◌++◌, drop, flat_map, of_hint, stated, around}
use Rattle.typst_fixes.proofs.fixes.Found.add_told.Given as goal

abbrev pub invariant-loop-hint : goal.invariant-loop-hint
invariant-loop-hint l =
    stated l.self.fixes.items ++ flat_map (of_hint (around l.fault.site) l.fault.problem) (drop l.hint-index l.hints) ≡ stated l.fn.self.fixes.items ++ flat_map (of_hint (around l.fault.site) l.fault.problem) l.hints
