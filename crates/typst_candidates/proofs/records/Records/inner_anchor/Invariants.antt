use Rattle.typst_candidates.specs.Anchors.{IsAnchor}
use Rattle.typst_candidates.proofs.records.Records.inner_anchor.Given as goal

abbrev pub invariant-loop : goal.invariant-loop
invariant-loop l = record { found : IsAnchor l.self.units.entries l.found; anchor : IsAnchor l.self.units.entries l.anchor }
