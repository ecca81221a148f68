use Rattle.typst_parser.proofs.source.Source.with_root.Goals as goal

pub invariant_of-result : goal.invariant_of-result
invariant_of-result g c = record { records = λ has. absurd (cc); between = c.front_of-boundary.ensures.boundary }
