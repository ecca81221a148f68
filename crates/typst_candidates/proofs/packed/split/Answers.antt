use Rattle.typst_candidates.proofs.Cited.{◌-◌, bit_and, ap, ◌∙◌, and_mask, one_shl}
use Rattle.typst_candidates.proofs.packed.split.Goals as goal

pub returns-clause-low : goal.returns-clause-low
returns-clause-low c = ap (λ m. bit_and c.args.both (m - 1)) (one_shl c.args.width 32 c.requires) ∙ and_mask c.args.both c.args.width
