use Rattle.typst_code.proofs.Cited.{Level, bytes_left, Fills, becomes, Blocks, conditional_turn, Nests}
use Rattle.typst_kinds.specs.declared.kind.SyntaxKind.TheVariants as kind
use Rattle.typst_code.proofs.statements.conditional.Given as goal

abbrev pub invariant-turns : goal.invariant-turns
invariant-turns g l = (v : Level) → Fills v (g.L.Levels.frame l.g) → Blocks v → Nests v (λ _. becomes kind.Conditional) conditional_turn tt l.fn.p l.froms.items tt l.p

abbrev pub decreases-turns : goal.decreases-turns
decreases-turns g l = bytes_left l.p.place
