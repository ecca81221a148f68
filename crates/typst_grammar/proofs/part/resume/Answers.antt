use Rattle.typst_grammar.proofs.Cited.{subst, sym, arith, IsCharBoundary}
use Rattle.typst_grammar.proofs.part.resume.Goals as goal

pub jump-requires : goal.jump-requires
jump-requires c = subst (λ s. IsCharBoundary s c.args.at) (sym c.new-start.ensures.text) c.requires

pub returns : goal.returns
returns c = grind arith
