use Rattle.typst_language.proofs.Cited.{common_steps, append_assoc, arith}
use Rattle.typst_language.proofs.Places.{moved-sum}
use Rattle.typst_language.proofs.Ready.{taken-is}
use Rattle.typst_language.proofs.parser.Parser.take.Goals.{then-trims, else-trims}
use Rattle.typst_language.proofs.parser.Parser.take.Goals as goal

pub invariant_of-self-2 : goal.invariant_of-self-2
invariant_of-self-2 c = grind (arith, common_steps)

pub returns : goal.returns
returns c l making e = grind (arith, then-trims, else-trims, append_assoc, moved-sum, taken-is)
