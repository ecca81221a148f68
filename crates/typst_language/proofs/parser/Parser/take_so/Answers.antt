use Rattle.typst_language.proofs.Cited.{common_steps, arith, text-is}
use Rattle.typst_language.proofs.Ready.{few-given, stands-passed}
use Rattle.typst_language.proofs.parser.Parser.take_so.Goals as goal

pub invariant_of-self-2 : goal.invariant_of-self-2
invariant_of-self-2 c = grind (arith, stands-passed, text-is, few-given)

pub returns : goal.returns
returns c = grind (arith, common_steps)
