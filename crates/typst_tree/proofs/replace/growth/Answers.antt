use Rattle.typst_tree.proofs.Cited.{arith}
use Rattle.typst_tree.proofs.Growth.{growth_found, growth_ends, growth_goes}
use Rattle.typst_tree.proofs.replace.growth.Goals as goal

pub returns-then-has_room : goal.returns-then-has_room
returns-then-has_room c = grind (arith, growth_found)

pub returns-then-is_all : goal.returns-then-is_all
returns-then-is_all c = grind (arith, growth_ends)

pub loop-preserved : goal.loop-preserved
loop-preserved c = grind (arith, growth_goes)
