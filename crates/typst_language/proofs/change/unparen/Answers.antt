use Rattle.typst_language.proofs.Cited.{◌-◌, arith, trees_forest}
use Rattle.typst_language.proofs.Parens.{unparened-is, other-stays, parens-stay}
use Rattle.typst_language.proofs.change.unparen.Goals as goal
use Rattle.typst_language.proofs.change.unparen.Goals.{then-not-is_delimited-via-then-not-is_delimited, then-not-is_delimited-via-else-not-is_delimited+then-not-in_parens}

pub returns-then-not-is_delimited : goal.returns-then-not-is_delimited
returns-then-not-is_delimited c = grind (arith, then-not-is_delimited-via-then-not-is_delimited, other-stays, then-not-is_delimited-via-else-not-is_delimited+then-not-in_parens, parens-stay)

pub returns : goal.returns
returns c = grind (arith, trees_forest, unparened-is)
