use Rattle.typst_markup.proofs.Cited.{does-gives, does-pick, does-other, delimiter_if}
use Rattle.typst_markup.proofs.delimited.delimiter_if.Goals as goal

pub returns-in_ok-delimiter : goal.returns-in_ok-delimiter
unfolding delimiter_if
returns-in_ok-delimiter g c l h = does-pick c.if-comes.true (c.in_ok-delimiter.ensures l h)

pub returns-else-comes : goal.returns-else-comes
unfolding delimiter_if
returns-else-comes g c l h = does-other c.if-comes.false does-gives
