use Rattle.typst_language.proofs.Steps.{does-gives, does-pick, does-other}
use Rattle.typst_code.proofs.imports.imported_if.Goals as goal

pub returns-in_ok-imported : goal.returns-in_ok-imported
returns-in_ok-imported g c l h = does-pick c.if-colon.true (c.in_ok-imported.ensures l h)

pub returns-else-colon : goal.returns-else-colon
returns-else-colon g c l h = does-other c.if-colon.false does-gives
