use Rattle.std.proofs.Common.{refl}
use Rattle.std.proofs.lemmas.Str.{chars-nil, IsCharBoundary-start}
use Rattle.typst_probe.proofs.compared.found.Goals as goal

-- a text begins at a boundary of its characters
pub new-requires-clause-boundary : goal.new-requires-clause-boundary
new-requires-clause-boundary c = IsCharBoundary-start c.args.text.now c.utf8.text

-- no unit stands before the start
pub new-requires-clause-units : goal.new-requires-clause-units
new-requires-clause-units c = rw chars-nil refl
