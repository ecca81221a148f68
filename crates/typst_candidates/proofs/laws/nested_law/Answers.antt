use Rattle.typst_candidates.proofs.Nested.{closing-found, inner-pieces, top-pieces}
use Rattle.typst_candidates.proofs.laws.nested_law.Goals as goal

pub returns-clause-top : goal.returns-clause-top
returns-clause-top c = top-pieces

pub returns-clause-inner : goal.returns-clause-inner
returns-clause-inner c = inner-pieces

pub returns-clause-closing : goal.returns-clause-closing
returns-clause-closing c = closing-found
