use Rattle.typst_candidates.proofs.Looks.{front-law, rear-law}
use Rattle.typst_candidates.proofs.laws.looks_law.Goals as goal

pub returns-clause-front : goal.returns-clause-front
returns-clause-front c = front-law

pub returns-clause-rear : goal.returns-clause-rear
returns-clause-rear c = rear-law
