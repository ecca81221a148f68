use Rattle.typst_edits.proofs.CandidatePlaces.{bare-candidates-law, candidate-places-law, candidate-tree-law}
use Rattle.typst_edits.proofs.laws.candidates_law.Goals as goal

pub returns : goal.returns
returns c = record { spans = bare-candidates-law; places = candidate-places-law; tree = candidate-tree-law }
