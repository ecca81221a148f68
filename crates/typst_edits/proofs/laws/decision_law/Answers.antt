use Rattle.typst_edits.proofs.RunBytes.{inner-decision-law, run-decision-law, joint-decision-law}
use Rattle.typst_edits.proofs.Bytes.{decision-law}
use Rattle.typst_edits.proofs.laws.decision_law.Goals as goal

pub returns : goal.returns
returns c = record { blocks = decision-law; pieces = run-decision-law; joint = joint-decision-law; inner = inner-decision-law }
