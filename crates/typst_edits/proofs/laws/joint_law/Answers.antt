use Rattle.typst_edits.proofs.Joint.{inner-joint-law, joint-law}
use Rattle.typst_edits.proofs.laws.joint_law.Goals as goal

pub returns : goal.returns
returns c = record { pieces = joint-law; inner = inner-joint-law }
