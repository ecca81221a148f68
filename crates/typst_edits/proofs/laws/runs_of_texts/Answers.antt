use Rattle.std.proofs.Common.{refl}
use Rattle.typst_edits.proofs.laws.runs_of_texts.Goals as goal
use Rattle.typst_edits.proofs.Computing.{computing}

pub returns : goal.returns
unfolding computing
returns c = λ beyond. record { old_lengths = refl; new_lengths = refl; same_value = refl; same_state = refl; none_after = refl; star_value = refl; star_state = refl; star_behind = refl; star_before = refl; star_after = refl; nesting_old = refl; nesting_new = refl; line_old = refl; line_new = refl; seen_before = refl; comment_lengths = refl; comment_value = refl; comment_state = refl; joint_old = refl; joint_new = refl; joint_gaps = refl; lines = refl; joint_starts = refl; joint_reach = refl; joint_least = refl }
