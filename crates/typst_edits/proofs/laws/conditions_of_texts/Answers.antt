use Rattle.std.proofs.Common.{refl}
use Rattle.typst_edits.proofs.laws.conditions_of_texts.Goals as goal
use Rattle.typst_edits.proofs.Computing.{computing}

pub returns : goal.returns
unfolding computing
returns c = λ beyond. record { code_places = refl; code_paths = refl; code_levels = refl; none_lost = refl; step_indices = refl; step_starts = refl; ahead_seen = refl; ahead_after = refl; ahead_ends = refl; ahead_value = refl; ahead_state = refl; ahead_old = refl; ahead_new = refl; end_lengths = refl; end_value = refl; end_state = refl; end_old = refl; end_new = refl; nesting_state = refl; nesting_old = refl; nesting_new = refl; error_ends = refl; error_value = refl; error_old = refl; error_new = refl; error_back = refl; error_none = refl; block_ends = refl; block_old = refl; block_new = refl }
