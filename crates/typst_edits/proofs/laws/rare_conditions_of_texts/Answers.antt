use Rattle.std.proofs.Common.{refl}
use Rattle.typst_edits.proofs.laws.rare_conditions_of_texts.Goals as goal
use Rattle.typst_edits.proofs.Computing.{computing}

pub returns : goal.returns
unfolding computing
returns c = λ beyond. record { column_ends = refl; column_gaps = refl; column_newlines = refl; column_value = refl; column_state = refl; column_after = refl; column_old = refl; column_new = refl; depth_ends = refl; depth_state = refl; depth_old = refl; depth_new = refl; given_up_at = refl; given_up_ends = refl; given_up_nodes = refl; given_up_none = refl; given_up_tree = refl; ahead_before = refl; ahead_after = refl; ahead_ends = refl; ahead_old = refl; ahead_new = refl; back_before = refl; back_after = refl; back_ends = refl; back_old = refl; back_new = refl; unparened_paths = refl; unparened_kinds = refl; renamed_paths = refl; renamed_kinds = refl; renamed_none = refl }
