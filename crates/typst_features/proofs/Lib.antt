-- From what a contract promises to the lemma behind it:
--   problems                                    VisitedProblems: own_of, of_walk, of_diagnosed
--   shown_problems                              ShownProblems: from_start; left_pushed, steps_pushed: the last row comes first
--   push_row, past_unmarked (typing)            ShownProblems: left_pushed, steps_pushed, none_left; past_clean
--   Shown: add, add_own                         ShownProblems: takes_more, about_saturated
--   behind_opening, behind_at, before_closing   LabelNames: stripped_first, stripped_last
--   mentions, push_row, take_next (naming)      MentionsFound: left_pushed, steps_pushed, none_left; joined
--   add_own (naming), Mention::of               MentionsFound: added, passed_over; made
--   definitions, references                     MentionsFound: kept
--   mention_holding                             MentionsHeld: in_kid, in_itself
--   name_named, bound_named, label_named        NamedThere: named; lent; occurred
pub mod Cited
pub mod VisitedProblems
pub mod ShownProblems
pub mod LabelNames
pub mod MentionsFound
pub mod MentionsHeld
pub mod NamedThere
