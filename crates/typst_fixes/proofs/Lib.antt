-- From what a contract promises to the lemma behind it:
--   quick_fixes, push_row, take_next (fixes)    FixesFound: left_pushed, steps_pushed, none_left; past_clean of past_unmarked
--   Found: push, add_told, add_own              FixesFound: pushed
--   takes_backslash                             Backslashes: in_long, in_short
--   is_kept, is_whole, label_of, last_value     WayToByte: goes_on; of is_whole and last_value also WholeCode
pub mod Backslashes
pub mod Cited
pub mod FixesFound
pub mod WayToByte
pub mod WholeCode
