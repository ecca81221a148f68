-- From what a contract promises to the lemma behind it:
--   text_at                                     Cuts: text_found
--   edited: what `edit` of the lines requires   Edits: is_edited
--   edited: clause read                         ReadAgain: read_again
--   replaced: what is kept, clause headline     Records: records-kept, of-ok
--   width_of, width_between, place_from         Walking: wide-more, wide-text: one character more; way; there-behind, there-before
pub mod Cited
mod Cuts
mod Edits
mod ReadAgain
mod Records
mod Walking
