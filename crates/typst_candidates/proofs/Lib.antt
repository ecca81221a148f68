-- From what a contract promises to the lemma behind it:
--   edges and child ranges           Edges; Windows: those in a window; Found: what is found in a run; Stops: on the way down; Nested: the run by its entries
--   has, run: the bytes rise         Bytes
--   records: of_notes, rear, front, opening, last   Walks: entry by entry; Passes: over all of them
--   next, back, cursor_at, piece_after, piece_before, top_run, run_in, closing   Cursors; Openings: run_in by opening
--   the anchor, and what is looked up from it   Anchors; Starts: top_run, run_in by their first piece
--   put, push, next, back of the words       Words
--   upto, push, push_wide: the tally         Tallies
--   start of a word cursor, put             Spans: by sums over words, Rounds: round the machine's numbers; pass_block   Blocks
--   looks_law                        Looks: note by note
--   nested_law                       Nested
pub mod Found
pub mod Stops
pub mod Bytes
pub mod Edges
pub mod Windows
pub mod Looks
pub mod Walks
pub mod Cursors
pub mod Nested
pub mod Words
pub mod Spans
pub mod Rounds
pub mod Blocks
pub mod Passes
pub mod Openings
pub mod Tallies
pub mod Anchors
pub mod Cited
pub mod Starts
