-- From what a contract promises to the lemma behind it:
--   deliver                      StreamLemmas: known bytes, written piece by piece
--   lines printed                PrintedLemmas: rows one after another
--   trees printed                Printing: messages, character by character
--   print_node                   RowLemmas: what is left of rows of trees, and its indentation
--   findings, lines_of of trees  VisitLemmas: what a walk comes to, one node after the other
--   push_escaped                 EscapeLemmas: one character more
--   base, line_start             PlaceLemmas: columns counted from another place of the line
--   locate                       PlacedLemmas: one more finding with its places
--   lines_of, commands_of        LineLemmas: the lines of one more finding
--   write_numbers, write_reported  TokenLemmas: tokens one after another
pub mod Cited
mod PrintedLemmas
mod Printing
mod StreamLemmas
pub mod EscapeLemmas
pub mod LineLemmas
pub mod PlacedLemmas
pub mod PlaceLemmas
pub mod TokenLemmas
pub mod RowLemmas
pub mod VisitLemmas
