-- From what a contract promises to the lemma behind it:
--   the first end of a line in a stretch     Firsts: none-first, some-first
--   the starts between two bytes             Tables: next-start, none-left, between-split
--   the line that holds a byte               Holding: ends-last, last-after, count-point, count-between
--   columns, and their way back              Widths: before-plain, column-plain, column-back, before-boundary
--   a line of a text, and bytes in it        Places: line-is, start-boundary, place-back
--   the starts of an edited text             Shifts: replaced-is, put-moved, count-mono
pub mod Cited
pub mod Firsts
pub mod Holding
pub mod Places
pub mod Shifts
pub mod Tables
pub mod Widths
