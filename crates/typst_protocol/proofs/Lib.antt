-- From what a contract promises to the lemma behind it:
--   a line that was read, or why none was    Lines: line-read, line-cut, line-long; Taken: reads-line, cut-line, long-line
--   a number in a header                     Numbers: number-parsed, number-none
--   a head by its lines                      Heads: goes-on, goes-malformed, goes-err, goes-end, goes-out
--   a frame by its head and its body         Heads: behind, head-failed, passed, cut-short
--   what was written is read again           Again: frame-again
--   a body whose lone surrogates are U+FFFD  Mending: mends-unit, mends-piece, mends-end
--   bytes that were written piece by piece   Writing: Appends-piece
--   addresses of one document                SameAddress: same-as, same-with
--   an object that is written                Events: ends-map

pub mod Again
pub mod Cited
pub mod Events
pub mod Heads
pub mod Lines
pub mod Mending
pub mod Numbers
pub mod SameAddress
pub mod Taken
pub mod Writing
