-- From what a contract promises to the lemma behind it:
--   at_units: clause none         Columns: none_at; units_fit, units_found, units_within: of a byte that stands there
--   give (exports)                Refused: refused
--   Handle::open, Handle::give    BoxAlike: E, FromHandle, FromOpened: a handle and its parts own what a box does
mod BoxAlike
pub mod Cited
pub mod Columns
pub mod Refused
