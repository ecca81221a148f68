-- What takes errors and warnings away.
pub mod Closers
pub mod Gaps
pub mod Wrapped
pub mod Fixes
pub mod FixRows
