pub mod Columns
pub mod Plain
pub mod Starts
pub mod Positions
