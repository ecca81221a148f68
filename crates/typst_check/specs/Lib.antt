pub mod Sarif
pub mod NdjsonFinding
