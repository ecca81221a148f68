pub mod Odd
pub mod OddLaws
