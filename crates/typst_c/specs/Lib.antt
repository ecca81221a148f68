pub mod Refusals
pub mod Held
pub mod Names
pub mod Positions
pub mod Trees
pub mod Edited
