pub mod Codes
pub mod Placed
pub mod Records
pub mod Walk
pub mod Said
