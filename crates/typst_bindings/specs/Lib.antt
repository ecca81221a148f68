pub mod Parts
pub mod Patterns
pub mod Params
pub mod Closures
pub mod Bindings
