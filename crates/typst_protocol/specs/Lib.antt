-- Messages.
pub mod Addresses
pub mod Bodies
pub mod Escapes
pub mod Methods
pub mod Messages
pub mod Parameters
pub mod Written
-- Frames.
pub mod Frames
pub mod Header
pub mod Stream
