-- How a text is shown.
pub mod Styles
pub mod Tokens
pub mod Seeking
pub mod DataEdits
pub mod Windows
pub mod Renewed
pub mod TokenList
