-- An open document.
pub mod Document
pub mod Places
-- What the crates above name of those below.
pub use Rattle.typst_lines.specs.UnicodeTables
pub use Rattle.typst_parser.specs.Diagnostic
pub use Rattle.typst_parser.specs.Headline
pub use Rattle.typst_parser.specs.Severity
pub use Rattle.typst_parser.specs.Tree
