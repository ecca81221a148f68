pub mod Asked
pub mod Faults
pub mod Printed
pub mod PrintedEdit
-- What the crates above name of those below.
pub use Rattle.typst_parser.specs.Grammar
pub use Rattle.typst_parser.specs.Tree
pub use Rattle.typst_report.specs.PrintedTree
