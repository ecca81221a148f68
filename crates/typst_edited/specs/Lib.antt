-- What the crates above name of those below.
pub use Rattle.typst_cli.specs.Printed
pub use Rattle.typst_cli.specs.PrintedTree
pub use Rattle.typst_cli.specs.Tree
pub use Rattle.typst_cli.specs.declared.command.Command
