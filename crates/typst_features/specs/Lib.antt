-- What is shown of a tree.
pub mod Problems
pub mod Items
pub mod Renames
pub mod Shown
pub mod ShownRows
pub mod Labels
pub mod LabelRows
pub use Rattle.typst_names.specs.Meanings
pub use Rattle.typst_names.specs.Names
pub use Rattle.typst_names.specs.declared.bindings.Occurrence
pub use Rattle.typst_names.specs.declared.scopes.Name
