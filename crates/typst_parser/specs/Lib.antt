-- Sources.
pub mod Held
pub mod Headline
pub mod Records
pub mod Answers
pub mod Tried
pub mod Find
pub mod Found
-- What an edit reads again.
pub mod TextReplacement
pub mod Attempt
pub mod Steps
pub mod Reparse
-- What the crates above name of those below.
pub use Rattle.typst_edits.specs.Grammar
pub use Rattle.typst_kinds.specs.Head
pub use Rattle.typst_kinds.specs.Span
pub use Rattle.typst_kinds.specs.declared.diagnostic.Severity
pub use Rattle.typst_kinds.specs.declared.error.SourceError
pub use Rattle.typst_kinds.specs.declared.kind.SyntaxKind
pub use Rattle.typst_lines.specs.Classes
pub use Rattle.typst_lines.specs.Lines
pub use Rattle.typst_lines.specs.Newline
pub use Rattle.typst_lines.specs.UnicodeTables
pub use Rattle.typst_lines.specs.declared.lines.Line
pub use Rattle.typst_tree.specs.Boundaries
pub use Rattle.typst_tree.specs.Diagnostic
pub use Rattle.typst_tree.specs.Preorder
pub use Rattle.typst_tree.specs.Tree
pub use Rattle.typst_tree.specs.declared.preorder.Visit
pub use Rattle.typst_highlight.specs.Html
pub use Rattle.typst_highlight.specs.RootEdits
pub use Rattle.typst_highlight.specs.Stretches
pub use Rattle.typst_highlight.specs.declared.stretches.Tagged
pub use Rattle.typst_highlight.specs.declared.tags.Tag
