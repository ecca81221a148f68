-- Diagnostics, passed on.
pub use Rattle.typst_kinds.specs.Diagnostic.{Hint, Diagnostic, hint_code, diagnostic_code, error_with, warning_with, hint_with, hinted, at_last}
