-- The names that many of these proofs cite, passed on from one place. Declares nothing.
pub use Rattle.std.proofs.Common.{Bool, List, OnOk, Option, Result, Some, [], ap, append-nil, append_assoc, arith, cond, count_by, drop, get_or, get_or-drop, get_or-take, inl, inr, length, length-drop, length-take-le, min, nat_le, not, refl, rules, slice_get, subst, sym, take, take-add, take-append-drop, true, ℕ, ◌++◌, ◌+◌, ◌-◌, ◌<◌, ◌^◌, ◌∙◌, ◌∷◌, ◌≡◌, ◌≤◌}
pub use Rattle.std.proofs.lemmas.List.{at_drop_all, at_drop_more, drop-drop, length_push, take-take}
pub use Rattle.std.proofs.lemmas.Str.{IsCharBoundary-from_drop, IsCharBoundary-start, IsUtf8-drop, IsUtf8-past_char, IsUtf8-take, chars-append, chars-nil, encodes-chars, len_utf8_bounds}
pub use Rattle.std.specs.Prelude.{slice_range}
pub use Rattle.std.specs.Result.{is_ok}
pub use Rattle.std.specs.Str.{IsCharBoundary, IsUtf8, bytes_eq, chars}
pub use Rattle.std.specs.declared.ops.Range.{Range}
pub use Rattle.typst_document.specs.Document.{IsTextAt, Opened}
pub use Rattle.typst_document.specs.Places.{IsOneLine, IsWay, wide}
pub use Rattle.typst_lines.specs.UnicodeTables.{unicode_classes}
pub use Rattle.typst_lines.specs.declared.by_unicode.UnicodeClasses.{UnicodeClasses}
pub use Rattle.typst_parser.specs.Headline.{Headline, edited}
pub use Rattle.typst_parser.specs.Held.{Held}
pub use Rattle.typst_positions.proofs.Places.{held, place-back, position, position-is, start-boundary, utf8-line}
pub use Rattle.typst_positions.specs.Positions.{IsEdited, IsInsideEnd, byte_in, line_of, position_of}
pub use Rattle.typst_positions.specs.Starts.{is_line_end, starts_between}
unfoldable pub use Rattle.typst_positions.specs.Starts.{line_at, line_starts}
