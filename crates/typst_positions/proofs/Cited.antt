-- The names that many of these proofs cite, passed on from one place. Declares nothing.
pub use Rattle.std.proofs.Common.{Bool, List, None, Some, [], add-one, ap, append-nil, append_assoc, arith, cond, count_by, drop, false, filter, get_or, get_or-drop, get_or-take, inl, inr, length, length-append, length-drop, length-take-le, map, min, nat_le, not, refl, slice_get, subst, suc, sym, take, take-append-drop, true, zero, ℕ, ◌&&◌, ◌++◌, ◌+◌, ◌-◌, ◌<◌, ◌==◌, ◌^◌, ◌||◌, ◌∙◌, ◌∷◌, ◌≡◌, ◌≤◌, ◌⊎◌}
pub use Rattle.std.proofs.lemmas.Bool.{and_left, and_parts, both_ways, cases_lt, cases_order, eq-eqb, eqb-true, false_from_ne_true, le-leb, lt-leb, not-false, not-true, or_cases, or_from, or_left, or_parts}
pub use Rattle.std.proofs.lemmas.Grind.{common_steps}
pub use Rattle.std.proofs.lemmas.Iterator.{YieldsList-from_chars, items_from_drains}
pub use Rattle.std.proofs.lemmas.Iterator.Consumers.{YieldsList-end, YieldsList-turn}
pub use Rattle.std.proofs.lemmas.List.{at_drop_all, at_drop_more, drop_at, get_or_default, length_push, map-id, take_at}
pub use Rattle.std.proofs.lemmas.Str.{IsCharBoundary-after_ascii, IsCharBoundary-at_seam, IsCharBoundary-from_take, IsCharBoundary-start, IsUtf8-between, IsUtf8-from_ascii, IsUtf8-take, chars-IsAscii, chars-append, encodes-append, encodes-chars, len_utf8_ascii, len_utf8_bounds, length-encode, scalars-chars}
pub use Rattle.std.specs.Char.{len_utf8}
pub use Rattle.std.specs.List.{prefix_len, range_with_len}
pub use Rattle.std.specs.Str.{IsAscii, IsCharBoundary, IsUtf8, chars}
pub use Rattle.memchr.specs.Find.{IsFirst, IsFirstByte, Nowhere, Passes, is_byte2}
pub use Rattle.typst_positions.specs.Columns.{measured, width}
unfoldable pub use Rattle.typst_positions.specs.Columns.{bytes_before, column_of}
pub use Rattle.typst_positions.specs.Positions.{IsEdit, IsInsideEnd, byte_at, line_of, position_of}
pub use Rattle.typst_positions.specs.Starts.{is_line_end, replaced, shifted, starts_line}
unfoldable pub use Rattle.typst_positions.specs.Starts.{line_at, line_starts, starts_between}
pub use Rattle.typst_positions.specs.declared.columns.Encoding.{Encoding}
pub use Rattle.typst_positions.specs.declared.positions.Position.{Position}
