-- The names that many of these proofs cite, passed on from one place. Declares nothing.
pub use Rattle.std.proofs.Common.{Err, IfSome, List, None, Ok, Option, Result, Some, [], ap, append-nil, append_assoc, arith, codes, cond, drop, get_or, length, length-append, map, min, nat_le, refl, slice_get, string_bytes, subst, suc, sym, take, zero, ℕ, ◌*◌, ◌++◌, ◌+◌, ◌-◌, ◌<◌, ◌^◌, ◌∙◌, ◌∷◌, ◌≡◌, ◌≤◌}
pub use Rattle.std.proofs.KnownBytes.{Appends-kept, Appends-trans}
pub use Rattle.std.proofs.lemmas.Grind.{common_steps}
pub use Rattle.std.proofs.lemmas.Iterator.{YieldsList-from_chars}
pub use Rattle.std.proofs.lemmas.Iterator.Consumers.{YieldsList-end, YieldsList-turn}
pub use Rattle.std.proofs.lemmas.List.{at_drop_all, at_drop_more, drop_more, get_or_at, length-drop, length_push, map-append, take-map, take_at, take_min, take_more, take_rest}
pub use Rattle.std.proofs.lemmas.List.Elements.{All-pop, All-push}
pub use Rattle.std.proofs.lemmas.Option.{get_or_from_slice_get, slice_get-get_or, slice_get_within}
pub use Rattle.std.specs.Io.KnownBytes.{Appends, Keeps}
pub use Rattle.std.specs.Prelude.{All, OnOk, encode_utf8, unwrap_or}
pub use Rattle.std.specs.Str.{IsCharBoundary, IsUtf8, chars}
pub use Rattle.json.specs.Token.{Token, begin_object, end_object, key}
pub use Rattle.typst_lines.specs.Lines.{IsLineOf, bytes, column_of, line_table, units, utf16_len}
unfoldable pub use Rattle.typst_lines.specs.Lines.{line_of}
pub use Rattle.typst_lines.specs.declared.lines.Line.{Line}
pub use Rattle.typst_report.specs.Escapes.{escaped, escaped_char}
pub use Rattle.typst_report.specs.Found.{as_reported}
pub use Rattle.typst_report.specs.Github.{command, commands, hint_parts}
pub use Rattle.typst_report.specs.Ndjson.{count_member, finding, hints_member, line, lines, messages, numbers, text_member}
pub use Rattle.typst_report.specs.Placed.{ArePlaced, IsPlaced, Placed, as_placed}
pub use Rattle.typst_report.specs.Places.{IsBase, IsPlace, IsPlaceOf, line_begin, units_in_line}
pub use Rattle.typst_report.specs.PrintedLines.{row, rows}
pub use Rattle.typst_report.specs.PrintedTree.{deeper, errors, head_lines, hints, node_lines, one_line, own_line, remarks, spaced}
pub use Rattle.typst_report.specs.Reported.{Reported, any_error, error_count, reported, reported_in, reported_of, severity_word}
pub use Rattle.typst_report.specs.Short.{hint_lines, short_lines}
pub use Rattle.typst_report.specs.TreeLines.{tree_lines}
pub use Rattle.typst_report.specs.declared.located.Located.{Located}
pub use Rattle.typst_report.specs.declared.place.LineColumn.{LineColumn}
pub use Rattle.typst_report.specs.declared.tree.Siblings.{Siblings}
pub use Rattle.typst_tree.specs.Preorder.{diagnosed}
pub use Rattle.typst_tree.specs.Tree.{Forest, Tree, count, forest, joined, more, none, saturated, text_of}
