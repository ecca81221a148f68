-- The names that many of these proofs cite, passed on from one place. Declares nothing.
pub use Rattle.std.proofs.Common.{Bool, Bor, Fits, List, None, Option, Some, [], ap, append-nil, append_assoc, arith, bit_and, bit_or, cond, count_by, drop, drop-drop, drop_at, encode_utf8_all, false, filter, get_or, if◌then◌else◌, is_none, leb, length, length-append, length-drop, length-take-le, ltb, ltb-true, map, min, nat_eq, nat_le, nat_lt, not, one-add, refl, replicate, reverse, rules, slice_get, slice_range, string_bytes, subst, suc, sym, take, take-add, take-append-drop, take-take, take_all, take_at, tests, true, unwrap_or, w8, zero, ℕ, ◌%◌, ◌&&◌, ◌*◌, ◌++◌, ◌+◌, ◌-◌, ◌/◌, ◌<◌, ◌==◌, ◌^◌, ◌||◌, ◌∙◌, ◌∷◌, ◌≡◌, ◌≤◌}
pub use Rattle.std.proofs.Math.ListN.{set}
pub use Rattle.std.proofs.Math.Seq.{drop-append_seam, drop-cons, take-append_seam}
pub use Rattle.std.proofs.lemmas.Bool.{agree_below, agree_below_at, and_parts, cases_lt, not-false, not-true}
pub use Rattle.std.proofs.lemmas.Bool.Decides.{nat_tests}
pub use Rattle.std.proofs.lemmas.Grind.{common_steps}
pub use Rattle.std.proofs.lemmas.Iterator.{YieldsList, YieldsList-from_chars, YieldsList-from_take}
pub use Rattle.std.proofs.lemmas.Iterator.Search.{all_from_yields_List}
pub use Rattle.std.proofs.lemmas.List.{drop-append-le, length-map, length-take, nil_from_length, reverse-append, reverse-reverse, take-append-le}
pub use Rattle.std.proofs.lemmas.List.Folds.{drop_split}
pub use Rattle.std.proofs.lemmas.List.Sorted.{IsPartitionPoint-from_clause, IsPartitionedBy-leb}
pub use Rattle.std.proofs.lemmas.List.Sums.{count_by-le-length, sum_by-append, sum_by-cons, sum_by-take-le, sum_by_more}
pub use Rattle.std.proofs.lemmas.Simd.{chunk-fits, first_set_mask_l, length-chunk, map-map, mask_l-mod, ones-mask_l, run_in_chunk_fails, run_in_chunk_le, run_in_chunk_stops, zip2_of_maps, zip2_splat, zip2_splat_left}
pub use Rattle.std.proofs.lemmas.Str.{IsCharBoundary-at_seam, IsCharBoundary-end, IsCharBoundary-from_drop, IsCharBoundary-from_rest, IsCharBoundary-from_take, IsCharBoundary-start, IsUtf8-between, IsUtf8-drop, IsUtf8-past_char, IsUtf8-take, chars-IsAscii, chars-append, chars-encodes, chars-nil, chars_past_char, encode_ascii, encodes-IsAscii, encodes-append, encodes-chars, len_utf8_bounds, length-encode, scalars-chars}
pub use Rattle.std.specs.Char.{IsScalar, is_ascii, is_whitespace, len_utf8}
pub use Rattle.std.specs.Cmp.Lexicographic.{pointwise}
pub use Rattle.std.specs.List.{concat, list_all, prefix_len, sum_by}
pub use Rattle.std.specs.List.Sorted.{IsNonDecreasingBy, IsPartitionPoint}
pub use Rattle.std.specs.Prelude.{encode_utf8, option_map, slice_index, slice_index_or}
pub use Rattle.std.specs.Str.{IsAscii, IsCharBoundary, IsNotAscii, IsUtf8, all_scalars, chars}
pub use Rattle.std.specs.declared.ops.Range.{Range}
pub use Rattle.unicode_segmentation.specs.Grapheme.{break_by_pair, is_grapheme_break}
unfoldable pub use Rattle.unicode_segmentation.specs.Segments.{cut, segments}
pub use lib.Lanes.{Each1, chunk, mask_l, top, zip2}
pub use lib.Utf8.{scalar}
unfoldable pub use lib.Utf8.{encode}
pub use Rattle.typst_lines.specs.Blocks.{BeginAlike, EndAlike, IsOfFirst, IsPlainFront, IsSharedEnd, IsSharedFront, chars_begun, first_set, is_plain_byte, units_begun}
pub use Rattle.typst_lines.specs.Classes.{CharClasses, in_line, kept_cluster}
pub use Rattle.typst_lines.specs.Edited.{IsEdit, distance, moved_line, units_at}
pub use Rattle.typst_lines.specs.Labels.{is_label_id, is_name}
pub use Rattle.typst_lines.specs.Lines.{IsCommonFront, IsLine, IsLineOf, IsLineUpTo, IsPlainRun, between, byte_reached, bytes, common_front, least_place, measured, places_from, starts_line, units, utf16_before, utf16_len}
unfoldable pub use Rattle.typst_lines.specs.Lines.{byte_at, byte_at_utf16, column_of, common_ends, line_of, line_range, line_start, line_table, lines_after}
pub use Rattle.typst_lines.specs.LinesLeft.{lines_left}
pub use Rattle.typst_lines.specs.Links.{after, front, without_last_signs}
unfoldable pub use Rattle.typst_lines.specs.Links.{link_prefix}
pub use Rattle.typst_lines.specs.Newline.{all_lack_newlines, ends_line, is_newline, line_end_len, line_ends, onto_first, stretches, woven}
pub use Rattle.typst_lines.specs.Pending.{AddsStarts, IsNext, IsPending, UpTo, lines_behind, settled_lines}
pub use Rattle.typst_lines.specs.Place.{IsFirst, IsLast, IsStep, IsStepBack, Place, moved, moved_back, moved_from, passes, past, run, scout, word_at}
unfoldable pub use Rattle.typst_lines.specs.Place.{bytes_ahead, char_width, place_at}
pub use Rattle.typst_lines.specs.Scanner.{place}
pub use Rattle.typst_lines.specs.UnicodeTables.{first_len}
unfoldable pub use Rattle.typst_lines.specs.UnicodeTables.{unicode_cluster}
pub use Rattle.typst_lines.specs.declared.lines.Line.{Line}
