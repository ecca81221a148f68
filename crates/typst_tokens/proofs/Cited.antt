-- The names that many of these proofs cite, passed on from one place. Declares nothing.
pub use Rattle.std.proofs.Common.{Bool, List, None, Option, Some, [], ap, append_assoc, arith, bit_and, codes, drop, drop-drop, eq-eqb, false, get_or, if◌then◌else◌, is_none, length, length-append, length-drop, length-take, length-take-le, max, min, nat_eq, nat_lt, not, refl, reverse, rules, slice_get, slice_index, slice_index_or, slice_range, subst, suc, sym, take, take-add, take_at, true, zero, zero-add, ℕ, ◌&&◌, ◌*◌, ◌++◌, ◌+◌, ◌-◌, ◌<◌, ◌==◌, ◌^◌, ◌||◌, ◌∙◌, ◌∷◌, ◌≡◌, ◌≤◌}
pub use Rattle.std.proofs.lemmas.Bool.{and_parts, ne_eqb}
pub use Rattle.std.proofs.lemmas.Bool.Decides.{nat_tests}
pub use Rattle.std.proofs.lemmas.Grind.{common_steps}
pub use Rattle.std.proofs.lemmas.List.{length-reverse, reverse-append, reverse-reverse, take-append-drop}
pub use Rattle.std.proofs.lemmas.Str.{IsUtf8-between, IsUtf8-had, IsUtf8-take, chars-append, chars-nil, encodes-chars, len_utf8_bounds, length-encode, length-le-encodes}
pub use Rattle.std.specs.Char.{digit_value, is_ascii, is_ascii_alphanumeric, is_ascii_digit}
pub use Rattle.std.specs.List.{list_all, prefix_len}
pub use Rattle.std.specs.Prelude.{encode_utf8, encode_utf8_all}
pub use Rattle.std.specs.Str.{IsCharBoundary, IsUtf8}
unfoldable pub use Rattle.std.specs.Str.{chars}
pub use Rattle.typst_kinds.specs.declared.kind.SyntaxKind.{SyntaxKind}
pub use Rattle.typst_lines.proofs.Empty.{none-is}
pub use Rattle.typst_lines.proofs.LineTable.{place-end}
pub use Rattle.typst_lines.proofs.PlaceLemmas.{IsStep-from_ascii, advance-moves, chars-between, head-splits, moved-moved, scout-moved}
pub use Rattle.typst_lines.specs.Classes.{CharClasses, in_line}
pub use Rattle.typst_lines.specs.Identifiers.{is_id_continue, is_id_start}
pub use Rattle.typst_lines.specs.Newline.{is_newline}
pub use Rattle.typst_lines.specs.Place.{IsRun, Place, back_from, moved, moved_back, moved_from, passes, past, run, scout, word_at}
unfoldable pub use Rattle.typst_lines.specs.Place.{bytes_ahead, char_width, place_at}
pub use Rattle.typst_lines.specs.Scanner.{place}
pub use Rattle.typst_tokens.specs.Characters.{number, with_digit}
unfoldable pub use Rattle.typst_tokens.specs.Characters.{number_after}
unfoldable pub use Rattle.typst_tokens.specs.Code.{bang, code, dot, dots, equals, less, single, with_equals}
pub use Rattle.typst_tokens.specs.Column.{column_look}
unfoldable pub use Rattle.typst_tokens.specs.Column.{column_at}
pub use Rattle.typst_tokens.specs.Common.{block_comment, comment_step, comment_turn, in_comment}
unfoldable pub use Rattle.typst_tokens.specs.Common.{line_ends, sign}
pub use Rattle.typst_tokens.specs.Cursor.{sight_of}
pub use Rattle.typst_tokens.specs.Flow.{flows, flows_in_ascii}
pub use Rattle.typst_tokens.specs.Identifiers.{keyword, named}
unfoldable pub use Rattle.typst_tokens.specs.Identifiers.{ident, keyword_or_name}
unfoldable pub use Rattle.typst_tokens.specs.Invalid.{foreign, invalid}
unfoldable pub use Rattle.typst_tokens.specs.Labels.{label}
pub use Rattle.typst_tokens.specs.Link.{in_link, link_end, link_turn}
unfoldable pub use Rattle.typst_tokens.specs.Link.{link, link_or_text}
unfoldable pub use Rattle.typst_tokens.specs.Markup.{emphasis, hyphen}
pub use Rattle.typst_tokens.specs.Memory.{Memory}
pub use Rattle.typst_tokens.specs.Memory.Memory.{blank, brackets, comment, fence, quoted}
pub use Rattle.typst_tokens.specs.Numbers.{based, in_suffix, is_i64, numbered, with_exponent}
unfoldable pub use Rattle.typst_tokens.specs.Numbers.{decimal, dotted, exponent, exponent_digits, fraction, in_base, number_token, signed_digits, suffixed, zero_first}
pub use Rattle.typst_tokens.specs.Pairs.{bytes_pass, either, four_pass, pair_passes, pairs_len, past_pairs, went_past_pairs}
pub use Rattle.typst_tokens.specs.Raw.{fence_step, fence_turn, in_raw, raw_end}
unfoldable pub use Rattle.typst_tokens.specs.Raw.{raw}
pub use Rattle.typst_tokens.specs.Reader.{Reader, Step, both, eat_span, eaten, exec, see_word, span_look, spanned, widened}
pub use Rattle.typst_tokens.specs.Reader.Reader.{answer, eat, eat_run, glance, peek, see_run, skip, span}
pub use Rattle.typst_tokens.specs.Reader.Step.{see, see_back, turn}
pub use Rattle.typst_tokens.specs.Reader.Turn.{go, last, leave}
pub use Rattle.typst_tokens.specs.Sight.{Covers, Sight, fresh, hull_of, regard, saw, saw_back, saw_by, saw_word, sight, went, went_past, word_reach}
unfoldable pub use Rattle.typst_tokens.specs.Sight.{far, near, position, stretch, text_of, width}
pub use Rattle.typst_tokens.specs.Strings.{in_string, string_end, string_step, string_turn}
unfoldable pub use Rattle.typst_tokens.specs.Strings.{string}
pub use Rattle.typst_tokens.specs.Text.{in_text, may_stop, on, text_step}
unfoldable pub use Rattle.typst_tokens.specs.Text.{text, text_from}
pub use Rattle.typst_tokens.specs.Token.{faulty, plain, radix_of}
pub use Rattle.typst_tokens.specs.declared.hull.Hull.{Hull}
pub use Rattle.typst_tokens.specs.declared.token.Base.{Base}
pub use Rattle.typst_tokens.specs.declared.token.Token.{Token}
