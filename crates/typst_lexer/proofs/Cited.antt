-- The names that many of these proofs cite, passed on from one place. Declares nothing.
pub use Rattle.std.proofs.Common.{Bool, List, None, Option, Some, [], ap, append-nil, append_assoc, arith, codes, drop, encode_utf8_all, false, if◌then◌else◌, is_none, length, length-append, length-drop, length-take-le, ltb-true, min, nat_lt, not, one-add, option_map, refl, reverse, rules, slice_get, subst, suc, sym, take, take-add, take_at, true, zero, ℕ, ◌&&◌, ◌++◌, ◌+◌, ◌-◌, ◌<◌, ◌==◌, ◌||◌, ◌∙◌, ◌∷◌, ◌≡◌, ◌≤◌}
pub use Rattle.std.proofs.lemmas.Bool.{and_parts}
pub use Rattle.std.proofs.lemmas.Bool.Decides.{nat_tests}
pub use Rattle.std.proofs.lemmas.Grind.{common_steps}
pub use Rattle.std.proofs.lemmas.List.{length-take, reverse-append, reverse-reverse, take-append-drop, take_min}
pub use Rattle.std.proofs.lemmas.Str.{IsUtf8-had, chars-nil, encodes-append, encodes-chars, length-encode, length-le-encodes, scalars-chars}
pub use Rattle.std.specs.Char.{IsScalar, is_whitespace}
pub use Rattle.std.specs.List.{list_all, prefix_len}
pub use Rattle.std.specs.Prelude.{IsSome, encode_utf8, find}
pub use Rattle.std.specs.Str.{IsUtf8, all_scalars}
unfoldable pub use Rattle.std.specs.Str.{chars}
unfoldable pub use lib.Utf8.{encode}
pub use Rattle.typst_kinds.specs.Span.{Bytes}
pub use Rattle.typst_kinds.specs.declared.mode.SyntaxMode.{SyntaxMode}
unfoldable pub use Rattle.typst_lexer.specs.ArgumentTokens.{before_colon, before_spread, named_argument, spread_argument}
pub use Rattle.typst_lexer.specs.Atoms.{cluster_len}
unfoldable pub use Rattle.typst_lexer.specs.Atoms.{cluster}
pub use Rattle.typst_lexer.specs.Faults.{hints, message, number_hints, number_message, operator_hints, suffix_of, value_of, without_suffix}
pub use Rattle.typst_lexer.specs.Fields.{field_node, fields_node, longer, name_node, named_node, names_of}
unfoldable pub use Rattle.typst_lexer.specs.Fields.{access_node}
unfoldable pub use Rattle.typst_lexer.specs.Math.{atom, by_class, math, math_from, primes, single}
pub use Rattle.typst_lexer.specs.MathNames.{continues, in_fields, is_field}
unfoldable pub use Rattle.typst_lexer.specs.MathNames.{after_name, name, named}
pub use Rattle.typst_lexer.specs.Raw.{before_ticks, block_node, closed_node, delimited, delimited_node, inline_node, is_pair, past_ticks, tag_leaves, ticks, two_delimiters}
unfoldable pub use Rattle.typst_lexer.specs.Raw.{raw_node}
pub use Rattle.typst_lexer.specs.RawLines.{RawLine, between, end_of, first_leaves, first_line, has_spare_space, indent, is_blank, is_tick, last_of, leaf, least_indent, line_leaves, paired, trimmed}
unfoldable pub use Rattle.typst_lexer.specs.RawLines.{block_leaves, closing, dedent, front, inline_leaves, last_raw_line, later_lines}
pub use Rattle.typst_lexer.specs.RawTag.{in_tag, is_whole, only_tag, stretch, treated, width}
unfoldable pub use Rattle.typst_lexer.specs.RawTag.{tag, warned}
unfoldable pub use Rattle.typst_lexer.specs.Tokens.{backtick, hash, of_mode, slash, star, token}
pub use Rattle.typst_lines.proofs.CommonEnds.{before-all}
pub use Rattle.typst_lines.proofs.Empty.{none-is}
pub use Rattle.typst_lines.proofs.LineCluster.{IsLine-run, cluster-bytes, in_line-identifier, line-some, list_all-run, newline-white}
pub use Rattle.typst_lines.proofs.LineTable.{ahead-text}
pub use Rattle.typst_lines.specs.Classes.{CharClasses, IsLawful, IsLine, in_line}
pub use Rattle.typst_lines.specs.Newline.{is_newline, line_end_len}
pub use Rattle.typst_lines.specs.Place.{IsAfter, Place, bytes_ahead, moved, moved_back, moved_from, passes, past, run, scout}
unfoldable pub use Rattle.typst_lines.specs.Place.{place_at}
pub use Rattle.typst_lines.specs.Scanner.{place}
pub use Rattle.typst_tokens.proofs.CommonEats.{either, line-eats, run-ahead, some-ahead}
pub use Rattle.typst_tokens.proofs.Frame.{frame}
pub use Rattle.typst_tokens.proofs.Moves.{exec-moved, moved-more}
pub use Rattle.typst_tokens.proofs.PairRuns.{moved-less, past-stops, sight-pairs}
pub use Rattle.typst_tokens.proofs.Sights.{covers-saw, covers-went, far-end, far-next, far-on, hull-is, read-is, same-sight, saw-ahead, text-is, text-on, text-read}
pub use Rattle.typst_tokens.specs.Characters.{is_space}
pub use Rattle.typst_tokens.specs.Common.{space}
unfoldable pub use Rattle.typst_tokens.specs.Common.{block_comment, comment_end, line_comment, line_ends, shebang, sign, whitespace}
unfoldable pub use Rattle.typst_tokens.specs.Escapes.{backslash}
unfoldable pub use Rattle.typst_tokens.specs.Markup.{emphasis, hyphen, marker_or_text, markup, minus}
pub use Rattle.typst_tokens.specs.Memory.{Memory}
unfoldable pub use Rattle.typst_tokens.specs.Raw.{raw}
pub use Rattle.typst_tokens.specs.Reader.{Reader, at_word, eaten}
pub use Rattle.typst_tokens.specs.Reader.Reader.{answer, skip}
pub use Rattle.typst_tokens.specs.Sight.{Covers, Sight, saw, saw_by, sight, went, went_past}
unfoldable pub use Rattle.typst_tokens.specs.Sight.{text_of}
unfoldable pub use Rattle.typst_tokens.specs.Strings.{string}
unfoldable pub use Rattle.typst_tokens.specs.Text.{text, text_from}
pub use Rattle.typst_tokens.specs.Token.{plain, radix_of}
pub use Rattle.typst_tokens.specs.declared.token.Fault.TheVariants.{InvalidOperator, Number}
pub use Rattle.typst_tokens.specs.declared.token.Token.{Token}
pub use Rattle.typst_tree.specs.Tree.{Tree, advised, all_advised, error_of, remarked}
