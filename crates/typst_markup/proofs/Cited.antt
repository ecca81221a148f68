-- The names that many of these proofs cite, passed on from one place. Declares nothing.
pub use Rattle.std.proofs.Common.{Bool, List, None, Option, Some, [], ap, append_assoc, arith, drop, false, if◌then◌else◌, length, length-drop, map, nat_lt, refl, reverse, rules, slice_get, subst, suc, sym, tests, true, zero, ℕ, ◌++◌, ◌+◌, ◌<◌, ◌==◌, ◌||◌, ◌∙◌, ◌∷◌, ◌≡◌}
pub use Rattle.std.proofs.lemmas.Grind.{common_steps}
pub use Rattle.std.specs.Char.{InScalarRange, IsScalar, OutOfScalarRange, is_ascii_hexdigit}
pub use Rattle.std.specs.List.{list_all, prefix_len}
pub use Rattle.std.specs.Option.{MatchOption, SomeIff, is_none}
pub use Rattle.std.specs.Str.{chars}
pub use Rattle.std.specs.String.{string_bytes}
pub use Rattle.typst_kinds.specs.Kinds.{among, same}
pub use Rattle.typst_language.proofs.Asks.{asks-no, asks-yes, found}
pub use Rattle.typst_language.proofs.Changes.{does-seeing}
pub use Rattle.typst_language.proofs.Grows.{Grows, grows-init, grows-last, grows-next, grows-stuck}
pub use Rattle.typst_language.proofs.Steps.{Turning, does-closed, does-deeper, does-gives, does-last, does-look, does-next, does-node, does-node_with_trivia, does-other, does-peek, does-pick, does-scoped, does-shape, does-too-deep, first-noted, loose-knows, nil-seen, rewrapped-loose, turning-next}
pub use Rattle.typst_language.proofs.Values.{does-entered, does-value}
pub use Rattle.typst_language.specs.Bytes.{bytes_left}
pub use Rattle.typst_language.specs.Meaning.{Level}
pub use Rattle.typst_language.specs.Shape.{Shape, becomes, encloses, seen}
pub use Rattle.typst_language.specs.Shape.NodeChange.{renamed, unparened}
pub use Rattle.typst_language.specs.Shape.Shape.{holds, keeps}
pub use Rattle.typst_language.specs.Steps.{peek}
unfoldable pub use Rattle.typst_language.specs.Steps.{close_if}
pub use Rattle.typst_language.specs.View.{Does, Fills, View}
pub use Rattle.typst_lines.specs.Classes.{CharClasses}
pub use Rattle.typst_lines.specs.Place.{Place, back_from, moved, moved_back, moved_from, passes, past, scout}
unfoldable pub use Rattle.typst_lines.specs.Place.{place_at}
pub use Rattle.typst_lines.specs.Scanner.{place}
pub use Rattle.typst_markup.specs.Attachments.{both_signs, is_in, without}
unfoldable pub use Rattle.typst_markup.specs.Attachments.{attachment_turn, attachments, operand, primes}
pub use Rattle.typst_markup.specs.Delimited.{body_shape, delimited_shape, delimiter_kind}
unfoldable pub use Rattle.typst_markup.specs.Delimited.{delimited, delimited_body, delimiter, delimiter_if, delimiter_sign}
pub use Rattle.typst_markup.specs.Embedded.{embedded_reading, is_bare, is_followed, takes_semicolon}
unfoldable pub use Rattle.typst_markup.specs.Embedded.{embedded, embedded_end, embedded_expr}
pub use Rattle.typst_markup.specs.Equations.{ends_list, is_closer, math_reading, separates}
unfoldable pub use Rattle.typst_markup.specs.Equations.{between_dollars, equation, math, math_expression, math_exprs, math_item, math_turn}
pub use Rattle.typst_markup.specs.Keys.{character, code_escape, escape, escaped, in_braces, key_of, unescaped, without_last}
unfoldable pub use Rattle.typst_markup.specs.Keys.{string_key}
pub use Rattle.typst_markup.specs.Markup.{at_newline, ends, markup_by, markup_head, markup_reading}
unfoldable pub use Rattle.typst_markup.specs.Markup.{content_block, direct_content, heading, item, markup, markup_expr, markup_exprs, markup_is_empty, markup_run, markup_turn, note_piece, reference, term_item}
pub use Rattle.typst_markup.specs.MathArguments.{name_change, value_shape}
unfoldable pub use Rattle.typst_markup.specs.MathArguments.{argument_end, argument_exprs, argument_name, argument_value, eat_name, math_argument, math_argument_turn, math_arguments, named_argument, spread_argument}
pub use Rattle.typst_markup.specs.MathExpressions.{are_letters, is_alphabetic, math_by, math_head, math_tail, tail_by, text_callee}
unfoldable pub use Rattle.typst_markup.specs.MathExpressions.{fraction, math_expr, math_grown, math_primary, math_tail_turn, math_text, root}
pub use Rattle.typst_markup.specs.Stops.{math_stops_at, stops_at}
