-- The names that many of these proofs cite, passed on from one place. Declares nothing.
pub use Rattle.std.proofs.Common.{Bool, Err, IfSome, List, MatchResult, None, Ok, OnOk, Option, Result, Some, [], add-one, ap, append-nil, append_assoc, arith, codes, cond, drop, drop-drop, drop_at, false, get_or, get_or-drop, get_or-set_other, get_or-set_same, le-ltb, le_refl, length, length-append, length-drop, length-set, length-take-le, lt-ltb, ltb-true, min, nat_lt, not, option_to_list, refl, rules, set, slice_range, subst, suc, sym, take, take-add, take-append-drop, take_all, take_at, true, zero, ℕ, ◌&&◌, ◌*◌, ◌++◌, ◌+◌, ◌-◌, ◌<◌, ◌==◌, ◌^◌, ◌∙◌, ◌∷◌, ◌≡◌, ◌≢◌, ◌≤◌}
pub use Rattle.std.proofs.KnownBytes.{Appends-kept, Appends-trans, Consumes-trans}
pub use Rattle.std.proofs.lemmas.Bool.{and_left, and_parts, and_right, cond-false, eqb-true, false_from_ne_true, false≢true, ne_eqb, or_from}
pub use Rattle.std.proofs.lemmas.Grind.{common_steps}
pub use Rattle.std.proofs.lemmas.List.{drop_all, take_rest}
pub use Rattle.std.proofs.lemmas.Result.{err_from_is_err_and}
pub use Rattle.std.proofs.lemmas.Str.Parse.{IsNumeralModel, digit_at, digit_from_value, numerals_by_value, tells_all_ascii_digits, without_leading_plus_none}
pub use Rattle.std.specs.Io.KnownBytes.{Appends, Consumes, IsAtEnd, Keeps}
pub use Rattle.std.specs.Option.{ok_or}
pub use Rattle.std.specs.Prelude.{IfNone, decimal, option_map, reverse, ⊤}
pub use Rattle.std.specs.Str.{IsUtf8, all_ascii_digits, bytes_eq}
pub use Rattle.std.specs.Str.Parse.{AllDigits, IsNumeral, ParsesUnsigned, digits_value, without_leading_plus}
pub use Rattle.serde.specs.Event.{Log, Logs, Sends, Then, map_begins, map_ends, text, unsigned}
pub use Rattle.serde_json.specs.View.{items_view}
pub use Rattle.typst_protocol.specs.Addresses.{is_same}
pub use Rattle.typst_protocol.specs.Escapes.{begins_low, hexadecimal, is_lone, mended, read_as, unit}
unfoldable pub use Rattle.typst_protocol.specs.Escapes.{mended_behind}
pub use Rattle.typst_protocol.specs.Frames.{Has, before_crlf, body, written, ◌>>=◌}
unfoldable pub use Rattle.typst_protocol.specs.Frames.{frame, head, line_len}
pub use Rattle.typst_protocol.specs.Header.{is_blank, length_after, number, trimmed, unled}
pub use Rattle.typst_protocol.specs.Stream.{Answers, Begins, EndsSo, IsShort, ReadsHead, ReadsLine, longest}
pub use Rattle.typst_protocol.specs.Written.{InMap, Member, WritesExtent, WritesNumbers, WritesPlace}
pub use Rattle.typst_protocol.specs.declared.frames.reader.End.{End}
pub use Rattle.typst_protocol.specs.declared.frames.reader.End.TheVariants.{Clean, CutOff, Malformed}
