-- The names that many of these proofs cite, passed on from one place. Declares nothing.
pub use Rattle.std.proofs.Common.{Bool, List, None, Option, Some, [], ap, append-nil, append_assoc, arith, codes, drop, encode_utf8_all, false, get_or, if◌then◌else◌, inl, inr, length, length-append, length-drop, length-take, map, max, min, nat_lt, not, refl, reverse, rules, slice_get, subst, suc, sym, take, take-add, take_at, true, zero, ℕ, ◌&&◌, ◌++◌, ◌+◌, ◌-◌, ◌<◌, ◌==◌, ◌^◌, ◌||◌, ◌∙◌, ◌∷◌, ◌≡◌, ◌≤◌, ◌⊎◌}
pub use Rattle.std.proofs.Math.ListN.{set}
pub use Rattle.std.proofs.Math.Seq.{drop-nil, take-length}
pub use Rattle.std.proofs.lemmas.Bool.{cases_lt, ne_eqb}
pub use Rattle.std.proofs.lemmas.Grind.{common_steps}
pub use Rattle.std.proofs.lemmas.List.{take-append-drop, take_min}
pub use Rattle.std.proofs.lemmas.Str.{IsUtf8-had, chars-nil, encodes-append, encodes-chars}
pub use Rattle.std.specs.Char.{encode_utf8, is_ascii_digit}
pub use Rattle.std.specs.Prelude.{Result, insert}
pub use Rattle.std.specs.Str.{chars}
pub use borrow.Author.Tests.{le-ltb, lt-ltb, ltb-true}
unfoldable pub use lib.Utf8.{encode}
pub use Rattle.typst_kinds.specs.Kinds.{is_error, is_keyword, is_trivia, same}
pub use Rattle.typst_kinds.specs.declared.kind.SyntaxKind.{SyntaxKind}
pub use Rattle.typst_kinds.specs.declared.mode.SyntaxMode.{SyntaxMode}
pub use Rattle.typst_language.specs.AheadCursor.{IsAhead, Stands, distance, hand_of_ahead}
pub use Rattle.typst_language.specs.Ask.{Ask, SameIn, SameOne, only_looks, shift, shift_one, sunk}
pub use Rattle.typst_language.specs.Ask.Ask.{looked, marked}
pub use Rattle.typst_language.specs.Bytes.{LiesIn, bytes_left, column_hull, joined_hull, token_hull, tokens_by}
unfoldable pub use Rattle.typst_language.specs.Bytes.{tokens_at, whole_at}
pub use Rattle.typst_language.specs.Calls.{Answer, Call, no_answer, token_so}
pub use Rattle.typst_language.specs.Checkpoint.{Leaves, Saved, first_of, forgot_notes, looked_since, saved, trivia_back, went_back}
pub use Rattle.typst_language.specs.Cursor.{view_of}
pub use Rattle.typst_language.specs.Depth.{is_end}
unfoldable pub use Rattle.typst_language.specs.Depth.{deeper, skip_one, too_deep}
unfoldable pub use Rattle.typst_language.specs.Expected.{expect_identifier, seeing}
pub use Rattle.typst_language.specs.Hand.{Ahead, AtHand, Hand, after_trivia, ahead_asks_of, ahead_by, ahead_of, as_at_hand, asks_by, asks_column, at_trivia, both_newlines, column_look, direct, hand_by, judged, known_by, len_at, len_by, newlines_of, stops, text_ahead, token_at, token_by, utf8_ahead}
unfoldable pub use Rattle.typst_language.specs.Hand.{ahead, ahead_asks, column_at, hand_asks, hand_at}
pub use Rattle.typst_language.specs.Log.{Log, least_after, logged, logged_one, reach_after, with_hull, with_more, with_note}
pub use Rattle.typst_language.specs.Meaning.{Guess, Guessing, Level, Meaning, Outcome, answered, apart, as_last, asked, before, blockless, bound, bounded, chosen, closed, deeper_by_one, done, entered, flushed_state, followed, gave, given_up, grown, growths, guessing, hand_asks_of, hand_of, inside, is_more, joined, left, left_to, nestings, no_guess, node_by, plain, reader_so, renewed, reshaped, same_mode, same_rule, standing, taken_node, turns, wrapped}
unfoldable pub use Rattle.typst_language.specs.Meaning.{growing, less, nesting, repeated, run}
pub use Rattle.typst_language.specs.Noted.{hull_in, least_of, listed, looked_alone, looked_before, note_after, notes_after, reach_of, unnoted, with_noted}
pub use Rattle.typst_language.specs.Point.{Point, Trivia, forgot, gap_of, is_nil, no_newlines, pending, state_of}
pub use Rattle.typst_language.specs.Remembered.{AllSo, Comes, IsSo, Knows, LooksIn, end_of}
pub use Rattle.typst_language.specs.Shape.{Making, NodeChange, Shape, after_change, after_node, after_shape, becomes, changed, count_empty, ends_with, first_changed, hinted, hinted_error, hinted_last, in_parens, is_delimited, is_sign, made, on_first, parens_renamed, renamed_last, seen, shaped, without_parens}
pub use Rattle.typst_language.specs.Shape.Making.{itself, of_kind, surprise, wanted}
pub use Rattle.typst_language.specs.Shape.NodeChange.{is_not, renamed, stays, turns_wrong, unparened}
pub use Rattle.typst_language.specs.Shape.Shape.{fails, holds, keeps, lacks, warns}
pub use Rattle.typst_language.specs.Sound.{Alike, Backs, Framed, Lawful, Sound, Tidy, Within}
pub use Rattle.typst_language.specs.Steps.{peek}
unfoldable pub use Rattle.typst_language.specs.Steps.{close_if, convert_and_eat, eat, eat_if, eat_making, eat_so, expect, expected, flush_trivia, grow, nest, node, node_with_trivia, note, read_block, unexpected, within}
pub use Rattle.typst_language.specs.Syntax.{Begin, Op, Parser, ◌>>◌}
pub use Rattle.typst_language.specs.Syntax.Begin.{at_token}
pub use Rattle.typst_language.specs.Syntax.Op.{advises, column, complains, erred, flushes, further, hand, is_deepest, marks, so, takes, takes_so}
pub use Rattle.typst_language.specs.Syntax.Parser.{block, calls, does, either, gives, grows, nests, next, pick, repeat, scoped, wraps}
pub use Rattle.typst_language.specs.View.{Bare, Calls, Closed, Does, Dropped, Fills, Fits, Flushed, Found, Frame, Goes, Left, Looked, Loose, Makes, Opened, Ran, ReadsBlock, Remembers, Rewrapped, Runs, View, at, begun, guess_at, looked_too, noted_here, place_after_paren, rewrapped, rewrapped_each, unasked}
pub use Rattle.typst_language.specs.declared.ahead.ReadAhead.{ReadAhead}
pub use Rattle.typst_language.specs.declared.calls.Block.{Block}
pub use Rattle.typst_language.specs.declared.calls.Mark.{Mark}
pub use Rattle.typst_language.specs.declared.calls.Mark.TheVariants.{Closes, Opens}
pub use Rattle.typst_language.specs.declared.calls.Note.{Note}
pub use Rattle.typst_language.specs.declared.memo.Guessed.{Guessed}
pub use Rattle.typst_language.specs.declared.reading.AtNewline.TheVariants.{Continue}
pub use Rattle.typst_language.specs.declared.reading.Newlines.{Newlines}
pub use Rattle.typst_language.specs.declared.reading.Reading.{Reading}
pub use Rattle.typst_lexer.proofs.SpansAside.{trees_forest}
pub use Rattle.typst_lexer.specs.Nodes.{is_leaf, token_node}
unfoldable pub use Rattle.typst_lexer.specs.Tokens.{backtick, hash, of_mode, slash, star, token}
pub use Rattle.typst_lines.proofs.Bools.{and-second, on}
pub use Rattle.typst_lines.specs.Classes.{CharClasses}
pub use Rattle.typst_lines.specs.Identifiers.{is_id_continue}
pub use Rattle.typst_lines.specs.Place.{Place, moved, moved_back, moved_from, passes, scout}
unfoldable pub use Rattle.typst_lines.specs.Place.{place_at}
pub use Rattle.typst_lines.specs.Scanner.{place}
pub use Rattle.typst_lines.specs.declared.scanner.Scanner.{Scanner}
pub use Rattle.typst_tokens.proofs.Moves.{exec-moved}
pub use Rattle.typst_tokens.proofs.Sights.{offset-is, text-is}
pub use Rattle.typst_tokens.specs.Characters.{is_code_point, is_space, is_unit}
unfoldable pub use Rattle.typst_tokens.specs.Characters.{number_after}
pub use Rattle.typst_tokens.specs.Common.{is_parbreak}
unfoldable pub use Rattle.typst_tokens.specs.Common.{block_comment, comment_end, line_comment, line_ends, shebang, sign, whitespace}
unfoldable pub use Rattle.typst_tokens.specs.Escapes.{backslash, code_point}
unfoldable pub use Rattle.typst_tokens.specs.Labels.{label}
unfoldable pub use Rattle.typst_tokens.specs.Markup.{dot, emphasis, heading, hyphen, marker, marker_or_text, markup, minus, numbering}
pub use Rattle.typst_tokens.specs.Memory.{Memory}
pub use Rattle.typst_tokens.specs.Memory.Memory.{blank, brackets, comment, fence, quoted}
pub use Rattle.typst_tokens.specs.Reader.{Reader, at_word, eaten, exec, look, spanned}
pub use Rattle.typst_tokens.specs.Reader.Reader.{answer, skip}
pub use Rattle.typst_tokens.specs.Sight.{hull_of, position}
unfoldable pub use Rattle.typst_tokens.specs.Text.{text, text_from}
pub use Rattle.typst_tokens.specs.declared.hull.Hull.{Hull}
pub use Rattle.typst_tokens.specs.declared.token.Token.{Token}
pub use Rattle.typst_tree.specs.Messages.{made_expected, made_unexpected}
pub use Rattle.typst_tree.specs.Tree.{Tree, error_of, leaf_of, text_of}
