-- The names that many of these proofs cite, passed on from one place. Declares nothing.
pub use Rattle.std.proofs.Common.{Bool, List, None, Option, Some, [], ap, append-nil, append_assoc, arith, codes, drop, encode_utf8_all, false, if◌then◌else◌, inl, inr, length, length-append, length-drop, length-take, nat_le, nat_lt, not, refl, rules, subst, suc, sym, take, true, zero, ℕ, ◌&&◌, ◌++◌, ◌+◌, ◌-◌, ◌<◌, ◌==◌, ◌||◌, ◌∙◌, ◌∷◌, ◌≡◌, ◌≤◌, ◌⊎◌}
pub use Rattle.std.proofs.lemmas.Bool.{and_parts}
pub use Rattle.std.proofs.lemmas.Bool.Decides.{nat_tests}
pub use Rattle.std.proofs.lemmas.Str.{encodes-chars, length-le-encodes}
pub use Rattle.std.specs.Prelude.{IsSome, Result}
pub use Rattle.std.specs.Str.{IsCharBoundary}
unfoldable pub use Rattle.std.specs.Str.{chars}
pub use borrow.Author.Tests.{lt-ltb}
unfoldable pub use lib.Utf8.{encode}
pub use Rattle.typst_code.specs.Arguments.{argument_shape, calls_directly, opens_arguments}
unfoldable pub use Rattle.typst_code.specs.Arguments.{argument, argument_list, argument_turn, arguments, begin_arguments, content_turn, listed_arguments, missing_arguments}
unfoldable pub use Rattle.typst_code.specs.Attachments.{attachment_turn, attachments, operand, primes}
unfoldable pub use Rattle.typst_code.specs.Bindings.{let_binding}
pub use Rattle.typst_code.specs.Closures.{after_name, after_underscore, closure_shape, headed, name_shape, right_side, underscore_shape}
unfoldable pub use Rattle.typst_code.specs.Closures.{named, placeholder}
unfoldable pub use Rattle.typst_code.specs.Embedded.{embedded, embedded_end, embedded_expr}
pub use Rattle.typst_code.specs.Equations.{math_reading, no_signs}
unfoldable pub use Rattle.typst_code.specs.Equations.{between_dollars, equation, math, math_expression, math_exprs, math_item, math_turn}
pub use Rattle.typst_code.specs.Expressions.{binary_tail, code_by, code_head, code_tail, operand_least, tail_by}
unfoldable pub use Rattle.typst_code.specs.Expressions.{binary_expr, call_tail, code_expr, code_primary, code_tail_turn, direct_field, not_in, unary_expr}
pub use Rattle.typst_code.specs.Groups.{group_shape}
unfoldable pub use Rattle.typst_code.specs.Groups.{group}
pub use Rattle.typst_code.specs.Imports.{import_shape, parens_shape}
unfoldable pub use Rattle.typst_code.specs.Imports.{import_items, import_name, import_parens, import_path, import_turn, imported, module_import, path_turn, renaming}
unfoldable pub use Rattle.typst_code.specs.Keys.{string_key}
pub use Rattle.typst_code.specs.Markup.{at_newline, emphasized, ends, ends_block, markup_by, markup_head, markup_reading}
unfoldable pub use Rattle.typst_code.specs.Markup.{content_block, delimited, direct_content, heading, item, markup, markup_expr, markup_exprs, markup_is_empty, markup_run, markup_turn, note_piece, reference, term_item}
pub use Rattle.typst_code.specs.MathExpressions.{math_by, math_head}
unfoldable pub use Rattle.typst_code.specs.MathExpressions.{math_expr, math_grown, math_primary, math_text, root}
unfoldable pub use Rattle.typst_code.specs.Params.{defaulted, param, param_turn, params}
pub use Rattle.typst_code.specs.Parens.{after_paren}
unfoldable pub use Rattle.typst_code.specs.Parens.{as_group, parens, readings}
pub use Rattle.typst_code.specs.Parts.{code_expression, expression_if}
unfoldable pub use Rattle.typst_code.specs.Parts.{separator}
pub use Rattle.typst_code.specs.Patterns.{Found, bound_change, named_shape, parts_kind, sink_shape}
unfoldable pub use Rattle.typst_code.specs.Patterns.{bound_name, destructuring, destructuring_item, destructuring_turn, key, key_or_pattern, name_and_colon, part, pattern, pattern_leaf, sink}
pub use Rattle.typst_code.specs.Sequences.{code_reading, ends_code}
unfoldable pub use Rattle.typst_code.specs.Sequences.{code, code_block, code_exprs, code_turn, missing_break, statement, statement_end}
pub use Rattle.typst_code.specs.Starts.{begins_code}
pub use Rattle.typst_code.specs.Statements.{show_shape}
unfoldable pub use Rattle.typst_code.specs.Statements.{any_block, conditional, conditional_turn, contextual, field, for_loop, func_return, jump, loop_names, module_include, other_branch, second_pattern, set_rule, show_rule, target, target_turn, while_loop}
pub use Rattle.typst_code.specs.declared.heads.CodeHead.{CodeHead}
pub use Rattle.typst_code.specs.declared.heads.CodeTail.{CodeTail}
pub use Rattle.typst_code.specs.head.MarkupHead.{MarkupHead}
pub use Rattle.typst_code.specs.keys.Key.{Key}
pub use Rattle.typst_code.specs.math_heads.MathHead.{MathHead}
pub use Rattle.typst_grammar.specs.Binding.{BindingLaw, CodeBindingLaw, MathBindingLaw, all_bind, any_errors, binds, binds_by, first_sign, has_errors, left_binds, node_binds, operator_of, right_binds, right_least}
pub use Rattle.typst_grammar.specs.Grammar.{block_production, level_at, max_depth, meaning, parsed, parsed_code, parsed_math, production, start_of}
unfoldable pub use Rattle.typst_grammar.specs.Grammar.{log, tree, tree_code, tree_math, whole, whole_code, whole_math}
pub use Rattle.typst_grammar.specs.Guessing.{guesses, guessing_at}
pub use Rattle.typst_grammar.specs.Part.{ArePieces, HasRead, HasReadOn, IsGiven, IsPart, IsResumed}
pub use Rattle.typst_grammar.specs.Pieces.{AllGo, End, asks_of, end_of, end_on, first_look, given, goes, made, pieces_on, run_level, stops_of}
pub use Rattle.typst_grammar.specs.declared.part.ReadPart.{ReadPart}
pub use Rattle.typst_grammar.specs.declared.part.RunKind.{RunKind}
pub use Rattle.typst_kinds.proofs.Sameness.{same-is}
pub use Rattle.typst_kinds.specs.Kinds.{among, is_error, is_trivia, same}
pub use Rattle.typst_kinds.specs.Operators.{binary_of, binary_precedence}
pub use Rattle.typst_kinds.specs.declared.kind.SyntaxKind.{SyntaxKind}
pub use Rattle.typst_kinds.specs.declared.mode.SyntaxMode.{SyntaxMode}
pub use Rattle.typst_kinds.specs.declared.operator.BinOp.{BinOp}
pub use Rattle.typst_language.proofs.Blind.{run-blind}
pub use Rattle.typst_language.proofs.Blocks.{fills-apart, sound-apart}
pub use Rattle.typst_language.proofs.Ends.{hand-again, hand-ends, hand-takes}
pub use Rattle.typst_language.proofs.HintedNodes.{hinted-append, length-hinted}
pub use Rattle.typst_language.proofs.Knot.{Sane, alike-meaning, lawful-call, lawful-parser, sane-at, sane-block, sane-meaning, sane-plain, sane-run, sound-level}
pub use Rattle.typst_language.proofs.Knowing.{knows-none}
pub use Rattle.typst_language.proofs.Places.{ahead-left, length-less, less-none, moved-ahead, moved-sum, no-end, take-all}
pub use Rattle.typst_language.proofs.Steps.{does-flush, does-gives, does-look, does-next, does-peek, does-pick, known-few}
pub use Rattle.typst_language.proofs.Within.{on_both, on_if, within-run}
pub use Rattle.typst_language.specs.Ask.{Ask, shift, shift_one}
pub use Rattle.typst_language.specs.Calls.{Answer, Call}
pub use Rattle.typst_language.specs.Calls.Call.{CodeExpr, MarkupExpr, MathExpr, Pattern}
pub use Rattle.typst_language.specs.Depth.{anywhere, is_end, one_more}
unfoldable pub use Rattle.typst_language.specs.Depth.{deeper, skip_one, too_deep}
unfoldable pub use Rattle.typst_language.specs.Expected.{expect_identifier, expects, seeing}
pub use Rattle.typst_language.specs.Faults.{hints, message}
pub use Rattle.typst_language.specs.Fields.{field_node, fields_node, name_node, named_node, names_of}
unfoldable pub use Rattle.typst_language.specs.Fields.{access_node}
pub use Rattle.typst_language.specs.Hand.{Ahead, AtHand, Hand, after_trivia, ahead_by, as_at_hand, at_trivia, direct, len_at, len_by, text_ahead, token_at, token_by}
unfoldable pub use Rattle.typst_language.specs.Hand.{ahead, ahead_asks, column_at, hand_asks, hand_at}
pub use Rattle.typst_language.specs.Knot.{blocks_of}
unfoldable pub use Rattle.typst_language.specs.Knot.{meaning_of}
pub use Rattle.typst_language.specs.Log.{Log, logged, no_log, with_hull, with_more, with_note}
pub use Rattle.typst_language.specs.Meaning.{Guess, Level, Meaning, Outcome, answered, apart, as_last, asked, before, blockless, bound, bounded, closed, deeper_by_one, done, entered, flushed_state, gave, given_up, grown, growths, guessing, hand_asks_of, hand_of, inside, is_more, joined, left, nestings, node_by, plain, reader_so, renewed, reshaped, standing, start_point, taken_node, turns, wrapped}
unfoldable pub use Rattle.typst_language.specs.Meaning.{growing, less, nesting, repeated, run}
pub use Rattle.typst_language.specs.Nodes.{fault_node, has_fields, is_raw, plain_node, token_node}
pub use Rattle.typst_language.specs.Point.{Point, Trivia, forgot, gap_of, is_nil, pending}
unfoldable pub use Rattle.typst_language.specs.Raw.{raw_node}
pub use Rattle.typst_language.specs.RawLines.{RawLine, block_of, closing, dedent, first_leaves, first_line, front, is_blank, leaf, line_leaves, trimmed}
unfoldable pub use Rattle.typst_language.specs.RawLines.{block_leaves, inline_leaves, later_lines}
pub use Rattle.typst_language.specs.RawTag.{is_whole, only_tag, tag}
unfoldable pub use Rattle.typst_language.specs.RawTag.{warned}
pub use Rattle.typst_language.specs.Shape.{Making, Seen, Shape, after_node, after_shape, becomes, count_empty, encloses, hinted, hinted_error, hinted_last, shaped}
pub use Rattle.typst_language.specs.Shape.Making.{itself, of_kind, surprise, wanted}
pub use Rattle.typst_language.specs.Shape.NodeChange.{is_not, renamed, stays, turns_wrong, unparened}
pub use Rattle.typst_language.specs.Shape.Shape.{fails, holds, keeps, lacks, warns}
pub use Rattle.typst_language.specs.Sound.{Alike, Backs, Lawful, Sound, Tidy}
pub use Rattle.typst_language.specs.Steps.{peek}
unfoldable pub use Rattle.typst_language.specs.Steps.{close_if, convert_and_eat, eat, eat_if, eat_making, eat_so, expect, expected, flush_trivia, grow, nest, node, node_with_trivia, note, read_block, unexpected, within}
pub use Rattle.typst_language.specs.Syntax.{Begin, Op, Parser, ◌>>=◌, ◌>>◌}
pub use Rattle.typst_language.specs.Syntax.Begin.{at_token}
pub use Rattle.typst_language.specs.Syntax.Op.{advises, column, complains, erred, flushes, hand, is_deepest, marks, takes, takes_so}
pub use Rattle.typst_language.specs.Syntax.Parser.{block, calls, does, either, gives, grows, nests, next, pick, repeat, scoped, wraps}
unfoldable pub use Rattle.typst_language.specs.Tokens.{backtick, hash, of_mode, slash, star, token}
pub use Rattle.typst_language.specs.View.{Bare, Calls, Does, Fills, Fits, Flushed, Frame, Goes, Loose, Makes, Runs, View, at}
pub use Rattle.typst_language.specs.declared.calls.AfterName.{AfterName}
pub use Rattle.typst_language.specs.declared.calls.Block.{Block}
pub use Rattle.typst_language.specs.declared.calls.ChainSet.{ChainSet}
pub use Rattle.typst_language.specs.declared.calls.Mark.{Mark}
pub use Rattle.typst_language.specs.declared.calls.Note.{Note}
pub use Rattle.typst_language.specs.declared.calls.Role.{Role}
pub use Rattle.typst_language.specs.declared.reading.Reading.{Reading}
pub use Rattle.typst_lines.specs.Classes.{CharClasses}
pub use Rattle.typst_lines.specs.Place.{Place, moved, place_at}
unfoldable pub use Rattle.typst_lines.specs.Place.{char_width}
unfoldable pub use Rattle.typst_tokens.specs.Characters.{number_after}
unfoldable pub use Rattle.typst_tokens.specs.Common.{block_comment, comment_end, line_comment, line_ends, shebang, sign, whitespace}
unfoldable pub use Rattle.typst_tokens.specs.Escapes.{backslash, code_point}
unfoldable pub use Rattle.typst_tokens.specs.Identifiers.{ident, keyword_or_name}
unfoldable pub use Rattle.typst_tokens.specs.Invalid.{foreign, invalid}
unfoldable pub use Rattle.typst_tokens.specs.Labels.{label}
unfoldable pub use Rattle.typst_tokens.specs.Link.{link, link_or_text}
unfoldable pub use Rattle.typst_tokens.specs.Names.{label_or_text, ref_marker, ref_or_text}
unfoldable pub use Rattle.typst_tokens.specs.Numbers.{decimal, dotted, exponent, exponent_digits, fraction, in_base, number_token, signed_digits, suffixed, zero_first}
unfoldable pub use Rattle.typst_tokens.specs.Raw.{raw}
pub use Rattle.typst_tokens.specs.Sight.{hull_of}
unfoldable pub use Rattle.typst_tokens.specs.Sight.{far, near, position, stretch, width}
unfoldable pub use Rattle.typst_tokens.specs.Strings.{string}
pub use Rattle.typst_tokens.specs.declared.token.Fault.{Fault}
pub use Rattle.typst_tokens.specs.declared.token.Token.{Token}
pub use Rattle.typst_tree.proofs.SpansAside.{forest_trees, trees_forest}
pub use Rattle.typst_tree.specs.Diagnostic.{hint_with}
pub use Rattle.typst_tree.specs.Tree.{Tree, advised, all_advised, error_of, forest, inner_of, leaf_of, made_error, text_of, topped, with_kind}
