-- What the checker opens to compute the examples: all that a text is read by, and its spots, its log and its candidates.
use lib.Utf8.{encode}
use Rattle.std.specs.Str.{chars}
use Rattle.typst_edits.proofs.Cited.{char_width, position, near, far, stretch, width, meaning_of, less, repeated, run, growing, nesting, ahead, ahead_asks, column_at, hand_at, hand_asks, raw_node, candidates_at, log, tree, whole, blocks_of_text, repeated_spots, growing_spots, nesting_spots, spots, call_spots, seconds, call_seconds, seconds_of_text, sign, line_ends, whitespace, shebang, line_comment, block_comment, comment_end, code_point, backslash, number_after, link, link_or_text, label, label_or_text, ref_marker, ref_or_text, raw, deeper, too_deep, skip_one, eat_making, eat, convert_and_eat, eat_if, close_if, unexpected, expected, expect, flush_trivia, within, node, node_with_trivia, note, read_block, grow, nest, of_mode, hash, slash, star, token, backtick, later_lines, inline_leaves, note_piece, markup_turn, markup_exprs, markup_run, markup, markup_is_empty, delimited, heading, item, term_item, markup_expr, content_block, direct_content, reference, embedded_end, embedded_expr, embedded, lost, call_lost, lost_of_text}
use Rattle.typst_tokens.specs.Text.{text as text_token, text_from}
use Rattle.typst_tokens.specs.Markup.{markup as markup_token, heading as heading_token, dot, marker_or_text, marker, hyphen, minus, emphasis, numbering}
use Rattle.typst_tokens.specs.Code.{code as code_token, single, less as less_token, with_equals, dots, dot as code_dot, equals, bang}
use Rattle.typst_tokens.specs.Identifiers.{keyword_or_name, ident}
use Rattle.typst_tokens.specs.Invalid.{foreign, invalid}
use Rattle.typst_tokens.specs.Numbers.{suffixed, exponent_digits, signed_digits, exponent, fraction, decimal, dotted, in_base, zero_first, number_token}
use Rattle.typst_tokens.specs.Strings.{string}
use Rattle.typst_language.specs.Expected.{expects, expect_identifier, seeing}
use Rattle.typst_language.specs.Math.{primes as token_primes, atom as token_atom, by_class as token_by_class, single as token_single, math_from as token_math_from, math as token_math}
use Rattle.typst_language.specs.Atoms.{cluster as token_cluster, number as token_number, text as token_text}
use Rattle.typst_language.specs.MathNames.{after_name as token_after_name, named as token_named, name as token_name}
use Rattle.typst_language.specs.Shorthands.{hyphen as sign_hyphen, tilde as sign_tilde, colon as sign_colon, equals as sign_equals, greater as sign_greater, less_short as sign_less_short, less_middle as sign_less_middle, less as sign_less, bar as sign_bar, bracket as sign_bracket, bang as sign_bang, dot as sign_dot, several as sign_several}
use Rattle.typst_language.specs.ArgumentTokens.{spread_argument, named_argument, before_colon}
use Rattle.typst_grammar.specs.Sequences.{missing_break, statement_end, statement, code_turn, code_exprs, code, code_block}
use Rattle.typst_grammar.specs.Arguments.{argument, argument_turn, argument_list, listed_arguments, content_turn, missing_arguments, begin_arguments, arguments}
use Rattle.typst_grammar.specs.Statements.{field, show_rule, contextual}
use Rattle.typst_grammar.specs.Expressions.{unary_expr, code_primary, binary_expr, not_in, direct_field, call_tail, code_tail_turn, code_expr}
use Rattle.typst_grammar.specs.Groups.{pair, spread, item as code_item, group_turn, group_rest, group}
use Rattle.typst_grammar.specs.Closures.{named, placeholder}
use Rattle.typst_grammar.specs.Parts.{separator}
use Rattle.typst_grammar.specs.Equations.{math_expression as formula_math_expression, math_item as formula_math_item, math_turn as formula_math_turn, math_exprs as formula_math_exprs, math as formula_math, between_dollars as formula_between_dollars, equation as formula_equation}
use Rattle.typst_grammar.specs.Attachments.{operand as math_operand, attachment_turn as math_attachment_turn, attachments as math_attachments, primes as math_primes}
use Rattle.typst_grammar.specs.Delimited.{delimiter_sign as math_delimiter_sign, delimiter as math_delimiter, delimited_body as math_delimited_body, delimiter_if as math_delimiter_if, delimited as math_delimited}
use Rattle.typst_grammar.specs.MathArguments.{argument_exprs as math_argument_exprs, argument_value as math_argument_value, eat_name as math_eat_name, argument_name as math_argument_name, named_argument as math_named_argument, spread_argument as math_spread_argument, math_argument as math_math_argument, argument_end as math_argument_end, math_argument_turn as math_math_argument_turn, math_arguments as math_math_arguments}
use Rattle.typst_grammar.specs.MathExpressions.{math_text as math_math_text, root as math_root, math_primary as math_math_primary, fraction as math_fraction, math_tail_turn as math_math_tail_turn, math_grown as math_math_grown, math_expr as math_math_expr}
use Rattle.typst_grammar.specs.Keys.{string_key}
use Rattle.typst_grammar.specs.Parens.{as_group, readings, parens}
use Rattle.typst_grammar.specs.Params.{defaulted as pattern_defaulted, param as pattern_param, param_turn as pattern_param_turn, params as pattern_params}
use Rattle.typst_grammar.specs.Patterns.{bound_name as the_pattern_bound_name, pattern_leaf as pattern_pattern_leaf, sink as pattern_sink, name_and_colon as pattern_name_and_colon, key as pattern_key, key_or_pattern as pattern_key_or_pattern, part as pattern_part, destructuring_item as pattern_destructuring_item, destructuring_turn as pattern_destructuring_turn, destructuring as pattern_destructuring, pattern as pattern_pattern}

-- `unfolding computing` lets `refl` compute what is read of a text.
unfoldable pub computing : Unit {0}
unfolding log candidates_at position near far stretch width char_width lost call_lost lost_of_text blocks_of_text repeated_spots growing_spots nesting_spots spots call_spots tree whole meaning_of note_piece markup_turn markup_exprs markup_run markup markup_is_empty delimited heading item term_item markup_expr deeper too_deep skip_one eat_making eat convert_and_eat eat_if close_if unexpected expected expect flush_trivia within node node_with_trivia note less repeated run ahead ahead_asks column_at hand_at hand_asks of_mode hash slash star token text_token markup_token heading_token sign text_from code_point backslash dot marker_or_text marker hyphen minus emphasis numbering line_ends whitespace shebang line_comment block_comment comment_end number_after encode link link_or_text label label_or_text ref_marker ref_or_text raw backtick later_lines inline_leaves raw_node read_block content_block direct_content reference grow nest growing nesting code_token single less_token with_equals dots code_dot equals bang keyword_or_name ident foreign invalid suffixed exponent_digits signed_digits exponent fraction decimal dotted in_base zero_first number_token string expects expect_identifier seeing embedded_end embedded_expr embedded missing_break statement_end statement code_turn code_exprs code code_block argument argument_turn argument_list listed_arguments content_turn missing_arguments begin_arguments arguments field show_rule contextual unary_expr code_primary binary_expr not_in direct_field call_tail code_tail_turn code_expr pair named separator token_primes token_atom token_by_class token_single token_math_from token_math token_cluster token_number token_text token_after_name token_named token_name sign_hyphen sign_tilde sign_colon sign_equals sign_greater sign_less_short sign_less_middle sign_less sign_bar sign_bracket sign_bang sign_dot sign_several formula_math_expression formula_math_item formula_math_turn formula_math_exprs formula_math formula_between_dollars formula_equation math_operand math_attachment_turn math_attachments math_primes math_delimiter_sign math_delimiter math_delimited_body math_delimiter_if math_delimited math_argument_exprs math_argument_value math_eat_name math_argument_name math_named_argument math_spread_argument math_math_argument math_argument_end math_math_argument_turn math_math_arguments math_math_text math_root math_math_primary math_fraction math_math_tail_turn math_math_grown math_math_expr chars spread_argument named_argument before_colon string_key placeholder spread code_item group_turn group_rest group as_group readings parens pattern_defaulted pattern_param pattern_param_turn pattern_params the_pattern_bound_name pattern_pattern_leaf pattern_sink pattern_name_and_colon pattern_key pattern_key_or_pattern pattern_part pattern_destructuring_item pattern_destructuring_turn pattern_destructuring pattern_pattern seconds call_seconds seconds_of_text
computing = tt
