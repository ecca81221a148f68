use Rattle.typst_grammar.proofs.Cited.{encode, refl, number_after, line_ends, whitespace, shebang, line_comment, block_comment, comment_end, sign, code_point, backslash, of_mode, hash, slash, star, token, ahead, ahead_asks, column_at, hand_at, hand_asks, meaning_of, less, repeated, growing, nesting, run, eat_making, eat, convert_and_eat, eat_if, close_if, unexpected, expected, expect, flush_trivia, within, node, node_with_trivia, note, grow, nest, deeper, note_piece, markup_turn, markup_exprs, markup_run, markup, markup_is_empty, delimited, heading, item, term_item, markup_expr, whole, whole_code, tree, tree_code, link, link_or_text, label_or_text, ref_marker, ref_or_text, label, raw, backtick, later_lines, inline_leaves, raw_node, read_block, content_block, direct_content, reference, keyword_or_name, ident, foreign, invalid, suffixed, exponent_digits, signed_digits, exponent, fraction, decimal, dotted, in_base, zero_first, number_token, string, expects, expect_identifier, seeing, embedded_end, embedded_expr, embedded, string_key, missing_break, statement_end, statement, code_turn, code_exprs, code, code_block, separator, named, as_group, readings, parens, argument, argument_turn, argument_list, listed_arguments, content_turn, missing_arguments, begin_arguments, arguments, field, show_rule, contextual, unary_expr, code_primary, binary_expr, not_in, direct_field, call_tail, code_tail_turn, code_expr}
use Rattle.typst_tokens.specs.Markup.{markup as markup_token, heading as heading_token, dot, marker_or_text, marker, hyphen, minus, emphasis, numbering}
use Rattle.typst_tokens.specs.Text.{text as text_token, text_from}
use Rattle.typst_grammar.proofs.laws.trees_of_code.Goals as goal
use Rattle.typst_tokens.specs.Code.{code as code_token, single, less as less_token, with_equals, dots, dot as code_dot, equals, bang}
use Rattle.typst_code.specs.Groups.{spread, pair, item as code_item, group_turn, group_rest, group}

pub returns : goal.returns
unfolding tree whole meaning_of note_piece markup_turn markup_exprs markup_run markup markup_is_empty delimited heading item term_item markup_expr deeper eat_making eat convert_and_eat eat_if close_if unexpected expected expect flush_trivia within node node_with_trivia note less repeated run ahead ahead_asks column_at hand_at hand_asks of_mode hash slash star token text_token markup_token heading_token sign text_from code_point backslash dot marker_or_text marker hyphen minus emphasis numbering line_ends whitespace shebang line_comment block_comment comment_end number_after encode link link_or_text label label_or_text ref_marker ref_or_text raw backtick later_lines inline_leaves raw_node read_block content_block direct_content reference grow nest growing nesting whole_code tree_code code_token single less_token with_equals dots code_dot equals bang keyword_or_name ident foreign invalid suffixed exponent_digits signed_digits exponent fraction decimal dotted in_base zero_first number_token string expects expect_identifier seeing embedded_end embedded_expr embedded string_key missing_break statement_end statement code_turn code_exprs code code_block spread pair separator code_item group_turn group_rest group named as_group readings parens argument argument_turn argument_list listed_arguments content_turn missing_arguments begin_arguments arguments field show_rule contextual unary_expr code_primary binary_expr not_in direct_field call_tail code_tail_turn code_expr
returns c = λ beyond. record {
  products = refl;
  sums = refl;
  assignments = refl;
  signs = refl;
  negation = refl;
  group = refl;
  array = refl;
  duplicate = refl;
  call = refl;
  atomic = refl;
  quote = refl;
  context = refl;
  show = refl;
}
