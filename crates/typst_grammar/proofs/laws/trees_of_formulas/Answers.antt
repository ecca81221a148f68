use Rattle.typst_grammar.proofs.Cited.{refl, tree, whole, whole_math, tree_math, meaning_of, note_piece, markup_turn, markup_exprs, markup_run, markup, markup_is_empty, delimited, heading, item, term_item, markup_expr, deeper, eat_making, eat, convert_and_eat, eat_if, close_if, unexpected, expected, expect, flush_trivia, within, node, node_with_trivia, note, grow, less, repeated, run, growing, ahead, ahead_asks, column_at, hand_at, hand_asks, of_mode, hash, slash, star, token, sign, line_ends, whitespace, shebang, line_comment, block_comment, comment_end, code_point, backslash, number_after, encode, chars, seeing, expects}
use Rattle.typst_tokens.specs.Text.{text as text_token, text_from}
use Rattle.typst_tokens.specs.Markup.{markup as markup_token, heading as heading_token, dot, marker_or_text, marker, hyphen, minus, emphasis, numbering}
use Rattle.typst_language.specs.Math.{primes as token_primes, atom as token_atom, by_class as token_by_class, single as token_single, math_from as token_math_from, math as token_math}
use Rattle.typst_language.specs.Atoms.{cluster as token_cluster, number as token_number, text as token_text}
use Rattle.typst_language.specs.MathNames.{after_name as token_after_name, named as token_named, name as token_name}
use Rattle.typst_language.specs.Shorthands.{hyphen as sign_hyphen, tilde as sign_tilde, colon as sign_colon, equals as sign_equals, greater as sign_greater, less_short as sign_less_short, less_middle as sign_less_middle, less as sign_less, bar as sign_bar, bracket as sign_bracket, bang as sign_bang, dot as sign_dot, several as sign_several}
use Rattle.typst_code.specs.Equations.{math_expression as formula_math_expression, math_item as formula_math_item, math_turn as formula_math_turn, math_exprs as formula_math_exprs, math as formula_math, between_dollars as formula_between_dollars, equation as formula_equation}
use Rattle.typst_code.specs.Attachments.{operand as math_operand, attachment_turn as math_attachment_turn, attachments as math_attachments, primes as math_primes}
use Rattle.typst_code.specs.Delimited.{delimiter_sign as math_delimiter_sign, delimiter as math_delimiter, delimited_body as math_delimited_body, delimiter_if as math_delimiter_if, delimited as math_delimited}
use Rattle.typst_code.specs.MathArguments.{argument_exprs as math_argument_exprs, argument_value as math_argument_value, eat_name as math_eat_name, argument_name as math_argument_name, named_argument as math_named_argument, spread_argument as math_spread_argument, math_argument as math_math_argument, argument_end as math_argument_end, math_argument_turn as math_math_argument_turn, math_arguments as math_math_arguments}
use Rattle.typst_code.specs.MathExpressions.{math_text as math_math_text, root as math_root, math_primary as math_math_primary, fraction as math_fraction, math_tail_turn as math_math_tail_turn, math_grown as math_math_grown, math_expr as math_math_expr}
use Rattle.typst_language.specs.ArgumentTokens.{spread_argument, named_argument, before_colon}
use Rattle.typst_grammar.proofs.laws.trees_of_formulas.Goals as goal

pub returns : goal.returns
unfolding tree whole meaning_of note_piece markup_turn markup_exprs markup_run markup markup_is_empty delimited heading item term_item markup_expr deeper eat_making eat convert_and_eat eat_if close_if unexpected expected expect flush_trivia within node node_with_trivia note less repeated run ahead ahead_asks column_at hand_at hand_asks of_mode hash slash star token text_token markup_token heading_token sign text_from code_point backslash dot marker_or_text marker hyphen minus emphasis numbering line_ends whitespace shebang line_comment block_comment comment_end number_after encode token_primes token_atom token_by_class token_single token_math_from token_math token_cluster token_number token_text token_after_name token_named token_name sign_hyphen sign_tilde sign_colon sign_equals sign_greater sign_less_short sign_less_middle sign_less sign_bar sign_bracket sign_bang sign_dot sign_several formula_math_expression formula_math_item formula_math_turn formula_math_exprs formula_math formula_between_dollars formula_equation math_operand math_attachment_turn math_attachments math_primes math_delimiter_sign math_delimiter math_delimited_body math_delimiter_if math_delimited math_argument_exprs math_argument_value math_eat_name math_argument_name math_named_argument math_spread_argument math_math_argument math_argument_end math_math_argument_turn math_math_arguments math_math_text math_root math_math_primary math_fraction math_math_tail_turn math_math_grown math_math_expr whole_math tree_math chars spread_argument named_argument before_colon grow growing seeing expects
returns c = λ beyond. record {
  delimited = refl;
  fraction = refl;
  unclosed_paren = refl;
  letter_and_paren = refl;
  call = refl;
  attached = refl;
  primes = refl;
  factorial = refl;
  equation = refl;
  unclosed_equation = refl;
}
