use Rattle.typst_language.proofs.Cited.{encode, refl, number_after, line_ends, whitespace, shebang, line_comment, block_comment, comment_end, sign, of_mode, hash, slash, star, token, ahead, ahead_asks, column_at, hand_at, hand_asks, less, repeated, growing, nesting, run, eat_making, eat, convert_and_eat, eat_if, close_if, unexpected, expected, expect, flush_trivia, within, node, node_with_trivia, note, grow, nest, code_point, backslash}
use Rattle.typst_tokens.specs.Markup.{markup as markup_token, heading as heading_token, dot, marker_or_text, marker, hyphen, minus, emphasis, numbering}
use Rattle.typst_tokens.specs.Text.{text as text_token, text_from}
use Rattle.typst_language.proofs.laws.words_of_the_language.Goals as goal

pub returns : goal.returns
unfolding eat_making eat convert_and_eat eat_if close_if unexpected expected expect flush_trivia within node node_with_trivia note less repeated run ahead ahead_asks column_at hand_at hand_asks of_mode hash slash star token text_token markup_token heading_token sign text_from code_point backslash dot marker_or_text marker hyphen minus emphasis numbering line_ends whitespace shebang line_comment block_comment comment_end number_after encode grow nest growing nesting
returns c = λ beyond. record {
  grows_left = refl;
  grows_after_trivia = refl;
  nests_right = refl;
  hints_back = refl;
  hints_nothing = refl;
  hints_before = refl;
  not_wanted = refl;
  after_not_wanted = refl;
  first_wrong = refl;
  first_renamed = refl;
  lacking = refl;
  further_on = refl;
  further_stays = refl;
  looked_once = refl;
  looked_again = refl;
  closed_quietly = refl;
  given_up = refl;
  looks_stay = refl;
}
