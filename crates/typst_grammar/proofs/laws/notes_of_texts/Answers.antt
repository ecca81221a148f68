use Rattle.typst_grammar.proofs.Cited.{encode, refl, position, width, stretch, far, near, char_width, number_after, line_ends, whitespace, shebang, line_comment, block_comment, comment_end, sign, code_point, backslash, of_mode, hash, slash, star, token, ahead, ahead_asks, column_at, hand_at, hand_asks, meaning_of, less, repeated, run, eat_making, eat, convert_and_eat, eat_if, close_if, unexpected, expected, expect, flush_trivia, within, node, node_with_trivia, note, deeper, too_deep, skip_one, note_piece, markup_turn, markup_exprs, markup_run, markup, markup_is_empty, delimited, heading, item, term_item, markup_expr, whole, tree, log, link, link_or_text, label_or_text, ref_marker, ref_or_text, label, raw, backtick, later_lines, inline_leaves, raw_node, read_block, content_block, direct_content, reference}
use Rattle.typst_tokens.specs.Markup.{markup as markup_token, heading as heading_token, dot, marker_or_text, marker, hyphen, minus, emphasis, numbering}
use Rattle.typst_tokens.specs.Text.{text as text_token, text_from}
use Rattle.typst_grammar.proofs.laws.notes_of_texts.Goals as goal

pub returns : goal.returns
unfolding tree log position width stretch far near char_width whole meaning_of note_piece markup_turn markup_exprs markup_run markup markup_is_empty delimited heading item term_item markup_expr deeper too_deep skip_one eat_making eat convert_and_eat eat_if close_if unexpected expected expect flush_trivia within node node_with_trivia note less repeated run ahead ahead_asks column_at hand_at hand_asks of_mode hash slash star token text_token markup_token heading_token sign text_from code_point backslash dot marker_or_text marker hyphen minus emphasis numbering line_ends whitespace shebang line_comment block_comment comment_end number_after encode link link_or_text label label_or_text ref_marker ref_or_text raw backtick later_lines inline_leaves raw_node read_block content_block direct_content reference
returns c = λ beyond. record {
  nothing = refl;
  letter = refl;
  comment = refl;
  two_lines = refl;
  one_block = refl;
  empty_block = refl;
  stars = refl;
  items = refl;
  blocks = refl;
  deep = refl;
}
