use Rattle.typst_lexer.proofs.Cited.{refl, whitespace, line_comment, block_comment, line_ends, markup, minus, hyphen, emphasis, marker_or_text, sign, text, text_from, token, of_mode, hash, slash, star}
use Rattle.typst_lexer.proofs.token_laws.look_of_a_text.Goals as goal

pub returns : goal.returns
unfolding token of_mode hash slash star markup whitespace line_comment block_comment line_ends text sign text_from minus hyphen emphasis marker_or_text
returns c = λ k. record { look = refl; shorter = record { agree = record { before = refl; ahead = refl }; first = refl; second = refl; first_taken = refl; second_taken = refl } }
