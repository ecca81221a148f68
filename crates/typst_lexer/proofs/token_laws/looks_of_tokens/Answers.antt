use Rattle.typst_lexer.proofs.Cited.{refl, whitespace, line_comment, block_comment, line_ends, markup, minus, hyphen, emphasis, marker_or_text, sign, text, text_from, token, of_mode, hash, slash, star}
use Rattle.typst_tokens.specs.Column.{column_at}
use Rattle.typst_lexer.proofs.token_laws.looks_of_tokens.Goals as goal

pub returns : goal.returns
unfolding column_at token of_mode hash slash star markup whitespace line_comment block_comment line_ends text sign text_from minus hyphen emphasis marker_or_text
returns c = λ k. record { line_comment = refl; block_comment = refl; unclosed_comment = refl; parbreak = refl; list_marker = refl; end = refl; column = refl }
