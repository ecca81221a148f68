use Rattle.typst_lexer.proofs.Cited.{refl, token, backtick, raw}
use Rattle.typst_lexer.proofs.token_laws.look_of_a_raw_text.Goals as goal

pub returns : goal.returns
unfolding token backtick raw
returns c = λ k. record { closed = refl; unclosed = refl; two = refl; shorter = record { agree = record { before = refl; ahead = refl }; first = refl; second = refl; first_taken = refl; second_taken = refl } }
