use Rattle.typst_lexer.proofs.Cited.{refl, markup, token, of_mode}
use Rattle.typst_tokens.specs.Link.{link, link_or_text}
use Rattle.typst_lexer.proofs.token_laws.look_of_a_link.Goals as goal

pub returns : goal.returns
unfolding token of_mode markup link_or_text link
returns c = λ k. record { look = refl; shorter = record { agree = record { before = refl; ahead = refl }; first = refl; second = refl; first_taken = refl; second_taken = refl } }
