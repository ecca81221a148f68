use Rattle.typst_lexer.proofs.Cited.{refl, markup, text, text_from, token, of_mode}
use Rattle.typst_tokens.specs.Names.{label_or_text, ref_marker, ref_or_text}
use Rattle.typst_tokens.specs.Labels.{label}
use Rattle.typst_lexer.proofs.token_laws.looks_of_names.Goals as goal

pub returns : goal.returns
unfolding token of_mode markup label_or_text label ref_or_text ref_marker text_from text
returns c = λ k. record { reference = refl; shorter_reference = record { agree = record { before = refl; ahead = refl }; first = refl; second = refl; first_taken = refl; second_taken = refl }; label = refl; shorter_label = record { agree = record { before = refl; ahead = refl }; first = refl; second = refl; first_taken = refl; second_taken = refl }; colon = refl }
