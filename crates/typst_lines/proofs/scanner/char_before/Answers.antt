use Rattle.typst_lines.proofs.Cited.{◌++◌, sym, ap, ◌∙◌, nil_from_length, encode_utf8}
use Rattle.typst_lines.proofs.PlaceLemmas.{IsStep-from_front, IsFirst-from_nothing, front-range}
use Rattle.typst_lines.proofs.scanner.char_before.Goals as goal

pub returns-in-Some : goal.returns-in-Some
returns-in-Some c =
    IsStep-from_front c.args.text.now c.utf8.text c.as_str.result.now c.in-Some.c c.args.at c.as_str.utf8 c.requires
    (front-range _ _ ∙ sym c.range.ensures.value ∙ sym c.chars-chars.ensures.rest ∙ c.in-Some.ensures.steps ∙ ap (λ t. t ++ encode_utf8 c.in-Some.c) (sym c.as_str.ensures))

pub returns-in-None : goal.returns-in-None
returns-in-None c =
    IsFirst-from_nothing c.args.text.now c.args.at (front-range _ _ ∙ sym c.range.ensures.value ∙ sym c.chars-chars.ensures.rest ∙ nil_from_length _ c.in-None.ensures.steps.0)
