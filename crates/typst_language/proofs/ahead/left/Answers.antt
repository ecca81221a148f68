use Rattle.typst_language.proofs.Cited.{length, encode_utf8_all, ap, sym, ◌∙◌, encodes-chars}
use Rattle.typst_language.proofs.ahead.left.Goals as goal

pub returns : goal.returns
returns c = ap length (sym (encodes-chars c.after.result.now c.after.utf8) ∙ ap encode_utf8_all c.after.ensures.characters)
