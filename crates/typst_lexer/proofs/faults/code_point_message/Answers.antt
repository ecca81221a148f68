use Rattle.std.proofs.lemmas.Str.{encodes-chars}
use Rattle.typst_lexer.proofs.faults.code_point_message.Goals as goal

pub returns : goal.returns
returns c = rw (← c.escaped-digits.ensures, encodes-chars c.escaped-digits.result.now c.escaped-digits.utf8) c.format.ensures.ok
