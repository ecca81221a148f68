use Rattle.std.proofs.Common.{append_assoc, arith}
use Rattle.std.proofs.lemmas.Str.{encode_ascii, encodes-chars}
use Rattle.typst_markup.proofs.escapes.read_escape.Goals as goal

pub returns-clause-key : goal.returns-clause-key
returns-clause-key c = grind (arith, encodes-chars, encode_ascii, append_assoc)
