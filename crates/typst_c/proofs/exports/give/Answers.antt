use Rattle.std.proofs.Common.{arith}
use Rattle.typst_c.proofs.Refused.{refused}
use Rattle.typst_c.proofs.exports.give.Goals as goal

pub returns-in-Ok-clause-refused : goal.returns-in-Ok-clause-refused
returns-in-Ok-clause-refused c = λ e h. absurd (omega (arith, h, refused e))
