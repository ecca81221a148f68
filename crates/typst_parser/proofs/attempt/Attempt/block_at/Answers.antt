use Rattle.std.proofs.Common.{rules}
use Rattle.typst_parser.proofs.attempt.Attempt.block_at.Goals as goal

pub returns : goal.returns
returns g c = search rules
