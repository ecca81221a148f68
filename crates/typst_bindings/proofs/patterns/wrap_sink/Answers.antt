use Rattle.std.proofs.Common.{rules}
use Rattle.typst_bindings.proofs.patterns.wrap_sink.Goals as goal

pub returns : goal.returns
returns c = search rules
