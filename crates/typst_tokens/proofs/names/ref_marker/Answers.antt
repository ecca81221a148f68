use Rattle.std.proofs.Common.{arith}
use Rattle.typst_tokens.proofs.References.{name-ahead}
use Rattle.typst_tokens.proofs.names.ref_marker.Goals as goal

pub skip-requires : goal.skip-requires
skip-requires g c = grind (arith, name-ahead)
