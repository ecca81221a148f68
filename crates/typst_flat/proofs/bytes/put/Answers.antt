use Rattle.std.proofs.Common.{arith}
use Rattle.typst_flat.proofs.Filling.{byte_fits, byte_full}
use Rattle.typst_flat.proofs.bytes.put.Goals as goal
use Rattle.typst_flat.proofs.bytes.put.Goals.{then-place-room, else-place-room}

pub loop-i-preserved : goal.loop-i-preserved
loop-i-preserved c = grind (arith, then-place-room, byte_fits, else-place-room, byte_full)
