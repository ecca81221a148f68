use Rattle.typst_flat.proofs.FixedCodes.{code_placed}
use Rattle.typst_flat.proofs.tags.fixed_code.Goals as goal

pub returns : goal.returns
returns c = code_placed _ c.place.result c.args.kind c.place.ensures.place
