use Rattle.std.proofs.lemmas.Option.{slice_get-get_or}
use Rattle.typst_candidates.proofs.entries.wide_at.Goals as goal

pub returns : goal.returns
returns c = slice_get-get_or c.args.wide.now c.args.number _ c.requires
