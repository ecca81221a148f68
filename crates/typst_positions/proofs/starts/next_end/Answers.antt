use Rattle.typst_positions.proofs.Firsts.{none-first, some-first}
use Rattle.typst_positions.proofs.starts.next_end.Goals as goal

pub returns-in_err-length : goal.returns-in_err-length
returns-in_err-length c = rw c.from_residual.ensures (none-first c.args.text.now c.args.from c.args.to c.requires.ordered c.requires.within c.in_err-length.ensures)

pub returns : goal.returns
returns c = some-first c.args.text.now c.args.from c.args.to c.requires.ordered c.requires.within c.in_ok-length.length c.in_ok-length.ensures
