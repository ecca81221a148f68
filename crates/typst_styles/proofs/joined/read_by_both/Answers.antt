use Rattle.std.proofs.Common.{arith}
use Rattle.typst_styles.proofs.JoinedEdits.{of_both}
use Rattle.typst_styles.proofs.joined.read_by_both.Goals as goal

pub returns : goal.returns
returns c =
    of_both c.args.first.now c.args.second.now c.args.before c.args.after (record { start = c.min.result; end = c.max.result }) c.min.ensures (omega (arith, c.max.ensures, c.saturating_sub-end.ensures, c.saturating_sub-rest.ensures)) (omega (arith, c.max.ensures))
