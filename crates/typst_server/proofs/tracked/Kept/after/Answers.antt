use Rattle.typst_server.proofs.Cited.{Some, ap, arith, refl, Kept}
use Rattle.typst_server.proofs.KeptTokens.{through_first, through_later}
use Rattle.typst_server.proofs.tracked.Kept.after.Goals as goal
use Rattle.typst_server.proofs.tracked.Kept.after.Goals.{in-Some, in-None}

pub returns : goal.returns
returns c =
    let new_kept : Kept = record { tokens = c.args.self.tokens; was_len = c.args.self.was_len; read = Some c.match-self.all } in
    elim c.match-self.branch [
      | in-Some w ↦
          through_later _ new_kept w.in-Some.first c.args.read w.read_by_both-all.result c.args.before c.args.after (omega (arith, c.ranges.before.fits)) (omega (arith, c.ranges.after.fits)) w.read_by_both-all.ensures w.in-Some.is refl refl
          (ap (λ r. Some r) w.all-is)
      | in-None w ↦ through_first _ new_kept c.args.read c.args.before c.args.after (omega (arith, c.ranges.before.fits)) (omega (arith, c.ranges.after.fits)) w.in-None.is refl refl (ap (λ r. Some r) w.all-is)
    ]
