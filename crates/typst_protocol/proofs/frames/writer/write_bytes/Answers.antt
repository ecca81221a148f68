use Rattle.typst_protocol.proofs.Cited.{sym, subst, arith, take, Appends-kept, Appends}
use Rattle.std.proofs.lemmas.List.{length-drop, take_rest}
use Rattle.typst_protocol.proofs.Writing.{Appends-piece}
use Rattle.typst_protocol.proofs.frames.writer.write_bytes.Goals as goal
use Rattle.typst_protocol.proofs.frames.writer.write_bytes.Goals.{in-Ok, in-Err}

pub loop-turn-preserved : goal.loop-turn-preserved
loop-turn-preserved g c =
    let bytes = c.args.bytes.now in
    let old = g.W.Write.contents c.args.writer.now in
    let new = g.W.Write.contents c.write.new.self in
    let before = c.loop-turn.invariant in elim c.match-write.branch [
      | in-Ok w ↦
          record {
            within = omega (arith, w.done-is, rw (take_rest, length-drop) at w.in-Ok.ensures.bound, before.within);
            written =
                subst (λ d. Appends old new (take d bytes)) (sym w.done-is)
                (Appends-piece _ _ _ bytes c.loop-turn.done w.in-Ok.count before.written (rw take_rest at w.in-Ok.ensures.bytes));
          }
      | in-Err w ↦
          record {
            within = omega (arith, w.done-is, before.within);
            written = subst (λ d. Appends old new (take d bytes)) (sym w.done-is) (Appends-kept _ _ _ _ before.written w.in-Err.ensures.bytes);
          }
    ]
