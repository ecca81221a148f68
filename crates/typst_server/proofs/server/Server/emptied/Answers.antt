use Rattle.typst_server.proofs.Cited.{String, Global, subst, sym, Vec, All, is_ok, string_bytes, Empties}
use Rattle.typst_server.proofs.Taking.{all_pushed}
use Rattle.typst_server.proofs.server.Server.emptied.Goals as goal
use Rattle.typst_server.proofs.server.Server.emptied.Goals.{then-is_known+in-Ok+in-Err-1, then-is_known+in-Ok+in-Ok-1, then-is_known+in_default, else-is_known}

pub loop-entry-preserved : goal.loop-entry-preserved
loop-entry-preserved c =
    let P : String Global → Type 0 = λ text. Empties (string_bytes text) in
    let so_far : All P c.loop-entry.published.items = c.loop-entry.invariant in
    elim c.if-is_known.branch [
      | then-is_known+in-Ok+in-Err-1 w ↦
          subst (λ (v : Vec (String Global)). All P v.items) (sym w.published-is)
          (all_pushed P w.in-Ok.text c.loop-entry.published.items w.push-refused.new.self.items (is_ok w.push-refused.result) w.push-refused.ensures.items so_far (w.uri.result.now, w.in-Ok.ensures))
      | then-is_known+in-Ok+in-Ok-1 w ↦
          subst (λ (v : Vec (String Global)). All P v.items) (sym w.published-is)
          (all_pushed P w.in-Ok.text c.loop-entry.published.items w.push-refused.new.self.items (is_ok w.push-refused.result) w.push-refused.ensures.items so_far (w.uri.result.now, w.in-Ok.ensures))
      | then-is_known+in_default w ↦ subst (λ (v : Vec (String Global)). All P v.items) (sym w.published-is) so_far
      | else-is_known w ↦ subst (λ (v : Vec (String Global)). All P v.items) (sym w.published-is) so_far
    ]
