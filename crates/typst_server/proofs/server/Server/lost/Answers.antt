use Rattle.typst_server.proofs.Cited.{String, Global, subst, sym, All-nil, Vec, All, is_ok, string_bytes, AreNone, Publishes}
use Rattle.typst_server.proofs.Taking.{all_pushed}
use Rattle.typst_server.proofs.server.Server.lost.Goals as goal
use Rattle.typst_server.proofs.server.Server.lost.Goals.{in-Ok+in-Err-1, in-Ok+in-Ok-1, in_default}

pub returns-clause-published : goal.returns-clause-published
returns-clause-published c =
    let P : String Global → Type 0 = λ text. Publishes (AreNone c.args.uri.now) (string_bytes text) in
    let none : All P c.new-published.result.items = subst (All P) (sym c.new-published.ensures.items) (All-nil P) in
    elim c.match-publish_none.branch [
      | in-Ok+in-Err-1 w ↦
          subst (λ (v : Vec (String Global)). All P v.items) (sym w.published-is)
          (all_pushed P w.in-Ok.text c.new-published.result.items w.push-refused.new.self.items (is_ok w.push-refused.result) w.push-refused.ensures.items none w.in-Ok.ensures)
      | in-Ok+in-Ok-1 w ↦
          subst (λ (v : Vec (String Global)). All P v.items) (sym w.published-is)
          (all_pushed P w.in-Ok.text c.new-published.result.items w.push-refused.new.self.items (is_ok w.push-refused.result) w.push-refused.ensures.items none w.in-Ok.ensures)
      | in_default w ↦ subst (λ (v : Vec (String Global)). All P v.items) (sym w.published-is) none
    ]
