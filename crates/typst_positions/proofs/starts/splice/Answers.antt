use Rattle.typst_positions.proofs.Cited.{◌≡◌, map, ◌∙◌, sym, items_from_drains, map-id}
use Rattle.std.proofs.lemmas.Iterator.Adapters.{YieldsList-from_vec}
use Rattle.typst_positions.proofs.starts.splice.Goals as goal

pub returns-clause-ok : goal.returns-clause-ok
returns-clause-ok c =
    let a = c.in_ok-splice.ensures.items in
    let all = YieldsList-from_vec {s = a.0} c.args.between.items a.2.0 (a.2.1 ∙ c.args.between.ok.0) in
    let e : map (λ x. x) a.1 ≡ c.args.between.items = items_from_drains a.1 (a.3.1.0, a.3.1.1, λ _. (a.3.0, a.3.1.2)) all in
    rw (sym (map-id a.1) ∙ e) at a.4
