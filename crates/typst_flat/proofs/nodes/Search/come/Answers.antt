use Rattle.typst_flat.proofs.Cited.{refl, Course, course}
use Rattle.typst_flat.proofs.Placing.{stays_back}
use Rattle.typst_flat.proofs.nodes.Search.come.Goals as goal
use Rattle.std.proofs.lemmas.List.{nil_from_length}

pub rows-preserved : goal.rows-preserved
rows-preserved c =
    let w = c.in-Some-leave.ensures in
    let v : Course = course c.args.self c.rows.at c.rows.progress in
    record {
      number = c.rows.invariant.number;
      ready = stays_back v _ c.in-Some-leave.row c.rows.invariant.ready (nil_from_length c.rows.at.nodes.now c.in_default.ensures.cases) w.0 w.1 refl refl refl refl refl;
    }
