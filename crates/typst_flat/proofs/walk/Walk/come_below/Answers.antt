use Rattle.typst_flat.proofs.Cited.{◌≡◌, ◌+◌, ◌-◌, ◌++◌, ◌∷◌, [], List, length, take, ap, sym, ◌∙◌, refl, arith, vec_len, take-set, Row}
use Rattle.typst_flat.proofs.Steps.{closed_row, last_row, set_last, taken_row}
use Rattle.typst_flat.proofs.walk.Walk.come_below.Goals as goal

pub returns-in-Some-next-clause-takes : goal.returns-in-Some-next-clause-takes
returns-in-Some-next-clause-takes c =
    let old : List Row = c.rows.self.rows.items in
    let last = vec_len c.rows.self.rows - 1 in
    let long : length old ≡ last + 1 = omega (arith, c.rows.self.rows.ok.0, c.in-Some.ensures.variant.0 refl) in
    taken_row c.args.self.now.root.now c.args.self.now.number old (take last old) _ c.in-Some.row.now _ _ c.rows.invariant.ready (last_row old last c.in-Some.row.now long c.in-Some.ensures.value) (set_last old last _ long) c.in-Some-next.ensures.steps refl

pub rows-preserved : goal.rows-preserved
rows-preserved c =
    let old : List Row = c.rows.self.rows.items in
    let last = vec_len c.rows.self.rows - 1 in
    let long : length old ≡ last + 1 = omega (arith, c.rows.self.rows.ok.0, c.in-Some.ensures.variant.0 refl) in
    let row : Row = c.in-Some.row.now in
    record {
      root = c.rows.invariant.root;
      stretch = c.rows.invariant.stretch;
      number = c.rows.invariant.number;
      ready = closed_row c.args.self.now.root.now c.args.self.now.number old c.pop.new.self.items row c.rows.invariant.ready (last_row old last row long c.in-Some.ensures.value ∙ ap (λ rest. rest ++ row ∷ []) (sym (c.pop.ensures.rest ∙ take-set old last _))) c.in_default-next.ensures.steps.0;
    }
