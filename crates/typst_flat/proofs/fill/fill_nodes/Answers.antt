use Rattle.typst_flat.proofs.Cited.{◌-◌, ◌^◌, ap, length, ◌∙◌, refl, filled}
use Rattle.typst_flat.proofs.Whole.{whole, length_records}
use Rattle.typst_flat.proofs.fill.fill_nodes.Goals as goal

pub returns-clause-count : goal.returns-clause-count
returns-clause-count c =
    c.in_ok-count.ensures.count ∙ (ap length (whole (record { start = 0; end = 2 ^ 64 - 1 }) c.args.root.now refl refl) ∙ length_records c.args.root.now)

pub returns-clause-room : goal.returns-clause-room
returns-clause-room c =
    c.in_ok-count.ensures.room ∙ ap (λ xs. filled xs c.args.room.now) (whole (record { start = 0; end = 2 ^ 64 - 1 }) c.args.root.now refl refl)
