use Rattle.typst_flat.proofs.Cited.{[], ap, ◌∙◌, refl, filled}
use Rattle.typst_flat.proofs.bytes.fill_text.Goals as goal

pub returns-clause-room : goal.returns-clause-room
returns-clause-room c =
    c.put.ensures [] c.args.room.now refl refl ∙ ap (λ s. filled s c.args.room.now) c.as_bytes.ensures.value
