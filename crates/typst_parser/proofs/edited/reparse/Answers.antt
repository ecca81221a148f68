use Rattle.typst_parser.proofs.Cited.{◌≡◌, ap, subst, ◌∙◌, arith, OnErr, Kept}
use Rattle.typst_parser.proofs.Answering.{places-fit}
use Rattle.typst_parser.proofs.edited.reparse.Goals as goal

pub go_near-requires : goal.go_near-requires
go_near-requires g c = places-fit (g.C.Classes.classes c.args.classes.now) c.requires.edits.0 c.args.root.now c.args.records.now.units c.requires.edits.1.1 c.args.new.now c.args.edit c.requires.edits.1.0

pub reparse_near-requires-clause-edits : goal.reparse_near-requires-clause-edits
reparse_near-requires-clause-edits g c = grind arith

pub returns-clause-part : goal.returns-clause-part
returns-clause-part g c = grind arith

pub returns-clause-none : goal.returns-clause-none
returns-clause-none g c = grind arith

pub returns-clause-undone : goal.returns-clause-undone
returns-clause-undone g c = λ e. let u = c.reparse_near.ensures.undone e in (u.0, u.1 ∙ ap (λ (r : Kept). r.units) c.go_near.ensures)

pub returns-clause-err : goal.returns-clause-err
returns-clause-err g c = subst (λ (r : Kept). OnErr c.reparse_near.result ((c.reparse_near.new.root ≡ c.args.root.now) × (c.reparse_near.new.records.units ≡ r.units))) c.go_near.ensures c.reparse_near.ensures.err
