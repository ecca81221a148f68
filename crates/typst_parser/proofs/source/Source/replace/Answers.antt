use Rattle.typst_parser.proofs.Cited.{refl, ap, arith, Held}
use Rattle.typst_parser.proofs.Answered.{end-kept, on-ok}
use Rattle.typst_parser.proofs.source.Source.replace.Goals as goal

pub returns-in_default-clause-same : goal.returns-in_default-clause-same
returns-in_default-clause-same g c = λ _. (refl, refl)

pub returns-in_default-clause-within : goal.returns-in_default-clause-within
returns-in_default-clause-within g c = (omega arith, omega arith)

pub edit-requires-clause-end : goal.edit-requires-clause-end
edit-requires-clause-end g c = end-kept c.self.inside.lines c.args.self.now.text c.len_bytes.result c.in-Some.end (ap (λ (s : Held g.row.C.Denot). s.text) c.self.view_is) c.len_bytes.ensures c.in-Some.ensures.replaces.end

pub edit-requires-clause-ordered : goal.edit-requires-clause-ordered
edit-requires-clause-ordered g c = omega (arith, c.in-Some.ensures.replaces.ordered, c.len_bytes.ensures)

pub returns-clause-text : goal.returns-clause-text
returns-clause-text g c = grind (arith, on-ok)

pub returns-clause-refused : goal.returns-clause-refused
returns-clause-refused g c = grind arith
