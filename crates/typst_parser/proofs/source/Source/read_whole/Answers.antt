use Rattle.typst_parser.proofs.Cited.{common_steps, ◌∙◌, true, sym, arith, rules, tree, Held}
use Rattle.typst_parser.proofs.Answered.{same-file}
use Rattle.typst_parser.proofs.Fresh.{records-new}
use Rattle.typst_parser.proofs.source.Source.read_whole.Goals as goal

pub invariant_of-self-2 : goal.invariant_of-self-2
invariant_of-self-2 g c = record {
  records = λ _. records-new (g.C.Classes.classes c.self.inside.classes) (record { id = c.self.inside.id; text = c.keep.result; root = c.in-Ok-parse_whole.made.root; classes = c.self.inside.classes; has_records = true }) c.id-file.result _ c.text.result.now (c.text.ensures ∙ sym c.keep.ensures)
      c.in-Ok-parse_whole.ensures.tree c.in-Ok-parse_whole.ensures.leaves c.in-Ok-parse_whole.ensures.numbers c.in-Ok-parse_whole.ensures.placed c.in-Ok-parse_whole.ensures.units;
  between = c.front_of-self-inside.ensures.boundary;
}

pub returns-clause-edits : goal.returns-clause-edits
returns-clause-edits g c =
    let is = c.self.view_is in
    let k = g.C.Classes.classes c.self.inside.classes in
    let made : Held g.row.C.Denot = record { id = c.self.inside.id; text = c.keep.result; root = c.in-Ok-parse_whole.made.root; classes = c.self.inside.classes; has_records = true } in
    let records = records-new k made c.id-file.result _ c.text.result.now (c.text.ensures ∙ sym c.keep.ensures)
    c.in-Ok-parse_whole.ensures.tree c.in-Ok-parse_whole.ensures.leaves c.in-Ok-parse_whole.ensures.numbers c.in-Ok-parse_whole.ensures.placed c.in-Ok-parse_whole.ensures.units in
    grind (arith, common_steps, same-file)

pub invariant_of-self-in-Err : goal.invariant_of-self-in-Err
invariant_of-self-in-Err g c = search rules

pub returns-in-Err-clause-err : goal.returns-in-Err-clause-err
returns-in-Err-clause-err g c = search rules
