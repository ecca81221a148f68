use Rattle.std.proofs.Common.{true, Some}
use Rattle.typst_parser.proofs.Fresh.{records-new}
use Rattle.typst_parser.proofs.source.Source.new.Goals as goal

pub invariant_of-result : goal.invariant_of-result
invariant_of-result g c = record {
  records = λ _.
      records-new (g.C.Classes.classes c.args.classes) (record { id = c.args.id; text = c.in-Ok.lines; root = c.in_ok-made.made.root; classes = c.args.classes; has_records = true }) (Some c.args.id) _ c.text.result.now c.text.ensures
      c.in_ok-made.ensures.tree c.in_ok-made.ensures.leaves c.in_ok-made.ensures.numbers c.in_ok-made.ensures.placed c.in_ok-made.ensures.units;
  between = c.front_of-boundary.ensures.boundary;
}

pub returns-clause-headline : goal.returns-clause-headline
returns-clause-headline g c =
    (records-new (g.C.Classes.classes c.args.classes) (record { id = c.args.id; text = c.in-Ok.lines; root = c.in_ok-made.made.root; classes = c.args.classes; has_records = true }) (Some c.args.id) _ c.text.result.now c.text.ensures
    c.in_ok-made.ensures.tree c.in_ok-made.ensures.leaves c.in_ok-made.ensures.numbers c.in_ok-made.ensures.placed c.in_ok-made.ensures.units).headline
