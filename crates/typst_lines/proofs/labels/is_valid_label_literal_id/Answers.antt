use Rattle.typst_lines.proofs.Cited.{sym, ◌∙◌, rules, tests, YieldsList-from_chars, all_from_yields_List, chars, is_name}
use Rattle.typst_lines.proofs.Empty.{none-is}
use Rattle.typst_lines.proofs.Fronts.{label-some, label-none}
use Rattle.typst_lines.proofs.labels.is_valid_label_literal_id.Goals as goal

pub returns-then-is_empty : goal.returns-then-is_empty
returns-then-is_empty g c = label-none (g.C.Classes.classes c.args.classes.now) (chars c.args.id.now) (none-is c.args.id.now c.utf8.id ∙ sym c.if-is_empty.ensures)

pub returns : goal.returns
returns g c =
    let k = g.C.Classes.classes c.args.classes.now in
    label-some k (chars c.args.id.now) c.all.result (none-is c.args.id.now c.utf8.id ∙ sym c.if-is_empty.ensures)
    (all_from_yields_List (is_name k) _ _ _ c.all.ensures.ran (YieldsList-from_chars c.args.id.now c.utf8.id cc) (λ x b q w. search (rules, tests)))
