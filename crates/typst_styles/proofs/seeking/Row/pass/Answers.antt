use Rattle.typst_styles.proofs.Cited.{◌∙◌, ap, refl, after, left}
use Rattle.typst_styles.proofs.SoughtRows.{left_after, passes}
use Rattle.typst_styles.proofs.seeking.Row.pass.Goals as goal

pub returns-clause-passes : goal.returns-clause-passes
returns-clause-passes c =
    λ root is. passes root _ _ c.in-Some.node.now c.in-Some.later.now is (record {
      were = c.in-Some.ensures.cases.0;
      placed = left_after (left c.args.self.now.places) _ c.next-place.result c.next-place.ensures.steps;
      later = refl;
      end = c.end-self.ensures;
      then_in = c.after-self.ensures ∙ ap (after c.args.self.now.context) c.kind.ensures;
      still = refl;
    })
