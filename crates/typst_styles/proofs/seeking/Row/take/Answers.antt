use Rattle.typst_styles.proofs.Cited.{◌≡◌, ◌∙◌, true, false, length, ap, refl, sym, arith, nat_tests, after}
use Rattle.typst_names.proofs.LeftNames.{end_is}
use Rattle.typst_styles.proofs.SoughtRows.{rest_of, takes}
use Rattle.typst_styles.proofs.seeking.Row.take.Goals as goal

pub returns-clause-takes : goal.returns-clause-takes
returns-clause-takes c =
    let some : c.is_empty.result ≡ true → length c.in-Some.later.now ≡ 0 = λ h. grind (arith, nat_tests, c.is_empty.ensures, h) in
    let none : c.is_empty.result ≡ false → length c.in-Some.later.now ≡ 0 → ⊥ = λ h i. grind (arith, nat_tests, c.is_empty.ensures, h, i) in
    λ root is. takes root _ _ c.in-Some.node.now _ _ is (record {
      passed = record {
        were = c.in-Some.ensures.cases.0;
        placed = ap rest_of (sym c.in-Some-next.ensures.steps);
        later = refl;
        end = c.end-self.ensures;
        then_in = c.after-self.ensures ∙ ap (after c.args.self.now.context) c.kind.ensures;
        still = refl;
      };
      placed = c.in-Some-next.ensures.steps;
      tree = refl;
      start = refl;
      role_in = refl;
      around = refl;
      is_last = end_is _ c.is_empty.result some none;
    })
