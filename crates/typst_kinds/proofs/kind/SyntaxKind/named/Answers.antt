use Rattle.typst_kinds.proofs.Cited.{◌≡◌, false, true, refl, sym, ap, ◌∙◌, arith, inl, inr, nat_eq, bytes_decides, pointwise, cases_eq, same_Some, none-some, place_of, name_of}
use Rattle.typst_kinds.proofs.kind.SyntaxKind.named.Goals as goal

pub loop-place-preserved : goal.loop-place-preserved
loop-place-preserved c = λ k e.
    let least = c.loop-place.invariant k e in
    elim (cases_eq c.loop-place.place (place_of k)) [
      | inl same ↦ (let here = same_Some c.in_ok-kind.kind k (sym c.in_ok-kind.was ∙ (c.at.ensures k).1 (sym same)) in
          let named = c.as_bytes.ensures.value ∙ (c.name.ensures ∙ (ap name_of here ∙ e)) in
          let bad : false ≡ true = c.if-eq.ensures ∙ (ap (λ x. pointwise nat_eq x c.args.name.now) named ∙ (bytes_decides c.args.name.now c.args.name.now).1 refl) in
          absurd (cc))
      | inr other ↦ omega (arith, least, other)
    ]

pub returns-in_err-kind-clause-none : goal.returns-in_err-kind-clause-none
returns-in_err-kind-clause-none c =
    let found = (c.count-place-end.ensures c.loop-place.place).0 c.loop-place-test.true in
    absurd (none-some found.0 (sym c.in_err-kind.was ∙ (c.at.ensures found.0).1 found.1))

pub returns-clause-none : goal.returns-clause-none
returns-clause-none c = λ k e. omega (arith, c.loop-place.invariant k e, c.loop-place-test.false, (c.count-place-end.ensures (place_of k)).1 (k, refl))
