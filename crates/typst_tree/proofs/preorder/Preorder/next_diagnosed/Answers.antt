use Rattle.typst_tree.proofs.Cited.{◌≡◌, ◌∷◌, [], Result, OnErr, cond, ap, sym, subst, ◌∙◌, arith, visited, marked, diagnosed}
use Rattle.std.specs.Iterator.{YieldsFirstBy}
use Rattle.typst_tree.proofs.LeftRows.{diagnosed_same, diagnosed_next}
use Rattle.typst_tree.proofs.preorder.Preorder.next_diagnosed.Goals as goal

-- what holds anyway holds where there is an error
where_err : {T E : Type 0} (result : Result T E) (P : Type 0) → P → OnErr result P
where_err result P h = grind arith

pub loop-visit-preserved : goal.loop-visit-preserved
loop-visit-preserved c =
    let v = visited c.in-Some.visit in
    let old = c.loop-visit.self in
    let new = c.next_marked.new.self in
    let next : marked old ≡ v ∷ marked new = subst (λ o. YieldsFirstBy visited marked old o new) c.in-Some.is c.in_ok-visit.ensures.ok in
    sym (diagnosed_next old v new next ∙ ap (λ b. cond b (v ∷ diagnosed new) (diagnosed new)) (sym c.is_diagnosed.ensures ∙ c.if-is_diagnosed.false)) ∙ c.loop-visit.invariant

pub returns-then-is_diagnosed-clause-ok : goal.returns-then-is_diagnosed-clause-ok
returns-then-is_diagnosed-clause-ok c =
    let v = visited c.in-Some.visit in
    let old = c.loop-visit.self in
    let new = c.next_marked.new.self in
    let next : marked old ≡ v ∷ marked new = subst (λ o. YieldsFirstBy visited marked old o new) c.in-Some.is c.in_ok-visit.ensures.ok in
    sym c.loop-visit.invariant ∙ diagnosed_next old v new next ∙ ap (λ b. cond b (v ∷ diagnosed new) (diagnosed new)) (sym c.is_diagnosed.ensures ∙ c.if-is_diagnosed.true)

pub returns-in_err-visit-clause-err : goal.returns-in_err-visit-clause-err
returns-in_err-visit-clause-err c = grind (arith, where_err, diagnosed_same)

pub returns-clause-ok : goal.returns-clause-ok
returns-clause-ok c =
    let old = c.loop-visit.self in
    let new = c.next_marked.new.self in
    let none : (marked old ≡ []) × (marked new ≡ []) = subst (λ o. YieldsFirstBy visited marked old o new) c.in_default.is c.in_ok-visit.ensures.ok in
    (sym c.loop-visit.invariant ∙ diagnosed_same old [] none.0, diagnosed_same new [] none.1)
