use Rattle.typst_flat.proofs.Cited.{◌+◌, refl, sym, subst, arith, reverse, linked, IsReady, rows}
use Rattle.typst_flat.specs.declared.walk.Walk.{Walk}
use Rattle.typst_flat.proofs.Steps.{entered_leaf, entered_row, within}
use Rattle.typst_flat.proofs.walk.Walk.enter.Goals as goal
use Rattle.typst_flat.proofs.walk.Walk.enter.Goals.{then-descendants-gt1+in_ok-push, else-descendants-gt1}

pub overflow_add-self : goal.overflow_add-self
overflow_add-self c =
    omega (arith, within c.args.self.now.root.now c.args.self.now.number c.args.parent (reverse c.args.self.now.rows.items) c.requires.at, c.requires.counted)

pub returns-clause-ready : goal.returns-clause-ready
returns-clause-ready c =
    let s = c.args.self.now in
    elim c.if-descendants-gt1.branch [
      | then-descendants-gt1+in_ok-push w ↦
          subst (λ (v : Walk). IsReady v.root.now (s.number + 1) (rows v))
          (sym w.self-is)
          (entered_row s.root.now s.number c.args.parent s.rows.items w.push.new.self.items _ (linked c.args.node) c.requires.at c.requires.node w.children.ensures refl w.in_ok-push.ensures.items)
      | else-descendants-gt1 w ↦
          subst (λ (v : Walk). IsReady v.root.now (s.number + 1) (rows v))
          (sym w.self-is)
          (entered_leaf s.root.now s.number c.args.parent c.descendants.result (reverse s.rows.items) c.get.result.now (linked c.args.node) c.requires.at c.get.ensures c.requires.node c.descendants.ensures (omega (arith, w.if-descendants-gt1.false)))
    ]
