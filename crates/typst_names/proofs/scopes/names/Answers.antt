use Rattle.typst_names.proofs.Cited.{◌∙◌, ◌++◌, ap, sym, arith, left_all, steps_all}
use Rattle.typst_names.proofs.LeftNames.{left_pushed, steps_pushed}
use Rattle.typst_names.proofs.scopes.names.Goals as goal

pub loop-row-preserved : goal.loop-row-preserved
loop-row-preserved c =
    c.in_ok-take_next.ensures.taken
    ∙ ap (λ xs. c.loop-row.found.items ++ xs) (sym (ap left_all c.in-Some.ensures.items ∙ left_pushed c.pop.new.self.items c.in-Some.row))
    ∙ c.loop-row.invariant

pub loop-row-smaller : goal.loop-row-smaller
loop-row-smaller c =
    omega (arith, c.in_ok-take_next.ensures.fewer, ap steps_all c.in-Some.ensures.items, steps_pushed c.pop.new.self.items c.in-Some.row)
