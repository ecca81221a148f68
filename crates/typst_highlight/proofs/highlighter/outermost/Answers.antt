use Rattle.typst_highlight.proofs.Cited.{◌≡◌, None, Some, ap, sym, ◌∙◌, cond, arith, linked, access, is_field_access}
use Rattle.typst_highlight.proofs.Bounds.{parent_below}
use Rattle.typst_highlight.proofs.Chains.{outer_top, outer_up}
use Rattle.typst_highlight.proofs.highlighter.outermost.Goals as goal

pub returns-then-not-is_field_access : goal.returns-then-not-is_field_access
returns-then-not-is_field_access c =
    let no_access : access (Some (linked c.in-Some.parent)) ≡ None = ap (λ b. cond b (Some (linked c.in-Some.parent)) None) (sym (c.if-not-is_field_access.ensures ∙ ap is_field_access c.kind.ensures)) in
    sym (outer_top (linked c.loop-parent.outer) (ap access (sym c.in-Some.ensures) ∙ no_access)) ∙ sym c.loop-parent.invariant

pub loop-parent-smaller : goal.loop-parent-smaller
loop-parent-smaller c = parent_below (linked c.loop-parent.outer) (linked c.in-Some.parent) (sym c.in-Some.ensures)

pub loop-parent-preserved : goal.loop-parent-preserved
loop-parent-preserved c = grind (arith, cond, outer_up)

pub returns : goal.returns
returns c = sym (outer_top (linked c.loop-parent.outer) (ap access (sym c.in_default.ensures))) ∙ sym c.loop-parent.invariant
