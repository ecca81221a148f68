use Rattle.typst_highlight.proofs.Cited.{refl, sym, ◌∙◌, arith, linked, surroundings}
use Rattle.typst_highlight.proofs.Bounds.{name_below}
use Rattle.typst_highlight.proofs.Chains.{name_some, name_none, name_ends, name_goes}
use Rattle.typst_highlight.proofs.highlighter.name_tag.Goals as goal

pub returns-in-Some : goal.returns-in-Some
returns-in-Some c =
    name_some (linked c.names.bearer) (surroundings (linked c.names.bearer)) c.in-Some.tag c.in-Some.ensures refl ∙ sym c.names.invariant

pub returns-in_err-earlier-in-None : goal.returns-in_err-earlier-in-None
returns-in_err-earlier-in-None c = grind (arith, name_ends, name_none)

pub names-smaller : goal.names-smaller
names-smaller c =
    name_below (linked c.names.bearer) (linked c.in_ok-earlier-in-None.earlier) (sym c.in_ok-earlier-in-None.ensures)

pub names-preserved : goal.names-preserved
names-preserved c =
    c.names.invariant
    ∙ (name_none (linked c.names.bearer) (surroundings (linked c.names.bearer)) c.in-None.ensures refl
    ∙ sym (name_goes (linked c.names.bearer) (linked c.in_ok-earlier-in-None.earlier) c.in_ok-earlier-in-None.ensures))
