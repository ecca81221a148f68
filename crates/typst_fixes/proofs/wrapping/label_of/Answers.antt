use Rattle.typst_fixes.proofs.Cited.{rules, ◌≡◌, Bool, false, Option, Some, ap, sym, ◌∙◌, if◌then◌else◌, option_map, same, standing, end_of, kind_of, within, first_label, label_of}
use Rattle.typst_kinds.specs.declared.kind.SyntaxKind.TheVariants as node
use Rattle.typst_fixes.proofs.WayToByte.{goes_on, way}
use Rattle.typst_fixes.proofs.wrapping.label_of.Goals as goal

pub loop-within-preserved : goal.loop-within-preserved
loop-within-preserved c =
    let first = c.args.node.start in
    let n = standing c.in-Some.placed in
    let is : c.loop-within.within ≡ Some c.in-Some.placed = search rules in
    let there : first_label (way first (Some n)) ≡ label_of (standing c.args.node) = ap (λ w. first_label (way first (option_map standing w))) (sym is) ∙ c.loop-within.invariant in
    let other : same node.Label (kind_of n) ≡ false = ap (same node.Label) (sym c.kind.ensures) ∙ sym c.same.ensures.same ∙ c.if-same.false in
    ap first_label (goes_on first n (option_map standing c.child_at-within.result) c.child_at-within.ensures.kid)
    ∙ sym (ap (λ (v : Bool). if v then Some (end_of n) else first_label (within first n)) other)
    ∙ there
