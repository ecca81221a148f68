use Rattle.typst_highlight.proofs.Cited.{◌-◌, ◌<◌, refl, ap, sym, ◌∙◌, arith, nodes, linked, rule_of}
use Rattle.typst_tree.proofs.Inside.{inside}
use Rattle.typst_highlight.proofs.Bounds.{expression_after}
use Rattle.typst_highlight.proofs.Chains.{hash_step, hash_end}
use Rattle.typst_highlight.proofs.highlighter.highlight.Goals as goal

pub loop-bearer-init : goal.loop-bearer-init
loop-bearer-init c = (nodes (linked c.args.node.now).root, (refl, omega arith))

pub loop-bearer-smaller : goal.loop-bearer-smaller
loop-bearer-smaller c =
    let inside = inside c.loop-bearer.bearer in
    let after = expression_after (linked c.loop-bearer.bearer) (linked c.in_ok-leaf.leaf) (sym c.in_ok-leaf.ensures) in
    let less : nodes (linked c.in_ok-leaf.leaf).root - (linked c.in_ok-leaf.leaf).number < nodes (linked c.loop-bearer.bearer).root - (linked c.loop-bearer.bearer).number = omega (arith, inside, after.0, ap nodes after.1) in
    less

pub loop-bearer-preserved : goal.loop-bearer-preserved
loop-bearer-preserved c =
    let so_far = c.loop-bearer.invariant in
    let step = hash_step so_far.0 (linked c.loop-bearer.bearer) (linked c.in_ok-leaf.leaf) (inside c.loop-bearer.bearer) so_far.1.1 (c.in-Expression.ensures ∙ ap rule_of c.kind.ensures) c.in_ok-leaf.ensures in
    (step.0, (so_far.1.0 ∙ step.1.0, step.1.1))

pub returns : goal.returns
returns c =
    let so_far = c.loop-bearer.invariant in
    c.tag_by_rule.ensures
    ∙ (hash_end so_far.0 (linked c.loop-bearer.bearer) (inside c.loop-bearer.bearer) so_far.1.1 (λ e. c.in_default.not-Expression (c.rule_of.ensures ∙ (ap rule_of c.kind.ensures ∙ e)))
    ∙ sym so_far.1.0)
