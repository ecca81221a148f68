use Rattle.typst_flat.proofs.Cited.{ap, sym, refl, arith, Course, course}
use Rattle.typst_flat.proofs.Placing.{passes_to, sought_behind, sought_here, stays_sought}
use Rattle.typst_flat.proofs.nodes.Search.settle.Goals as goal

pub returns-in_default-clause-sought : goal.returns-in_default-clause-sought
returns-in_default-clause-sought c =
    let v : Course = course c.args.self c.args.here c.args.progress.now in
    sought_behind v c.args.node.now c.args.later.now c.args.end c.args.number c.requires

pub returns-clause-sought : goal.returns-clause-sought
returns-clause-sought c =
    let v : Course = course c.args.self c.args.here c.args.progress.now in
    sought_here _ c.args.later.now c.args.end c.args.number
    (stays_sought v _ c.args.node.now c.args.later.now c.args.end c.args.number c.in-Some.before c.requires c.in-Some.ensures refl refl refl refl refl c.resume.ensures.joined c.resume.ensures.waiting)
    refl (sym (ap (λ x. x.offset) c.resume.ensures.joined)) refl

pub returns-clause-passes : goal.returns-clause-passes
returns-clause-passes c =
    let v : Course = course c.args.self c.args.here c.args.progress.now in
    passes_to v _ c.args.later.now c.args.end c.args.number (sought_behind v c.args.node.now c.args.later.now c.args.end c.args.number c.requires) (omega (arith, c.requires.number, c.requires.sought.onward)) refl
