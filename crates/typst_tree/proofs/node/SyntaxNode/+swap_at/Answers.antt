use Rattle.typst_tree.proofs.Cited.{◌≡◌, ◌<◌, ◌-◌, ◌^◌, ◌||◌, ℕ, [], ◌∷◌, Some, length, arith, refl, ap, sym, ◌∙◌, set, has_any, Tree, count, nodes, text_of, has_diagnostics, ComesTo, node_at}
use Rattle.typst_tree.proofs.Numbering.{some_nodes}
use Rattle.typst_tree.proofs.MovedCounts.{one_total, recounted}
use Rattle.typst_tree.proofs.SpansAside.{over}
use Rattle.typst_tree.proofs.PathMarks.{swapped_mark, levels_on}
use Rattle.typst_tree.proofs.PutAt.{at_some, leads, node_on, put_on, put_moved, smaller}
use Rattle.typst_tree.proofs.node.SyntaxNode.+swap_at.Goals as goal
use Rattle.typst_tree.proofs.node.SyntaxNode.+swap_at.Goals.{After-leaves_are_bare}

-- the node that goes
there : (t : ℕ) (c : After-leaves_are_bare t) → (x : Tree) × (node_at c.args.path.now c.args.self.now ≡ Some x) × ComesTo x c.args.swap.now.gone
there t c = at_some (λ x. ComesTo x c.args.swap.now.gone) (node_at c.args.path.now c.args.self.now) c.requires.gone

pub overflow_sub-len : goal.overflow_sub-len
overflow_sub-len t c = grind (arith, smaller)

pub overflow_sub-nodes : goal.overflow_sub-nodes
overflow_sub-nodes t c = grind (arith, smaller)

pub index_mut-kid-requires : goal.index_mut-kid-requires
index_mut-kid-requires t c =
    let r = leads (λ x. ComesTo x c.args.swap.now.gone) c.args.path.now c.in-Some.rest.now c.in-Some.first.now c.args.self.now c.self.inside.own.head c.self.inside.kids.items c.self.view_is c.in-Some.ensures.cases.0 c.requires.gone in
    omega (arith, r.0, c.self.inside.kids.ok.0)

pub swap_at-requires : goal.swap_at-requires
swap_at-requires t c =
    let i = c.in-Some.first.now in
    let r = leads (λ x. ComesTo x c.args.swap.now.gone) c.args.path.now c.in-Some.rest.now i c.args.self.now c.self.inside.own.head _ c.self.view_is c.in-Some.ensures.cases.0 c.requires.gone in
    let s = smaller (i ∷ []) _ c.args.self.now (node_on (i ∷ []) [] i c.args.self.now _ c.self.inside.own.head _ c.self.view_is refl r.0 c.index_mut-kid.ensures.value) in
    (omega (arith, c.decreases, c.in-Some.ensures.cases.1), (omega (arith, s.0, c.requires.short), (omega (arith, s.1, c.requires.few), (rw c.index_mut-kid.ensures.value (r.1 _), (c.requires.come, λ e. c.saturating_sub.ensures ∙ ap (λ n. n - 1) (c.requires.levels e) ∙ levels_on c.args.path.now c.in-Some.rest.now i c.args.self.now _ c.self.inside.own.head _ c.self.view_is c.in-Some.ensures.cases.0 r.0 c.index_mut-kid.ensures.value)))))

pub invariant_of-self : goal.invariant_of-self
invariant_of-self t c =
    let xs = c.self.inside.kids.items in
    let i = c.in-Some.first.now in
    let k = c.index_mut-kid.result.now in
    let z = c.args.node.now in
    let x = there t (goal.at.invariant_of-self t c).After-leaves_are_bare in
    let r = leads (λ x. ComesTo x c.args.swap.now.gone) c.args.path.now c.in-Some.rest.now i c.args.self.now c.self.inside.own.head xs c.self.view_is c.in-Some.ensures.cases.0 c.requires.gone in
    let on = sym (node_on c.args.path.now c.in-Some.rest.now i c.args.self.now k c.self.inside.own.head xs c.self.view_is c.in-Some.ensures.cases.0 r.0 c.index_mut-kid.ensures.value) ∙ x.1 in
    let m = put_moved c.in-Some.rest.now i xs k c.swap_at.new.self x.0 z r.0 c.index_mut-kid.ensures.value on c.swap_at.ensures.tree in
    let n = recounted c.self.inside.own xs (set xs i c.swap_at.new.self) (x.0 ∷ []) (z ∷ []) c.args.swap.now.gone c.args.swap.now.come m c.self.invariant.0 c.self.invariant.1 (one_total x.0 c.args.swap.now.gone x.2.len x.2.nodes) (one_total z c.args.swap.now.come c.requires.come.len c.requires.come.nodes) in
    let short : c.self.inside.own.len < 2 ^ 32 - 1 = omega (arith, c.requires.short, c.self.invariant.0, ap (λ u. length (text_of u)) c.self.view_is) in
    let few : c.self.inside.own.descendants < 2 ^ 32 - 1 = omega (arith, c.requires.few, c.self.invariant.1, ap nodes c.self.view_is) in
    let w = c.leaves_are_bare.ensures in
    rw c.set_counts.ensures (
      omega (arith, n.len short),
      omega (arith, n.nodes few),
      (λ q. absurd (omega (arith, ap count (c.self.invariant.2.0 q), some_nodes xs (omega (arith, r.0)))), m.whole c.self.invariant.2.1 (w.0, w.1, tt)),
      ap (λ b. has_any c.self.inside.own.head.diagnostics || b) c.marks-is_marked.ensures
          ∙ swapped_mark c.args.path.now x.0 z c.args.self.now (over c.self.inside.own.head (set xs i c.swap_at.new.self)) c.args.levels c.args.swap.now.gone.is_marked c.args.swap.now.come.is_marked _ x.1
          (put_on c.args.path.now c.in-Some.rest.now i z c.args.self.now k c.swap_at.new.self c.self.inside.own.head xs c.self.view_is c.in-Some.ensures.cases.0 r.0 c.index_mut-kid.ensures.value c.swap_at.ensures.tree)
          x.2.mark c.requires.come.mark (c.is_marked.ensures ∙ c.self.invariant.3 ∙ ap has_diagnostics c.self.view_is) c.requires.levels,
    )

pub returns-clause-tree : goal.returns-clause-tree
returns-clause-tree t c =
    let r = leads (λ x. ComesTo x c.args.swap.now.gone) c.args.path.now c.in-Some.rest.now _ c.args.self.now c.self.inside.own.head _ c.self.view_is c.in-Some.ensures.cases.0 c.requires.gone in
    rw c.set_counts.ensures
    (put_on c.args.path.now c.in-Some.rest.now _ c.args.node.now c.args.self.now c.index_mut-kid.result.now c.swap_at.new.self c.self.inside.own.head _ c.self.view_is c.in-Some.ensures.cases.0 r.0 c.index_mut-kid.ensures.value c.swap_at.ensures.tree)

pub returns-clause-node : goal.returns-clause-node
returns-clause-node t c =
    let r = leads (λ x. ComesTo x c.args.swap.now.gone) c.args.path.now c.in-Some.rest.now _ c.args.self.now c.self.inside.own.head _ c.self.view_is c.in-Some.ensures.cases.0 c.requires.gone in
    node_on c.args.path.now c.in-Some.rest.now _ c.args.self.now c.index_mut-kid.result.now c.self.inside.own.head _ c.self.view_is c.in-Some.ensures.cases.0 r.0 c.index_mut-kid.ensures.value ∙ c.swap_at.ensures.node
