use Rattle.typst_tree.proofs.Cited.{List, [], ◌∷◌, ◌≤◌, ◌+◌, rules, ap, arith, Tree, nodes, forest, count, most}
use Rattle.typst_tree.specs.declared.node.SyntaxNode.TheDeep.{size-SyntaxNode}
use Rattle.typst_tree.proofs.Fewer.{most-swap_remove}
use Rattle.typst_tree.proofs.node.SyntaxNode.+drop.Goals as goal

smaller : (ts : List Tree) → most size-SyntaxNode ts ≤ count (forest ts) + 1
smaller [] = omega arith
smaller (t ∷ ts) = omega (arith, smaller ts)

pub drop_parent-drop-requires-in-loop-kids : goal.drop_parent-drop-requires-in-loop-kids
drop_parent-drop-requires-in-loop-kids t c κs =
    let h = most-swap_remove size-SyntaxNode c.self.inside.kids.items c.heaviest-heaviest.result c.swap_remove-self.result (rw (← c.deref.ensures.value) c.heaviest-heaviest.ensures) in
    let k : most size-SyntaxNode c.self.inside.kids.items ≤ count (forest c.self.inside.kids.items) + 1 = smaller c.self.inside.kids.items in
    ((rw (c.swap_remove-self.ensures.items) (omega (arith, h, k, c.decreases, c.loop-kids.invariant, ap nodes c.self.view_is), tt), tt), search rules)
