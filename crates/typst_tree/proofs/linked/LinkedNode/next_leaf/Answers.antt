use Rattle.typst_tree.proofs.Cited.{common_steps, ◌≤◌, ap, sym, ◌∙◌, arith, nodes, leaf_after, linked, first_below, is_leaf_from}
use Rattle.typst_tree.proofs.Branches.{leaf_found, leaf_from_root, leaf_not_found, next_is}
use Rattle.typst_tree.proofs.WalksInPreorder.{length_places}
use Rattle.typst_tree.proofs.linked.LinkedNode.next_leaf.Goals as goal

pub returns-in_default-branch : goal.returns-in_default-branch
returns-in_default-branch c =
    let a = c.args.self in
    c.first.ensures ∙ (ap (first_below (is_leaf_from _)) c.top.ensures
    ∙ (leaf_from_root a.root.now _ (omega (arith, c.end-end.ensures, a.stands.within, length_places a.node.now, length_places a.root.now)) ∙ sym (next_is a _ c.end-end.ensures)))

pub returns-in-Some : goal.returns-in-Some
returns-in-Some c =
    let t = c.in_Some-branch.branch.tree in
    let w = c.in_Some-branch.ensures in
    let k = c.end-end.result in
    let found = leaf_found t k (linked c.in-Some.leaf) (omega (arith, w.from, c.end-end.ensures)) (omega (arith, c.end-end.ensures, w.to)) c.in-Some.ensures in
    sym (next_is c.args.self k c.end-end.ensures ∙ (ap (λ r. leaf_after r k) (sym w.root) ∙ found))

pub returns-in-Some-leaf_behind : goal.returns-in-Some-leaf_behind
returns-in-Some-leaf_behind c = grind (arith, leaf_not_found, next_is)

pub returns : goal.returns
returns c =
    let t = c.in_Some-branch.branch.tree in
    let o = c.in_Some-branch.branch.above.parent in
    let w = c.in_Some-branch.ensures in
    let root = w.above.root ∙ w.root in
    let none = leaf_not_found t c.end-end.result (omega (arith, w.from, c.end-end.ensures)) (omega (arith, c.end-end.ensures, w.to)) c.in_default.ensures in
    let inside : c.end.result ≤ nodes c.args.self.root.now = omega (arith, c.end.ensures, o.stands.within, length_places o.node.now, length_places o.root.now, ap nodes root) in
    grind (arith, common_steps, leaf_from_root, next_is)
