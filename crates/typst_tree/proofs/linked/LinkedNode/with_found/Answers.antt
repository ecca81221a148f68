use Rattle.typst_tree.proofs.Cited.{arith, sym, ◌∙◌, nodes, places}
use Rattle.typst_tree.proofs.Forks.{holds_joined}
use Rattle.typst_tree.proofs.FoundBelow.{inside, within_from}
use Rattle.typst_tree.proofs.NodesOfStretch.{stands_row}
use Rattle.typst_tree.proofs.linked.LinkedNode.with_found.Goals as goal

pub invariant_of-result : goal.invariant_of-result
invariant_of-result c =
    let a = c.args.self in
    let f = c.args.found in
    let own = inside a.number 0 a.node.now f.number f.begins f.node.now c.requires.within in
    record {
      counted = a.counted;
      stands = rw c.saturating_add.ensures (stands_row (places a.root.now) a.number a.offset f.number _ (places a.node.now) (places f.node.now) a.stands (within_from a.number a.offset (places a.node.now) f.number f.begins (places f.node.now) c.requires.within));
      ordered = λ e. a.ordered (sym (c.then.ensures.in_order c.requires.order) ∙ e);
      holds = holds_joined a.root.now a.number a.offset (nodes a.node.now) f.number c.saturating_add.result (nodes f.node.now) f.begins a.known f.known c.then.result a.holds (λ up. rw c.saturating_add.ensures (c.requires.holds a.root.now a.offset a.stands up)) own.from own.to (omega arith) c.saturating_add.ensures c.then.ensures.joins;
    }
