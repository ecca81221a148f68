use Rattle.typst_tree.proofs.Cited.{◌≡◌, ◌+◌, ap, sym, ◌∙◌, arith, length, take, drop, get_or, take-append-drop, nodes, forest, count, joined, text_of, saturated}
use Rattle.typst_tree.proofs.PassesOver.{no_byte_above}
use Rattle.typst_tree.proofs.Stretches.{count-append}
use Rattle.typst_tree.proofs.Rows.{Prior, first_of_row, prior}
use Rattle.typst_tree.proofs.WalksInPreorder.{turn}
use Rattle.typst_tree.proofs.search.passed_by_turns.Goals as goal
use Rattle.typst_tree.proofs.search.passed_by_turns.Goals.{After-index-row-index}

pub returns-then-begin-byte-clause-nothing : goal.returns-then-begin-byte-clause-nothing
returns-then-begin-byte-clause-nothing c = grind (arith, no_byte_above)

-- the last child that is left
here : (c : After-index-row-index) → Prior c.args.row.now c.loop-tree.index c.index-row-index.result
here c = prior _ _ _ (omega (arith, c.loop-tree.invariant.back)) (omega (arith, c.loop-tree.invariant.back)) c.index-row-index.is

pub overflow_sub-end : goal.overflow_sub-end
overflow_sub-end c = omega (arith, c.descendants-end.ensures, (here (goal.at.overflow_sub-end c).After-index-row-index).counts, c.loop-tree.invariant.number)

pub overflow_sub-left-in-loop-tree : goal.overflow_sub-left-in-loop-tree
overflow_sub-left-in-loop-tree c = omega (arith, c.len-left.ensures, (here (goal.at.overflow_sub-left-in-loop-tree c).After-index-row-index).longs, c.loop-tree.invariant.offset)

pub loop-tree-preserved : goal.loop-tree-preserved
loop-tree-preserved c =
    let is : c.tree-item.result ≡ get_or c.args.row.now c.loop-tree.front.index c.tree-item.result = c.tree-item.is ∙ ap (λ i. get_or c.args.row.now i c.tree-item.result) (sym c.loop-tree.invariant.front) in
    let t = turn c.args.row.now c.loop-tree.front.index c.tree-item.result is (omega (arith, c.loop-tree.invariant.front)) in
    let r = first_of_row c.args.row.now c.loop-tree.front.index c.tree-item.result _ t.first in
    let w = here (goal.at.loop-tree-preserved c).After-index-row-index in
    let all : count (forest (take c.loop-tree.index c.args.row.now)) + count (forest (drop c.loop-tree.index c.args.row.now)) ≡ count c.args.over.node.now.kids =
    omega (arith, ap count c.requires.row, count-append (take c.loop-tree.index c.args.row.now) (drop c.loop-tree.index c.args.row.now), ap (λ ys. count (forest ys)) (take-append-drop c.loop-tree.index c.args.row.now)) in
    let many : c.descendants-end.result ≡ nodes c.index-row-index.result = omega (arith, c.descendants-end.ensures, w.counts, all, c.requires.counted) in
    let long : c.len-left.result ≡ length (text_of c.index-row-index.result) = omega (arith, c.len-left.ensures, w.longs, c.loop-tree.invariant.offset, c.loop-tree.auto.left-fits) in
    let next : take c.behind-next.result.index c.args.row.now ≡ take (c.loop-tree.front.index + 1) c.args.row.now = ap (λ i. take i c.args.row.now) c.behind-next.ensures.index in
    let number : c.behind-next.result.number ≡ c.args.over.number + 1 + count (forest (take c.behind-next.result.index c.args.row.now)) = omega (arith, c.behind-next.ensures.number, c.loop-tree.invariant.passed.number, r.counted, ap (λ ys. count (forest ys)) next) in
    let offset : c.behind-next.result.offset ≡ saturated (c.front-front.result.offset + length (joined (forest (take c.behind-next.result.index c.args.row.now)))) = omega (arith, c.behind-next.ensures.offset, c.loop-tree.invariant.passed.offset, r.long, ap (λ ys. length (joined (forest ys))) next) in
    record {
      passed = record {
        within = omega (arith, c.behind-next.ensures.index, r.within);
        number = number;
        offset = offset;
      };
      nothing = no_byte_above c.args.byte (c.args.over.number + 1) c.front-front.result.offset (forest (take c.behind-next.result.index c.args.row.now)) (omega (arith, offset, c.if-byte-next.false));
      front = omega (arith, c.behind-next.ensures.index, c.loop-tree.invariant.front);
      counted = omega (arith, c.behind-next.ensures.number, t.rest, c.loop-tree.invariant.counted, ap (λ i. count (forest (drop i c.args.row.now))) c.behind-next.ensures.index);
      back = omega (arith, c.loop-tree.invariant.back);
      number = omega (arith, many, w.counts, c.loop-tree.invariant.number);
      offset = omega (arith, long, w.longs, c.loop-tree.invariant.offset);
    }
