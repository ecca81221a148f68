use Rattle.typst_tree.proofs.Cited.{◌≡◌, [], ◌∷◌, ◌++◌, ap, sym, ◌∙◌, arith}
use Rattle.typst_tree.proofs.Waiting.{rows_of, rows_more, waiting_text, turns_more, opened, opened_turns, closed}
use Rattle.typst_tree.proofs.node.SyntaxNode.write_text.Goals as goal
use Rattle.typst_tree.proofs.node.SyntaxNode.write_text.Goals.{In-Some, In_ok-push-5}

-- the rows that waited when one was taken
taken : (c : In-Some) → rows_of c.loop-row.waiting.items ≡ rows_of c.pop.new.self.items ++ c.in-Some.row.now ∷ []
taken c = ap rows_of c.in-Some.ensures.items ∙ rows_more c.pop.new.self.items c.in-Some.row

-- the rows that wait once its first tree was written
put_in : (c : In_ok-push-5) → rows_of c.push-in-Some-split_first-3.new.self.items ≡ (rows_of c.pop.new.self.items ++ c.in-Some-split_first.behind.now ∷ []) ++ c.children-in-Some-split_first.result.now ∷ []
put_in c = grind (arith, rows_more)

pub loop-row-preserved : goal.loop-row-preserved
loop-row-preserved c =
    closed (rows_of c.pop.new.self.items) c.in-Some.row.now c.loop-row.out _ c.in_default-split_first.ensures.cases
    (ap (λ rs. c.loop-row.out ++ waiting_text rs) (sym (taken (goal.at.loop-row-preserved c).In-Some)) ∙ c.loop-row.invariant)

pub loop-row-smaller : goal.loop-row-smaller
loop-row-smaller c = grind (arith, taken, turns_more)

pub loop-row-preserved-in-Continue-branch-5 : goal.loop-row-preserved-in-Continue-branch-5
loop-row-preserved-in-Continue-branch-5 c =
    ap (λ rs. c.push-in-Some-split_first.new.self ++ waiting_text rs) (put_in c)
    ∙ opened (rows_of c.pop.new.self.items) c.in-Some-split_first.node.now c.in-Some.row.now c.in-Some-split_first.behind.now c.children-in-Some-split_first.result.now c.loop-row.out c.push-in-Some-split_first.new.self c.leaf_text-in-Some-split_first.result.now _
    c.in-Some-split_first.ensures.cases.0 c.children-in-Some-split_first.ensures c.in_ok-push-3.ensures.ok c.leaf_text-in-Some-split_first.ensures
    (ap (λ rs. c.loop-row.out ++ waiting_text rs) (sym (taken (goal.at.loop-row-preserved-in-Continue-branch-5 c).In-Some)) ∙ c.loop-row.invariant)

pub loop-row-smaller-in-Continue-branch-5 : goal.loop-row-smaller-in-Continue-branch-5
loop-row-smaller-in-Continue-branch-5 c = grind (arith, put_in, taken, opened_turns)
