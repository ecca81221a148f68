use Rattle.typst_tree.proofs.Cited.{◌≡◌, ◌++◌, text_of}
use Rattle.typst_tree.proofs.Waiting.{rows_of, waiting_text, turns}
use Rattle.typst_tree.proofs.node.SyntaxNode.write_text.Given as goal

abbrev pub invariant-loop-row : goal.invariant-loop-row
invariant-loop-row l = l.out ++ waiting_text (rows_of l.waiting.items) ≡ l.fn.out ++ text_of l.self

abbrev pub decreases-loop-row : goal.decreases-loop-row
decreases-loop-row l = turns (rows_of l.waiting.items)
