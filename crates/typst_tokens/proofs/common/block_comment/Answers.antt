use Rattle.std.proofs.Common.{arith}
use Rattle.typst_tokens.proofs.Comments.{turn-last, turn-closes, turn-opens, turn-on, no-first, no-second, comment-on, comment-stop, comment-end}
use Rattle.typst_tokens.proofs.Steps.{step-grows}
use Rattle.typst_tokens.proofs.common.block_comment.Goals.{else-before-eq42-via-then-before-eq42+else-c-eq47, else-before-eq42-via-else-before-eq42, else-before-eq47-via-then-before-eq47+else-c-eq42, else-before-eq47-via-else-before-eq47}
use Rattle.typst_tokens.proofs.common.block_comment.Goals as goal

pub returns-then-depth-eq0 : goal.returns-then-depth-eq0
returns-then-depth-eq0 c = grind (arith, turn-last, comment-stop)

pub loop-c-preserved-then-c-eq47 : goal.loop-c-preserved-then-c-eq47
loop-c-preserved-then-c-eq47 c = grind (arith, turn-closes, comment-on, step-grows)

pub overflow_add-depth : goal.overflow_add-depth
overflow_add-depth c = grind (arith, step-grows)

pub loop-c-preserved-then-c-eq42 : goal.loop-c-preserved-then-c-eq42
loop-c-preserved-then-c-eq42 c = grind (arith, turn-opens, comment-on, step-grows)

pub loop-c-preserved : goal.loop-c-preserved
loop-c-preserved c = grind (arith, else-before-eq42-via-then-before-eq42+else-c-eq47, no-second, else-before-eq42-via-else-before-eq42, no-first, else-before-eq47-via-then-before-eq47+else-c-eq42, else-before-eq47-via-else-before-eq47, comment-on, turn-on, step-grows)

pub returns : goal.returns
returns c = grind (arith, comment-end)
