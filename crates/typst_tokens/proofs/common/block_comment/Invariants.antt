use Rattle.typst_tokens.proofs.Cited.{◌≡◌, ◌≤◌, length, block_comment, Covers, position, sight}
use Rattle.typst_tokens.proofs.Comments.{rest}
use Rattle.typst_tokens.proofs.common.block_comment.Given as goal

abbrev pub invariant-loop-c : goal.invariant-loop-c
invariant-loop-c l =
    record {
      reads : sight (rest l.before l.depth) l.s ≡ sight block_comment l.fn.s;
      covers : Covers l.s;
      deep : l.depth ≤ position l.s.place;
    }

abbrev pub decreases-loop-c : goal.decreases-loop-c
decreases-loop-c l = length l.s.place.ahead
