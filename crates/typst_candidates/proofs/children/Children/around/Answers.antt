use Rattle.typst_candidates.proofs.Cited.{arith, bytes_of}
use Rattle.typst_candidates.proofs.Edges.{around_is}
use Rattle.typst_candidates.proofs.children.Children.around.Goals as goal

pub returns-clause-value : goal.returns-clause-value
returns-clause-value c =
    around_is (bytes_of c.args.cuts.now) c.args.self.now.at c.args.self.now.kids.now c.args.near.first.index c.args.near.end.index c.args.more
    c.back_by.result.index c.back_past_clinging-left.result.index c.with_hash.result.index c.back_to_piece.result.index c.on_by-right.result.index c.on_to_piece.result.index
    (omega (arith, c.max.ensures, c.back_by.ensures.index)) c.back_past_clinging-left.ensures.index c.with_hash.ensures.index c.back_to_piece.ensures.index c.on_by-right.ensures.index c.on_to_piece.ensures.index
