use Rattle.typst_grammar.proofs.Pieces.{given-pieces, guessing_in}
use Rattle.typst_grammar.proofs.part.PieceReader.finish.Goals as goal

pub returns : goal.returns
returns c = λ k levels which x z m h. given-pieces k levels which x z m c.args.self _ c.finish.result h (c.in_ok-flush_trivia.ensures (guessing_in k levels which)) c.finish.ensures
