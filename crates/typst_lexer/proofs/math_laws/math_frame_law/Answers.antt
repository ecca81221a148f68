use Rattle.typst_lexer.proofs.Cited.{named_argument, spread_argument, math, frame}
use Rattle.typst_lexer.proofs.math_laws.math_frame_law.Goals as goal

pub returns : goal.returns
returns c = λ k. record {
  token = λ p q g. frame (math k) p q g;
  named = λ p q g. frame (named_argument k) p q g;
  spread = λ p q g. frame spread_argument p q g;
}
