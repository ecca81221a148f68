use Rattle.typst_tokens.proofs.Lines.{end-of-text}
use Rattle.typst_tokens.proofs.line.LineEnd.of_text.Goals as goal

pub invariant_of-result : goal.invariant_of-result
invariant_of-result c = record { is = end-of-text c.args.text.now }
