use Rattle.typst_styles.proofs.Cited.{◌≡◌, ◌++◌, drop, stretches}
use Rattle.typst_styles.proofs.tokens.line_tokens.Given as goal

abbrev pub invariant-loop-index : goal.invariant-loop-index
invariant-loop-index l = l.tokens.items ++ stretches l.text (drop l.index l.tagged) (drop l.index l.roles) ≡ stretches l.text l.tagged l.roles
