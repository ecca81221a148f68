use Rattle.typst_styles.proofs.Cited.{◌≡◌, ◌++◌, drop, merged, merged_after, touching}
use Rattle.typst_styles.proofs.tokens.merge.Given as goal

abbrev pub invariant-loop-token : goal.invariant-loop-token
invariant-loop-token l = l.merged.items ++ merged_after l.last (touching l.within (drop l.token-index l.tokens)) ≡ merged (touching l.within l.tokens)
