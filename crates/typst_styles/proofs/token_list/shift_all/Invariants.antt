use Rattle.typst_styles.proofs.Cited.{◌≡◌, ◌++◌, map, take, drop, wrapped}
use Rattle.typst_styles.proofs.token_list.shift_all.Given as goal

abbrev pub invariant-loop-token : goal.invariant-loop-token
invariant-loop-token l = l.tokens ≡ map (wrapped l.distance) (take l.token-index l.fn.tokens) ++ drop l.token-index l.fn.tokens
