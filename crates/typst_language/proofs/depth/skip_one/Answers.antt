use Rattle.typst_language.specs.Depth.{skip_one}
use Rattle.typst_language.proofs.Steps.{does-next, does-gives, does-peek}
use Rattle.typst_language.proofs.depth.skip_one.Goals as goal

pub returns : goal.returns
unfolding skip_one
returns g c l h = rw (c.skips.ensures, c.current-2.ensures, c.balance-count.ensures, c.current.ensures) (does-next (does-peek _) (does-next (c.in_ok-eat.ensures l h) (does-next (does-peek _) does-gives)))
