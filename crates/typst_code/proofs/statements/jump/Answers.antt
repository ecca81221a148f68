use Rattle.typst_code.proofs.Cited.{becomes, does-node, jump}
use Rattle.typst_code.proofs.statements.jump.Goals as goal

pub returns : goal.returns
unfolding jump
returns g c l h = does-node (λ _. becomes c.args.kind) h.sound c.marker-from.ensures.few c.marker-from.ensures.marker (c.in_ok-eat.ensures l h) c.in_ok-wrap.ensures.wrapped
