use Rattle.typst_markup.proofs.Cited.{renamed, keeps, does-next, does-gives, does-node, delimiter}
use Rattle.typst_markup.proofs.delimited.delimiter.Goals as goal

pub returns : goal.returns
unfolding delimiter
returns g c l h = does-next (does-node (λ k. keeps (renamed k)) h.sound c.marker-from.ensures.few c.marker-from.ensures.marker (c.in_ok-kind.ensures.means l h) c.in_ok-change.ensures) does-gives
