use Rattle.typst_markup.proofs.Cited.{does-next, does-gives, attachments}
use Rattle.typst_markup.proofs.attachments.attachments.Goals as goal

pub returns : goal.returns
unfolding attachments
returns g c l h = does-next (c.in_ok-attachment_turns.ensures l h) does-gives
