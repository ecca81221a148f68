use Rattle.typst_c.proofs.Cited.{subst, sym, RefusesText}
use Rattle.typst_c.proofs.exports.typst_source_new.Goals as goal

pub returns-in-Ok-clause-refused : goal.returns-in-Ok-clause-refused
returns-in-Ok-clause-refused c = λ e h. subst (RefusesText c.args.file c.args.text.now) (sym (c.give.ensures.refused e h)) tt
