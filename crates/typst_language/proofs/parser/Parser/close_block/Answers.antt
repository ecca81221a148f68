use Rattle.typst_language.proofs.Cited.{◌∙◌, ap, sym, subst, Closes, View, Looked, noted_here, unasked}
use Rattle.typst_language.proofs.parser.Parser.close_block.Goals as goal

pub returns : goal.returns
returns g c l h =
    subst (λ (v : View). Looked l v c.read.new.self) (ap unasked c.in_ok-note_here.ensures ∙ ap (λ n. noted_here n Closes (unasked c.args.self.now)) (sym h.levels)) (c.in_ok-read.ensures l (h.classes ∙ g.met.L.Levels.same _))
