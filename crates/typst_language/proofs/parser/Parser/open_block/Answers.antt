use Rattle.typst_language.proofs.Cited.{◌∙◌, ap, sym, subst, Opens, View, Looked, noted_here, unasked}
use Rattle.typst_language.proofs.parser.Parser.open_block.Goals as goal

pub returns : goal.returns
returns g c l h = record {
  mid = c.flush.new.self;
  flushed = c.in_ok-flush.ensures l;
  looked = subst (λ (v : View). Looked l v c.read.new.self) (ap unasked c.in_ok-note_here.ensures ∙ ap (λ n. noted_here n (Opens c.args.block) (unasked c.flush.new.self)) (sym h.levels)) (c.in_ok-read.ensures l (h.classes ∙ g.met.L.Levels.same _));
}
