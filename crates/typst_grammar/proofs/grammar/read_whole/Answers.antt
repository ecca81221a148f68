use Rattle.typst_grammar.proofs.Cited.{guessing_at, max_depth}
use Rattle.typst_grammar.proofs.AtLevels.{knot-fills, parsed-in}
use Rattle.typst_grammar.proofs.grammar.read_whole.Goals as goal

pub returns : goal.returns
returns g c =
    let k = g.C.Classes.classes c.args.classes.now in
    let l = guessing_at k max_depth in
    let d = c.in_ok-read_all.ensures l (knot-fills k max_depth) in
    parsed-in k c.args.keeps_notes c.args.text.now c.args.mode _ _ c.in_ok-p.ensures d
