use Rattle.typst_grammar.proofs.Cited.{refl, does-look, place_at}
use Rattle.typst_grammar.proofs.AtLevels.{knot-fills}
use Rattle.typst_grammar.proofs.Pieces.{starts, fills-in, guessing_in}
use Rattle.typst_grammar.proofs.part.resume_pieces.Goals as goal

pub returns : goal.returns
returns g c =
    let k = g.C.Classes.classes c.args.classes.now in
    let n = c.args.levels in
    let l = guessing_in k n c.args.kind in
    let look = does-look (c.in_ok-look.ensures l (fills-in k n c.args.kind (knot-fills k n))) in
    starts k n c.args.kind c.args.carried (place_at c.args.text.now c.args.at) _ _ c.requires.some c.resume-parser.ensures look c.token_start-end.ensures refl refl refl
