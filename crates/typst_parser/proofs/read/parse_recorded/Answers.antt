use Rattle.typst_parser.proofs.Cited.{◌<◌, ◌-◌, ◌^◌, subst, ap, sym, ◌∙◌, arith, chars, AllFit, Log, listed, width}
use Rattle.typst_parser.proofs.Numbers.{notes-fit}
use Rattle.typst_parser.proofs.Places.{width-chars}
use Rattle.typst_parser.proofs.read.parse_recorded.Goals as goal

pub of_notes-requires : goal.of_notes-requires
of_notes-requires g c =
    let w = width-chars c.args.text.now c.utf8.text in
    let few : width (chars c.args.text.now) < 2 ^ 64 - 1 = omega (arith, w) in
    subst AllFit (sym (c.deref.ensures.value ∙ ap (λ (h : Log). listed h.notes) c.in_ok-tree.ensures.log)) (notes-fit (g.C.Classes.classes c.args.classes.now) (chars c.args.text.now) few)
