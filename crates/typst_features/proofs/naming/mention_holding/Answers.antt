use Rattle.typst_features.proofs.Cited.{Bool, ap, sym, ◌∙◌, arith, none, more, standing, holding, is_markup, row}
use Rattle.typst_features.proofs.MentionsHeld.{in_itself, in_kid}
use Rattle.typst_features.proofs.naming.mention_holding.Goals as goal

pub loop-kid-preserved : goal.loop-kid-preserved
loop-kid-preserved c =
    let kid = c.in-Some.kid in
    ap (λ (v : Bool). holding c.args.byte (row v kid.start (more kid.node.now.head kid.node.now.kids none))) (c.is_markup-in_markup.ensures ∙ ap is_markup c.kind.ensures)
    ∙ sym (in_kid c.args.byte c.loop-kid.placed.start c.loop-kid.in_markup c.loop-kid.placed.node.now (standing kid) (sym c.in-Some.ensures.kid))
    ∙ c.loop-kid.invariant

pub returns : goal.returns
returns c = grind (arith, in_itself)
