use Rattle.std.proofs.Common.{◌++◌, ◌∙◌, ap, arith, take}
use Rattle.typst_highlight.proofs.Pages.{part_put}
use Rattle.typst_highlight.proofs.page.put_opening.Goals as goal

pub returns-clause-written : goal.returns-clause-written
returns-clause-written c =
    let opening = c.opening_block-len.ensures in
    part_put c.put.new.page c.args.page.now c.opening_block-len.result.0.now c.args.at c.opening_block-len.result.1 c.put.result c.put.ensures.end (omega (arith, opening.whole, opening.within)) (omega (arith, c.told-page, c.requires)) c.put.ensures.written
    ∙ ap (λ bs. take c.args.at c.args.page.now ++ bs) opening.opening
