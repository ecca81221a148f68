use Rattle.typst_styles.proofs.Cited.{List, arith, map, subst, take_rest, wrapped, Token}
use Rattle.typst_styles.proofs.TokenLists.{PartsIf, parts_early, parts_late}
use Rattle.typst_styles.proofs.token_list.count_in_places.Goals as goal

pub returns-then-count-settled-clause-parts : goal.returns-then-count-settled-clause-parts
returns-then-count-settled-clause-parts c =
    parts_early c.args.settled c.args.distance c.args.byte c.args.tokens.now c.count_before-count.result c.requires (omega arith) c.count_before-count.ensures.parts

pub returns-clause-parts : goal.returns-clause-parts
returns-clause-parts c =
    let s = c.args.settled in
    let d = c.args.distance in
    parts_late s d c.args.byte _ c.count_before-count.result c.count_moved.result c.requires (omega arith) c.count_before-count.ensures.parts
    (subst (λ (us : List Token). PartsIf c.args.byte (map (wrapped d) us) c.count_moved.result) (take_rest _ s) c.count_moved.ensures.parts)
