use Rattle.std.proofs.Common.{◌<◌}
use Rattle.typst_parser.proofs.Runs.{meets-last, meets-more}
use Rattle.typst_parser.proofs.attempt.meets.Goals as goal

pub returns-in_default : goal.returns-in_default
returns-in_default c = λ y a b m says some. absurd (let e = c.in_default.ensures y says in cc)

pub returns-then-is_last : goal.returns-then-is_last
returns-then-is_last c = λ y a b m says some.
    meets-last c.args.to.now.entries c.args.kind c.args.to.now.number m c.in-Some.was y c.args.carried c.ends_alike.result (c.in-Some.ensures y says) (c.is_last.ensures.0 c.if-is_last.true) c.ends_alike.ensures (a < b)

pub returns : goal.returns
returns c = λ y a b m says some.
    meets-more c.args.to.now.entries c.args.kind c.args.to.now.number m c.args.any c.in-Some.was y c.args.carried c.goes_alike.result (c.in-Some.ensures y says)
    (λ last. (let yes = c.is_last.ensures.1 last in let never = c.if-is_last.false in absurd (cc))) (a < b) some c.goes_alike.ensures
