use Rattle.typst_lines.specs.Scanner.{place}
use Rattle.typst_markup.proofs.Backslashes.{past-braces}
use Rattle.typst_markup.proofs.escapes.code_escape.Goals as goal

pub returns-clause-moved : goal.returns-clause-moved
returns-clause-moved c =
    past-braces (place c.args.s.now) _ _ _ c.eat_if-2.result c.if-not-eat_if.ensures.taken c.if-not-eat_if.ensures.moved c.eat_while-digits.ensures.moved c.eat_if-2.ensures.taken c.eat_if-2.ensures.moved
