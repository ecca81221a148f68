use Rattle.typst_grammar.proofs.Cited.{◌-◌, arith, guessing_at}
use Rattle.typst_grammar.proofs.AtLevels.{blocks-at, knot-fills, makes-call}
use Rattle.typst_grammar.proofs.grammar.+knot.Goals as goal

pub call_markup_expr-returns : goal.call_markup_expr-returns
call_markup_expr-returns g t c =
    let k = g.C.Classes.classes c.args.classes.now in
    let n = c.args.levels - 1 in
    makes-call k c.args.levels (omega arith) (c.in_ok-markup_expr.ensures (guessing_at k n) (knot-fills k n) (blocks-at k n).outside)

pub call_code_expr-returns : goal.call_code_expr-returns
call_code_expr-returns g t c =
    let k = g.C.Classes.classes c.args.classes.now in
    let n = c.args.levels - 1 in
    makes-call k c.args.levels (omega arith) (c.in_ok-code_expr.ensures (guessing_at k n) (knot-fills k n) (blocks-at k n))

pub call_math_expr-returns : goal.call_math_expr-returns
call_math_expr-returns g t c =
    let k = g.C.Classes.classes c.args.classes.now in
    let n = c.args.levels - 1 in
    makes-call k c.args.levels (omega arith) (c.in_ok-math_expr.ensures (guessing_at k n) (knot-fills k n))

pub call_pattern-returns : goal.call_pattern-returns
call_pattern-returns g t c =
    let k = g.C.Classes.classes c.args.classes.now in
    let n = c.args.levels - 1 in
    makes-call k c.args.levels (omega arith) (c.in_ok-pattern.ensures (guessing_at k n) (knot-fills k n))
