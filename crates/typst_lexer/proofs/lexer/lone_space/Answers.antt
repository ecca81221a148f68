use Rattle.typst_lexer.proofs.Cited.{◌∙◌, ap, sym, arith, sight, token}
use Rattle.typst_lexer.proofs.lexer.lone_space.Goals as goal

pub returns-clause-scans : goal.returns-clause-scans
returns-clause-scans c = λ k mode.
    c.read_up_to.ensures.scans (token k mode) c.args.start
    (ap (sight (token k mode)) (sym c.on_line-cursor.ensures) ∙ rw c.plain.ensures (c.eat_lone_space.ensures.eaten c.if-not-eat_lone_space.false k mode))

pub returns-clause-space : goal.returns-clause-space
returns-clause-space c = grind arith
