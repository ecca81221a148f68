use Rattle.std.proofs.Common.{sym, ◌∙◌}
use Rattle.typst_protocol.proofs.Mending.{code-none-1, code-none-2, code-none-3, code-none-4, code-some}
use Rattle.typst_protocol.proofs.escapes.code_unit.Goals as goal

pub returns-in_err-a : goal.returns-in_err-a
returns-in_err-a c = c.from_residual.ensures ∙ sym (code-none-1 c.args.a c.args.b c.args.c c.args.d c.in_err-a.ensures.value)

pub returns-in_err-b : goal.returns-in_err-b
returns-in_err-b c = c.from_residual-in_err-b.ensures ∙ sym (code-none-2 c.args.a c.args.b c.args.c c.args.d c.in_ok-a.a c.in_ok-a.ensures.value c.in_err-b.ensures.value)

pub returns-in_err-c : goal.returns-in_err-c
returns-in_err-c c = c.from_residual-in_err-c.ensures ∙ sym (code-none-3 c.args.a c.args.b c.args.c c.args.d c.in_ok-a.a c.in_ok-b.b c.in_ok-a.ensures.value c.in_ok-b.ensures.value c.in_err-c.ensures.value)

pub returns-in_err-d : goal.returns-in_err-d
returns-in_err-d c =
    c.from_residual-in_err-d.ensures
    ∙ sym (code-none-4 c.args.a c.args.b c.args.c c.args.d c.in_ok-a.a c.in_ok-b.b c.in_ok-c.c c.in_ok-a.ensures.value c.in_ok-b.ensures.value c.in_ok-c.ensures.value c.in_err-d.ensures.value)

pub returns : goal.returns
returns c =
    sym
    (code-some c.args.a c.args.b c.args.c c.args.d c.in_ok-a.a c.in_ok-b.b c.in_ok-c.c c.in_ok-d.d c.in_ok-a.ensures.value c.in_ok-b.ensures.value c.in_ok-c.ensures.value c.in_ok-d.ensures.value)
