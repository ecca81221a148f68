use Rattle.typst_protocol.proofs.Cited.{common_steps, ◌-◌, option_to_list, sym, ap, subst, ◌∙◌, arith, length-set, take_all, Consumes, IsAtEnd, IfNone, false≢true, before_crlf}
use Rattle.typst_protocol.proofs.Taken.{cut-line, line-found, line-more, line-taken, long-line, reads-line}
use Rattle.typst_protocol.proofs.frames.bytes.read_line.Goals as goal

pub returns-in-None-clause-line : goal.returns-in-None-clause-line
returns-in-None-clause-line g c =
    let taken = subst (λ byte. Consumes (g.R.Read.remaining c.loop-at.reader) (g.R.Read.remaining c.read_byte.new.reader) (option_to_list byte)) c.in-None.is c.in_ok-byte.ensures.taken in
    let at_end = subst (λ byte. IfNone byte (IsAtEnd (g.R.Read.remaining c.read_byte.new.reader))) c.in-None.is c.in_ok-byte.ensures.at_end in
    cut-line _ _ _ c.loop-at.line c.loop-at.line c.loop-at.at (omega arith) (omega arith) c.loop-at.invariant.taken taken at_end c.loop-at.invariant.none

pub returns-then-ends_line-clause-line : goal.returns-then-ends_line-clause-line
returns-then-ends_line-clause-line g c = grind (arith, common_steps, line-taken, line-found, length-set, reads-line)

pub loop-at-preserved : goal.loop-at-preserved
loop-at-preserved g c = grind (arith, line-taken, line-more, false≢true)

pub returns-clause-line : goal.returns-clause-line
returns-clause-line g c =
    let taken = subst (Consumes (g.R.Read.remaining c.args.reader.now) (g.R.Read.remaining c.loop-at.reader)) (take_all c.loop-at.at c.loop-at.line (omega arith)) c.loop-at.invariant.taken in
    let none = ap before_crlf (sym (take_all c.loop-at.at c.loop-at.line (omega arith))) ∙ c.loop-at.invariant.none in
    long-line _ _ (g.R.Read.remaining c.loop-at.reader) c.loop-at.line c.loop-at.line (omega arith) taken none
