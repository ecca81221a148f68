use Rattle.typst_lines.proofs.Cited.{arith, ap, ◌∙◌, length, line_table}
use Rattle.typst_lines.proofs.TableOrder.{IsLineOf-read}
use Rattle.typst_lines.proofs.lines.Lines.numbered_line.Goals as goal

pub returns-clause-line : goal.returns-clause-line
returns-clause-line g c =
    let table = c.self.invariant ∙ ap line_table c.self.view_is in
    IsLineOf-read c.args.self.now c.self.inside.lines.items c.args.byte_idx c.line_holding-number.result c.index.result.now table c.line_holding-number.ensures.value
    (omega (arith, ap length table, c.line_holding-number.ensures.within)) c.index.ensures
