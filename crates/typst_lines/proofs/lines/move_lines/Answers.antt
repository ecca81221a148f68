use Rattle.typst_lines.proofs.Cited.{◌≡◌, ◌+◌, ◌++◌, map, take, drop, subst, sym, arith, moved_line, units_at, set}
use Rattle.typst_lines.proofs.Settled.{written}
use Rattle.typst_lines.proofs.lines.move_lines.Goals as goal

pub loop-line-preserved : goal.loop-line-preserved
loop-line-preserved c =
    let xs = c.args.lines.now in
    let ys = c.loop-line.lines in
    let i = c.loop-line.line-index in
    let base = c.loop-line.invariant.base in
    let done = subst (λ n. ys ≡ map (moved_line c.args.end c.args.new_end n c.args.utf16_idx) (take i xs) ++ drop i xs) (sym base) c.loop-line.invariant.done in
    record {
      base = base;
      done = subst (λ n. set ys i c.shift.new.self ≡ map (moved_line c.args.end c.args.new_end n c.args.utf16_idx) (take (i + 1) xs) ++ drop (i + 1) xs) base
          (written (moved_line c.args.end c.args.new_end c.match-first.base c.args.utf16_idx) xs ys i _ c.shift.new.self (omega arith) c.loop-line.auto.lines done c.shift.ensures);
    }
