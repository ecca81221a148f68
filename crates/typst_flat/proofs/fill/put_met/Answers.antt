use Rattle.typst_flat.proofs.Cited.{◌+◌, ◌<◌, ◌≤◌, sym, subst, arith, at, offset_of, end_of, IsFilled}
use Rattle.typst_flat.proofs.Filled.{put_fits, put_full, put_past}
use Rattle.typst_flat.proofs.fill.put_met.Goals as goal
use Rattle.typst_flat.proofs.fill.put_met.Goals.{then-count-room, else-count-room}

pub returns-then-stretch-placed : goal.returns-then-stretch-placed
returns-then-stretch-placed c = λ root n old less placed is reaches f.
    let before : offset_of (at root n) ≤ c.args.stretch.end = omega (arith, reaches, placed.start) in
    let early : end_of (at root n) < c.args.stretch.start = omega (arith, c.if-stretch-placed.true, placed.end) in
    put_past c.args.stretch root n c.args.count c.args.room.now old less before early f

pub returns : goal.returns
returns c = λ root n old less placed is reaches f.
    let s = c.args.stretch in
    let before : offset_of (at root n) ≤ s.end = omega (arith, reaches, placed.start) in
    let begins : s.start ≤ end_of (at root n) = omega (arith, c.if-stretch-placed.false, placed.end) in
    elim c.if-count-room.branch [
      | then-count-room b ↦ subst (λ xs. IsFilled s root (n + 1) (c.args.count + 1) xs old) (sym b.room-is) (put_fits s root n c.args.count c.args.room.now old c.args.written less before begins is (omega (arith, b.if-count-room.true)) f)
      | else-count-room b ↦ subst (λ xs. IsFilled s root (n + 1) (c.args.count + 1) xs old) (sym b.room-is) (put_full s root n c.args.count c.args.room.now old less before begins (omega (arith, b.if-count-room.false)) f)
    ]
