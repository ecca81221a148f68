use Rattle.typst_tokens.proofs.Cited.{◌≡◌, ◌+◌, List, ℕ, refl, sym, subst, ap, length, slice_index, arith, true, IsUtf8, bytes_pass, either, four_pass}
use Rattle.typst_tokens.proofs.PairRuns.{runs-on, runs-on-four}
use Rattle.typst_tokens.proofs.pairs.past_ascii.Goals as goal

pub fours-preserved : goal.fours-preserved
fours-preserved g c =
    let i = c.fours.invariant in
    let text = c.args.s.now.text.now in
    let test = either (g.P.CharSet.members c.args.set.now) (g.P.PairSet.before c.args.set.now) in
    let utf8 = subst IsUtf8 c.string.ensures c.string.utf8 in
    let pass = subst (λ (t : List ℕ). four_pass test t c.fours.at ≡ true) i.bytes (sym c.if-four_pass.ensures) in
    record { bytes = i.bytes; runs = runs-on-four test text utf8 _ c.fours.at i.runs (omega (arith, ap length i.bytes, c.fours-test.true)) pass; text = i.text }

pub ones-preserved : goal.ones-preserved
ones-preserved g c =
    let i = c.ones.invariant in
    let text = c.args.s.now.text.now in
    let at = c.ones.at in
    let test = either (g.P.CharSet.members c.args.set.now) (g.P.PairSet.before c.args.set.now) in
    let utf8 = subst IsUtf8 c.string.ensures c.string.utf8 in
    let pass = subst (λ (t : List ℕ). bytes_pass test (slice_index t at) (slice_index t (at + 1)) ≡ true) i.bytes (sym c.if-has_bytes.ensures) in
    record { bytes = i.bytes; runs = runs-on test text utf8 _ at (at + 1) refl i.runs (omega (arith, ap length i.bytes, c.ones-test.true)) pass; text = i.text }
