-- Where a run that is read by itself ends, no more pieces go on.
use Rattle.typst_edits.proofs.Cited.{◌≡◌, ℕ, suc, ◌+◌, ◌<◌, ◌≤◌, Bool, true, false, nat_lt, length, sym, ◌∙◌, arith, moved, CharClasses, Block, Meaning, Level, start_point, run, gap_of, Within, peek, Sane, sane-run, sane-meaning, sane-block, sane-plain, RunKind, rules, markup_turn, markup_reading, first_look, run_level, stops_of, end_on, IsOver}
use Rattle.typst_grammar.specs.Pieces.{AllGo, blocks_in}
use Rattle.typst_grammar.specs.declared.part.RunKind.TheVariants as of
use Rattle.typst_edits.specs.RunTest.{Reading, pieces_by, OverLaw}
use Rattle.typst_edits.proofs.Boundary.{first-of, stopped-is}
use Rattle.typst_edits.proofs.NumberedNotes.{go-fewer, go-next, turns-within}
use Rattle.typst_edits.proofs.Every.{not-less}

sane-in : (k : CharClasses) (levels : ℕ) (which : RunKind) (b : Block) → Sane (blocks_in k levels which b)
sane-in k levels of.Text b = sane-block (rules k) k levels b
sane-in k levels of.Block b = sane-plain tt

module _ (k : CharClasses) (r : Reading) where
  abbrev level : Level
  level = run_level k r.levels r.which

  abbrev turn : Bool × ℕ → Meaning (Bool × (Bool × ℕ))
  turn x = run level (markup_turn true (stops_of r.which) x)

  within : (x : Bool × ℕ) → Within (turn x)
  within x = (sane-run level (sane-meaning (rules k) k r.levels) (sane-in k r.levels r.which) (markup_turn true (stops_of r.which) x)).within

  -- how far they go, with the trivia after them
  pub ends-in : (m : ℕ) → (let e = end_on level (stops_of r.which) r.carried m r.place in e.taken + gap_of e.state.known ≤ length r.place.ahead)
  ends-in m =
      let room = (sane-run level (sane-meaning (rules k) k r.levels) (sane-in k r.levels r.which) peek).within r.place (start_point markup_reading) in
      omega (arith, room, turns-within turn within m r.carried r.place (first_look level r.place).state)

  none-behind : (m j : ℕ) → IsOver k r.levels r.which r.carried r.place m → AllGo (pieces_by k r j) → m < j → ⊥
  none-behind m j over go l =
      let e = end_on level (stops_of r.which) r.carried m r.place in
      let o = turn e.value (moved e.taken r.place) e.state in
      let on = first-of o.value.0 (nat_lt 0 o.taken) (go-next turn m r.carried r.place (first_look level r.place).state (go-fewer turn (suc m) j r.carried r.place (first_look level r.place).state l go)) in
      let stopped : o.value.0 ≡ false = stopped-is level (stops_of r.which) e.value (moved e.taken r.place) e.state over in
      let no : true ≡ false = sym on ∙ stopped in cc

pub over-law : OverLaw
over-law k r m j over go = not-less j m (none-behind k r m j over go)
