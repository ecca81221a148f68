-- What is logged of pieces that are read again: of any run.
use Rattle.typst_edits.proofs.Cited.{◌≡◌, ℕ, zero, suc, ◌+◌, Bool, false, List, [], ◌∷◌, ◌++◌, Some, refl, ap, ◌∙◌, arith, map-append, Place, moved, look, token, Ask, shift, looked, at_trivia, no_log, logged, Outcome, start_point, run, Trivia, point_of, peek, moved-sum, max_depth, markup_reading, inner_lead, run_at, own_of, text_run, read_again, SamePieces, End, asks_of, lead, Sequence, first_end, then_of, is_text_run, is_block_run, top}
use Rattle.typst_kinds.specs.declared.mode.SyntaxMode.TheVariants as mode
use Rattle.typst_language.proofs.Logs.{logged-shift}
use Rattle.typst_edits.specs.PiecesLog.{asks_again, PiecesLogLaw}
use Rattle.typst_edits.specs.Frame.{inner}
use Rattle.typst_edits.proofs.EmptyRuns.{hand-asks}
use Rattle.typst_edits.proofs.Joint.{block-read, known-read, text-read, ReadAs}
use Rattle.typst_edits.proofs.RunSplice.{hand-direct}
use Rattle.typst_edits.proofs.Outcomes.{shift-twice}
use Rattle.typst_edits.proofs.Known.{Reached}
use Rattle.typst_edits.proofs.Resumed.{text-reached, block-reached, resume-law}

-- pieces that are the same except for the trivia before the first
pub same-asks : (t : Trivia) (os cs : List (Outcome (Bool × (Bool × ℕ)))) → SamePieces t os cs → asks_of os ≡ shift t.gap (asks_of cs)
same-asks t [] [] h = refl
same-asks t [] (c ∷ cs) h = absurd h
same-asks t (o ∷ os) [] h = absurd h
same-asks t (o ∷ os) (c ∷ cs) h =
    ap (λ us. o.asks ++ shift o.taken (asks_of us)) h.1 ∙ simp (h.0.asks, h.0.taken, map-append, shift-twice)

-- ---- any run

module _ (r : Sequence) (ls : List Ask) (j m lv : ℕ) (t : Trivia) where
  abbrev e : End (Bool × ℕ)
  e = first_end (suc j) r

  abbrev y : Place
  y = moved e.taken r.place

  abbrev here : Place
  here = moved t.gap y

  -- the look at a token where a run begins at it
  first-look : at_trivia r.level.classes mode.Markup here ≡ false → (run r.level peek here (start_point markup_reading)).asks ≡ looked 0 (look (token r.level.classes mode.Markup) here) ∷ []
  unfolding run
  first-look clear = hand-direct r.level.classes here clear

  again-log : SamePieces t (then_of (suc j) m r) (read_again (suc j) m t r) → ReadAs markup_reading e.state → e.state.known ≡ Some t → Reached r.level.classes y e.state
      → logged lv r.place no_log (own_of r ls (suc j) m) ≡ logged lv here no_log (asks_again (suc j) m t r)
  again-log pieces read known reached = grind (arith, known-read, hand-asks, first-look, same-asks, map-append, shift-twice, logged-shift, moved-sum)

-- ---- the law

pub pieces-log-law : PiecesLogLaw
pieces-log-law k text r z zero m t some g h known none = absurd (omega (arith, some))
pieces-log-law k text top z (suc j) m t some g h known none =
    again-log (text_run k z) (lead k z).asks j m max_depth t (resume-law k (text_run k z) (is_text_run z) (suc j) m t g h known none) (text-read k (suc j) 0 z) known (text-reached k z (suc j))
pieces-log-law k text (inner c levels a n l) z (suc j) m t some g h known none =
    let y = moved c.at z in
    let s = point_of c.start in
    again-log (run_at k levels c z) (inner_lead k levels y s).asks j m (suc levels) t (resume-law k (run_at k levels c z) (is_block_run levels y s) (suc j) m t g h known none) (block-read k levels (suc j) 0 y s) known (block-reached k levels y s (suc j))
