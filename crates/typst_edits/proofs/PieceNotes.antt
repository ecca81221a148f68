-- From a note back to the pieces of a run: it is one of the run's notes by their numbers.
use Rattle.typst_edits.proofs.Cited.{◌≡◌, ℕ, suc, ◌+◌, ◌<◌, ◌==◌, eq-eqb, Bool, true, false, if◌then◌else◌, List, ◌∷◌, length, sym, ◌∙◌, arith, Note, max_depth, start_of, log, run_at, Among, this, that, inner_end, of_level, Numbered, SaysOf, listed, piece_at, lead, turn_of, RunNotesLaw, InnerNotesLaw, text_run, first_end}
use Rattle.typst_edits.proofs.NumberedNotes.{go-fewer, numbered-run-law, numbered-inner-law}

-- a note has a number among several, the first of which has this one
record HasNumber (P : ℕ → Note → Type 0) (i : ℕ) (ns : List Note) (note : Note) : Type 0 where
  number : ℕ
  less : number < i + length ns
  holds : P number note

module _ (P : ℕ → Note → Type 0) (note : Note) where
  number-here : (b : Bool) (i : ℕ) (ns : List Note) → b ≡ true → Numbered P i (if b then note ∷ ns else ns) → HasNumber P i (if b then note ∷ ns else ns) note
  number-here true i ns e h = record { number = i; less = omega arith; holds = h.0 }
  number-here false i ns e h = cc

  number-later : (b : Bool) (i : ℕ) (y : Note) (ns : List Note) → ((j : ℕ) → Numbered P j ns → HasNumber P j ns note) → Numbered P i (if b then y ∷ ns else ns) → HasNumber P i (if b then y ∷ ns else ns) note
  number-later true i y ns f h = let a = f (suc i) h.1 in let less = a.less in record { number = a.number; less = omega (arith, less); holds = a.holds }
  number-later false i y ns f h = f i h

  -- A note that says a level is one of that level's.
  number-of : (lv i : ℕ) (ns : List Note) → Among note ns → note.levels ≡ lv → Numbered P i (of_level lv ns) → HasNumber P i (of_level lv ns) note
  number-of lv i ns (this xs) own h = number-here (note.levels == lv) i (of_level lv xs) (eq-eqb note.levels lv own) h
  number-of lv i ns (that y xs a) own h = number-later (y.levels == lv) i y (of_level lv xs) (λ j g. number-of lv j xs a own g) h

pub run-notes-law : RunNotesLaw
run-notes-law k text note i levels =
    let z = start_of text in
    let n = numbered-run-law k text in
    let a = number-of (SaysOf text (λ j. first_end j (text_run k z))) note max_depth 0 (listed (log k text).notes) i levels n.each in
    record { count = a.number; go = go-fewer (piece_at k) a.number n.count (true, 0) z (lead k z).state (omega (arith, a.less, n.all)) n.go; says = a.holds.says }

pub inner-notes-law : InnerNotesLaw
inner-notes-law k levels text c chosen name left =
    let n = numbered-inner-law k levels text c chosen name left in
    let r = run_at k levels c (start_of text) in
    record {
      earlier = n.earlier;
      opens = n.opens;
      inner = n.inner;
      closes = n.closes;
      later = n.later;
      notes = n.notes;
      name = n.name;
      start = n.start;
      levels_there = n.levels_there ∙ sym left;
      name_end = n.name_end;
      each = λ note i own.
          (let a = number-of (SaysOf text (λ j. inner_end k levels j c (start_of text))) note (suc levels) 0 n.inner i own n.each in
          record { count = a.number; go = go-fewer (turn_of r) a.number n.count (true, 0) r.place r.point (omega (arith, a.less, n.all)) n.go; says = a.holds.says });
    }
