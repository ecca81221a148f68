-- Pieces that are read again from where the token of the first of them begins.
use Rattle.std.specs.Prelude.{◌≡◌, ℕ, ◌+◌, Bool, true, List, [], ◌∷◌, ◌++◌, Some}
use Rattle.typst_lines.specs.Place.{Place, moved}
use Rattle.typst_lines.specs.Classes.{CharClasses}
use Rattle.typst_language.specs.Ask.{shift}
use Rattle.typst_language.specs.Point.{Trivia, Point, gap_of}
use Rattle.typst_language.specs.Steps.{peek}
use Rattle.typst_language.specs.Meaning.{Outcome, Level, start_point, run}
use Rattle.typst_grammar.specs.Markup.{markup_reading}
use Rattle.typst_edits.specs.Heads.{first_place, minds_at}
use Rattle.typst_edits.specs.InnerJoint.{IsRun}
use Rattle.typst_edits.specs.Sequence.{Sequence, turn_of, first_of, first_end, then_of, then_end, made, AllGo}

-- Of a run's start the look at the token there alone is known.
abbrev pub fresh : Level → Place → Point
fresh l z = (run l peek z (start_point markup_reading)).state

-- m pieces are read again from after these trivia, which follow the first i pieces, as a run is from its start, with the line start and the brackets that are carried there.
abbrev pub read_again : ℕ → ℕ → Trivia → Sequence → List (Outcome (Bool × (Bool × ℕ)))
read_again i m t r = let z = moved t.gap (first_place i r) in made (turn_of r) m (first_end i r).value z (fresh r.level z)

-- A piece is read the same except for the trivia before it.
pub record SamePiece (t : Trivia) (o c : Outcome (Bool × (Bool × ℕ))) : Type 0 where
  pub value : o.value ≡ c.value
  pub taken : o.taken ≡ t.gap + c.taken
  pub state : o.state ≡ c.state
  pub back : o.back ≡ c.back
  pub hints : o.hints ≡ c.hints
  pub nodes : o.nodes ≡ t.nodes ++ c.nodes
  pub asks : o.asks ≡ shift t.gap c.asks
  pub met : o.met ≡ c.met

-- Pieces are read the same except for the trivia before the first of them.
abbrev pub SamePieces : Trivia → List (Outcome (Bool × (Bool × ℕ))) → List (Outcome (Bool × (Bool × ℕ))) → Type 0
SamePieces t [] [] = Unit {0}
SamePieces t [] (c ∷ cs) = ⊥
SamePieces t (o ∷ os) [] = ⊥
SamePieces t (o ∷ os) (c ∷ cs) = SamePiece t o c × (os ≡ cs)

-- The pieces of a run after some of them are those that are read again from their first token on, where that takes back no errors.
abbrev pub Resumes : Sequence → Type 0
Resumes r = (i m : ℕ) (t : Trivia) → AllGo (first_of i r) → AllGo (then_of i m r) → (first_end i r).state.known ≡ Some t → (minds_at r (first_place i r) (first_end i r) ≡ true → (first_end i r).state.empties ≡ 0)
    → SamePieces t (then_of i m r) (read_again i m t r)

-- No two numbers of pieces after the first i end at one place with their trivia.
abbrev pub CountsOnce : Sequence → Type 0
CountsOnce r = (i m n : ℕ) → AllGo (first_of i r) → AllGo (then_of i m r) → AllGo (then_of i n r)
    → (then_end i m r).taken + gap_of (then_end i m r).state.known ≡ (then_end i n r).taken + gap_of (then_end i n r).state.known → m ≡ n

-- The law of pieces that are read again.
abbrev pub ResumeLaw : Type 0
ResumeLaw = (k : CharClasses) (r : Sequence) → IsRun k r → Resumes r

abbrev pub CountLaw : Type 0
CountLaw = (k : CharClasses) (r : Sequence) → IsRun k r → CountsOnce r
