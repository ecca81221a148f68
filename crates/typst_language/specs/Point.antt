-- What a parser goes on from, except its place.
use Rattle.std.specs.Prelude.{ℕ, Bool, true, false, List, [], ◌∷◌, Option, Some, None}
use Rattle.typst_lexer.specs.Tree.{Tree}
use Rattle.typst_language.specs.declared.reading.Newlines.{Newlines}
use Rattle.typst_language.specs.declared.reading.Reading.{Reading}
use Rattle.typst_language.specs.declared.reading.State.{State}

-- a list is empty
abbrev pub is_nil : {A : Type 0} → List A → Bool
is_nil [] = true
is_nil (x ∷ xs) = false

-- no newlines were passed
abbrev pub no_newlines : Newlines
no_newlines = record { any = false; parbreak = false }

-- what is known of the pending trivia: their nodes, how many characters they take, and the newlines in them
pub record Trivia : Type 0 where
  pub nodes : List Tree
  pub gap : ℕ
  -- the newlines in the trivia, also in ones that became nodes already
  pub newlines : Newlines

-- the state, and what is known of the pending trivia since they were asked for
pub record Point : Type 0 where
  pub reading : Reading
  pub held : Reading
  pub empties : ℕ
  pub is_after_error : Bool
  pub known : Option Trivia

-- the state of a point
abbrev pub state_of : Point → State
state_of s = record { reading = s.reading; held = s.held; empties = s.empties; is_after_error = s.is_after_error }

-- the point of a state, where nothing is known of the pending trivia
abbrev pub point_of : State → Point
point_of s = record { reading = s.reading; held = s.held; empties = s.empties; is_after_error = s.is_after_error; known = None }

-- what is known of the pending trivia is forgotten
abbrev pub forgot : Point → Point
forgot s = record s { known = None }

-- the nodes of the pending trivia, if they are known
abbrev pub pending : Option Trivia → List Tree
pending None = []
pending (Some t) = t.nodes

-- how many characters the pending trivia take, if they are known
abbrev pub gap_of : Option Trivia → ℕ
gap_of None = 0
gap_of (Some t) = t.gap
