-- A place of a text to go back to.
use Rattle.std.specs.Prelude.{◌≡◌, ℕ, ◌==◌, min, Bool, true, false, if◌then◌else◌, List, [], length, take, drop, Option, Some, None}
use Rattle.typst_lines.specs.Place.{Place}
use Rattle.typst_tree.specs.Tree.{Tree}
use Rattle.typst_tokens.specs.declared.hull.Hull.{Hull}
use Rattle.typst_language.specs.declared.reading.State.{State}
use Rattle.typst_language.specs.Point.{state_of}
use Rattle.typst_language.specs.Hand.{Hand, known_by}
use Rattle.typst_language.specs.Noted.{listed, looked_before, unnoted}
use Rattle.typst_language.specs.View.{View}

-- ---- what a checkpoint keeps

-- numbers, a place, and the current token, but no node
pub record Saved : Type 0 where
  -- how many nodes are before the pending trivia, how many nodes these are, and how many notes there are
  pub nodes : ℕ
  pub trivia : ℕ
  pub notes : ℕ
  pub place : Place
  pub state : State
  -- whether the current token was asked for, and the token, without its trivia
  pub is_known : Bool
  pub hand : Hand
  pub own : Hull
  pub here : Hull

-- whether there is a value
abbrev pub is_some : {A : Type 0} → Option A → Bool
is_some None = false
is_some (Some a) = true

-- what a checkpoint keeps of a view
abbrev pub saved : View → Saved
saved v = record {
  nodes = length v.nodes;
  trivia = length v.hand.trivia;
  notes = length (listed v.log.notes);
  place = v.place;
  state = state_of v.state;
  is_known = is_some v.state.known;
  hand = record v.hand { trivia = [] };
  own = v.own;
  here = v.here;
}

-- ---- what is after going back

-- the first of the nodes given since a checkpoint, up to a given number; if fewer were given, the nodes that were
-- held
abbrev pub first_of : ℕ → List Tree → List Tree → List Tree
first_of count given held = let first = take count given in if length first == count then first else held

-- the nodes of the trivia that are pending after going back
abbrev pub trivia_back : Saved → View → List Tree
trivia_back c v = first_of c.trivia (drop c.nodes v.nodes) v.hand.trivia

-- the current token after going back, with its trivia
abbrev pub hand_back : Saved → View → Hand
hand_back c v = record c.hand { trivia = trivia_back c v }

-- the view of a checkpoint again, with all that was looked at since
abbrev pub went_back : Saved → View → View
went_back c v = record {
  nodes = take c.nodes v.nodes;
  place = c.place;
  state = record {
    reading = c.state.reading;
    held = c.state.held;
    empties = min c.state.empties (length (take c.nodes v.nodes));
    is_after_error = c.state.is_after_error;
    known = if c.is_known then known_by (hand_back c v) else None;
  };
  hand = hand_back c v;
  own = c.own;
  here = c.here;
  log = unnoted c.notes v.log;
  memo = v.memo;
}

-- a reading kept the nodes before a checkpoint, and the trivia that were pending there are the
-- first that it gave, or are pending still
pub record Leaves (old mid : View) : Type 0 where
  pub nodes : take (length old.nodes) mid.nodes ≡ old.nodes
  pub trivia : trivia_back (saved old) mid ≡ old.hand.trivia

-- what was noted since a checkpoint is dropped
abbrev pub forgot_notes : Saved → View → View
forgot_notes c v = record v { log = unnoted c.notes v.log }

-- looks that were made before a checkpoint count at the first note since, or if there is none, as
-- looks since the last note
abbrev pub looked_since : Saved → Hull → View → View
looked_since c u v = record v { log = looked_before c.notes u v.log }
