-- What the parser of the code keeps ready.
use Rattle.std.specs.Prelude.{◌≡◌, ◌≤◌, ℕ, Bool, if◌then◌else◌, List, [], Option, None, length}
use Rattle.std.specs.Str.{chars}
use Rattle.typst_lines.specs.Scanner.{place}
use Rattle.typst_tree.specs.Tree.{Tree}
use Rattle.typst_language.specs.declared.reading.Reading.{Reading}
use Rattle.typst_language.specs.declared.reading.State.{State}
use Rattle.typst_language.specs.Point.{Point, Trivia}
use Rattle.typst_language.specs.Hand.{known_by}
use Rattle.typst_language.specs.Log.{blank_log}
use Rattle.typst_language.specs.Meaning.{start_point}
use Rattle.typst_language.specs.declared.ahead.ReadAhead.{ReadAhead}
use Rattle.typst_language.specs.declared.parser.Parser.TheInside.{Inside}
use Rattle.typst_language.specs.AheadCursor.{Stands, hand_of_ahead}
use Rattle.typst_language.specs.View.{View}

-- what is known of the trivia, once the token was asked for
abbrev pub known_of : ReadAhead → List Tree → Option Trivia
known_of a trivia = if a.is_read then known_by (hand_of_ahead a trivia) else None

-- the point of a parser, by its state, the token that was read ahead, and the trivia before it
abbrev pub point_of_ahead : State → ReadAhead → List Tree → Point
point_of_ahead s a trivia = record { reading = s.reading; held = s.held; empties = s.empties; is_after_error = s.is_after_error; known = known_of a trivia }

-- what a parser of the code shows
abbrev pub view_of : Inside → View
view_of i = record {
  nodes = i.nodes.items;
  place = place i.ahead.before;
  state = point_of_ahead i.state i.ahead i.trivia.items;
  hand = hand_of_ahead i.ahead i.trivia.items;
  own = i.ahead.own;
  here = i.ahead.here;
  log = i.log;
  memo = i.memo.items;
}

-- a parser of the code is in order: the token is where its trivia end, and no more empty errors are
-- counted than there are nodes
pub record IsReady (i : Inside) : Type 0 where
  pub stands : Stands i.ahead
  pub few : i.state.empties ≤ length i.nodes.items

-- at a text's start, before anything was asked
pub record IsStart (text : List ℕ) (reading : Reading) (keeps : Bool) (v : View) : Type 0 where
  pub nodes : v.nodes ≡ []
  pub place : v.place ≡ record { before = []; ahead = chars text }
  pub state : v.state ≡ start_point reading
  pub log : v.log ≡ blank_log keeps
  pub memo : v.memo ≡ []
