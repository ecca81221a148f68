-- What a checkpoint of the code shows.
use Rattle.std.specs.Prelude.{[]}
use Rattle.typst_lines.specs.Scanner.{place}
use Rattle.typst_language.specs.declared.checkpoint.Checkpoint.{Checkpoint}
use Rattle.typst_language.specs.Checkpoint.{Saved}
use Rattle.typst_language.specs.AheadCursor.{hand_of_ahead}

-- what a checkpoint of the code keeps
abbrev pub saved_by : Checkpoint → Saved
saved_by c = record {
  nodes = c.nodes;
  trivia = c.trivia;
  notes = c.notes;
  place = place c.ahead.before;
  state = c.state;
  is_known = c.ahead.is_read;
  hand = hand_of_ahead c.ahead [];
  own = c.ahead.own;
  here = c.ahead.here;
}
