-- Going back to a checkpoint.
use Rattle.typst_language.proofs.Cited.{◌≡◌, ℕ, min, if◌then◌else◌, List, length, take, None, refl, Tree, known_by, Log, View, Saved, trivia_back, went_back, unnoted}

-- what the code set is what stood at the checkpoint
pub back-is : (c : Saved) (v : View) (ns ts : List Tree) (e : ℕ) (h : Log) → ns ≡ take c.nodes v.nodes → ts ≡ trivia_back c v → e ≡ min c.state.empties (length ns) → h ≡ unnoted c.notes v.log
    → record {
      nodes = ns;
      place = c.place;
      state = record {
        reading = c.state.reading;
        held = c.state.held;
        empties = e;
        is_after_error = c.state.is_after_error;
        known = if c.is_known then known_by (record c.hand { trivia = ts }) else None;
      };
      hand = record c.hand { trivia = ts };
      own = c.own;
      here = c.here;
      log = h;
      memo = v.memo;
    } ≡ went_back c v
back-is c v ns ts e h a b f g = rw (f, a, b, g) refl
