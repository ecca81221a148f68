-- A stretch of a text replaced, inside a block of its reading.
use Rattle.std.specs.Prelude.{◌≡◌, ℕ, zero, suc, ◌+◌, ◌<◌, ◌≤◌, List, [], ◌∷◌, ◌++◌, length}
use Rattle.typst_tree.specs.Tree.{Tree, forest, trees}
use Rattle.typst_lines.specs.Place.{Place}
use Rattle.typst_language.specs.Ask.{Ask, shift}
use Rattle.typst_language.specs.Ask.Ask.{looked, marked}
use Rattle.typst_language.specs.Meaning.{Outcome}
use Rattle.typst_edits.specs.Hole.{path_of}
use Rattle.typst_edits.specs.Spot.{Spot, unit_at, lowered}
use Rattle.typst_edits.specs.TextReplacement.{TextReplacement, start_before, start_after}

-- one of several
pub data Among {X : Type 0} (x : X) : List X → Type 0 where
  this : (xs : List X) → Among x (x ∷ xs)
  that : (y : X) (xs : List X) → Among x xs → Among x (y ∷ xs)

-- the start of a text: what lies before the stretch, the stretch, and the rest
abbrev pub text_with : List ℕ → List ℕ → List ℕ → Place
text_with front mid rest = record { before = []; ahead = front ++ (mid ++ rest) }

-- every look ends a given number of characters further on, or before
abbrev pub AllEndBy : ℕ → List Ask → Type 0
AllEndBy n [] = Unit {0}
AllEndBy n (looked at look ∷ asks) = (at + look.front ≤ n) × AllEndBy n asks
AllEndBy n (marked at gap fewer mark s ∷ asks) = AllEndBy n asks

-- every look begins at the start of the rest or after it; the asks are counted from the place so many characters into the rest
abbrev pub AllBeginIn : ℕ → List ℕ → List Ask → Type 0
AllBeginIn past rest [] = Unit {0}
AllBeginIn past rest (looked at look ∷ asks) = (look.back ≤ past + at) × (past + at ≤ length rest) × AllBeginIn past rest asks
AllBeginIn past rest (marked at gap fewer mark s ∷ asks) = AllBeginIn past rest asks

-- The test: a block that goes on a given number of characters past a stretch `old`, which becomes `new`.
pub record Passes {A : Type 0} (edit : TextReplacement) (c : Spot A) (past : ℕ) : Type 0 where
  -- the block covers the stretch strictly
  pub starts : c.at < length edit.front
  pub ends : (unit_at c (start_before edit)).taken + c.at ≡ (length edit.front + length edit.old) + past
  pub goes_on : 0 < past
  -- what was looked at before the block ends at the stretch or before it
  pub before : AllEndBy (length edit.front) c.before
  -- what was looked at after the block begins at the stretch's end or after it
  pub after : AllBeginIn past edit.rest c.after
  -- read on the new text from its state, the block ends at the shifted end
  pub shifted : (unit_at c (start_after edit)).taken + c.at ≡ (length edit.front + length edit.new) + past

-- one of several nodes changed, by its index
abbrev pub alter : ℕ → (Tree → Tree) → List Tree → List Tree
alter i f [] = []
alter zero f (t ∷ ts) = f t ∷ ts
alter (suc i) f (t ∷ ts) = t ∷ alter i f ts

-- the tree with another node at the end of a path of child indices
abbrev pub put : List ℕ → Tree → Tree → Tree
put [] x t = x
put (i ∷ path) x t = record { head = t.head; kids = forest (alter i (put path x) (trees t.kids)) }

-- the nodes with another one at the end of a path into them
abbrev pub replaced : List ℕ → Tree → List Tree → List Tree
replaced [] x ts = ts
replaced (i ∷ path) x ts = alter i (put path x) ts

-- What the whole gives on the new text, where the block gave the one outcome on the old text and gives the other on the new.
pub record Edited {A : Type 0} (old new : Outcome A) (c : Spot A) (a b : Outcome (Unit {0})) (x : Tree) : Type 0 where
  pub value : new.value ≡ old.value
  pub state : new.state ≡ old.state
  pub back : new.back ≡ old.back
  -- one node is replaced, at its path
  pub nodes : new.nodes ≡ replaced (path_of c.hole) x old.nodes
  -- the log is the old one before the block, the block's own, and the old one after it, moved
  pub was : old.asks ≡ c.before ++ (shift c.at (lowered c.fewer a.asks) ++ shift (c.at + a.taken) c.after)
  pub log : new.asks ≡ c.before ++ (shift c.at (lowered c.fewer b.asks) ++ shift (c.at + b.taken) c.after)
