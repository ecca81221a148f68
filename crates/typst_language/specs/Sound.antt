-- What every parser keeps to.
use Rattle.std.specs.Prelude.{◌≡◌, ℕ, ◌+◌, ◌≤◌, false, length, Option, Some, None}
use Rattle.typst_lines.specs.Place.{Place, moved}
use Rattle.typst_lexer.specs.Tree.{forest, joined}
use Rattle.typst_language.specs.declared.calls.Block.{Block}
use Rattle.typst_language.specs.Calls.{Call}
use Rattle.typst_language.specs.Ask.{SameIn}
use Rattle.typst_language.specs.Hand.{utf8_ahead}
use Rattle.typst_language.specs.Point.{Trivia, Point}
use Rattle.typst_language.specs.Meaning.{Outcome, Meaning, Level, bound}

-- no more characters are taken than there are
abbrev pub Within : {A : Type 0} → Meaning A → Type 0
Within m = (z : Place) (s : Point) → (m z s).taken + bound (moved (m z s).taken z) (m z s).state ≤ bound z s

-- no more nodes are taken back than there are empty errors
pub record Tidy {A : Type 0} (s : Point) (o : Outcome A) : Type 0 where
  pub back : o.back ≤ s.empties
  pub left : o.state.empties + o.back ≤ s.empties + length o.nodes

-- from each place and point, no more nodes are taken back than there are empty errors
abbrev pub Backs : {A : Type 0} → Meaning A → Type 0
Backs m = (z : Place) (s : Point) → Tidy s (m z s)

-- what is read a level deeper, and each block, takes no more than there is
pub record Sound (l : Level) : Type 0 where
  pub within : (call : Call) → Within (l.deeper call)
  pub backs : (call : Call) → Backs (l.deeper call)
  pub within_block : (b : Block) → Within (l.blocks b)
  pub backs_block : (b : Block) → Backs (l.blocks b)

-- where all that was asked at one place shows the same at another, the whole outcome is the same there
abbrev pub Framed : {A : Type 0} → Meaning A → Type 0
Framed m = (z w : Place) (s : Point) → SameIn (m z s).asks z w → m w s ≡ m z s

-- two readings that meet no limit of depth give the same outcome
abbrev pub Alike : {A : Type 0} → Meaning A → Meaning A → Type 0
Alike m n = (z : Place) (s : Point) → (m z s).met ≡ false → (n z s).met ≡ false → m z s ≡ n z s

-- what is known of the pending trivia is so: the texts of their nodes, joined, are the characters
-- ahead
abbrev pub Stands : Place → Option Trivia → Type 0
Stands z None = Unit {0}
Stands z (Some t) = joined (forest t.nodes) ≡ utf8_ahead t.gap z

-- the texts of the nodes given, joined, are the characters taken, as bytes; and what is known of
-- the trivia after them is so
pub record Kept {A : Type 0} (z : Place) (o : Outcome A) : Type 0 where
  pub text : joined (forest o.nodes) ≡ utf8_ahead o.taken z
  pub known : Stands (moved o.taken z) o.state.known

-- from each place and point the nodes given have the text of the characters taken, if what was
-- known of the trivia was so
abbrev pub KeepsText : {A : Type 0} → Meaning A → Type 0
KeepsText m = (z : Place) (s : Point) → Stands z s.known → Kept z (m z s)

-- what holds of all that the language can say, by how many levels are left
pub record Lawful {A : Type 0} (m : ℕ → Meaning A) : Type 0 where
  -- the law of the frame
  pub frame : (levels : ℕ) → Framed (m levels)
  -- the law of depth
  pub depth : (i j : ℕ) → Alike (m i) (m j)
  -- the law of the leaves
  pub leaves : (levels : ℕ) → KeepsText (m levels)
  pub within : (levels : ℕ) → Within (m levels)
  pub tidy : (levels : ℕ) → Backs (m levels)
