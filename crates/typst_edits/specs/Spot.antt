-- Spots: where a block is in a reading, with what is given and asked before it and after it. If the
-- block is read again and its outcome fits, the outcome of the whole follows from that.
use Rattle.std.specs.Prelude.{◌≡◌, ℕ, suc, ◌+◌, ◌-◌, Bool, false, ◌||◌, if◌then◌else◌, nat_lt, List, [], ◌∷◌, ◌++◌, length, map}
use Rattle.typst_kinds.specs.declared.kind.SyntaxKind.{SyntaxKind}
use Rattle.typst_kinds.specs.declared.kind.SyntaxKind.TheVariants as kind
use Rattle.typst_kinds.specs.Head.{Head, inner_head}
use Rattle.typst_tree.specs.Tree.{Tree, error_of}
use Rattle.typst_lines.specs.Place.{Place, moved}
use Rattle.typst_language.specs.declared.calls.Block.{Block}
use Rattle.typst_language.specs.declared.calls.Block.TheVariants as block
use Rattle.typst_language.specs.declared.calls.Mark.TheVariants as mark
use Rattle.typst_language.specs.declared.reading.State.{State}
use Rattle.typst_language.specs.Ask.{Ask, shift, sunk}
use Rattle.typst_language.specs.Ask.Ask.{looked, marked}
use Rattle.typst_language.specs.Point.{Point, point_of, state_of, forgot}
use Rattle.typst_language.specs.Shape.{hinted}
use Rattle.typst_language.specs.Meaning.{Outcome, Meaning, less}
use Rattle.typst_edits.specs.Hole.{Hole, plug}
use Rattle.typst_edits.specs.Hole.Deep.{bare}

-- the kind of a block's node
abbrev pub kind_of : Block → SyntaxKind
kind_of block.Code = kind.CodeBlock
kind_of block.Content = kind.ContentBlock

-- the head of a block's node
abbrev pub block_head : Block → Head
block_head b = inner_head (kind_of b)

-- an ask, counted from where n levels more are left
abbrev pub lower : ℕ → Ask → Ask
lower n (looked at look) = looked at look
lower n (marked at gap fewer mark s) = marked at gap (n + fewer) mark s

-- asks, counted from where n levels more are left
abbrev pub lowered : ℕ → List Ask → List Ask
lowered n = map (lower n)

-- a block's place in a whole reading. In `@x[b] c` it says of the block `[b]` what is read of it,
-- and what the reading gives and asks before it, for `@x`, and after it, for ` c`. `around` puts the
-- whole together of it and another block: with another `at` or `rest` looks would be counted from
-- other places, and an edit would keep nodes that saw it; with another `hole` the new node would stand
-- elsewhere; with another `back` or other `hints` errors before the block would go, or get hints.
-- `blocks_of_texts` computes spots of short texts
pub record Spot (A : Type 0) : Type 0 where
  -- the block: where it begins in the whole, in characters, how many levels fewer are left there,
  -- the state in which it begins, and what is read there
  pub at : ℕ
  pub name : Block
  pub fewer : ℕ
  pub start : State
  pub reads : Meaning (Unit {0})
  -- what its reading gave: the point that it reached, how many nodes it took back, its hints for
  -- nodes before it, the nodes that it gave before its own, and its own
  pub reached : Point
  pub takes_back : ℕ
  pub advises : List (List ℕ)
  pub front : List Tree
  pub node : Tree
  -- the whole: its answer, how many characters it takes after the block, the point that it reaches,
  -- how many nodes it took back, its hints for nodes before it, and its nodes with a hole for the
  -- block's own
  pub value : A
  pub rest : ℕ
  pub state : Point
  pub back : ℕ
  pub hints : List (List ℕ)
  pub hole : Hole
  -- what was asked before the block, and after it, counted from its end; and whether the limit of
  -- depth was met there
  pub before : List Ask
  pub after : List Ask
  pub met_before : Bool
  pub met_after : Bool

-- the outcome of the whole, if the block gives this outcome with this node
abbrev pub around : {A : Type 0} → Spot A → Outcome (Unit {0}) → Tree → Outcome A
around c b x = record {
  value = c.value;
  taken = c.at + (b.taken + c.rest);
  state = c.state;
  back = c.back;
  hints = c.hints;
  nodes = plug c.hole x;
  asks = c.before ++ (shift c.at (lowered c.fewer b.asks) ++ shift (c.at + b.taken) c.after);
  met = c.met_before || (b.met || c.met_after);
}

-- an outcome of the block that may take the place of the one it had: the same except for what was
-- taken, asked and met, and for its own node, whose head is a block's
pub record Fits {A : Type 0} (c : Spot A) (b : Outcome (Unit {0})) (x : Tree) : Type 0 where
  pub state : b.state ≡ c.reached
  pub back : b.back ≡ c.takes_back
  pub hints : b.hints ≡ c.advises
  pub nodes : b.nodes ≡ c.front ++ x ∷ []
  pub head : x.head ≡ block_head c.name

-- what the block gives, if the whole begins at this place
abbrev pub unit_at : {A : Type 0} → Spot A → Place → Outcome (Unit {0})
unit_at c z = c.reads (moved c.at z) (point_of c.start)

-- ---- a spot in a larger whole

-- the spot in a whole with another answer
abbrev pub valued : {A B : Type 0} → B → Spot A → Spot B
valued v c = record {
  at = c.at;
  name = c.name;
  fewer = c.fewer;
  start = c.start;
  reads = c.reads;
  reached = c.reached;
  takes_back = c.takes_back;
  advises = c.advises;
  front = c.front;
  node = c.node;
  value = v;
  rest = c.rest;
  state = c.state;
  back = c.back;
  hints = c.hints;
  hole = c.hole;
  before = c.before;
  after = c.after;
  met_before = c.met_before;
  met_after = c.met_after;
}

-- the spot in a whole that goes on with this outcome. A hint of it doesn't reach the node with the
-- hole, which isn't an error
abbrev pub then_spot : {A B : Type 0} → Spot B → Outcome A → Spot A
then_spot c q = record (valued q.value c) {
  rest = c.rest + q.taken;
  state = q.state;
  hole = record c.hole { right = hinted q.hints (less q.back c.hole.right) ++ q.nodes };
  after = c.after ++ shift c.rest q.asks;
  met_after = c.met_after || q.met;
}

-- the spot in a whole that begins with this outcome. How many nodes the whole takes back, and its
-- hints for nodes before it, are what `joined` (Meaning.antt) makes of the two
abbrev pub after_spot : {A B : Type 0} → Outcome B → Spot A → Spot A
after_spot o c = record c {
  at = o.taken + c.at;
  back = o.back + (c.back - length o.nodes);
  hints = if nat_lt c.back (length o.nodes) then o.hints else (if nat_lt (length o.nodes) c.back then c.hints else o.hints ++ c.hints);
  hole = record c.hole { left = hinted c.hints (less c.back o.nodes) ++ c.hole.left };
  before = o.asks ++ shift o.taken c.before;
  met_before = o.met || c.met_before;
}

-- the spot with other nodes around its own, and another point reached
abbrev pub rehole : {A : Type 0} → Point → Spot A → Hole → Spot A
rehole s c g = record c { hole = g; state = s }

-- the spot in a whole that is read one level deeper
abbrev pub sunk_spot : {A : Type 0} → Spot A → Spot A
sunk_spot c = record c { fewer = suc c.fewer; before = sunk c.before; after = sunk c.after }

-- the spot in a block that begins at this point, between the block's two marks
abbrev pub closed_spot : Block → Point → Spot (Unit {0}) → Spot (Unit {0})
closed_spot b s c = record c {
  before = marked 0 0 0 (mark.Opens b) (state_of s) ∷ c.before;
  after = c.after ++ marked c.rest 0 0 mark.Closes (state_of c.state) ∷ [];
  state = forgot c.state;
}

-- what a block gives, with nothing known of the trivia after it
abbrev pub ended : Outcome (Unit {0}) → Outcome (Unit {0})
ended o = record o { state = forgot o.state }

-- the last of several nodes
abbrev pub last_node : List Tree → Tree
last_node [] = error_of [] []
last_node (t ∷ []) = t
last_node (t ∷ u ∷ ts) = last_node (u ∷ ts)

-- the spot of a block itself, which begins at this point with nothing known of the trivia, between
-- its two marks
abbrev pub here_spot : Block → Meaning (Unit {0}) → Place → Point → Spot (Unit {0})
here_spot b m z s =
    let o = m z (forgot s) in
    record {
      at = 0;
      name = b;
      fewer = 0;
      start = state_of s;
      reads = λ y t. ended (m y t);
      reached = forgot o.state;
      takes_back = o.back;
      advises = o.hints;
      front = less 1 o.nodes;
      node = last_node o.nodes;
      value = tt;
      rest = 0;
      state = forgot o.state;
      back = o.back;
      hints = o.hints;
      hole = record { left = less 1 o.nodes; deep = bare; right = [] };
      before = marked 0 0 0 (mark.Opens b) (state_of s) ∷ [];
      after = marked 0 0 0 mark.Closes (state_of o.state) ∷ [];
      met_before = false;
      met_after = false;
    }
