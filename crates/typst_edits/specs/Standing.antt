-- The blocks that stand in a tree: each is a spot of the reading, or was read in place of a reading that was given up.
use Rattle.std.specs.Prelude.{◌≡◌, ℕ, zero, suc, ◌≤◌, length, Bool, true, false, ◌&&◌, if◌then◌else◌, List, [], ◌++◌, map}
use Rattle.std.specs.List.{flat_map}
use Rattle.typst_kinds.specs.declared.kind.SyntaxKind.{SyntaxKind}
use Rattle.typst_kinds.specs.declared.kind.SyntaxKind.TheVariants as kind
use Rattle.typst_kinds.specs.Head.{Head}
use Rattle.typst_tree.specs.Tree.{Tree}
use Rattle.typst_lines.specs.Place.{moved}
use Rattle.typst_lines.specs.Classes.{CharClasses}
use Rattle.typst_language.specs.declared.calls.Block.{Block}
use Rattle.typst_language.specs.Ask.{Ask}
use Rattle.typst_language.specs.Ask.Ask.{looked, marked}
use Rattle.typst_language.specs.Calls.{Call, Answer}
use Rattle.typst_language.specs.Point.{forgot}
use Rattle.typst_language.specs.Knot.{Rules, meaning_of, level_of}
use Rattle.typst_language.specs.Steps.{peek}
use Rattle.typst_language.specs.Syntax.{Parser, ◌>>◌}
use Rattle.typst_language.specs.Syntax.Op.{flushes}
use Rattle.typst_language.specs.Syntax.Parser.{gives, does, next, pick, repeat, wraps, grows, nests, scoped, either, calls, block}
use Rattle.typst_language.specs.Meaning.{Level, before, blockless, entered, start_point, done, run}
use Rattle.typst_grammar.specs.Markup.{markup_reading}
use Rattle.typst_grammar.specs.Grammar.{rules, max_depth, start_of, whole, parsed}
use Rattle.typst_edits.specs.Edit.{Among}
use Rattle.typst_edits.specs.Hole.{Hole, plug, path_of}
use Rattle.typst_edits.specs.Laws.{blocks_of_text}
use Rattle.typst_edits.specs.Lost.{opened}
use Rattle.typst_edits.specs.Occurrences.{Spots, joined_spots, repeated_spots, wrapped_spot, growing_spots, nesting_spots, scoped_spot, spots, call_spots, block_spots}
use Rattle.typst_edits.specs.Spot.{Spot, block_head, after_spot, sunk_spot, closed_spot}

-- the blocks in readings that came in place of those that were given up. It goes through the same turns as `spots` (Occurrences.antt); where a reading was given up, all blocks of the second one count;
-- by these within what is read one level deeper, and in each block
module _ (l : Level) (deep_spots : (c : Call) → Spots (Answer c)) (in_block : Block → Spots (Unit {0})) (deep_seconds : (c : Call) → Spots (Answer c)) (seconds_inside : Block → Spots (Unit {0})) where
  unfoldable pub seconds : {A : Type 0} → Parser A → Spots A
  seconds (gives a) z s = []
  seconds (does o) z s = []
  seconds (next p f) z s =
      let o = run l p z s in
      let w = moved o.taken z in
      joined_spots o (seconds p z s) (run l (f o.value) w o.state) (seconds (f o.value) w o.state)
  seconds (pick b p q) z s = if b then seconds p z s else seconds q z s
  seconds (repeat p x) z s = repeated_spots (λ y. run l (p y)) (λ y. seconds (p y)) x z s
  seconds (wraps f begin p) z s = flat_map (wrapped_spot f (before begin s)) (seconds p z s)
  seconds (grows begin p f) z s = growing_spots (λ y. run l (f y)) (λ y. seconds (f y)) (before begin s) (run l p) (seconds p) z s
  seconds (nests f begin p x) z s = nesting_spots f begin (λ y. run l (p y)) (λ y. seconds (p y)) x z s
  seconds (scoped f p) z s = map (scoped_spot s.reading) (seconds p z (entered (f s.reading) s))
  -- all that the second reading reads
  seconds (either p is_wrong q) z s = if is_wrong (run l p z s).value then spots l deep_spots in_block q z s ++ seconds q z s else seconds p z s
  seconds (calls c) z s = map sunk_spot (deep_seconds c z s)
  seconds (block b) z s =
      let o = done l flushes z s in
      if l.has b then map (after_spot o) (map (closed_spot b o.state) (seconds_inside b (moved o.taken z) (forgot o.state))) else []

-- the seconds of a call by these rules, with so many levels left
unfoldable pub call_seconds : Rules → CharClasses → ℕ → (call : Call) → Spots (Answer call)
call_seconds r k zero call z s = []
call_seconds r k (suc levels) call z s =
    seconds (level_of r k levels) (call_spots r k levels) (block_spots r k levels) (call_seconds r k levels)
    (λ b. seconds (blockless k levels (meaning_of r k levels)) (call_spots r k levels) (λ c y t. []) (call_seconds r k levels) (λ c y t. []) (peek >> r.block_production b)) (r.production call) z s

-- the seconds of a block by these rules
abbrev pub block_seconds : Rules → CharClasses → ℕ → Block → Spots (Unit {0})
block_seconds r k levels b = seconds (blockless k levels (meaning_of r k levels)) (call_spots r k levels) (λ c y t. []) (call_seconds r k levels) (λ c y t. []) (peek >> r.block_production b)

-- the seconds of what a parser reads by these rules
abbrev pub level_seconds : {A : Type 0} → Rules → CharClasses → ℕ → Parser A → Spots A
level_seconds r k levels p = seconds (level_of r k levels) (call_spots r k levels) (block_spots r k levels) (call_seconds r k levels) (block_seconds r k levels) p

-- the seconds of a text
unfoldable pub seconds_of_text : CharClasses → List ℕ → List (Spot (Unit {0}))
seconds_of_text k text = level_seconds (rules k) k max_depth whole (start_of text) (start_point markup_reading)

-- the kinds of the nodes of blocks, as `is_block` of `typst_kinds`
abbrev pub is_block : SyntaxKind → Bool
is_block kind.CodeBlock = true
is_block kind.ContentBlock = true
is_block _ = false

-- an inner node of a block's kind
abbrev pub is_block_head : Head → Bool
is_block_head h = h.is_inner && is_block h.kind

-- What the block of a node is, where the node stands in a hole.
pub record IsOf (hole : Hole) (x : Tree) (c : Spot (Unit {0})) : Type 0 where
  -- its hole has the same path, and its node is this one, of its kind
  pub path : path_of c.hole ≡ path_of hole
  pub node : c.node ≡ x
  -- in its hole it is among the same nodes
  pub nodes : plug c.hole c.node ≡ plug hole x
  pub head : x.head ≡ block_head c.name

-- Where a node of a block's kind in a text's tree comes from: a block that is a unit, or one that a reading that was given up covers.
pub data Stems (k : CharClasses) (text : List ℕ) (hole : Hole) (x : Tree) : Type 0 where
  from_unit : (c : Spot (Unit {0})) → Among c (blocks_of_text k text) → IsOf hole x c → Stems k text hole x
  from_second : (c : Spot (Unit {0})) → Among c (seconds_of_text k text) → IsOf hole x c → Stems k text hole x

-- The law of standing: each inner node of a block's kind in the tree of a text is that of a block of its reading, at its path.
abbrev pub StandingLaw : Type 0
StandingLaw = (k : CharClasses) (text : List ℕ) (hole : Hole) (x : Tree) → (parsed k max_depth text).nodes ≡ plug hole x → is_block_head x.head ≡ true → Stems k text hole x

-- the place of an ask
abbrev pub place_of : Ask → ℕ
place_of (looked at look) = at
place_of (marked at gap fewer mark s) = at

-- Where a block begins that a reading that was given up covers, no block is noted, unless it is the text's end.
abbrev pub UnnotedLaw : Type 0
UnnotedLaw = (k : CharClasses) (text : List ℕ) (c : Spot (Unit {0})) (ask : Ask) → Among c (seconds_of_text k text) → Among ask (opened (parsed k max_depth text).asks) → place_of ask ≡ c.at → length text ≤ c.at
