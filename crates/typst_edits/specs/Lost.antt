-- The blocks that a reading notes and that have no spot in its nodes: a shape made their node, or one that they stand in, an error, a part of one or a paren, or gave their own node another kind.
-- The definitions here go through the same turns as those of spots (Occurrences.antt), and gather the notes of the blocks that lose theirs.
use Rattle.std.specs.Prelude.{◌≡◌, ℕ, zero, suc, Bool, true, false, ◌&&◌, if◌then◌else◌, nat_lt, List, [], ◌∷◌, ◌++◌, map, Option, Some, None}
use Rattle.std.specs.List.{flat_map}
use Rattle.typst_lines.specs.Place.{Place, moved}
use Rattle.typst_lines.specs.Classes.{CharClasses}
use Rattle.typst_language.specs.declared.calls.Block.{Block}
use Rattle.typst_language.specs.declared.calls.Mark.{Mark}
use Rattle.typst_language.specs.declared.calls.Mark.TheVariants as mark
use Rattle.typst_language.specs.Ask.{Ask, shift, sunk}
use Rattle.typst_language.specs.Ask.Ask.{looked, marked}
use Rattle.typst_language.specs.Calls.{Call, Answer}
use Rattle.typst_language.specs.Point.{Point, forgot}
use Rattle.typst_language.specs.Shape.{Shape}
use Rattle.typst_language.specs.Steps.{peek}
use Rattle.typst_language.specs.Syntax.{Parser, Begin, ◌>>◌}
use Rattle.typst_language.specs.Syntax.Op.{flushes}
use Rattle.typst_language.specs.Syntax.Parser.{gives, does, next, pick, repeat, wraps, grows, nests, scoped, either, calls, block}
use Rattle.typst_language.specs.Knot.{Rules, meaning_of, level_of}
use Rattle.typst_grammar.specs.Markup.{markup_reading}
use Rattle.typst_language.specs.Meaning.{Outcome, Meaning, Level, answered, joined, bound, before, blockless, grown, is_more, nestings, entered, start_point, done, run}
use Rattle.typst_grammar.specs.Grammar.{rules, max_depth, start_of, whole, parsed}
use Rattle.typst_edits.specs.Edit.{Among}
use Rattle.typst_edits.specs.Laws.{blocks_of_text}
use Rattle.typst_edits.specs.Occurrences.{Spots, joined_spots, goes, last_spot, reshaped_spot, grown_spot, nestings_spots, spots, call_spots, block_spots}
use Rattle.typst_edits.specs.Spot.{Spot}

-- the note where a block begins
abbrev pub opening : {A : Type 0} → Spot A → Ask
opening c = marked c.at 0 c.fewer (mark.Opens c.name) c.start

-- whether a mark says that a block begins
abbrev pub is_opening : Mark → Bool
is_opening (mark.Opens b) = true
is_opening _ = false

-- the ask, if it notes that a block begins
abbrev pub opens : Ask → List Ask
opens (looked at look) = []
opens (marked at gap fewer mark s) = if is_opening mark then marked at gap fewer mark s ∷ [] else []

-- the notes of a log where blocks begin
abbrev pub opened : List Ask → List Ask
opened = flat_map opens

-- the ask, if there is nothing in the list
abbrev pub unless_some : {X : Type 0} → Ask → List X → List Ask
unless_some ask [] = ask ∷ []
unless_some ask (x ∷ xs) = []

-- the note of a block that has no spot any more in what several nodes became
abbrev pub lost_in : {A : Type 0} → Shape → ℕ → Spot A → List Ask
lost_in shape n c = unless_some (opening c) (reshaped_spot shape n c)

-- the notes of blocks that lose their spots, from each place and point
abbrev pub Lost : Type 0
Lost = Place → Point → List Ask

-- those of turn after turn, as `turns_spots` goes through them
abbrev pub turns_lost : {A : Type 0} → (A → Meaning (Bool × A)) → (A → Lost) → ℕ → A → Lost
turns_lost m f zero x z s = []
turns_lost m f (suc n) x z s =
    let o = m x z s in
    if goes o then f x z s ++ shift o.taken (turns_lost m f n o.value.1 (moved o.taken z) o.state) else f x z s

-- the note of a block that loses its spot in a turn's shape, if the turn has one
abbrev pub grown_lost : {A : Type 0} → ℕ → Option Shape → Spot A → List Ask
grown_lost n None c = []
grown_lost n (Some shape) c = lost_in shape n c

-- those of what grows by turns, as `growths_spots` goes through them: of each turn, and those that its shape makes lost
abbrev pub growths_lost : {A : Type 0} → (A → Meaning (Option Shape × A)) → (A → Spots (Option Shape × A)) → (A → Lost) → ℕ → ℕ → Outcome A → List (Spot A) → List Ask → Place → List Ask
growths_lost m sp f n zero o cs ls z = ls
growths_lost m sp f n (suc k) o cs ls z =
    let w = moved o.taken z in
    let p = m o.value w o.state in
    let next = grown n p.value.0 (answered p.value.1 (joined o p)) in
    let ds = joined_spots o cs p (sp o.value w o.state) in
    let ms = (ls ++ shift o.taken (f o.value w o.state)) ++ flat_map (λ c. grown_lost n p.value.0 (last_spot c)) ds in
    if is_more p.value.0 && nat_lt 0 p.taken then growths_lost m sp f n k next (flat_map (λ c. grown_spot n p.value.0 (last_spot c)) ds) ms z else ms

-- those of what nests, as `nestings_spots` goes through it: of each turn, and those that its shape makes lost
abbrev pub nestings_lost : {A : Type 0} → (A → Shape) → Begin → (A → Meaning (Bool × A)) → (A → Spots (Bool × A)) → (A → Lost) → ℕ → A → Lost
nestings_lost f begin m sp g zero x z s = []
nestings_lost f begin m sp g (suc n) x z s =
    let o = m x z s in
    let w = moved o.taken z in
    (if goes o then g x z s ++ shift o.taken (nestings_lost f begin m sp g n o.value.1 w o.state) else g x z s)
    ++ flat_map (λ c. lost_in (f c.value) (before begin s) c)
    (if goes o then joined_spots o (sp x z s) (nestings f begin m n o.value.1 w o.state) (nestings_spots f begin m sp n o.value.1 w o.state) else map last_spot (sp x z s))

-- the notes of blocks that lose their spots in what a parser reads: those of its parts, and, where nodes go into a shape, those that it makes lost;
-- by those of what is read one level deeper, and of each block
module _ (l : Level) (deep_spots : (c : Call) → Spots (Answer c)) (in_block : Block → Spots (Unit {0})) (deep_lost : Call → Lost) (lost_inside : Block → Lost) where
  unfoldable pub lost : {A : Type 0} → Parser A → Lost
  lost (gives a) z s = []
  -- no block is read here, whatever is noted
  lost (does o) z s = opened (done l o z s).asks
  lost (next p f) z s = let o = run l p z s in lost p z s ++ shift o.taken (lost (f o.value) (moved o.taken z) o.state)
  lost (pick b p q) z s = if b then lost p z s else lost q z s
  lost (repeat p x) z s = turns_lost (λ y. run l (p y)) (λ y. lost (p y)) (suc (bound z s)) x z s
  lost (wraps f begin p) z s = lost p z s ++ flat_map (λ c. lost_in (f c.value) (before begin s) c) (spots l deep_spots in_block p z s)
  lost (grows begin p f) z s =
      growths_lost (λ y. run l (f y)) (λ y. spots l deep_spots in_block (f y)) (λ y. lost (f y)) (before begin s) (suc (bound z s)) (run l p z s) (spots l deep_spots in_block p z s) (lost p z s) z
  lost (nests f begin p x) z s = nestings_lost f begin (λ y. run l (p y)) (λ y. spots l deep_spots in_block (p y)) (λ y. lost (p y)) (suc (bound z s)) x z s
  lost (scoped f p) z s = lost p z (entered (f s.reading) s)
  lost (either p is_wrong q) z s = if is_wrong (run l p z s).value then [] else lost p z s
  lost (calls c) z s = sunk (deep_lost c z s)
  lost (block b) z s = let o = done l flushes z s in if l.has b then shift o.taken (lost_inside b (moved o.taken z) (forgot o.state)) else []

-- those of a call by these rules, with so many levels left
unfoldable pub call_lost : Rules → CharClasses → ℕ → Call → Lost
call_lost r k zero call z s = []
call_lost r k (suc levels) call z s =
    lost (level_of r k levels) (call_spots r k levels) (block_spots r k levels) (call_lost r k levels)
    (λ b. lost (blockless k levels (meaning_of r k levels)) (call_spots r k levels) (λ c y t. []) (call_lost r k levels) (λ c y t. []) (peek >> r.block_production b)) (r.production call) z s

-- those of a block by these rules
abbrev pub block_lost : Rules → CharClasses → ℕ → Block → Lost
block_lost r k levels b = lost (blockless k levels (meaning_of r k levels)) (call_spots r k levels) (λ c y t. []) (call_lost r k levels) (λ c y t. []) (peek >> r.block_production b)

-- those of what a parser reads by these rules
abbrev pub level_lost : {A : Type 0} → Rules → CharClasses → ℕ → Parser A → Lost
level_lost r k levels p = lost (level_of r k levels) (call_spots r k levels) (block_spots r k levels) (call_lost r k levels) (block_lost r k levels) p

-- those of a text
unfoldable pub lost_of_text : CharClasses → List ℕ → List Ask
lost_of_text k text = level_lost (rules k) k max_depth whole (start_of text) (start_point markup_reading)

-- What a note says where a block of a text begins: a spot of the tree begins there, with this name, level and state, or the block lost its spot.
pub data Stands (k : CharClasses) (text : List ℕ) (ask : Ask) : Type 0 where
  stands : (c : Spot (Unit {0})) → Among c (blocks_of_text k text) → opening c ≡ ask → Stands k text ask
  is_lost : Among ask (lost_of_text k text) → Stands k text ask

-- The law of completeness: each block that the reading of a text notes has a spot in its tree, or is lost.
abbrev pub CompleteLaw : Type 0
CompleteLaw = (k : CharClasses) (text : List ℕ) (ask : Ask) → Among ask (opened (parsed k max_depth text).asks) → Stands k text ask
