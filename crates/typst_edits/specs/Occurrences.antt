-- The spots of a reading: its blocks, each with what is around it. There is none of a block in what
-- was given up, nor of one whose node is lost, as in an error of its text. The definitions here go
-- through the same turns as `turns`, `growths`, `nestings` and `run` (Meaning.antt of
-- `typst_language`), which say what is read, and gather the spots.
use Rattle.std.specs.Prelude.{ℕ, zero, suc, ◌+◌, Bool, ◌&&◌, if◌then◌else◌, nat_lt, List, [], ◌∷◌, ◌++◌, map, Option, Some, None}
use Rattle.std.specs.List.{flat_map}
use Rattle.typst_lines.specs.Place.{Place, moved}
use Rattle.typst_language.specs.declared.calls.Block.{Block}
use Rattle.typst_language.specs.declared.reading.Reading.{Reading}
use Rattle.typst_language.specs.Calls.{Call, Answer}
use Rattle.typst_language.specs.Point.{Point, forgot}
use Rattle.typst_language.specs.Shape.{Shape, after_shape, Seen, seen}
use Rattle.typst_lines.specs.Classes.{CharClasses}
use Rattle.typst_language.specs.Knot.{Rules, meaning_of, level_of}
use Rattle.typst_language.specs.Steps.{peek}
use Rattle.typst_language.specs.Syntax.{Parser, Begin, ◌>>◌}
use Rattle.typst_language.specs.Syntax.Op.{flushes}
use Rattle.typst_language.specs.Syntax.Parser.{gives, does, next, pick, repeat, wraps, grows, nests, scoped, either, calls, block}
use Rattle.typst_language.specs.Meaning.{Outcome, Meaning, Level, answered, joined, turns, bound, before, blockless, grown, is_more, nestings, entered, left, done, run}
pub use Rattle.typst_grammar.specs.Pieces.{goes}
use Rattle.typst_edits.specs.Hole.{plug, wrap_hole}
use Rattle.typst_edits.specs.Spot.{Spot, block_head, valued, then_spot, after_spot, rehole, sunk_spot, closed_spot, here_spot}
use Rattle.std.specs.Prelude.{drop}

-- the spots of a reading, from each place and point
abbrev pub Spots : Type 0 → Type 0
Spots A = Place → Point → List (Spot A)

-- the spots of two readings, one after the other: those of the first, followed by the second, and
-- those of the second, after the first
abbrev pub joined_spots : {A B : Type 0} → Outcome B → List (Spot B) → Outcome A → List (Spot A) → List (Spot A)
joined_spots o cs p ds = map (λ c. then_spot c p) cs ++ map (after_spot o) ds

-- a spot of a last turn, by its answer without whether another turn comes
abbrev pub last_spot : {A B : Type 0} → Spot (B × A) → Spot A
last_spot c = valued c.value.1 c

-- the spots of turn after turn, at most so many
abbrev pub turns_spots : {A : Type 0} → (A → Meaning (Bool × A)) → (A → Spots (Bool × A)) → ℕ → A → Spots A
turns_spots m sp zero x z s = []
turns_spots m sp (suc n) x z s =
    let o = m x z s in
    let w = moved o.taken z in
    if goes o then joined_spots o (sp x z s) (turns m n o.value.1 w o.state) (turns_spots m sp n o.value.1 w o.state) else map last_spot (sp x z s)

-- the spots of turn after turn, as many as there may be
unfoldable pub repeated_spots : {A : Type 0} → (A → Meaning (Bool × A)) → (A → Spots (Bool × A)) → A → Spots A
repeated_spots m sp x z s = turns_spots m sp (suc (bound z s)) x z s

-- a spot of what goes into a shape, all nodes but the first n; none if the block's node is lost
-- there
abbrev pub reshaped_spot : {A : Type 0} → Shape → ℕ → Spot A → List (Spot A)
reshaped_spot shape n c =
    let k = n + c.back in
    map (rehole (after_shape shape (drop k (plug c.hole c.node)) c.state) c) (wrap_hole shape (block_head c.name) k c.hole)

-- a spot of what goes into a shape that its answer says, with what is seen of these nodes
abbrev pub wrapped_spot : {A : Type 0} → (A → Shape) → ℕ → Spot A → List (Spot (A × List Seen))
wrapped_spot f n c = map (valued (c.value, map seen (drop (n + c.back) (plug c.hole c.node)))) (reshaped_spot (f c.value) n c)

-- a spot of what grew by a turn: all nodes but the first n go into the shape that the turn says, if
-- it says one
abbrev pub grown_spot : {A : Type 0} → ℕ → Option Shape → Spot A → List (Spot A)
grown_spot n None c = c ∷ []
grown_spot n (Some shape) c = reshaped_spot shape n c

-- the spots of what grows by turns, at most so many: those of what was given so far, `cs`, and of
-- each turn, and all of them go into the shape that the turn says. In `#[a](b)` the spot of `[a]`
-- is first that of a block alone; the turn `(b)` makes a call of both, and from then on its hole is
-- in the call. With the old path an edit of `a` would replace the call
abbrev pub growths_spots : {A : Type 0} → (A → Meaning (Option Shape × A)) → (A → Spots (Option Shape × A)) → ℕ → ℕ → Outcome A → List (Spot A) → Place → List (Spot A)
growths_spots m sp n zero o cs z = cs
growths_spots m sp n (suc k) o cs z =
    let w = moved o.taken z in
    let p = m o.value w o.state in
    let next = grown n p.value.0 (answered p.value.1 (joined o p)) in
    let ds = flat_map (λ c. grown_spot n p.value.0 (last_spot c)) (joined_spots o cs p (sp o.value w o.state)) in
    if is_more p.value.0 && nat_lt 0 p.taken then growths_spots m sp n k next ds z else ds

-- the spots of what the first gives and what grows it, turn after turn
unfoldable pub growing_spots : {A : Type 0} → (A → Meaning (Option Shape × A)) → (A → Spots (Option Shape × A)) → ℕ → Meaning A → Spots A → Spots A
growing_spots m sp n first firsts z s = growths_spots m sp n (suc (bound z s)) (first z s) (firsts z s) z

-- the spots of what nests, at most a given number of turns: those of a turn and of all after it go into the
-- turn's node. In `if a {b} else if c {d}` the hole for `{d}` is in the second conditional, which
-- is in the first
abbrev pub nestings_spots : {A : Type 0} → (A → Shape) → Begin → (A → Meaning (Bool × A)) → (A → Spots (Bool × A)) → ℕ → A → Spots A
nestings_spots f begin m sp zero x z s = []
nestings_spots f begin m sp (suc n) x z s =
    let o = m x z s in
    let w = moved o.taken z in
    flat_map (λ c. reshaped_spot (f c.value) (before begin s) c)
    (if goes o then joined_spots o (sp x z s) (nestings f begin m n o.value.1 w o.state) (nestings_spots f begin m sp n o.value.1 w o.state) else map last_spot (sp x z s))

-- the spots of what nests, turn after turn
unfoldable pub nesting_spots : {A : Type 0} → (A → Shape) → Begin → (A → Meaning (Bool × A)) → (A → Spots (Bool × A)) → A → Spots A
nesting_spots f begin m sp x z s = nestings_spots f begin m sp (suc (bound z s)) x z s

-- a spot of what was read in another way, after which the outer reading goes on
abbrev pub scoped_spot : {A : Type 0} → Reading → Spot A → Spot A
scoped_spot outer c = record c { state = left outer c.state }

-- the spot of a block itself, and those of the blocks in it
abbrev pub bounded_spots : Block → Meaning (Unit {0}) → Spots (Unit {0}) → Spots (Unit {0})
bounded_spots b m sp z s = here_spot b m z s ∷ map (closed_spot b s) (sp z (forgot s))

-- the spots of what a parser reads, for each word of the language: those of its parts, moved to where
-- they are in the whole. A reading that is given up has none: in `#((x: [b]) => x)` the node of `[b]`
-- from the first reading is in no tree, and its path would lead an edit to another node, or to none.
-- `blocks_of_texts` and `origins_of_texts` compute those of short texts
module _ (l : Level) (deep_spots : (c : Call) → Spots (Answer c)) (block_spots : Block → Spots (Unit {0})) where
  unfoldable pub spots : {A : Type 0} → Parser A → Spots A
  spots (gives a) z s = []
  spots (does o) z s = []
  spots (next p f) z s =
      let o = run l p z s in
      let w = moved o.taken z in
      joined_spots o (spots p z s) (run l (f o.value) w o.state) (spots (f o.value) w o.state)
  spots (pick b p q) z s = if b then spots p z s else spots q z s
  spots (repeat p x) z s = repeated_spots (λ y. run l (p y)) (λ y. spots (p y)) x z s
  spots (wraps f begin p) z s = flat_map (wrapped_spot f (before begin s)) (spots p z s)
  spots (grows begin p f) z s = growing_spots (λ y. run l (f y)) (λ y. spots (f y)) (before begin s) (run l p) (spots p) z s
  spots (nests f begin p x) z s = nesting_spots f begin (λ y. run l (p y)) (λ y. spots (p y)) x z s
  spots (scoped f p) z s = map (scoped_spot s.reading) (spots p z (entered (f s.reading) s))
  spots (either p is_wrong q) z s = if is_wrong (run l p z s).value then [] else spots p z s
  spots (calls c) z s = map sunk_spot (deep_spots c z s)
  spots (block b) z s =
      let o = done l flushes z s in
      if l.has b then map (after_spot o) (bounded_spots b (l.blocks b) (block_spots b) (moved o.taken z) o.state) else []

-- the spots of what a call reads by these rules, with a given number of levels left; none at the limit
unfoldable pub call_spots : Rules → CharClasses → ℕ → (call : Call) → Spots (Answer call)
call_spots r k zero call z s = []
call_spots r k (suc levels) call z s =
    spots (level_of r k levels) (call_spots r k levels) (λ b. spots (blockless k levels (meaning_of r k levels)) (call_spots r k levels) (λ c y t. []) (peek >> r.block_production b)) (r.production call) z s

-- the spots of what is in a block, by these rules, with a given number of levels left
abbrev pub block_spots : Rules → CharClasses → ℕ → Block → Spots (Unit {0})
block_spots r k levels b = spots (blockless k levels (meaning_of r k levels)) (call_spots r k levels) (λ c y t. []) (peek >> r.block_production b)

-- the spots of what a parser reads by these rules, with a given number of levels left
abbrev pub level_spots : {A : Type 0} → Rules → CharClasses → ℕ → Parser A → Spots A
level_spots r k levels p = spots (level_of r k levels) (call_spots r k levels) (block_spots r k levels) p
