-- Marks are nested: pieces of a run say its level, and blocks, with the marks in them, a deeper one.
use Rattle.typst_edits.proofs.Cited.{◌≡◌, ℕ, zero, suc, ◌+◌, ◌-◌, ◌≤◌, ◌<◌, max, min, Bool, true, false, List, [], ◌∷◌, ◌++◌, append_assoc, refl, sym, subst, arith, map-append, Place, moved, CharClasses, far, near, Nested, Block, Mark, State, Ask, shift, shift_one, sunk, sink_one, looked, marked, meaning_of, level_of, blocks_of, Point, forgot, state_of, Call, too_deep, deeper, peek, eat, eat_making, node, note, flush_trivia, within, Parser, ◌>>◌, flushes, Level, bounded, blockless, start_point, done, run, Outcome, rules, production, max_depth, start_of, whole, parsed, log, block_production, markup_reading, note_piece, markup_turn, markup_run, Guarded, guarded-production, block_at, Noting, ended, guarded-blocks, guarded-whole, NestedLaw, skip_one}
use Rattle.typst_candidates.specs.Nested.Nested.{none as nothing, piece as one_piece, block as one_block}
use Rattle.typst_language.specs.declared.calls.Mark.TheVariants as mark
use Rattle.typst_edits.proofs.Bytes.{none_yet, note_by, notes_from, fresh_notes, next_note, logged-listed, notes-around, AllMarks}
use Rattle.typst_edits.proofs.Rising.{pieces, Joins, from-run}

-- ---- marks in a list of asks

-- Pieces stand at one level above a given number fewer, and blocks at that number fewer or deeper, up to a limit, each with what stands in it.
pub data Nests : ℕ → ℕ → List Ask → Type 0 where
  bare : (end lo : ℕ) → Nests end lo []
  seen : (end lo at : ℕ) (look : _) (asks : List Ask) → Nests end lo asks → Nests end lo (looked at look ∷ asks)
  piece : (end lo at gap fewer : ℕ) (line : Bool) (brackets : ℕ) (s : State) (asks : List Ask) → suc fewer ≡ lo → Nests end lo asks → Nests end lo (marked at gap fewer (mark.Piece line brackets) s ∷ asks)
  unit : (end lo at gap fewer to space : ℕ) (b : Block) (s t : State) (inner later : List Ask) → lo ≤ fewer → fewer < end → Nests end (suc fewer) inner → Nests end lo later
      → Nests end lo (marked at gap fewer (mark.Opens b) s ∷ (inner ++ marked to space fewer mark.Closes t ∷ later))

nests-append : (end lo : ℕ) (ls ks : List Ask) → Nests end lo ls → Nests end lo ks → Nests end lo (ls ++ ks)
nests-append end lo ls ks (bare _ _) i = i
nests-append end lo ls ks (seen _ _ at look asks h) i = seen end lo at look (asks ++ ks) (nests-append end lo asks ks h i)
nests-append end lo ls ks (piece _ _ at gap fewer line brackets s asks e h) i = piece end lo at gap fewer line brackets s (asks ++ ks) e (nests-append end lo asks ks h i)
nests-append end lo ls ks (unit _ _ at gap fewer to space b s t inner later e f h g) i =
    subst (λ xs. Nests end lo (marked at gap fewer (mark.Opens b) s ∷ xs)) (sym (append_assoc inner (marked to space fewer mark.Closes t ∷ later) ks))
    (unit end lo at gap fewer to space b s t inner (later ++ ks) e f h (nests-append end lo later ks g i))

nests-shift : (d end lo : ℕ) (ls : List Ask) → Nests end lo ls → Nests end lo (shift d ls)
nests-shift d end lo ls (bare _ _) = bare end lo
nests-shift d end lo ls (seen _ _ at look asks h) = seen end lo (d + at) look (shift d asks) (nests-shift d end lo asks h)
nests-shift d end lo ls (piece _ _ at gap fewer line brackets s asks e h) = piece end lo (d + at) gap fewer line brackets s (shift d asks) e (nests-shift d end lo asks h)
nests-shift d end lo ls (unit _ _ at gap fewer to space b s t inner later e f h g) =
    subst (λ xs. Nests end lo (marked (d + at) gap fewer (mark.Opens b) s ∷ xs)) (sym (map-append (shift_one d) inner (marked to space fewer mark.Closes t ∷ later)))
    (unit end lo (d + at) gap fewer (d + to) space b s t (shift d inner) (shift d later) e f (nests-shift d end (suc fewer) inner h) (nests-shift d end lo later g))

-- one level deeper, where pieces stand one level deeper, or nowhere
nests-deep : (end lo up : ℕ) (ls : List Ask) → up ≤ suc lo → (0 < lo → up ≡ suc lo) → Nests end lo ls → Nests (suc end) up (sunk ls)
nests-deep end lo up ls low only (bare _ _) = bare (suc end) up
nests-deep end lo up ls low only (seen _ _ at look asks h) = seen (suc end) up at look (sunk asks) (nests-deep end lo up asks low only h)
nests-deep end lo up ls low only (piece _ _ at gap fewer line brackets s asks e h) =
    let there = only (omega (arith, e)) in piece (suc end) up at gap (suc fewer) line brackets s (sunk asks) (omega (arith, e, there)) (nests-deep end lo up asks low only h)
nests-deep end lo up ls low only (unit _ _ at gap fewer to space b s t inner later e f h g) =
    subst (λ xs. Nests (suc end) up (marked at gap (suc fewer) (mark.Opens b) s ∷ xs)) (sym (map-append sink_one inner (marked to space fewer mark.Closes t ∷ later)))
    (unit (suc end) up at gap (suc fewer) to space b s t (sunk inner) (sunk later) (omega (arith, low, e)) (omega (arith, f)) (nests-deep end (suc fewer) (suc (suc fewer)) inner (omega arith) (λ _. refl) h) (nests-deep end lo up later low only g))

nests-none : (end lo : ℕ) (ls : List Ask) → AllMarks (λ at fewer m s. ⊥) ls → Nests end lo ls
nests-none end lo [] h = bare end lo
nests-none end lo (looked at look ∷ ls) h = seen end lo at look ls (nests-none end lo ls h)
nests-none end lo (marked at gap fewer m s ∷ ls) h = elim h.0 [ ]

-- ---- whatever the language can say

module _ (end lo : ℕ) where
  abbrev Nest : ℕ → ℕ → List Ask → Type 0
  Nest from to ls = Nests end lo ls

  nest : Joins Nest
  nest = record { append = λ from mid to. nests-append end lo; shifted = λ d to. nests-shift d end lo; none = λ from to ls e. nests-none end lo ls }

  -- by what it notes itself, what is read one level deeper, and each block
  nest-run : {A : Type 0} (l : Level) (notes : Mark → Bool) → ((m : Mark) (gap : ℕ) (s : State) → notes m ≡ true → Nests end lo (marked 0 gap 0 m s ∷ [])) → ((call : Call) (z : Place) (s : Point) → Nests end lo (sunk (l.deeper call z s).asks))
      → ((b : Block) → l.has b ≡ true → (z : Place) (s : Point) → Nests end lo (bounded b (l.blocks b) z s).asks) → (p : Parser A) → Guarded notes false p → (z : Place) (s : Point) → Nests end lo (run l p z s).asks
  nest-run l notes own deep held p guard z s =
      from-run Nest nest l notes own (λ y q. Unit {0}) (λ B r y q e. tt) deep (λ b has y q e. (let o = done l flushes y q in held b has (moved o.taken y) o.state)) false p guard z s (λ e. tt)

-- ---- at every level

own-piece : (end : ℕ) (m : Mark) (gap : ℕ) (s : State) → pieces m ≡ true → Nests end 1 (marked 0 gap 0 m s ∷ [])
own-piece end (mark.Piece line brackets) gap s e = piece end 1 0 gap 0 line brackets s [] refl (bare end 1)
own-piece end (mark.Opens b) gap s e = absurd (cc)
own-piece end mark.Closes gap s e = absurd (cc)

module _ (k : CharClasses) where
  block-nests : (levels : ℕ) → ((call : Call) (z : Place) (s : Point) → Nests levels 0 (meaning_of (rules k) k levels call z s).asks) → (b : Block) (z : Place) (s : Point)
      → Nests (suc levels) 1 (blocks_of (rules k) k levels (meaning_of (rules k) k levels) b z s).asks
  block-nests levels i b =
      nest-run (suc levels) 1 (blockless k levels (meaning_of (rules k) k levels)) pieces (own-piece (suc levels))
      (λ call z s. nests-deep levels 0 1 _ (omega arith) (λ _. refl) (i call z s)) (λ b has. absurd (cc)) (peek >> block_production b) (guarded-blocks pieces false b (λ _ _. refl))

  call-nests : (levels : ℕ) (call : Call) (z : Place) (s : Point) → Nests levels 0 (meaning_of (rules k) k levels call z s).asks
  unfolding meaning_of
  call-nests zero call z s = bare 0 0
  call-nests (suc levels) call z s =
      nest-run (suc levels) 0 (level_of (rules k) k levels) (λ _. false) (λ m gap s e. absurd (cc))
      (λ call z s. nests-deep levels 0 0 _ (omega arith) (λ l. absurd (omega (arith, l))) (call-nests levels call z s))
      (λ b has z s. let o = blocks_of (rules k) k levels (meaning_of (rules k) k levels) b z (forgot s) in
      unit (suc levels) 0 0 0 0 o.taken 0 b (state_of s) (state_of o.state) o.asks [] (omega arith) (omega arith) (block-nests levels (call-nests levels) b z (forgot s)) (bare (suc levels) 0))
      (production k call) (guarded-production (λ _. false) false k call) z s

-- The run of a text reads no block by itself.
whole-apart : (k : CharClasses) (z : Place) (s : Point) → run (level_of (rules k) k max_depth) whole z s ≡ run (blockless k max_depth (meaning_of (rules k) k max_depth)) whole z s
unfolding run whole markup_run flush_trivia markup_turn note_piece note deeper too_deep node within skip_one eat eat_making
whole-apart k z s = refl

-- ---- their notes

pub notes-nested : (lv own : ℕ) (z : Place) (asks : List Ask) (reach least : ℕ) → own ≤ lv → Nests (suc lv) (suc own) asks → Nested (lv - own) (notes_from lv z reach least asks)
notes-nested lv own z asks reach least low (bare _ _) = nothing (lv - own)
notes-nested lv own z asks reach least low (seen _ _ at look more g) = notes-nested lv own z more (max reach (far look.front (moved at z))) (min least (near look.back (moved at z))) low g
notes-nested lv own z asks reach least low (piece _ _ at gap fewer line brackets s more same g) =
    one_piece (lv - own) (note_by lv z reach least at gap fewer (mark.Piece line brackets) s) (fresh_notes lv z more) line brackets refl (omega (arith, same)) (notes-nested lv own z more 0 none_yet low g)
notes-nested lv own z asks reach least low (unit _ _ at gap fewer to space b s t inner later deep short g f) =
    let one = note_by lv z reach least at gap fewer (mark.Opens b) s in
    let closing : Noting = record { at = to; gap = space; fewer = fewer; mark = mark.Closes; state = t } in
    subst (λ ns. Nested (lv - own) (one ∷ ns)) (sym (notes-around lv z inner closing later))
    (one_block (lv - own) one (next_note lv z inner closing) (fresh_notes lv z inner) (fresh_notes lv z later) b refl refl refl (omega (arith, low, deep, short))
    (notes-nested lv fewer z inner 0 none_yet (omega (arith, short)) g) (notes-nested lv own z later 0 none_yet low f))

pub nested-law : NestedLaw
unfolding log
nested-law k text =
    let z = start_of text in
    let s = start_point markup_reading in
    let asks = (parsed k max_depth text).asks in
    subst (λ ns. Nested max_depth ns) (sym (logged-listed max_depth z asks)) (notes-nested max_depth 0 z asks 0 none_yet (omega arith) (subst (λ (o : Outcome (Unit {0})). Nests (suc max_depth) 1 o.asks) (sym (whole-apart k z s))
    (nest-run (suc max_depth) 1 (blockless k max_depth (meaning_of (rules k) k max_depth)) pieces (own-piece (suc max_depth)) (λ call y s. nests-deep max_depth 0 1 _ (omega arith) (λ _. refl) (call-nests k max_depth call y s)) (λ b has. absurd (cc)) whole (guarded-whole pieces false (λ _ _. refl)) z s)))

-- ---- of a block

pub unit-nests : (k : CharClasses) (levels : ℕ) (b : Block) (z : Place) (s : Point) → Nests (suc levels) 1 (ended (block_at k levels b z s)).asks
unit-nests k levels b z s = block-nests k levels (call-nests k levels) b z s
