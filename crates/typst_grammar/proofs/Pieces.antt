-- Pieces of a run, which are read one after the other.
use Rattle.typst_grammar.proofs.Cited.{◌≡◌, ℕ, zero, suc, ◌+◌, ◌<◌, ◌≤◌, Bool, true, false, ◌&&◌, nat_lt, List, [], ◌∷◌, ◌++◌, length, append_assoc, append-nil, refl, ap, sym, ◌∙◌, subst, arith, SyntaxKind, Place, moved, CharClasses, position, Tree, MarkupExpr, Ask, shift, shift_one, is_end, deeper, Hand, AtHand, as_at_hand, meaning_of, no_log, logged, Outcome, Meaning, Level, guessing, hand_of, asked, joined, standing, run, Point, pending, gap_of, peek, flush_trivia, Parser, ◌>>=◌, hand, gives, does, next, pick, run-blind, hand-takes, hand-again, moved-ahead, moved-sum, within-run, Sound, knows-none, does-next, does-gives, does-peek, does-pick, does-flush, known-few, View, Runs, Does, Goes, Frame, Fills, Fits, Bare, Flushed, at, RunKind, ends, note_piece, markup_turn, markup_expr, markup_reading, stops_of, flushed_state, level_at, IsResumed, IsGiven, HasRead, HasReadOn, ArePieces, made, goes, AllGo, End, end_of, asks_of, given, run_level, first_look, pieces_on, end_on, guesses, guessing_at, fills-apart, sound-apart, lt-ltb, ReadPart}
use Rattle.std.proofs.lemmas.List.{map-append}
use Rattle.typst_language.specs.Bytes.{bytes_left}
use Rattle.typst_language.proofs.Logs.{logged-append, logged-shift}
use Rattle.typst_grammar.specs.declared.part.RunKind.TheVariants as of
use Rattle.typst_grammar.specs.declared.part.PieceReader.{PieceReader}
use Rattle.typst_grammar.proofs.AtLevels.{sound-at, still-kept}
use Rattle.typst_grammar.proofs.Parts.{standing-nil}
use Rattle.typst_grammar.proofs.Whole.{eats-expr}
use Rattle.typst_language.proofs.Bytes.{size, falls}
use Rattle.typst_tree.proofs.KeepsOrder.{positive}

-- ---- bytes that are left

-- what takes no bytes takes no characters
none-taken : (n : ℕ) (y z : Place) → y ≡ moved n z → n ≤ length z.ahead → bytes_left z ≤ bytes_left y → n ≡ 0
none-taken n y z e l h = falls n z.ahead l (omega (arith, h, ap bytes_left e, ap size (moved-ahead n z)))

-- ---- turns of a loop, and those after them

pub shift-zero : (asks : List Ask) → shift 0 asks ≡ asks
shift-zero [] = refl
shift-zero (ask ∷ asks) = rw (one-zero ask, shift-zero asks) refl
  where
    one-zero : (ask : Ask) → shift_one 0 ask ≡ ask
    one-zero ask = grind arith

pub shift-twice : (m n : ℕ) (asks : List Ask) → shift m (shift n asks) ≡ shift (m + n) asks
shift-twice m n [] = refl
shift-twice m n (ask ∷ asks) = rw (one-twice ask, shift-twice m n asks) refl
  where
    one-twice : (ask : Ask) → shift_one m (shift_one n ask) ≡ shift_one (m + n) ask
    one-twice ask = grind arith

pub end-append : {A : Type 0} (x : A) (s : Point) (os ps : List (Outcome (Bool × A))) → (let e = end_of x s os in let f = end_of e.value e.state ps in end_of x s (os ++ ps) ≡ record f { taken = e.taken + f.taken })
end-append x s [] ps = let f = end_of x s ps in let z : f.taken ≡ 0 + f.taken = omega arith in ap (λ n. record f { taken = n }) z
end-append {A = A} x s (o ∷ os) ps =
    let e = end_of o.value.1 o.state os in
    let f = end_of e.value e.state ps in
    let sum : o.taken + (e.taken + f.taken) ≡ (o.taken + e.taken) + f.taken = omega arith in
    ap (λ (u : End A). record u { taken = o.taken + u.taken }) (end-append o.value.1 o.state os ps) ∙ ap (λ n. record f { taken = n }) sum

pub given-append : {A : Type 0} (os ps : List (Outcome (Bool × A))) (ts : List Tree) → given (os ++ ps) ts ≡ given ps (given os ts)
given-append [] ps ts = refl
given-append (o ∷ os) ps ts = given-append os ps (standing o ts)

pub asks-append : {A : Type 0} (x : A) (s : Point) (os ps : List (Outcome (Bool × A))) → asks_of (os ++ ps) ≡ asks_of os ++ shift (end_of x s os).taken (asks_of ps)
asks-append x s [] ps = sym (shift-zero (asks_of ps))
asks-append x s (o ∷ os) ps =
    let e = end_of o.value.1 o.state os in
    ap (λ u. o.asks ++ shift o.taken u) (asks-append o.value.1 o.state os ps)
    ∙ ap (λ u. o.asks ++ u) (map-append (shift_one o.taken) (asks_of os) (shift e.taken (asks_of ps)) ∙ ap (λ u. shift o.taken (asks_of os) ++ u) (shift-twice o.taken e.taken (asks_of ps)))
    ∙ sym (append_assoc o.asks (shift o.taken (asks_of os)) (shift (o.taken + e.taken) (asks_of ps)))

pub go-append : {A : Type 0} (os ps : List (Outcome (Bool × A))) → AllGo os → AllGo ps → AllGo (os ++ ps)
go-append [] ps g h = h
go-append (o ∷ os) ps g h = (g.0, go-append os ps g.1 h)

pub made-sum : {A : Type 0} (m : A → Meaning (Bool × A)) (i n : ℕ) (x : A) (z : Place) (s : Point) → (let e = end_of x s (made m i x z s) in made m (i + n) x z s ≡ made m i x z s ++ made m n e.value (moved e.taken z) e.state)
made-sum m zero n x z s = let a : 0 + n ≡ n = omega arith in ap (λ j. made m j x z s) a
made-sum m (suc i) n x z s =
    let o = m x z s in
    let y = moved o.taken z in
    let e = end_of o.value.1 o.state (made m i o.value.1 y o.state) in
    let a : suc i + n ≡ suc (i + n) = omega arith in
    ap (λ j. made m j x z s) a ∙ ap (λ os. o ∷ os) (made-sum m i n o.value.1 y o.state ∙ ap (λ w. made m i o.value.1 y o.state ++ made m n e.value w e.state) (sym (moved-sum o.taken e.taken z)))

-- ---- one turn

-- it asks for the token at hand, and then ends or does the rest
turn-either : {A : Type 0} (l : Level) (test : SyntaxKind → Bool) (x : A) (rest : AtHand → Parser (Bool × A)) (z : Place) (s : Point) (P : Outcome (Bool × A) → Type 0)
    → (let h = hand_of l z s in (test h.kind ≡ true → P (joined (run l (does hand) z s) (run l (gives (false, x)) (moved 0 z) (asked h s))))
    → (test h.kind ≡ false → P (joined (run l (does hand) z s) (run l (rest (as_at_hand h)) (moved 0 z) (asked h s))))
    → P (run l (next (does hand) (λ h. pick (test h.kind) (gives (false, x)) (rest h))) z s))
unfolding run
turn-either l test x rest z s P p q = grind arith

-- where a sequence goes on, the text isn't at its end
not-end : (which : RunKind) (n : ℕ) (i : SyntaxKind) → ends (stops_of which) n i ≡ false → is_end i ≡ false
not-end which n i e = grind arith

abbrev behind : ℕ → Parser (Bool × (Bool × ℕ))
behind nesting = do
  after ← peek
  noted ← note_piece true after.newlines.any nesting
  gives (true, (after.newlines.any, nesting))

abbrev rest : Bool × ℕ → Parser (Bool × (Bool × ℕ))
rest x = next (deeper (MarkupExpr x.0 x.1) x.1) behind

rest-goes : (l : Level) (x : Bool × ℕ) (z : Place) (s : Point) → (run l (rest x) z s).value.0 ≡ true
unfolding run note_piece
rest-goes l x z s = refl

over : (l : Level) (x : Bool × ℕ) (z : Place) (s : Point) → (run l (gives {A = Bool × (Bool × ℕ)} (false, x)) z s).value.0 ≡ false
unfolding run
over l x z s = refl

module _ (k : CharClasses) (n : ℕ) (which : RunKind) where
  abbrev at_level : Level
  at_level = run_level k (suc n) which

  rest-takes : (x : Bool × ℕ) (z : Place) (s : Point) → 0 < (hand_of at_level z s).len → 0 < (run at_level (rest x) z s).taken
  unfolding run deeper meaning_of
  rest-takes x z s h = rw (positive n) (let inside : 0 < (run (level_at k n) (markup_expr x.0 x.1) (moved 0 z) s).taken = eats-expr k n x.0 x.1 z s h in omega (arith, inside))

  -- a piece that says that another comes took something
  turn-takes : (x : Bool × ℕ) (z : Place) (s : Point) → (run at_level (markup_turn true (stops_of which) x) z s).value.0 ≡ true → 0 < (run at_level (markup_turn true (stops_of which) x) z s).taken
  unfolding markup_turn
  turn-takes x z s =
      let t = asked (hand_of at_level z s) s in
      let same : (hand_of at_level z t).kind ≡ (hand_of at_level z s).kind = ap (λ (h : Hand). h.kind) (hand-again k s.held s.known z) in
      turn-either at_level (ends (stops_of which) x.1) x (λ h. rest x) z s (λ o. o.value.0 ≡ true → 0 < o.taken)
      (λ e says. absurd (let f = over at_level x (moved 0 z) t in cc))
      (λ e says.
      let more : 0 < (run at_level (rest x) (moved 0 z) t).taken = rest-takes x z t (hand-takes k t.held t.known z (ap is_end same ∙ not-end which x.1 (hand_of at_level z s).kind e)) in
      omega (arith, more))

-- a piece ends only where the run ends
turn-ends : (l : Level) (which : RunKind) (x : Bool × ℕ) (z : Place) (s : Point) → (run l (markup_turn true (stops_of which) x) z s).value.0 ≡ false → ends (stops_of which) x.1 (hand_of l z s).kind ≡ true
unfolding markup_turn
turn-ends l which x z s =
    turn-either l (ends (stops_of which) x.1) x (λ h. rest x) z s (λ o. o.value.0 ≡ false → ends (stops_of which) x.1 (hand_of l z s).kind ≡ true)
    (λ e says. e)
    (λ e says. absurd (let f = rest-goes l x (moved 0 z) (asked (hand_of l z s) s) in cc))

-- ---- what a reader keeps

takes-at : (k : CharClasses) (levels : ℕ) (which : RunKind) (x : Bool × ℕ) (z : Place) (s : Point) → 0 < levels
    → (run (run_level k levels which) (markup_turn true (stops_of which) x) z s).value.0 ≡ true → 0 < (run (run_level k levels which) (markup_turn true (stops_of which) x) z s).taken
takes-at k zero which x z s some = absurd (omega arith)
takes-at k (suc n) which x z s some = turn-takes k n which x z s

-- the level of a run, with what is known of first readings
abbrev pub guessing_in : CharClasses → ℕ → RunKind → Level
guessing_in k levels which = guessing (guesses k) (run_level k levels which)

-- calls are made there as around it
pub fills-in : (k : CharClasses) (levels : ℕ) (which : RunKind) {f : Frame} → Fills (guessing_at k levels) f → Fills (guessing_in k levels which) f
fills-in k levels of.Text h = h
fills-in k levels of.Block h = fills-apart h

sound-in : (k : CharClasses) (levels : ℕ) (which : RunKind) → Sound (guessing_in k levels which)
sound-in k levels of.Text = sound-at k levels
sound-in k levels of.Block = sound-apart (sound-at k levels)

pub fills-at : (k : CharClasses) (n levels : ℕ) (which : RunKind) {f : Frame} → n ≡ levels → Fills (guessing_at k n) f → Fills (guessing_in k levels which) f
fills-at k n levels which {f = f} e h = fills-in k levels which (subst (λ m. Fills (guessing_at k m) f) e h)

-- what became of the trivia at hand
record Left (v w : View) : Type 0 where
  nodes : w.nodes ≡ v.nodes ++ v.hand.trivia
  place : w.place ≡ moved v.hand.gap v.place
  log : w.log ≡ v.log

flushed-is : {l : Level} {v w : View} → Does l flush_trivia tt v w → Fits l v → Left v w
flushed-is {l = l} {v = v} {w = w} d fits =
    let u : View = record v { nodes = v.nodes ++ v.hand.trivia; place = moved v.hand.gap v.place; state = flushed_state v.hand v.state; hand = record v.hand { trivia = []; gap = 0 } } in
    let f : Flushed v u = record { nodes = refl; place = refl; state = refl; hand = refl; own = refl; here = refl; log = refl; memo = refl } in
    let e : Does l flush_trivia tt v u = does-flush (λ c. f) in
    grind arith

module _ (k : CharClasses) (levels : ℕ) (which : RunKind) (x : Bool × ℕ) (z : Place) where
  abbrev l : Level
  l = run_level k levels which

  abbrev guessing_l : Level
  guessing_l = guessing_in k levels which

  abbrev piece : Bool × ℕ → Meaning (Bool × (Bool × ℕ))
  piece y = run l (markup_turn true (stops_of which) y)

  abbrev pieces : ℕ → List (Outcome (Bool × (Bool × ℕ)))
  pieces m = pieces_on l (stops_of which) x m z

  abbrev end : ℕ → End (Bool × ℕ)
  end m = end_on l (stops_of which) x m z

  untold : {A : Type 0} (p : Parser A) (v : View) → at guessing_l p v ≡ run l p v.place v.state
  untold {A = A} p v = ap {A = Meaning A} {B = Outcome A} (λ m. m v.place v.state) (run-blind (guesses k) l p)

  -- where the token at hand begins
  start-known : (w : View) (n : ℕ) → Fits guessing_l w → n ≡ position (moved w.hand.gap w.place) → n ≡ position (moved (gap_of w.state.known) w.place)
  start-known w n fits at_token = grind arith

  -- before the first piece
  pub starts : (v : View) (p : PieceReader) → 0 < levels → IsResumed z markup_reading v → Goes guessing_l (Bare guessing_l) (Fits guessing_l) peek (as_at_hand p.parser.hand) v p.parser → p.end ≡ position (moved p.parser.hand.gap p.parser.place)
      → p.levels ≡ levels → p.kind ≡ which → p.carried ≡ x → HasRead k levels which x z 0 p
  unfolding run
  starts v p some h d at_token levels_are kind_is carried =
      let w = p.parser in
      let bare : Bare guessing_l v = record { known = ap (λ (s : Point). s.known) h.state; knows = knows-none h.memo } in
      let fits = d.ready bare in
      let o = first_look l z in
      let same : at guessing_l peek v ≡ o = untold peek v ∙ ap (λ y. run l peek y v.state) h.place ∙ ap (run l peek z) h.state in
      let q : Runs levels o (as_at_hand w.hand) v w = subst (λ u. Runs levels u (as_at_hand w.hand) v w) same (d.ran bare).runs in
      record {
        levels_are = levels_are;
        some = some;
        kind_is = kind_is;
        go = tt;
        carried = carried;
        place = q.place ∙ h.place;
        state = q.state;
        nodes = q.nodes ∙ ap (standing o) h.nodes ∙ standing-nil o;
        log = q.log ∙ ap (λ y. logged levels y v.log o.asks) h.place ∙ ap (λ g. logged levels z g o.asks) h.log ∙ ap (logged levels z no_log) (sym (append-nil o.asks));
        fits = fits;
        end = start-known w p.end fits at_token;
      }

  turn-is : (m : ℕ) (p : PieceReader) → HasRead k levels which x z m p → at guessing_l (markup_turn true (stops_of which) p.carried) p.parser ≡ piece (end m).value (moved (end m).taken z) (end m).state
  turn-is m p h = grind (arith, untold)

  -- what a reader does next is the piece after those that it read
  runs-next : (m : ℕ) (p : PieceReader) (y : Bool × (Bool × ℕ)) (w : View) → HasRead k levels which x z m p → Does guessing_l (markup_turn true (stops_of which) p.carried) y p.parser w
      → Runs levels (piece (end m).value (moved (end m).taken z) (end m).state) y p.parser w
  runs-next m p y w h d = subst (λ o. Runs levels o y p.parser w) (turn-is m p h) (d.ran h.fits).runs

  -- with a piece more read fewer bytes are left
  pub shorter : (m : ℕ) (p : PieceReader) (y : Bool × ℕ) (w : View) → HasRead k levels which x z m p → Does guessing_l (markup_turn true (stops_of which) p.carried) (true, y) p.parser w
      → bytes_left w.place < bytes_left p.parser.place
  shorter m p y w h d =
      let v = p.parser in
      let e = end m in
      let r = runs-next m p (true, y) w h d in
      let o = piece e.value (moved e.taken z) e.state in
      let some : 0 < o.taken = takes-at k levels which e.value (moved e.taken z) e.state h.some (ap (λ (u : Bool × (Bool × ℕ)). u.0) r.value) in
      let same : at guessing_l (markup_turn true (stops_of which) p.carried) v ≡ o = turn-is m p h in
      let taken = ap (λ (u : Outcome (Bool × (Bool × ℕ))). u.taken) same in
      let sound = sound-in k levels which in
      let most = within-run guessing_l sound.within sound.within_block (markup_turn true (stops_of which) p.carried) v.place v.state in
      let few = known-few h.fits in
      let there : o.taken ≤ length v.place.ahead = omega (arith, most, few, taken) in
      let none = none-taken o.taken w.place v.place r.place there in
      grind (arith, some, none)

  -- a piece more
  pub reads-on : (m : ℕ) (p q : PieceReader) (y : Bool × ℕ) → HasRead k levels which x z m p → Does guessing_l (markup_turn true (stops_of which) p.carried) (true, y) p.parser q.parser → q.end ≡ position (moved q.parser.hand.gap q.parser.place)
      → q.levels ≡ levels → q.kind ≡ which → q.carried ≡ y → HasRead k levels which x z (m + 1) q
  reads-on m p q y h d at_token levels_are kind_is carried =
      let w = q.parser in
      let fits = d.ready h.fits in
      let e = end m in
      let first = first_look l z in
      let o = piece e.value (moved e.taken z) e.state in
      let r = runs-next m p (true, y) w h d in
      let some : 0 < o.taken = takes-at k levels which e.value (moved e.taken z) e.state h.some (ap (λ (u : Bool × (Bool × ℕ)). u.0) r.value) in
      let goes_on : goes o ≡ true = ap (λ (u : Bool × (Bool × ℕ)). u.0 && nat_lt 0 o.taken) r.value ∙ lt-ltb 0 o.taken some in
      let os = pieces m in
      let more = o ∷ [] in
      let sum : pieces (m + 1) ≡ os ++ more = made-sum piece m 1 x z first.state in
      let f : End (Bool × ℕ) = end_of e.value e.state more in
      let at_end : end (m + 1) ≡ record f { taken = e.taken + f.taken } = ap (end_of x first.state) sum ∙ end-append x first.state os more in
      let one : e.taken + o.taken ≡ e.taken + (o.taken + 0) = omega arith in
      let asks : asks_of more ≡ o.asks = append-nil o.asks in
      let start = first.asks ++ asks_of os in
      let log : w.log ≡ logged levels z no_log (first.asks ++ asks_of (pieces (m + 1))) =
      r.log ∙ ap (λ u. logged levels u p.parser.log o.asks) h.place ∙ ap (λ g. logged levels (moved e.taken z) g o.asks) h.log
      ∙ sym (logged-shift levels e.taken z (logged levels z no_log start) o.asks)
      ∙ sym (logged-append levels z no_log start (shift e.taken o.asks))
      ∙ ap (λ us. logged levels z no_log (start ++ shift e.taken us)) (sym asks)
      ∙ ap (logged levels z no_log) (append_assoc first.asks (asks_of os) (shift e.taken (asks_of more)) ∙ ap (λ us. first.asks ++ us) (sym (asks-append x first.state os more) ∙ ap asks_of (sym sum))) in
      grind (arith, go-append, moved-sum, given-append, start-known)

  -- the trivia at hand are those that are known
  trivia-known : (m : ℕ) (p : PieceReader) → HasRead k levels which x z m p → p.parser.hand.trivia ≡ pending (end m).state.known
  trivia-known m p h = sym (ap pending (ap (λ (s : Point). s.known) (sym h.state) ∙ h.fits.known))

  gap-known : (m : ℕ) (p : PieceReader) → HasRead k levels which x z m p → p.parser.hand.gap ≡ gap_of (end m).state.known
  gap-known m p h = sym (ap gap_of (ap (λ (s : Point). s.known) (sym h.state) ∙ h.fits.known))

  -- no piece more, where nothing was read
  pub reads-none : (m : ℕ) (p q : PieceReader) (y : Bool × ℕ) → HasRead k levels which x z m p → Does guessing_l (markup_turn true (stops_of which) p.carried) (false, y) p.parser q.parser
      → q.levels ≡ p.levels → q.kind ≡ p.kind → q.carried ≡ p.carried → q.end ≡ p.end → HasReadOn k levels which x z m false q
  unfolding markup_turn
  reads-none m p q y h d levels_are kind_is carried ends_at =
      let e = end m in
      let v = p.parser in
      let w = q.parser in
      let r = runs-next m p (false, y) w h d in
      let over : ends (stops_of which) e.value.1 (hand_of l (moved e.taken z) e.state).kind ≡ true = turn-ends l which e.value (moved e.taken z) e.state (ap (λ (u : Bool × (Bool × ℕ)). u.0) r.value) in
      let hands : v.hand ≡ hand_of l (moved e.taken z) e.state = h.fits.hand ∙ ap (λ u. hand_of l u v.state) h.place ∙ ap (hand_of l (moved e.taken z)) h.state in
      let is : ends (stops_of which) p.carried.1 v.hand.kind ≡ true = ap (λ (u : Bool × ℕ). ends (stops_of which) u.1 v.hand.kind) h.carried ∙ ap (λ (u : Hand). ends (stops_of which) e.value.1 u.kind) hands ∙ over in
      let still : Does guessing_l (markup_turn true (stops_of which) p.carried) (false, p.carried) v v = does-next (does-peek v) (does-pick is does-gives) in
      let a = (d.ran h.fits).runs in
      let b = (still.ran h.fits).runs in
      let place : w.place ≡ v.place = a.place ∙ sym b.place in
      let state : w.state ≡ v.state = a.state ∙ sym b.state in
      grind arith

  -- the pieces with the trivia after them
  pub given-pieces : (m : ℕ) (p : PieceReader) (w : View) (r : ReadPart) → HasRead k levels which x z m p → Does guessing_l flush_trivia tt p.parser w → IsGiven w r → ArePieces k levels which x z m r
  given-pieces m p w r h d g = grind (arith, flushed-is, trivia-known, moved-sum, gap-known, still-kept)
