-- Where the blocks of a second reading begin, no block is noted.
use Rattle.typst_edits.proofs.Cited.{◌≡◌, ◌⊎◌, inl, inr, ℕ, ◌+◌, ◌<◌, ◌≤◌, Bool, true, false, ◌&&◌, List, [], ◌∷◌, ◌++◌, length, map, drop, append-nil, Option, Some, None, refl, ap, sym, ◌∙◌, subst, arith, flat_map, Place, moved, Block, Ask, shift, shift_one, sunk, sink_one, only_looks, looked, marked, Call, Answer, Outcome, Meaning, Level, joined, answered, before, grown, bounded, given_up, entered, hand_asks_of, done, run, blockless, asked, hand_of, start_point, Point, state_of, forgot, SyntaxKind, Shape, after_shape, seen, NodeChange, Op, Begin, Parser, ◌>>◌, hand, so, further, column, erred, takes, takes_so, flushes, complains, advises, marks, is_deepest, does, next, wraps, scoped, ahead-left, Hole, plug, wrap_hole, opened, Spots, joined_spots, last_spot, reshaped_spot, wrapped_spot, grown_spot, scoped_spot, bounded_spots, call_spots, block_spots, level_spots, Spot, block_head, valued, then_spot, after_spot, rehole, sunk_spot, closed_spot, seconds, call_seconds, block_seconds, level_seconds, seconds_of_text, place_of, CharClasses, Reading, AtHand, as_at_hand, meaning_of, level_of, keeps, holds, lacks, warns, fails, itself, stays, turns_wrong, is_not, renamed, unparened, peek, eat, eat_making, node, at_token, rules, max_depth, start_of, whole, production, block_production, markup_reading, content_block, code_block, change_by, shape_by, is_ordinary, block_at, op_by, PlainBy, ordinary-whole, ordinary-production, ordinary-content, ordinary-code, inside_content, inside_code, cases_lt, UnnotedLaw, gives-all, plain-weaker, moves-inside}
use Rattle.typst_edits.proofs.Gathering.{Parts, Given, CallsHold, all-run, all-level}
use Rattle.typst_edits.proofs.Complete.{opened-append, opened-by, opens-shift, opens-sink, opened-looks, opened-hand}
use Rattle.typst_edits.proofs.Every.{Every, every-append, every-by, every-map, every-flat, every-any}
use Rattle.typst_grammar.proofs.Moves.{Moves, left-again, moves-next, moves-takes, moves-eat, moves-scoped, moves-wraps, moves-node}
use Rattle.typst_edits.proofs.Blocks.{enclosing}
use Rattle.typst_edits.proofs.Rising.{hand-some as some-hand}
use Rattle.typst_edits.proofs.Edit.{among}
use Rattle.typst_language.specs.declared.calls.Mark.TheVariants as mark
use Rattle.typst_language.specs.declared.calls.Block.TheVariants as block

-- It is before what is taken, or nothing is left there.
abbrev pub Early : Place → ℕ → ℕ → Type 0
Early z n i = (i < n) ⊎ (length z.ahead ≤ i)

-- What begins here isn't what is noted, unless nothing is left.
abbrev pub Differs : Place → ℕ → Ask → Type 0
Differs z i ask = place_of ask ≡ i → length z.ahead ≤ i

abbrev pub EveryAt : {A : Type 0} → (ℕ → Type 0) → List (Spot A) → Type 0
EveryAt P cs = Every (λ c. P c.at) cs

-- The blocks that are noted begin elsewhere than those of the other kind.
pub record Splits {A : Type 0} (z : Place) (taken : ℕ) (asks : List Ask) (cs ds : List (Spot A)) : Type 0 where
  pub firsts : EveryAt (Early z taken) cs
  pub others : EveryAt (Early z taken) ds
  pub notes : Every (λ ask. Early z taken (place_of ask)) (opened asks)
  pub differ : EveryAt (λ i. Every (Differs z i) (opened asks)) ds

abbrev pub Split : {A : Type 0} → Place → Outcome A → List (Spot A) → List (Spot A) → Type 0
Split z o cs ds = Splits z o.taken o.asks cs ds

pub split-none : {A : Type 0} (z : Place) (n : ℕ) (asks : List Ask) → opened asks ≡ [] → Splits {A = A} z n asks [] []
split-none z n asks e = record { firsts = tt; others = tt; notes = subst (λ u. Every (λ ask. Early z n (place_of ask)) u) (sym e) tt; differ = tt }

-- spots that begin where others do
split-flat : {A B : Type 0} (z : Place) (n : ℕ) (asks : List Ask) (f : Spot A → List (Spot B)) → ((P : ℕ → Type 0) (c : Spot A) → P c.at → EveryAt P (f c)) → (cs ds : List (Spot A)) → Splits z n asks cs ds → Splits z n asks (flat_map f cs) (flat_map f ds)
split-flat z n asks f g cs ds h = record {
  firsts = every-flat (λ c. Early z n c.at) (λ c. Early z n c.at) f (g (Early z n)) cs h.firsts;
  others = every-flat (λ c. Early z n c.at) (λ c. Early z n c.at) f (g (Early z n)) ds h.others;
  notes = h.notes;
  differ = every-flat (λ c. Every (Differs z c.at) (opened asks)) (λ c. Every (Differs z c.at) (opened asks)) f (g (λ i. Every (Differs z i) (opened asks))) ds h.differ;
}

split-map : {A B : Type 0} (z : Place) (n : ℕ) (asks : List Ask) (f : Spot A → Spot B) → ((P : ℕ → Type 0) (c : Spot A) → P c.at → P (f c).at) → (cs ds : List (Spot A)) → Splits z n asks cs ds → Splits z n asks (map f cs) (map f ds)
split-map z n asks f g cs ds h = record {
  firsts = every-map (λ c. Early z n c.at) (λ c. Early z n c.at) f (g (Early z n)) cs h.firsts;
  others = every-map (λ c. Early z n c.at) (λ c. Early z n c.at) f (g (Early z n)) ds h.others;
  notes = h.notes;
  differ = every-map (λ c. Every (Differs z c.at) (opened asks)) (λ c. Every (Differs z c.at) (opened asks)) f (g (λ i. Every (Differs z i) (opened asks))) ds h.differ;
}

-- ---- one after the other

place-shift : (n : ℕ) (ask : Ask) → place_of (shift_one n ask) ≡ n + place_of ask
place-shift n (looked at look) = refl
place-shift n (marked at gap fewer mark s) = refl

place-sink : (ask : Ask) → place_of (sink_one ask) ≡ place_of ask
place-sink (looked at look) = refl
place-sink (marked at gap fewer mark s) = refl

module _ (z : Place) (n m : ℕ) where
  early-first : (i : ℕ) → Early z n i → Early z (n + m) i
  early-first i (inl l) = inl (omega (arith, l))
  early-first i (inr l) = inr l

  early-second : (i j : ℕ) → j ≡ n + i → Early (moved n z) m i → Early z (n + m) j
  early-second i j e (inl l) = inl (omega (arith, e, l))
  early-second i j e (inr l) = inr (omega (arith, e, l, ahead-left n z))

  -- What begins in the first isn't noted in the second, and the other way round.
  differs-behind : (i : ℕ) (ask : Ask) → Early z n i → Differs z i (shift_one n ask)
  differs-behind i ask (inl l) e = absurd (omega (arith, l, e, place-shift n ask))
  differs-behind i ask (inr l) e = l

  differs-before : (i : ℕ) (ask : Ask) → Early z n (place_of ask) → Differs z (n + i) ask
  differs-before i ask (inl l) e = absurd (omega (arith, l, e))
  differs-before i ask (inr l) e = omega (arith, l, e)

  differs-second : (i : ℕ) (ask : Ask) → Differs (moved n z) i ask → Differs z (n + i) (shift_one n ask)
  differs-second i ask f e =
      let g : place_of ask ≡ i = omega (arith, e, place-shift n ask) in
      omega (arith, f g, ahead-left n z)

split-joined : {A B : Type 0} (z : Place) (o : Outcome B) (p : Outcome A) (cs ds : List (Spot B)) (es fs : List (Spot A)) → Split z o cs ds → Split (moved o.taken z) p es fs → Split z (joined o p) (joined_spots o cs p es) (joined_spots o ds p fs)
split-joined {A} {B} z o p cs ds es fs h k = record {
  firsts = both cs es h.firsts k.firsts;
  others = both ds fs h.others k.others;
  notes = subst (Every (λ ask. Early z (n + m) (place_of ask))) (sym is)
      (every-append (λ ask. Early z (n + m) (place_of ask)) (opened o.asks) (map (shift_one n) (opened p.asks)) (every-by (λ ask. early-first z n m (place_of ask)) (opened o.asks) h.notes)
      (every-map (λ ask. Early (moved n z) m (place_of ask)) (λ ask. Early z (n + m) (place_of ask)) (shift_one n) (λ ask. early-second z n m (place_of ask) (place_of (shift_one n ask)) (place-shift n ask)) (opened p.asks) k.notes));
  differ = every-append _ (map (λ c. then_spot c p) ds) (map (after_spot o) fs) (every-map Old (Apart_at) (λ c. then_spot c p) first ds (pair ds h.others h.differ))
      (every-map (λ c. Every (Differs (moved n z) c.at) (opened p.asks)) (Apart_at) (after_spot o) second fs k.differ);
}
  where
    n : ℕ
    n = o.taken

    m : ℕ
    m = p.taken

    is : opened (o.asks ++ shift n p.asks) ≡ opened o.asks ++ map (shift_one n) (opened p.asks)
    is = opened-append o.asks (shift n p.asks) ∙ ap (λ u. opened o.asks ++ u) (opened-by (shift_one n) (opens-shift n) p.asks)

    Apart_at : {C : Type 0} → Spot C → Type 0
    Apart_at c = Every (Differs z c.at) (opened (o.asks ++ shift n p.asks))

    Old : {C : Type 0} → Spot C → Type 0
    Old c = Early z n c.at × Every (Differs z c.at) (opened o.asks)

    pair : {C : Type 0} (xs : List (Spot C)) → EveryAt (Early z n) xs → EveryAt (λ i. Every (Differs z i) (opened o.asks)) xs → Every Old xs
    pair [] a b = tt
    pair (x ∷ xs) a b = ((a.0, b.0), pair xs a.1 b.1)

    both : (xs : List (Spot B)) (ys : List (Spot A)) → EveryAt (Early z n) xs → EveryAt (Early (moved n z) m) ys → EveryAt (Early z (n + m)) (joined_spots o xs p ys)
    both xs ys a b = every-append _ (map (λ c. then_spot c p) xs) (map (after_spot o) ys) (every-map (λ c. Early z n c.at) (λ c. Early z (n + m) c.at) (λ c. then_spot c p) (λ c. early-first z n m c.at) xs a)
        (every-map (λ c. Early (moved n z) m c.at) (λ c. Early z (n + m) c.at) (after_spot o) (λ c. early-second z n m c.at (n + c.at) refl) ys b)

    first : (c : Spot B) → Old c → Apart_at (then_spot c p)
    first c h = subst (Every (Differs z c.at)) (sym is) (every-append (Differs z c.at) (opened o.asks) (map (shift_one n) (opened p.asks)) h.1
        (every-map (λ ask. Unit {0}) (Differs z c.at) (shift_one n) (λ ask _. differs-behind z n m c.at ask h.0) (opened p.asks) (every-any (opened p.asks))))

    second : (c : Spot A) → Every (Differs (moved n z) c.at) (opened p.asks) → Apart_at (after_spot o c)
    second c x = subst (Every (Differs z (n + c.at))) (sym is) (every-append (Differs z (n + c.at)) (opened o.asks) (map (shift_one n) (opened p.asks)) (every-by (λ ask. differs-before z n m c.at ask) (opened o.asks) h.notes)
        (every-map (Differs (moved n z) c.at) (Differs z (n + c.at)) (shift_one n) (λ ask. differs-second z n m c.at ask) (opened p.asks) x))

-- ---- what several nodes become

reshaped-at : {A : Type 0} (shape : Shape) (n : ℕ) (P : ℕ → Type 0) (c : Spot A) → P c.at → EveryAt P (reshaped_spot shape n c)
reshaped-at shape n P c p =
    every-map (λ (g : Hole). Unit {0}) (λ d. P d.at) (rehole (after_shape shape (drop (n + c.back) (plug c.hole c.node)) c.state) c) (λ g u. p) (wrap_hole shape (block_head c.name) (n + c.back) c.hole)
    (every-any (wrap_hole shape (block_head c.name) (n + c.back) c.hole))

pub wrapped-at : {A : Type 0} (f : A → Shape) (n : ℕ) (P : ℕ → Type 0) (c : Spot A) → P c.at → EveryAt P (wrapped_spot f n c)
wrapped-at f n P c p =
    every-map (λ d. P d.at) (λ d. P d.at) (valued (c.value, map seen (drop (n + c.back) (plug c.hole c.node)))) (λ d q. q) (reshaped_spot (f c.value) n c) (reshaped-at (f c.value) n P c p)

split-grown : {A : Type 0} (z : Place) (n : ℕ) (shape : Option Shape) (o : Outcome (Option Shape × A)) (cs ds : List (Spot (Option Shape × A))) → Split z o cs ds
    → Split z (grown n shape (answered o.value.1 o)) (flat_map (λ c. grown_spot n shape (last_spot c)) cs) (flat_map (λ c. grown_spot n shape (last_spot c)) ds)
split-grown z n None o cs ds h = split-flat z o.taken o.asks (λ c. last_spot c ∷ []) (λ P c p. (p, tt)) cs ds h
split-grown z n (Some shape) o cs ds h = split-flat z o.taken o.asks (λ c. reshaped_spot shape n (last_spot c)) (λ P c p. reshaped-at shape n P (last_spot c) p) cs ds h

-- ---- a reading that was given up, a level, a block

split-given : {A : Type 0} (z : Place) (o p : Outcome A) (cs ds : List (Spot A)) → Split z p cs ds → Split z (given_up o p) [] (cs ++ ds)
split-given z o p cs ds h = record {
  firsts = tt;
  others = every-append (λ c. Early z p.taken c.at) cs ds h.firsts h.others;
  notes = subst (Every (λ ask. Early z p.taken (place_of ask))) (sym none) tt;
  differ = every-by (λ c u. subst (Every (Differs z c.at)) (sym none) tt) (cs ++ ds) (every-any (cs ++ ds));
}
  where
    none : opened (only_looks (o.asks ++ p.asks)) ≡ []
    none = opened-looks (o.asks ++ p.asks)

split-sunk : {A : Type 0} (z : Place) (n : ℕ) (asks : List Ask) (cs ds : List (Spot A)) → Splits z n asks cs ds → Splits z n (sunk asks) (map sunk_spot cs) (map sunk_spot ds)
split-sunk z n asks cs ds h = record {
  firsts = every-map (λ c. Early z n c.at) (λ c. Early z n c.at) sunk_spot (λ c p. p) cs h.firsts;
  others = every-map (λ c. Early z n c.at) (λ c. Early z n c.at) sunk_spot (λ c p. p) ds h.others;
  notes = subst (Every (λ ask. Early z n (place_of ask))) (sym is)
      (every-map (λ ask. Early z n (place_of ask)) (λ ask. Early z n (place_of ask)) sink_one (λ ask p. subst (Early z n) (sym (place-sink ask)) p) (opened asks) h.notes);
  differ = every-map (λ c. Every (Differs z c.at) (opened asks)) (λ c. Every (Differs z c.at) (opened (sunk asks))) sunk_spot
      (λ c x. subst (Every (Differs z c.at)) (sym is) (every-map (Differs z c.at) (Differs z c.at) sink_one (λ ask f e. f (sym (place-sink ask) ∙ e)) (opened asks) x)) ds h.differ;
}
  where
    is : opened (sunk asks) ≡ map sink_one (opened asks)
    is = opened-by sink_one opens-sink asks

-- A block takes something, and what is in it begins after its first token, unless nothing is left.
pub record Begins {A : Type 0} (z : Place) (o : Outcome A) (cs ds : List (Spot A)) : Type 0 where
  pub split : Split z o cs ds
  pub takes : Early z o.taken 0
  pub behind : EveryAt (λ i. (0 < i) ⊎ (length z.ahead ≤ 0)) ds

split-bounded : (b : Block) (m : Meaning (Unit {0})) (sp se : Spots (Unit {0})) (z : Place) (s : Point) → Begins z (m z (forgot s)) (sp z (forgot s)) (se z (forgot s))
    → Split z (bounded b m z s) (bounded_spots b m sp z s) (map (closed_spot b s) (se z (forgot s)))
split-bounded b m sp se z s h = record {
  firsts = (h.takes, every-map (λ c. Early z o.taken c.at) (λ c. Early z o.taken c.at) (closed_spot b s) (λ c p. p) (sp z (forgot s)) h.split.firsts);
  others = every-map (λ c. Early z o.taken c.at) (λ c. Early z o.taken c.at) (closed_spot b s) (λ c p. p) (se z (forgot s)) h.split.others;
  notes = (h.takes, subst (Every (λ ask. Early z o.taken (place_of ask))) (sym is) h.split.notes);
  differ = every-map Old (λ c. Every (Differs z c.at) (opened (bounded b m z s).asks)) (closed_spot b s) step (se z (forgot s)) (pair (se z (forgot s)) h.behind h.split.differ);
}
  where
    o : Outcome (Unit {0})
    o = m z (forgot s)

    is : opened (o.asks ++ marked o.taken 0 0 mark.Closes (state_of o.state) ∷ []) ≡ opened o.asks
    is = opened-append o.asks (marked o.taken 0 0 mark.Closes (state_of o.state) ∷ []) ∙ append-nil (opened o.asks)

    Old : Spot (Unit {0}) → Type 0
    Old c = ((0 < c.at) ⊎ (length z.ahead ≤ 0)) × Every (Differs z c.at) (opened o.asks)

    pair : (xs : List (Spot (Unit {0}))) → EveryAt (λ i. (0 < i) ⊎ (length z.ahead ≤ 0)) xs → EveryAt (λ i. Every (Differs z i) (opened o.asks)) xs → Every Old xs
    pair [] a b = tt
    pair (x ∷ xs) a b = ((a.0, b.0), pair xs a.1 b.1)

    own : (i : ℕ) → (0 < i) ⊎ (length z.ahead ≤ 0) → 0 ≡ i → length z.ahead ≤ i
    own i (inl l) e = absurd (omega (arith, l, e))
    own i (inr l) e = omega (arith, l)

    step : (c : Spot (Unit {0})) → Old c → Every (Differs z c.at) (opened (bounded b m z s).asks)
    step c x = (own c.at x.0, subst (Every (Differs z c.at)) (sym is) x.1)

-- ---- whatever the language can say

abbrev pub anything : SyntaxKind → Bool
anything k = true

module _ (l : Level) where
  opened-done : {A : Type 0} (o : Op A) → op_by anything o ≡ true → (z : Place) (s : Point) → opened (done l o z s).asks ≡ []
  opened-done hand e z s = opened-hand l.classes s.held s.known z
  opened-done (so way) e z s = opened-append (hand_asks_of l z s) _ ∙ ap (λ u. u ++ []) (opened-hand l.classes s.held s.known z)
  opened-done further e z s = opened-append (hand_asks_of l z s) _ ∙ ap (λ u. u ++ []) (opened-hand l.classes s.held s.known z)
  opened-done column e z s = opened-append (hand_asks_of l z s) _ ∙ ap (λ u. u ++ []) (opened-hand l.classes s.held s.known z)
  opened-done erred e z s = refl
  opened-done (takes trims making) e z s = opened-hand l.classes s.held s.known z
  opened-done (takes_so way making) e z s = opened-append (hand_asks_of l z s) _ ∙ ap (λ u. u ++ []) (opened-hand l.classes s.held s.known z)
  opened-done flushes e z s = opened-hand l.classes s.held s.known z
  opened-done (complains message) e z s = refl
  opened-done (advises hint) e z s = refl
  opened-done (marks (mark.Piece a n)) e z s = refl
  opened-done (marks (mark.Opens b)) e z s = absurd (cc)
  opened-done (marks mark.Closes) e z s = refl
  opened-done is_deepest e z s = refl

-- ---- what begins after the first token

module _ (l : Level) (deep : (c : Call) → Spots (Answer c)) (in_block : Block → Spots (Unit {0})) (deep_seconds : (c : Call) → Spots (Answer c)) (seconds_inside : Block → Spots (Unit {0})) where
  abbrev Later : {A : Type 0} → Parser A → Type 0
  Later p = (z : Place) (s : Point) → 0 < (hand_of l z s).gap + (hand_of l z s).len → EveryAt (λ i. 0 < i) (seconds l deep in_block deep_seconds seconds_inside p z s)

  later-next : {A B : Type 0} (p : Parser B) (f : B → Parser A) → Moves l p → Later p → Later (next p f)
  unfolding seconds
  later-next p f m h z s e =
      let o = run l p z s in
      let ds = seconds l deep in_block deep_seconds seconds_inside (f o.value) (moved o.taken z) o.state in
      every-append _ (map (λ c. then_spot c (run l (f o.value) (moved o.taken z) o.state)) (seconds l deep in_block deep_seconds seconds_inside p z s)) (map (after_spot o) ds)
      (every-map (λ c. 0 < c.at) (λ c. 0 < c.at) (λ c. then_spot c (run l (f o.value) (moved o.taken z) o.state)) (λ c x. x) (seconds l deep in_block deep_seconds seconds_inside p z s) (h z s e))
      (every-map (λ c. Unit {0}) (λ c. 0 < c.at) (after_spot o) (λ c x. omega (arith, m z s e)) ds (every-any ds))

  later-peek : {A : Type 0} (f : AtHand → Parser A) → ((h : AtHand) → Later (f h)) → Later (next (does hand) f)
  unfolding seconds run
  later-peek {A} f h z s e =
      let t = asked (hand_of l z s) s in
      let ds = seconds l deep in_block deep_seconds seconds_inside (f (as_at_hand (hand_of l z s))) (moved 0 z) t in
      every-map (λ c. 0 < c.at) (λ c. 0 < c.at) (after_spot {A = A} (run l (does hand) z s)) (λ c x. omega (arith, x)) ds (h (as_at_hand (hand_of l z s)) z t (omega (arith, left-again l z s, e)))

  later-scoped : {A : Type 0} (f : Reading → Reading) (p : Parser A) → Later p → Later (scoped f p)
  unfolding seconds
  later-scoped f p h z s e = every-map (λ c. 0 < c.at) (λ c. 0 < c.at) _ (λ c x. x) (seconds l deep in_block deep_seconds seconds_inside p z (entered (f s.reading) s)) (h z (entered (f s.reading) s) e)

  later-wraps : {A : Type 0} (f : A → Shape) (begin : Begin) (p : Parser A) → Later p → Later (wraps f begin p)
  unfolding seconds
  later-wraps f begin p h z s e =
      every-flat (λ c. 0 < c.at) (λ c. 0 < c.at) (wrapped_spot f (before begin s)) (λ c x. wrapped-at f (before begin s) (λ i. 0 < i) c x) (seconds l deep in_block deep_seconds seconds_inside p z s) (h z s e)

  later-node : {A : Type 0} (f : A → Shape) (p : Parser A) → Moves l p → Later p → Later (node f p)
  unfolding node
  later-node f p m h = later-peek _ (λ a. later-next (wraps f at_token p) _ (moves-wraps l f at_token p m) (later-wraps f at_token p h))

  later-takes : Later (does (takes false itself))
  unfolding seconds
  later-takes z s e = tt

  later-eat : Later eat
  unfolding eat eat_making
  later-eat = later-next (does (takes false itself)) _ (moves-takes l false itself) later-takes

  later-block : (b : Block) → Later (peek >> (block_production b))
  unfolding content_block code_block
  later-block block.Content =
      later-peek (λ _. content_block) (λ a. later-next (node (enclosing block.Content) inside_content) _ (moves-node l (enclosing block.Content) inside_content moves-content) (later-node (enclosing block.Content) inside_content moves-content
      (later-scoped _ _ (later-next (does (takes false itself)) _ (moves-takes l false itself) later-takes))))
    where
      moves-content : Moves l inside_content
      moves-content = moves-scoped l _ _ (moves-next l (does (takes false itself)) _ (moves-takes l false itself))
  later-block block.Code =
      later-peek (λ _. code_block) (λ a. later-next (node (enclosing block.Code) inside_code) _ (moves-node l (enclosing block.Code) inside_code moves-code) (later-node (enclosing block.Code) inside_code moves-code
      (later-scoped _ _ (later-next eat _ (moves-eat l) later-eat))))
    where
      moves-code : Moves l inside_code
      moves-code = moves-scoped l _ _ (moves-next l eat _ (moves-eat l))

-- ---- no production notes a block's begin except where it reads the block

any-change : (change : NodeChange) → change_by anything change ≡ true
any-change stays = refl
any-change (turns_wrong message) = refl
any-change (is_not thing) = refl
any-change (renamed k) = refl
any-change unparened = refl

any-shape : (shape : Shape) → shape_by anything shape ≡ true
any-shape (keeps change) = any-change change
any-shape (holds change k) = ap (λ b. b && true) (any-change change)
any-shape (lacks count message k) = refl
any-shape (warns k message hint) = refl
any-shape (fails message) = refl

any-plain : {A : Type 0} (p : Parser A) → PlainBy is_ordinary p → PlainBy anything p
any-plain p w = plain-weaker is_ordinary anything (λ k h. refl) p w

any-node : (b : Block) (p : Parser Bool) → PlainBy is_ordinary p → PlainBy anything (node (enclosing b) p)
unfolding node
any-node b p w = (refl, λ _. ((gives-all (λ closed. shape_by anything (enclosing b closed) ≡ true) (λ closed. any-shape (enclosing b closed)) p, any-plain p w), λ _. tt))

any-block : (b : Block) → PlainBy anything (peek >> block_production b)
unfolding content_block code_block
any-block block.Content = (refl, λ _. (any-node block.Content inside_content ordinary-content, λ _. tt))
any-block block.Code = (refl, λ _. (any-node block.Code inside_code ordinary-code, λ _. tt))

-- ---- each level

abbrev Everywhere : Place → Point → Type 0
Everywhere z s = Unit {0}

abbrev AfterAll : (A : Type 0) → Place → Point → Outcome A → Type 0
AfterAll A z s o = Unit {0}

abbrev SplitFor : (A : Type 0) → ℕ → Place → Point → Outcome A → List (Spot A) → List (Spot A) → Type 0
SplitFor A n z s o cs ds = Split z o cs ds

split-parts : Parts Everywhere AfterAll SplitFor (Unit {0}) anything
split-parts = record {
  at_entered = λ z s r a. tt;
  at_end = λ A z s o g. tt;
  gone_grew = λ A z s i o p g h. tt;
  nothing = λ A n z s a m h. split-none z 0 [] refl;
  both = λ A B n z s o p cs ds es fs g h k. split-joined z o p cs ds es fs h k;
  last_turn = λ A B n z s o cs ds h. split-map z o.taken o.asks last_spot (λ P c p. p) cs ds h;
  in_wrap = λ A n z s f i o cs ds e h. split-flat z o.taken o.asks (wrapped_spot f i) (λ P c p. wrapped-at f i P c p) cs ds h;
  in_growth = λ A n z s i shape o cs ds e h. split-grown z i shape o cs ds h;
  in_nest = λ A n z s f i o cs ds e h. split-flat z o.taken o.asks (λ c. reshaped_spot (f c.value) i c) (λ P c p. reshaped-at (f c.value) i P c p) cs ds h;
  in_scope = λ A n z s r o cs ds h. split-map z o.taken o.asks (scoped_spot s.reading) (λ P c p. p) cs ds h;
  instead = λ A n z s o p cs ds h. split-given z o p cs ds h;
  deeper = λ A n z s o cs ds h. split-sunk z o.taken o.asks cs ds h;
}

module _ (k : CharClasses) (levels : ℕ) (d : CallsHold Everywhere AfterAll SplitFor (Unit {0}) anything (rules k) k levels) where
  abbrev within : Level
  within = blockless k levels (meaning_of (rules k) k levels)

  begins-block : (b : Block) (z : Place) (s : Point) → Begins z (block_at k levels b z (forgot s)) (block_spots (rules k) k levels b z (forgot s)) (block_seconds (rules k) k levels b z (forgot s))
  begins-block b z s = record {
    split = all-run Everywhere AfterAll SplitFor (Unit {0}) anything split-parts within (call_spots (rules k) k levels) (call_seconds (rules k) k levels) (λ c y t. []) (λ c y t. [])
        (record { reads = λ A p y t u h. tt; step = λ A o e y t u. split-none y (done within o y t).taken (done within o y t).asks (opened-done within o (e tt) y t); held = λ c e. absurd (cc) }) d (peek >> block_production b) (λ u. any-block b) z (forgot s) tt;
    takes = elim (cases_lt 0 (length z.ahead)) [ inl some ↦ inl (moves-inside k levels b z s (some-hand k s.held z some)) | inr none ↦ inr none ];
    behind = elim (cases_lt 0 (length z.ahead)) [
      | inl some ↦ every-by (λ c x. inl x) (block_seconds (rules k) k levels b z (forgot s))
          (later-block within (call_spots (rules k) k levels) (λ c y t. []) (call_seconds (rules k) k levels) (λ c y t. []) b z (forgot s) (some-hand k s.held z some))
      | inr none ↦ every-by (λ c x. inr none) (block_seconds (rules k) k levels b z (forgot s)) (every-any (block_seconds (rules k) k levels b z (forgot s)))
    ];
  }

  split-given_by : Given Everywhere AfterAll SplitFor (Unit {0}) anything (level_of (rules k) k levels) (call_spots (rules k) k levels) (call_seconds (rules k) k levels) (block_spots (rules k) k levels) (block_seconds (rules k) k levels)
  split-given_by = record {
    reads = λ A p z s a h. tt;
    step = λ A o e z s a. (let p = done (level_of (rules k) k levels) o z s in split-none z p.taken p.asks (opened-done (level_of (rules k) k levels) o (e tt) z s));
    held = λ b t z s a.
        (let o = done (level_of (rules k) k levels) flushes z s in
        let v = moved o.taken z in
        let m = block_at k levels b in
        split-joined z o (bounded b m v o.state) [] [] (bounded_spots b m (block_spots (rules k) k levels b) v o.state) (map (closed_spot b o.state) (block_seconds (rules k) k levels b v (forgot o.state)))
        (split-none z o.taken o.asks (opened-done (level_of (rules k) k levels) flushes refl z s)) (split-bounded b m (block_spots (rules k) k levels b) (block_seconds (rules k) k levels b) v o.state (begins-block b v o.state)));
  }

split-whole : (k : CharClasses) (z : Place) (s : Point) → Split z (run (level_of (rules k) k max_depth) whole z s) (level_spots (rules k) k max_depth whole z s) (level_seconds (rules k) k max_depth whole z s)
split-whole k z s = all-level Everywhere AfterAll SplitFor (Unit {0}) anything split-parts (rules k) k (λ c u. any-plain (production k c) (ordinary-production k c)) (split-given_by k) max_depth whole (λ u. any-plain whole ordinary-whole) z s tt

pub unnoted-law : UnnotedLaw
unfolding seconds_of_text
unnoted-law k text c ask i j =
    let z = start_of text in
    let s = start_point markup_reading in
    let ds = level_seconds (rules k) k max_depth whole z s in
    among (Differs z c.at) ask _ j (among (λ d. Every (Differs z d.at) _) c ds i (split-whole k z s).differ)
