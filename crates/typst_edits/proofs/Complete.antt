-- Each block that a reading notes stands in it, or a shape took its node.
use Rattle.typst_edits.proofs.Cited.{◌≡◌, ◌⊎◌, inl, inr, ℕ, zero, suc, Bool, true, false, ◌&&◌, if◌then◌else◌, nat_lt, List, [], ◌∷◌, ◌++◌, length, map, append-nil, Option, Some, None, refl, ap, sym, ◌∙◌, subst, flat_map, map-append, SyntaxMode, Place, moved, CharClasses, Block, Reading, Ask, shift, shift_one, sunk, sink_one, only_looks, looked, marked, Call, Answer, at_trivia, len_at, asks_by, ahead_asks, ahead_of, ahead_asks_of, asks_column, column_asks, hand_asks, column_look, Trivia, Point, state_of, forgot, Shape, peek, Parser, Begin, ◌>>◌, flushes, gives, does, next, pick, repeat, wraps, grows, nests, scoped, either, calls, block, Rules, meaning_of, level_of, markup_reading, Outcome, Meaning, Level, answered, joined, followed, as_last, turns, bound, repeated, before, blockless, grown, is_more, growths, growing, nestings, nesting, bounded, given_up, entered, plain, start_point, done, run, rules, max_depth, start_of, whole, Among, this, that, Hole, blocks_of_text, is_opening, opened, Spots, joined_spots, goes, last_spot, turns_spots, repeated_spots, reshaped_spot, wrapped_spot, grown_spot, growths_spots, growing_spots, nestings_spots, nesting_spots, scoped_spot, bounded_spots, spots, call_spots, block_spots, level_spots, Spot, valued, then_spot, after_spot, rehole, sunk_spot, closed_spot, on_both, grown-asks}
use Rattle.typst_edits.specs.Lost.{opening, opens, unless_some, lost_in, Lost, turns_lost, grown_lost, growths_lost, nestings_lost, lost, call_lost, block_lost, level_lost, lost_of_text, Stands, CompleteLaw}
use Rattle.std.proofs.lemmas.Grind.{flat_map-append}
use Rattle.typst_language.specs.declared.calls.Mark.TheVariants as mark
use Rattle.typst_edits.specs.Lost.Stands.{stands, is_lost}
use Rattle.typst_edits.proofs.Every.{Every, every-append, every-map, every-by}
use Rattle.typst_edits.proofs.Edit.{among}

-- ---- one of several

abbrev pub Any : {X : Type 0} → (X → Type 0) → List X → Type 0
Any P [] = ⊥
Any P (x ∷ xs) = P x ⊎ Any P xs

pub any-left : {X : Type 0} (P : X → Type 0) (xs ys : List X) → Any P xs → Any P (xs ++ ys)
any-left P [] ys h = elim h [ ]
any-left P (x ∷ xs) ys (inl h) = inl h
any-left P (x ∷ xs) ys (inr h) = inr (any-left P xs ys h)

pub any-right : {X : Type 0} (P : X → Type 0) (xs ys : List X) → Any P ys → Any P (xs ++ ys)
any-right P [] ys h = h
any-right P (x ∷ xs) ys h = inr (any-right P xs ys h)

pub any-map : {X Y : Type 0} (P : X → Type 0) (Q : Y → Type 0) (f : X → Y) → ((x : X) → P x → Q (f x)) → (xs : List X) → Any P xs → Any Q (map f xs)
any-map P Q f g [] h = elim h [ ]
any-map P Q f g (x ∷ xs) (inl h) = inl (g x h)
any-map P Q f g (x ∷ xs) (inr h) = inr (any-map P Q f g xs h)

-- ---- the notes of logs

pub opened-append : (xs ys : List Ask) → opened (xs ++ ys) ≡ opened xs ++ opened ys
opened-append xs ys = flat_map-append opens xs ys

pub opened-by : (f : Ask → Ask) → ((ask : Ask) → opens (f ask) ≡ map f (opens ask)) → (asks : List Ask) → opened (map f asks) ≡ map f (opened asks)
opened-by f h [] = refl
opened-by f h (ask ∷ asks) = ap (λ u. u ++ opened (map f asks)) (h ask) ∙ ap (λ u. map f (opens ask) ++ u) (opened-by f h asks) ∙ sym (map-append f (opens ask) (opened asks))

opens-if : (f : Ask → Ask) (b : Bool) (x : Ask) → (if b then f x ∷ [] else []) ≡ map f (if b then x ∷ [] else [])
opens-if f true x = refl
opens-if f false x = refl

pub opens-shift : (n : ℕ) (ask : Ask) → opens (shift_one n ask) ≡ map (shift_one n) (opens ask)
opens-shift n (looked at look) = refl
opens-shift n (marked at gap fewer m s) = opens-if (shift_one n) (is_opening m) (marked at gap fewer m s)

pub opens-sink : (ask : Ask) → opens (sink_one ask) ≡ map sink_one (opens ask)
opens-sink (looked at look) = refl
opens-sink (marked at gap fewer m s) = opens-if sink_one (is_opening m) (marked at gap fewer m s)

pub opened-looks : (asks : List Ask) → opened (only_looks asks) ≡ []
opened-looks [] = refl
opened-looks (looked at look ∷ asks) = opened-looks asks
opened-looks (marked at gap fewer m s ∷ asks) = opened-looks asks

opened-trivia : (k : CharClasses) (m : SyntaxMode) (n : ℕ) (z : Place) → opened (asks_by k m n z) ≡ []
opened-trivia k m zero z = refl
opened-trivia k m (suc n) z =
    let l = len_at k m z in
    let rest = asks_by k m n (moved l z) in
    on_both (λ (us : List Ask). opened us ≡ []) (at_trivia k m z) (shift l rest) [] (opened-by (shift_one l) (opens-shift l) rest ∙ ap (map (shift_one l)) (opened-trivia k m n (moved l z))) refl

-- What is asked for a token notes no block.
pub opened-hand : (k : CharClasses) (held : Reading) (known : Option Trivia) (z : Place) → opened (hand_asks k held known z) ≡ []
unfolding hand_asks ahead_asks
opened-hand k held known z =
    let a = ahead_of k held.mode known z in
    opened-append (ahead_asks_of k held.mode known z) (column_asks held a.newlines a.gap z) ∙ ap (λ u. u ++ opened (column_asks held a.newlines a.gap z)) (ahead-none known) ∙ on_both (λ (us : List Ask). opened us ≡ []) (asks_column held a.newlines) (looked a.gap (column_look (moved a.gap z)) ∷ []) [] refl refl
  where
    ahead-none : (t : Option Trivia) → opened (ahead_asks_of k held.mode t z) ≡ []
    ahead-none None = opened-trivia k held.mode (length z.ahead) z
    ahead-none (Some t) = refl

sum-by : {A B C D : Type 0} → (A → C) → (B → D) → A ⊎ B → C ⊎ D
sum-by f g (inl a) = inl (f a)
sum-by f g (inr b) = inr (g b)

-- ---- each of these notes is of one of these blocks, or lost

abbrev One : {A : Type 0} → List (Spot A) → List Ask → Ask → Type 0
One cs ls ask = Any (λ c. opening c ≡ ask) cs ⊎ Any (λ l. l ≡ ask) ls

abbrev pub Covered : {A : Type 0} → List (Spot A) → List Ask → List Ask → Type 0
Covered cs ls asks = Every (One cs ls) (opened asks)

covered-weaker : {A B : Type 0} (cs : List (Spot A)) (ds : List (Spot B)) (ls ms asks : List Ask) → ((ask : Ask) → One cs ls ask → One ds ms ask) → Covered cs ls asks → Covered ds ms asks
covered-weaker cs ds ls ms asks f h = every-by f (opened asks) h

covered-map : {A B : Type 0} (f : Spot A → Spot B) → ((c : Spot A) → opening (f c) ≡ opening c) → (cs : List (Spot A)) (ls asks : List Ask) → Covered cs ls asks → Covered (map f cs) ls asks
covered-map f e cs ls asks h = covered-weaker cs (map f cs) ls ls asks (λ ask. sum-by (any-map (λ c. opening c ≡ ask) (λ d. opening d ≡ ask) f (λ c g. e c ∙ g) cs) (λ i. i)) h

covered-none : {A : Type 0} (cs : List (Spot A)) (ls asks : List Ask) → opened asks ≡ [] → Covered cs ls asks
covered-none cs ls asks e = subst (Every (One cs ls)) (sym e) tt

covered-joined : {A B : Type 0} (o : Outcome B) (cs : List (Spot B)) (ls : List Ask) (p : Outcome A) (ds : List (Spot A)) (ms : List Ask) → Covered cs ls o.asks → Covered ds ms p.asks
    → Covered (joined_spots o cs p ds) (ls ++ shift o.taken ms) (o.asks ++ shift o.taken p.asks)
covered-joined o cs ls p ds ms h k =
    subst (Every (One (joined_spots o cs p ds) (ls ++ shift o.taken ms))) (sym (opened-append o.asks (shift o.taken p.asks) ∙ ap (λ u. opened o.asks ++ u) (opened-by (shift_one o.taken) (opens-shift o.taken) p.asks)))
    (every-append _ (opened o.asks) (map (shift_one o.taken) (opened p.asks)) (every-by first (opened o.asks) h) (every-map (One ds ms) _ (shift_one o.taken) second (opened p.asks) k))
  where
    first : (ask : Ask) → One cs ls ask → One (joined_spots o cs p ds) (ls ++ shift o.taken ms) ask
    first ask = sum-by (λ i. any-left _ (map (λ c. then_spot c p) cs) (map (after_spot o) ds) (any-map (λ c. opening c ≡ ask) (λ d. opening d ≡ ask) (λ c. then_spot c p) (λ c g. g) cs i)) (any-left (λ l. l ≡ ask) ls (shift o.taken ms))

    second : (ask : Ask) → One ds ms ask → One (joined_spots o cs p ds) (ls ++ shift o.taken ms) (shift_one o.taken ask)
    second ask = sum-by (λ i. any-right _ (map (λ c. then_spot c p) cs) (map (after_spot o) ds) (any-map (λ c. opening c ≡ ask) (λ d. opening d ≡ shift_one o.taken ask) (after_spot o) (λ c g. ap (shift_one o.taken) g) ds i))
        (λ i. any-right (λ l. l ≡ shift_one o.taken ask) ls (shift o.taken ms) (any-map (λ l. l ≡ ask) (λ l. l ≡ shift_one o.taken ask) (shift_one o.taken) (λ l g. ap (shift_one o.taken) g) ms i))

-- ---- what becomes of several nodes

covered-flat : {A B : Type 0} (f : Spot A → List (Spot B)) (g : Spot A → List Ask) → ((c : Spot A) → One (f c) (g c) (opening c)) → (cs : List (Spot A)) (ls asks : List Ask) → Covered cs ls asks → Covered (flat_map f cs) (ls ++ flat_map g cs) asks
covered-flat f g e cs ls asks h = covered-weaker cs (flat_map f cs) ls (ls ++ flat_map g cs) asks step h
  where
    within : (ask : Ask) (ds : _) → Any (λ c. opening c ≡ ask) ds → One (flat_map f ds) (flat_map g ds) ask
    within ask [] i = elim i [ ]
    within ask (c ∷ ds) (inl i) = sum-by (λ j. any-left _ (f c) (flat_map f ds) (subst (λ a. Any (λ d. opening d ≡ a) (f c)) i j)) (λ j. any-left _ (g c) (flat_map g ds) (subst (λ a. Any (λ l. l ≡ a) (g c)) i j)) (e c)
    within ask (c ∷ ds) (inr i) = sum-by (any-right _ (f c) (flat_map f ds)) (any-right _ (g c) (flat_map g ds)) (within ask ds i)

    step : (ask : Ask) → One cs ls ask → One (flat_map f cs) (ls ++ flat_map g cs) ask
    step ask (inl i) = sum-by (λ j. j) (any-right _ ls (flat_map g cs)) (within ask cs i)
    step ask (inr i) = inr (any-left _ ls (flat_map g cs) i)

one-rehole : {A : Type 0} (s : Point) (c : Spot A) (gs : List Hole) → One (map (rehole s c) gs) (unless_some (opening c) (map (rehole s c) gs)) (opening c)
one-rehole s c [] = inr (inl refl)
one-rehole s c (g ∷ gs) = inl (inl refl)

one-reshaped : {A : Type 0} (shape : Shape) (n : ℕ) (c : Spot A) → One (reshaped_spot shape n c) (lost_in shape n c) (opening c)
one-reshaped shape n c = one-rehole _ c _

one-wrapped : {A : Type 0} (f : A → Shape) (n : ℕ) (c : Spot A) → One (wrapped_spot f n c) (lost_in (f c.value) n c) (opening c)
one-wrapped f n c = sum-by (any-map (λ d. opening d ≡ opening c) (λ d. opening d ≡ opening c) (valued _) (λ d g. g) (reshaped_spot (f c.value) n c)) (λ i. i) (one-reshaped (f c.value) n c)

one-grown : {A : Type 0} (n : ℕ) (shape : Option Shape) (c : Spot A) → One (grown_spot n shape c) (grown_lost n shape c) (opening c)
one-grown n None c = inl (inl refl)
one-grown n (Some shape) c = one-reshaped shape n c

-- ---- loops

covered-if : {A : Type 0} (b : Bool) (cs ds : List (Spot A)) (ls ms : List Ask) (o p : Outcome A) → Covered cs ls o.asks → Covered ds ms p.asks → Covered (if b then cs else ds) (if b then ls else ms) (if b then o else p).asks
covered-if true cs ds ls ms o p h k = h
covered-if false cs ds ls ms o p h k = k

module _ {A : Type 0} (m : A → Meaning (Bool × A)) (sp : A → Spots (Bool × A)) (f : A → Lost) (h : (x : A) (z : Place) (s : Point) → Covered (sp x z s) (f x z s) (m x z s).asks) where
  covered-turns : (n : ℕ) (x : A) (z : Place) (s : Point) → Covered (turns_spots m sp n x z s) (turns_lost m f n x z s) (turns m n x z s).asks
  covered-turns zero x z s = tt
  covered-turns (suc n) x z s =
      let o = m x z s in
      let w = moved o.taken z in
      covered-if (goes o) _ _ _ _ (followed o (λ v. turns m n v.1) z) (as_last o)
      (covered-joined o (sp x z s) (f x z s) (turns m n o.value.1 w o.state) (turns_spots m sp n o.value.1 w o.state) (turns_lost m f n o.value.1 w o.state) (h x z s) (covered-turns n o.value.1 w o.state))
      (covered-map last_spot (λ c. refl) (sp x z s) (f x z s) o.asks (h x z s))

  covered-nestings : (shape : A → Shape) (begin : Begin) (n : ℕ) (x : A) (z : Place) (s : Point) → Covered (nestings_spots shape begin m sp n x z s) (nestings_lost shape begin m sp f n x z s) (nestings shape begin m n x z s).asks
  covered-nestings shape begin zero x z s = tt
  covered-nestings shape begin (suc n) x z s =
      let o = m x z s in
      let w = moved o.taken z in
      let p = if goes o then followed o (λ v. nestings shape begin m n v.1) z else as_last o in
      covered-flat (λ c. reshaped_spot (shape c.value) (before begin s) c) (λ c. lost_in (shape c.value) (before begin s) c) (λ c. one-reshaped (shape c.value) (before begin s) c) _ _ p.asks
      (covered-if (goes o) _ _ _ _ (followed o (λ v. nestings shape begin m n v.1) z) (as_last o)
      (covered-joined o (sp x z s) (f x z s) (nestings shape begin m n o.value.1 w o.state) (nestings_spots shape begin m sp n o.value.1 w o.state) (nestings_lost shape begin m sp f n o.value.1 w o.state) (h x z s)
      (covered-nestings shape begin n o.value.1 w o.state))
      (covered-map last_spot (λ c. refl) (sp x z s) (f x z s) o.asks (h x z s)))

module _ {A : Type 0} (m : A → Meaning (Option Shape × A)) (sp : A → Spots (Option Shape × A)) (f : A → Lost) (h : (x : A) (z : Place) (s : Point) → Covered (sp x z s) (f x z s) (m x z s).asks) (n : ℕ) where
  covered-growths : (k : ℕ) (o : Outcome A) (cs : List (Spot A)) (ls : List Ask) (z : Place) → Covered cs ls o.asks → Covered (growths_spots m sp n k o cs z) (growths_lost m sp f n k o cs ls z) (growths m n k o z).asks
  covered-growths zero o cs ls z i = i
  covered-growths (suc k) o cs ls z i =
      let w = moved o.taken z in
      let p = m o.value w o.state in
      let next = grown n p.value.0 (answered p.value.1 (joined o p)) in
      let ds = joined_spots o cs p (sp o.value w o.state) in
      let es = flat_map (λ c. grown_spot n p.value.0 (last_spot c)) ds in
      let ms = (ls ++ shift o.taken (f o.value w o.state)) ++ flat_map (λ c. grown_lost n p.value.0 (last_spot c)) ds in
      let all : Covered es ms (joined o p).asks = covered-flat (λ c. grown_spot n p.value.0 (last_spot c)) (λ c. grown_lost n p.value.0 (last_spot c)) (λ c. one-grown n p.value.0 (last_spot c)) ds (ls ++ shift o.taken (f o.value w o.state)) (joined o p).asks
      (covered-joined o cs ls p (sp o.value w o.state) (f o.value w o.state) i (h o.value w o.state)) in
      let j : Covered es ms next.asks = subst (Covered es ms) (sym (grown-asks n p.value.0 (answered p.value.1 (joined o p)))) all in
      covered-if (is_more p.value.0 && nat_lt 0 p.taken) _ es _ ms (growths m n k next z) next (covered-growths k next es ms z j) j

-- ---- a block

covered-closed : (b : Block) (m : Meaning (Unit {0})) (sp : Spots (Unit {0})) (z : Place) (s : Point) (ls : List Ask) → Covered (sp z (forgot s)) ls (m z (forgot s)).asks → Covered (bounded_spots b m sp z s) ls (bounded b m z s).asks
covered-closed b m sp z s ls h =
    let o = m z (forgot s) in (
      inl (inl refl),
      subst (Every (One (bounded_spots b m sp z s) ls)) (sym (opened-append o.asks (marked o.taken 0 0 mark.Closes (state_of o.state) ∷ []) ∙ append-nil (opened o.asks)))
          (every-by (λ ask. sum-by (λ i. inr i) (λ i. i)) (opened o.asks) (covered-map (closed_spot b s) (λ c. refl) (sp z (forgot s)) ls o.asks h)),
    )

covered-sunk : {A : Type 0} (cs : List (Spot A)) (ls asks : List Ask) → Covered cs ls asks → Covered (map sunk_spot cs) (sunk ls) (sunk asks)
covered-sunk cs ls asks h = subst (Every (One (map sunk_spot cs) (sunk ls))) (sym (opened-by sink_one opens-sink asks))
    (every-map (One cs ls) _ sink_one (λ ask. sum-by (any-map (λ c. opening c ≡ ask) (λ d. opening d ≡ sink_one ask) sunk_spot (λ c g. ap sink_one g) cs) (any-map (λ l. l ≡ ask) (λ l. l ≡ sink_one ask) sink_one (λ l g. ap sink_one g) ls)) (opened asks) h)

-- ---- whatever the language can say

all-lost : {A : Type 0} (cs : List (Spot A)) (xs : List Ask) → Every (One cs xs) xs
all-lost cs [] = tt
all-lost cs (x ∷ xs) = (inr (inl refl), every-by {P = One cs xs} {Q = One cs (x ∷ xs)} (λ ask. sum-by (λ i. i) (λ i. inr i)) xs (all-lost cs xs))

module _ (l : Level) (deep : (c : Call) → Spots (Answer c)) (in_block : Block → Spots (Unit {0})) (deep_lost : Call → Lost) (lost_inside : Block → Lost) where
  module _ (i : (c : Call) (z : Place) (s : Point) → Covered (deep c z s) (deep_lost c z s) (l.deeper c z s).asks) (j : (b : Block) (z : Place) (s : Point) → Covered (in_block b z s) (lost_inside b z s) (l.blocks b z s).asks) where
    pub covered-run : {A : Type 0} (p : Parser A) (z : Place) (s : Point) → Covered (spots l deep in_block p z s) (lost l deep in_block deep_lost lost_inside p z s) (run l p z s).asks
    unfolding run spots lost repeated growing nesting repeated_spots growing_spots nesting_spots
    covered-run (gives a) z s = tt
    covered-run (does o) z s = all-lost {A = Unit {0}} [] (opened (done l o z s).asks)
    covered-run (next p f) z s =
        let o = run l p z s in
        let w = moved o.taken z in
        covered-joined o (spots l deep in_block p z s) (lost l deep in_block deep_lost lost_inside p z s) (run l (f o.value) w o.state) (spots l deep in_block (f o.value) w o.state) (lost l deep in_block deep_lost lost_inside (f o.value) w o.state) (covered-run p z s) (covered-run (f o.value) w o.state)
    covered-run (pick true p q) z s = covered-run p z s
    covered-run (pick false p q) z s = covered-run q z s
    covered-run (repeat p x) z s = covered-turns (λ y. run l (p y)) (λ y. spots l deep in_block (p y)) (λ y. lost l deep in_block deep_lost lost_inside (p y)) (λ y. covered-run (p y)) (suc (bound z s)) x z s
    covered-run (wraps f begin p) z s =
        covered-flat (wrapped_spot f (before begin s)) (λ c. lost_in (f c.value) (before begin s) c) (λ c. one-wrapped f (before begin s) c) (spots l deep in_block p z s) (lost l deep in_block deep_lost lost_inside p z s) (run l p z s).asks (covered-run p z s)
    covered-run (grows begin p f) z s =
        covered-growths (λ y. run l (f y)) (λ y. spots l deep in_block (f y)) (λ y. lost l deep in_block deep_lost lost_inside (f y)) (λ y. covered-run (f y)) (before begin s) (suc (bound z s)) (run l p z s) (spots l deep in_block p z s)
        (lost l deep in_block deep_lost lost_inside p z s) z (covered-run p z s)
    covered-run (nests f begin p x) z s = covered-nestings (λ y. run l (p y)) (λ y. spots l deep in_block (p y)) (λ y. lost l deep in_block deep_lost lost_inside (p y)) (λ y. covered-run (p y)) f begin (suc (bound z s)) x z s
    covered-run (scoped f p) z s = let t = entered (f s.reading) s in covered-map (scoped_spot s.reading) (λ c. refl) (spots l deep in_block p z t) (lost l deep in_block deep_lost lost_inside p z t) (run l p z t).asks (covered-run p z t)
    covered-run (either p is_wrong q) z s =
        let o = run l p z s in
        covered-if (is_wrong o.value) [] (spots l deep in_block p z s) [] (lost l deep in_block deep_lost lost_inside p z s) (given_up o (run l q z s)) o (covered-none {A = Unit {0}} [] [] (given_up o (run l q z s)).asks (opened-looks (o.asks ++ (run l q z s).asks))) (covered-run p z s)
    covered-run (calls c) z s = covered-sunk (deep c z s) (deep_lost c z s) (l.deeper c z s).asks (i c z s)
    covered-run (block b) z s =
        let o = done l flushes z s in
        let m = bounded b (l.blocks b) in
        let w = moved o.taken z in
        covered-if (l.has b) (joined_spots o [] (m w o.state) (bounded_spots b (l.blocks b) (in_block b) w o.state)) [] (shift o.taken (lost_inside b w (forgot o.state))) [] (followed o (λ _. m) z) (plain tt s)
        (covered-joined o [] [] (m w o.state) (bounded_spots b (l.blocks b) (in_block b) w o.state) (lost_inside b w (forgot o.state)) (covered-none {A = Unit {0}} [] [] o.asks (opened-hand l.classes s.held s.known z))
        (covered-closed b (l.blocks b) (in_block b) w o.state (lost_inside b w (forgot o.state)) (j b w (forgot o.state)))) tt

-- ---- by any rules, at every level

module _ (r : Rules) (k : CharClasses) where
  covered-block : (levels : ℕ) → ((call : Call) (z : Place) (s : Point) → Covered (call_spots r k levels call z s) (call_lost r k levels call z s) (meaning_of r k levels call z s).asks) → (b : Block) (z : Place) (s : Point)
      → Covered (block_spots r k levels b z s) (block_lost r k levels b z s) (run (blockless k levels (meaning_of r k levels)) (peek >> r.block_production b) z s).asks
  covered-block levels i b = covered-run (blockless k levels (meaning_of r k levels)) (call_spots r k levels) (λ c y t. []) (call_lost r k levels) (λ c y t. []) i (λ c y t. tt) (peek >> r.block_production b)

  covered-call : (levels : ℕ) (call : Call) (z : Place) (s : Point) → Covered (call_spots r k levels call z s) (call_lost r k levels call z s) (meaning_of r k levels call z s).asks
  unfolding call_spots call_lost meaning_of
  covered-call zero call z s = tt
  covered-call (suc levels) call z s =
      covered-run (level_of r k levels) (call_spots r k levels) (block_spots r k levels) (call_lost r k levels) (block_lost r k levels) (covered-call levels) (covered-block levels (covered-call levels)) (r.production call) z s

-- ---- of a text

-- one of several that is so
pub record Chosen {X : Type 0} (P : X → Type 0) (xs : List X) : Type 0 where
  pub one : X
  pub among : Among one xs
  pub holds : P one

pub chosen : {X : Type 0} (P : X → Type 0) (xs : List X) → Any P xs → Chosen P xs
chosen P [] h = elim h [ ]
chosen P (x ∷ xs) (inl h) = record { one = x; among = this xs; holds = h }
chosen P (x ∷ xs) (inr h) = let r = chosen P xs h in record { one = r.one; among = that x xs r.among; holds = r.holds }

pub complete-law : CompleteLaw
unfolding blocks_of_text lost_of_text
complete-law k text ask i = said (among (One (level_spots (rules k) k max_depth whole z s) (level_lost (rules k) k max_depth whole z s)) ask _ i (covered-run (level_of (rules k) k max_depth) (call_spots (rules k) k max_depth) (block_spots (rules k) k max_depth) (call_lost (rules k) k max_depth) (block_lost (rules k) k max_depth) (covered-call (rules k) k max_depth)
    (covered-block (rules k) k max_depth (covered-call (rules k) k max_depth)) whole z s))
  where
    z : Place
    z = start_of text

    s : Point
    s = start_point markup_reading

    said : One (level_spots (rules k) k max_depth whole z s) (level_lost (rules k) k max_depth whole z s) ask → Stands k text ask
    said (inl h) = let r = chosen (λ c. opening c ≡ ask) (level_spots (rules k) k max_depth whole z s) h in stands r.one r.among r.holds
    said (inr h) = let r = chosen (λ l. l ≡ ask) (level_lost (rules k) k max_depth whole z s) h in is_lost (subst (λ a. Among a (level_lost (rules k) k max_depth whole z s)) r.holds r.among)
