-- No more nodes are taken back than empty errors stand there.
use Rattle.typst_language.proofs.Cited.{◌≡◌, ℕ, zero, suc, ◌+◌, ◌≤◌, Bool, true, false, ◌&&◌, if◌then◌else◌, nat_lt, List, [], ◌∷◌, ◌++◌, length, length-append, length-take, length-drop, refl, ◌<◌, ◌⊎◌, inl, inr, Option, Some, None, arith, rules, Place, moved, Block, Call, Point, Hand, NodeChange, Shape, on_first, first_changed, shaped, count_empty, after_node, after_shape, stays, turns_wrong, is_not, renamed, unparened, Op, Begin, Parser, hand, so, further, column, erred, takes, takes_so, flushes, complains, advises, marks, is_deepest, gives, does, next, pick, repeat, wraps, grows, nests, scoped, either, calls, block, Outcome, Meaning, Level, answered, joined, turns, as_last, bound, repeated, before, reshaped, grown, is_more, growths, growing, nestings, nesting, given_up, bounded, same_mode, entered, left, flushed_state, hand_of, hand_asks_of, gave, taken_node, done, run, Tidy, Backs}
use Rattle.typst_lexer.specs.Tree.{Tree}
use Rattle.typst_language.proofs.HintedNodes.{length-hinted}
use Rattle.typst_language.proofs.Places.{length-less}
use Rattle.typst_language.proofs.Within.{on_both, grew}

length-one : {A : Type 0} (xs : List A) (x : A) → length (xs ++ x ∷ []) ≡ length xs + 1
length-one xs x = omega (arith, length-append xs (x ∷ []))

pub backs-joined : {A B : Type 0} (s : Point) (o : Outcome B) (p : Outcome A) → Tidy s o → Tidy o.state p → Tidy s (joined o p)
backs-joined s o p h k = grind (arith, length-append, length-less, length-hinted)

backs-if : {A : Type 0} (s : Point) (b : Bool) (x y : Outcome A) → Tidy s x → Tidy s y → Tidy s (if b then x else y)
backs-if s b x y p q = on_both (Tidy s) b x y p q

pub backs-turns : {A : Type 0} (m : A → Meaning (Bool × A)) → ((x : A) → Backs (m x)) → (n : ℕ) (x : A) → Backs (turns m n x)
backs-turns m h zero x z s = record { back = omega arith; left = omega arith }
backs-turns m h (suc n) x z s =
    let o = m x z s in
    backs-if s (o.value.0 && nat_lt 0 o.taken) _ (as_last o)
    (backs-joined s o (turns m n o.value.1 (moved o.taken z) o.state) (h x z s) (backs-turns m h n o.value.1 (moved o.taken z) o.state))
    (record { back = (h x z s).back; left = (h x z s).left })

if-le : (b : Bool) (n : ℕ) → (if b then n else 0) ≤ n
if-le true n = omega arith
if-le false n = omega arith

pub count-le : (text : List ℕ) → count_empty text ≤ 1
count-le text = grind arith

pub after_node-le : (b : Bool) (text : List ℕ) (s : Point) → (after_node b text s).empties ≤ 1
after_node-le true text s = count-le text
after_node-le false text s = omega arith

-- ---- what becomes of several nodes

on_first-long : (f : Tree → Tree) (ts : List Tree) → length (on_first f ts) ≡ length ts
on_first-long f ts = grind arith

pub changed-long : (change : NodeChange) (ts : List Tree) → length (first_changed change ts) ≡ length ts
changed-long stays ts = refl
changed-long (turns_wrong message) ts = on_first-long _ ts
changed-long (is_not thing) ts = on_first-long _ ts
changed-long (renamed kind) ts = on_first-long _ ts
changed-long unparened ts = on_first-long _ ts

-- after what several nodes became there stand no more empty errors than before it, or than one where a node was given
abbrev pub Counts : Shape → List Tree → Point → Type 0
Counts shape ts s = ((after_shape shape ts s).empties + length ts ≤ s.empties + length (shaped shape ts)) ⊎ (((after_shape shape ts s).empties ≤ 1) × (0 < length (shaped shape ts)))

change-counts : (b c : Bool) (text : List ℕ) (s : Point) → ((if b then s else after_node c text s).empties + 1 ≤ s.empties + 1) ⊎ (((if b then s else after_node c text s).empties ≤ 1) × (0 < 1))
change-counts true c text s = inl (omega arith)
change-counts false c text s = inr (after_node-le c text s, omega arith)

one-long : (change : NodeChange) (t : Tree) → length (first_changed change (t ∷ [])) ≡ 1
one-long change t = changed-long change (t ∷ [])

pub shape-counts : (shape : Shape) (ts : List Tree) (s : Point) → Counts shape ts s
shape-counts shape ts s = grind (arith, changed-long, change-counts, one-long, count-le)

pub tidy-reshaped : {A : Type 0} (s : Point) (shape : Shape) (n : ℕ) (o : Outcome A) → Tidy s o → Tidy s (reshaped shape n o)
tidy-reshaped s shape n o h = grind (arith, length-append, length-take, length-drop, shape-counts)

tidy-grown : {A : Type 0} (s : Point) (n : ℕ) (shape : Option Shape) (o : Outcome A) → Tidy s o → Tidy s (grown n shape o)
tidy-grown s n None o h = h
tidy-grown s n (Some shape) o h = tidy-reshaped s shape n o h

pub tidy-grew : {A : Type 0} (s : Point) (n : ℕ) (o : Outcome A) (p : Outcome (Option Shape × A)) → Tidy s o → Tidy o.state p → Tidy s (grew n o p)
tidy-grew s n o p h k = let t = backs-joined s o p h k in tidy-grown s n p.value.0 (answered p.value.1 (joined o p)) (record { back = t.back; left = t.left })

tidy-growths : {A : Type 0} (m : A → Meaning (Option Shape × A)) → ((x : A) → Backs (m x)) → (s : Point) (n k : ℕ) (o : Outcome A) (z : Place) → Tidy s o → Tidy s (growths m n k o z)
tidy-growths m b s n zero o z h = h
tidy-growths m b s n (suc k) o z h =
    let p = m o.value (moved o.taken z) o.state in
    let t = tidy-grew s n o p h (b o.value (moved o.taken z) o.state) in
    backs-if s (is_more p.value.0 && nat_lt 0 p.taken) _ _ (tidy-growths m b s n k (grew n o p) z t) t

pub tidy-nestings : {A : Type 0} (f : A → Shape) (begin : Begin) (m : A → Meaning (Bool × A)) → ((x : A) → Backs (m x)) → (n : ℕ) (x : A) → Backs (nestings f begin m n x)
tidy-nestings f begin m h zero x z s = record { back = omega arith; left = omega arith }
tidy-nestings f begin m h (suc n) x z s =
    let o = m x z s in
    let p = nestings f begin m n o.value.1 (moved o.taken z) o.state in
    let b = o.value.0 && nat_lt 0 o.taken in
    let q = if b then joined o p else as_last o in
    tidy-reshaped s (f q.value) (before begin s) q
    (backs-if s b (joined o p) (as_last o) (backs-joined s o p (h x z s) (tidy-nestings f begin m h n o.value.1 (moved o.taken z) o.state)) (record { back = (h x z s).back; left = (h x z s).left }))

pub left-empties : (outer : _) (s : Point) → (left outer s).empties ≡ s.empties
left-empties outer s = on_both (λ (t : Point). t.empties ≡ s.empties) (same_mode s.reading.mode outer.mode) _ _ (omega arith) (omega arith)

flushed-le : (h : Hand) (s : Point) → (flushed_state h s).empties ≤ s.empties
flushed-le h s = elim h.trivia as (λ ts. (elim ts as (λ _. Point) [ [] ↦ s | u ∷ us ↦ after_node false [] s ]).empties ≤ s.empties) [ [] ↦ omega arith | u ∷ us ↦ omega arith ]

module _ (l : Level) where
  backs-gave : (z : Place) (s : Point) (h : Hand) (trims : Bool) (len : ℕ) (node : Tree) (asks : _) → Tidy s (gave h trims len node asks s)
  backs-gave z s h trims len node asks = grind (arith, if-le, length-one, after_node-le)

  backs-done : {A : Type 0} (o : Op A) → Backs (done l o)
  backs-done hand z s = record { back = omega arith; left = omega arith }
  backs-done (so way) z s = record { back = omega arith; left = omega arith }
  backs-done further z s = record { back = omega arith; left = omega arith }
  backs-done column z s = record { back = omega arith; left = omega arith }
  backs-done erred z s = record { back = omega arith; left = omega arith }
  backs-done (takes trims making) z s = let h = hand_of l z s in backs-gave z s h trims h.len (taken_node l.classes making h z) (hand_asks_of l z s)
  backs-done (takes_so way making) z s = search (rules, backs-gave)
  backs-done flushes z s = let f = flushed-le (hand_of l z s) s in record { back = omega arith; left = omega arith }
  backs-done (complains message) z s = record { back = omega arith; left = omega arith }
  backs-done (advises hint) z s = record { back = omega arith; left = omega arith }
  backs-done (marks mark) z s = record { back = omega arith; left = omega arith }
  backs-done is_deepest z s = record { back = omega arith; left = omega arith }

  module _ (d : (c : Call) → Backs (l.deeper c)) (e : (b : Block) → Backs (l.blocks b)) where
    backs-bounded : (b : Block) → Backs (bounded b (l.blocks b))
    backs-bounded b z s = let k = e b z (record s { known = None }) in record { back = k.back; left = k.left }

    pub backs-run : {A : Type 0} (p : Parser A) → Backs (run l p)
    unfolding run repeated growing nesting
    backs-run (gives a) z s = record { back = omega arith; left = omega arith }
    backs-run (does o) z s = backs-done o z s
    backs-run (next p f) z s = let o = run l p z s in backs-joined s o (run l (f o.value) (moved o.taken z) o.state) (backs-run p z s) (backs-run (f o.value) (moved o.taken z) o.state)
    backs-run (pick b p q) z s = backs-if s b (run l p z s) (run l q z s) (backs-run p z s) (backs-run q z s)
    backs-run (repeat p x) z s = backs-turns (λ y. run l (p y)) (λ y. backs-run (p y)) (suc (bound z s)) x z s
    backs-run (wraps f begin p) z s =
        let o = run l p z s in
        let t = tidy-reshaped s (f o.value) (before begin s) o (backs-run p z s) in
        record { back = t.back; left = t.left }
    backs-run (grows begin p f) z s = tidy-growths (λ y. run l (f y)) (λ y. backs-run (f y)) s (before begin s) (suc (bound z s)) (run l p z s) z (backs-run p z s)
    backs-run (nests f begin p x) z s = tidy-nestings f begin (λ y. run l (p y)) (λ y. backs-run (p y)) (suc (bound z s)) x z s
    backs-run (scoped f p) z s =
        let o = run l p z (entered (f s.reading) s) in
        let b = backs-run p z (entered (f s.reading) s) in
        grind arith
    backs-run (either p is_wrong q) z s =
        let o = run l p z s in
        let k = backs-run q z s in
        backs-if s (is_wrong o.value) (given_up o (run l q z s)) o (record { back = k.back; left = k.left }) (backs-run p z s)
    backs-run (calls c) z s = let b = d c z s in record { back = b.back; left = b.left }
    backs-run (block b) z s = search (rules, backs-if, backs-joined, backs-done, backs-bounded)
