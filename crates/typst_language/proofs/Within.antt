-- No more is taken than there is, and no more turns are made than there are characters.
use Rattle.typst_language.proofs.Cited.{Some, ◌≡◌, ℕ, zero, suc, ◌+◌, ◌<◌, ◌≤◌, Bool, true, false, ◌&&◌, if◌then◌else◌, nat_lt, length, refl, ap, arith, List, None, Option, max, ltb-true, SyntaxMode, Place, moved, CharClasses, Block, Call, Trivia, Point, gap_of, Shape, after_node, after_shape, Reading, Reader, Token, Memory, Ahead, len_at, len_by, at_trivia, ahead_by, ahead, hand_at, Op, Begin, Parser, hand, so, further, column, erred, takes, takes_so, flushes, complains, advises, marks, is_deepest, gives, does, next, pick, repeat, wraps, grows, nests, scoped, either, calls, block, Outcome, Meaning, Level, plain, joined, answered, followed, turns, as_last, bound, repeated, before, inside, reshaped, grown, is_more, growths, growing, nestings, nesting, given_up, bounded, entered, left, reader_so, done, run, Within}
pub use Rattle.typst_lines.proofs.Bools.{and-second, on as on_both}
use Rattle.typst_lexer.specs.Tree.{Tree}
use Rattle.typst_language.proofs.Places.{ahead-left, moved-sum}

pub on_if : {A : Type 0} (P : A → Type 0) (b : Bool) (x y : A) → (b ≡ true → P x) → (b ≡ false → P y) → P (if b then x else y)
on_if P true x y p q = p refl
on_if P false x y p q = q refl

abbrev Short : Place → Ahead → Type 0
Short z a = a.gap + a.len ≤ length z.ahead

ahead-short : (k : CharClasses) (m : SyntaxMode) (n : ℕ) (z : Place) → Short z (ahead_by k m n z)
ahead-short k m zero z = omega arith
ahead-short k m (suc n) z =
    let l = len_at k m z in
    let rest = ahead-short k m n (moved l z) in
    let left = ahead-left l z in
    on_both (Short z) (at_trivia k m z) _ _ (omega arith) (omega arith)

-- ---- no more is taken than there is

-- a given number of characters were taken, after which so much is known
abbrev pub Room : Place → ℕ → ℕ → ℕ → Type 0
Room z known taken gap = taken + max gap (length (moved taken z).ahead) ≤ max known (length z.ahead)

-- the token at hand, or another one that begins there, ends within the text
record Fits (z : Place) (known gap : ℕ) (len : ℕ) : Type 0 where
  taken : Room z known (gap + len) 0
  flushed : Room z known gap 0
  kept : Room z known 0 gap

fits-none : (z : Place) (gap len : ℕ) → gap + len ≤ length z.ahead → Fits z 0 gap len
fits-none z gap len h = grind (arith, ahead-left)

fits-known : (z : Place) (gap len : ℕ) → len ≤ length (moved gap z).ahead → Fits z gap gap len
fits-known z gap len h = grind (arith, ahead-left)

hand-fits : (k : CharClasses) (held : Reading) (known : Option Trivia) (z : Place) → Fits z (gap_of known) (hand_at k held known z).gap (hand_at k held known z).len
unfolding hand_at ahead
hand-fits k held None z = fits-none z _ _ (ahead-short k held.mode (length z.ahead) z)
hand-fits k held (Some t) z = fits-known z t.gap (len_at k held.mode (moved t.gap z)) (omega arith)

-- the trivia at hand
trivia-short : (k : CharClasses) (held : Reading) (known : Option Trivia) (z : Place) → (hand_at k held known z).gap ≤ max (gap_of known) (length z.ahead)
unfolding hand_at ahead
trivia-short k held known z = grind (arith, ahead-short)

so-fits : (k : CharClasses) (held : Reading) (known : Option Trivia) (z : Place) (r : Reader Memory Token) → Room z (gap_of known) ((hand_at k held known z).gap + len_by r (moved (hand_at k held known z).gap z)) 0
so-fits k held known z r = grind (arith, trivia-short, ahead-left)

-- what is known after a part of a parser
abbrev pub Enough : {A : Type 0} → Place → ℕ → Outcome A → Type 0
Enough z known o = Room z known o.taken (gap_of o.state.known)

enough-joined : {A B : Type 0} (z : Place) (known : ℕ) (o : Outcome B) (p : Outcome A) → Enough z known o → Enough (moved o.taken z) (gap_of o.state.known) p → Enough z known (joined o p)
enough-joined z known o p h k = grind (arith, moved-sum)

after_node-gap : (b : Bool) (text : List ℕ) (s : Point) → gap_of (after_node b text s).known ≡ gap_of s.known
after_node-gap true text s = refl
after_node-gap false text s = refl

after_change-gap : (b : Bool) (c : Bool) (text : List ℕ) (s : Point) → gap_of (if b then s else after_node c text s).known ≡ gap_of s.known
after_change-gap true c text s = refl
after_change-gap false c text s = after_node-gap c text s

after_shape-gap : (shape : Shape) (ts : List Tree) (s : Point) → gap_of (after_shape shape ts s).known ≡ gap_of s.known
after_shape-gap shape ts s = grind (arith, after_change-gap)

enough-reshaped : {A : Type 0} (z : Place) (known : ℕ) (shape : Shape) (n : ℕ) (o : Outcome A) → Enough z known o → Enough z known (reshaped shape n o)
enough-reshaped z known shape n o h = omega (arith, h, after_shape-gap shape (inside n o) o.state)

enough-left : {A : Type 0} (z : Place) (known : ℕ) (outer : Reading) (o : Outcome A) → Enough z known o → Room z known o.taken (gap_of (left outer o.state).known)
enough-left z known outer o h = grind arith

enough-turns : {A : Type 0} (m : A → Meaning (Bool × A)) → ((x : A) → Within (m x)) → (n : ℕ) (x : A) → Within (turns m n x)
enough-turns m h zero x z s = omega arith
enough-turns m h (suc n) x z s =
    let o = m x z s in
    on_both (Enough z (gap_of s.known)) (o.value.0 && nat_lt 0 o.taken) (followed o (λ v. turns m n v.1) z) (as_last o)
    (enough-joined z (gap_of s.known) o (turns m n o.value.1 (moved o.taken z) o.state) (h x z s) (enough-turns m h n o.value.1 (moved o.taken z) o.state)) (h x z s)

pub if-same : {A : Type 0} (b : Bool) (x y u : A) → (b ≡ true → x ≡ y) → (if b then x else u) ≡ (if b then y else u)
if-same true x y u h = h refl
if-same false x y u h = refl

-- more turns than characters are never made
pub turns-enough : {A : Type 0} (m : A → Meaning (Bool × A)) → ((x : A) → Within (m x)) → (n k : ℕ) (x : A) (z : Place) (s : Point) → bound z s < n → bound z s < k → turns m n x z s ≡ turns m k x z s
turns-enough m w zero k x z s a b = absurd (omega arith)
turns-enough m w (suc n) zero x z s a b = absurd (omega arith)
turns-enough m w (suc n) (suc k) x z s a b =
    let o = m x z s in
    if-same (o.value.0 && nat_lt 0 o.taken) _ _ _ (λ goes_on.
    let some : 0 < o.taken = ltb-true 0 o.taken (and-second o.value.0 (nat_lt 0 o.taken) goes_on) in
    let most = w x z s in
    ap (joined o) (turns-enough m w n k o.value.1 (moved o.taken z) o.state (omega arith) (omega arith)))

-- ---- what grows

-- what was given so far, and a turn
abbrev pub grew : {A : Type 0} → ℕ → Outcome A → Outcome (Option Shape × A) → Outcome A
grew n o p = grown n p.value.0 (answered p.value.1 (joined o p))

enough-grown : {A : Type 0} (z : Place) (known n : ℕ) (shape : Option Shape) (o : Outcome A) → Enough z known o → Enough z known (grown n shape o)
enough-grown z known n shape o h = grind (arith, enough-reshaped)

pub enough-grew : {A : Type 0} (z : Place) (known n : ℕ) (o : Outcome A) (p : Outcome (Option Shape × A)) → Enough z known o → Enough (moved o.taken z) (gap_of o.state.known) p → Enough z known (grew n o p)
enough-grew z known n o p h k = enough-grown z known n p.value.0 (answered p.value.1 (joined o p)) (enough-joined z known o p h k)

enough-growths : {A : Type 0} (m : A → Meaning (Option Shape × A)) → ((x : A) → Within (m x)) → (n k : ℕ) (z : Place) (known : ℕ) (o : Outcome A) → Enough z known o → Enough z known (growths m n k o z)
enough-growths m w n zero z known o h = h
enough-growths m w n (suc k) z known o h =
    let p = m o.value (moved o.taken z) o.state in
    let e = enough-grew z known n o p h (w o.value (moved o.taken z) o.state) in
    on_both (Enough z known) (is_more p.value.0 && nat_lt 0 p.taken) _ _ (enough-growths m w n k z known (grew n o p) e) e

pub grown-taken : {A : Type 0} (n : ℕ) (shape : Option Shape) (o : Outcome A) → (grown n shape o).taken ≡ o.taken
grown-taken n shape o = grind arith

-- a given number of turns are never made
pub growths-enough : {A : Type 0} (m : A → Meaning (Option Shape × A)) → ((x : A) → Within (m x)) → (n i j : ℕ) (z : Place) (known : ℕ) (o : Outcome A) → Enough z known o
    → max known (length z.ahead) < i + o.taken → max known (length z.ahead) < j + o.taken → growths m n i o z ≡ growths m n j o z
growths-enough m w n zero j z known o h a b = absurd (omega (arith, h))
growths-enough m w n (suc i) zero z known o h a b = absurd (omega (arith, h))
growths-enough m w n (suc i) (suc j) z known o h a b =
    let p = m o.value (moved o.taken z) o.state in
    let e = enough-grew z known n o p h (w o.value (moved o.taken z) o.state) in
    let t = grown-taken n p.value.0 (answered p.value.1 (joined o p)) in
    if-same (is_more p.value.0 && nat_lt 0 p.taken) _ _ _ (λ goes_on.
    let some : 0 < p.taken = ltb-true 0 p.taken (and-second (is_more p.value.0) (nat_lt 0 p.taken) goes_on) in
    growths-enough m w n i j z known (grew n o p) e (omega (arith, t)) (omega (arith, t)))

-- ---- what nests

enough-nestings : {A : Type 0} (f : A → Shape) (begin : Begin) (m : A → Meaning (Bool × A)) → ((x : A) → Within (m x)) → (n : ℕ) (x : A) → Within (nestings f begin m n x)
enough-nestings f begin m h zero x z s = omega arith
enough-nestings f begin m h (suc n) x z s =
    let o = m x z s in
    let p = nestings f begin m n o.value.1 (moved o.taken z) o.state in
    let b = o.value.0 && nat_lt 0 o.taken in
    enough-reshaped z (gap_of s.known) (f (if b then joined o p else as_last o).value) (before begin s) (if b then joined o p else as_last o)
    (on_both (Enough z (gap_of s.known)) b (joined o p) (as_last o) (enough-joined z (gap_of s.known) o p (h x z s) (enough-nestings f begin m h n o.value.1 (moved o.taken z) o.state)) (h x z s))

abbrev pub nest : {A : Type 0} → (A → Shape) → ℕ → Outcome A → Outcome A
nest f k p = reshaped (f p.value) k p

-- more turns than characters are never made
pub nestings-enough : {A : Type 0} (f : A → Shape) (begin : Begin) (m : A → Meaning (Bool × A)) → ((x : A) → Within (m x)) → (n k : ℕ) (x : A) (z : Place) (s : Point)
    → bound z s < n → bound z s < k → nestings f begin m n x z s ≡ nestings f begin m k x z s
nestings-enough f begin m w zero k x z s a b = absurd (omega arith)
nestings-enough f begin m w (suc n) zero x z s a b = absurd (omega arith)
nestings-enough f begin m w (suc n) (suc k) x z s a b =
    let o = m x z s in
    ap (nest f (before begin s)) (if-same (o.value.0 && nat_lt 0 o.taken) _ _ (as_last o) (λ goes_on.
    let some : 0 < o.taken = ltb-true 0 o.taken (and-second o.value.0 (nat_lt 0 o.taken) goes_on) in
    let most = w x z s in
    ap (joined o) (nestings-enough f begin m w n k o.value.1 (moved o.taken z) o.state (omega arith) (omega arith))))

module _ (l : Level) where
  within-done : {A : Type 0} (o : Op A) → Within (done l o)
  within-done hand z s = (hand-fits l.classes s.held s.known z).kept
  within-done (so way) z s = (hand-fits l.classes s.held s.known z).kept
  within-done further z s = (hand-fits l.classes s.held s.known z).kept
  within-done column z s = (hand-fits l.classes s.held s.known z).kept
  within-done erred z s = omega arith
  within-done (takes trims making) z s = (hand-fits l.classes s.held s.known z).taken
  within-done (takes_so way making) z s = so-fits l.classes s.held s.known z (reader_so l way)
  within-done flushes z s = (hand-fits l.classes s.held s.known z).flushed
  within-done (complains message) z s = omega arith
  within-done (advises hint) z s = omega arith
  within-done (marks mark) z s = omega arith
  within-done is_deepest z s = omega arith

  module _ (d : (c : Call) → Within (l.deeper c)) (e : (b : Block) → Within (l.blocks b)) where
    within-bounded : (b : Block) → Within (bounded b (l.blocks b))
    within-bounded b z s = omega (arith, e b z (record s { known = None }))

    pub within-run : {A : Type 0} (p : Parser A) → Within (run l p)
    unfolding run repeated growing nesting
    within-run (gives a) z s = omega arith
    within-run (does o) z s = within-done o z s
    within-run (next p f) z s = let o = run l p z s in enough-joined z (gap_of s.known) o (run l (f o.value) (moved o.taken z) o.state) (within-run p z s) (within-run (f o.value) (moved o.taken z) o.state)
    within-run (pick b p q) z s = on_both (Enough z (gap_of s.known)) b (run l p z s) (run l q z s) (within-run p z s) (within-run q z s)
    within-run (repeat p x) z s = enough-turns (λ y. run l (p y)) (λ y. within-run (p y)) (suc (bound z s)) x z s
    within-run (wraps f begin p) z s = let o = run l p z s in enough-reshaped z (gap_of s.known) (f o.value) (before begin s) o (within-run p z s)
    within-run (grows begin p f) z s = enough-growths (λ y. run l (f y)) (λ y. within-run (f y)) (before begin s) (suc (bound z s)) z (gap_of s.known) (run l p z s) (within-run p z s)
    within-run (nests f begin p x) z s = enough-nestings f begin (λ y. run l (p y)) (λ y. within-run (p y)) (suc (bound z s)) x z s
    within-run (scoped f p) z s = enough-left z (gap_of s.known) s.reading (run l p z (entered (f s.reading) s)) (within-run p z (entered (f s.reading) s))
    within-run (either p is_wrong q) z s = on_both (Enough z (gap_of s.known)) _ (given_up (run l p z s) (run l q z s)) (run l p z s) (within-run q z s) (within-run p z s)
    within-run (calls c) z s = d c z s
    within-run (block b) z s =
        let o = done l flushes z s in
        on_both (Enough z (gap_of s.known)) (l.has b) (followed o (λ _. bounded b (l.blocks b)) z) (plain tt s)
        (enough-joined z (gap_of s.known) o (bounded b (l.blocks b) (moved o.taken z) o.state) (within-done flushes z s) (within-bounded b (moved o.taken z) o.state)) (omega arith)
