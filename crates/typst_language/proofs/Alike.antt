-- The law of depth, for whatever the language can say.
use Rattle.typst_language.proofs.Cited.{◌≡◌, ℕ, zero, suc, Bool, false, ◌&&◌, ◌||◌, if◌then◌else◌, nat_lt, refl, ap, sym, ◌∙◌, subst, Option, arith, rules, Place, moved, CharClasses, Block, Point, Op, Begin, Parser, hand, so, further, column, erred, takes, takes_so, flushes, complains, advises, marks, is_deepest, gives, does, next, pick, repeat, wraps, grows, nests, scoped, either, calls, block, Outcome, Meaning, Level, joined, answered, followed, turns, as_last, bound, repeated, before, wrapped, grown, is_more, growths, growing, nestings, nesting, deeper_by_one, given_up, chosen, entered, left_to, plain, no_guess, done, run, Alike, Call, Answer, Shape}
use Rattle.typst_language.proofs.Within.{grew, nest}

pub or-first : (a b : Bool) → (a || b) ≡ false → a ≡ false
or-first a b h = grind arith

pub or-second : (a b : Bool) → (a || b) ≡ false → b ≡ false
or-second a b h = grind arith

alike-followed : {A B : Type 0} (m n : Meaning B) (f g : B → Meaning A) → Alike m n → ((b : B) → Alike (f b) (g b))
    → (z : Place) (s : Point) → (followed (m z s) f z).met ≡ false → (followed (n z s) g z).met ≡ false → followed (m z s) f z ≡ followed (n z s) g z
alike-followed m n f g first rest z s h k = grind arith

both-alike : {A : Type 0} (b : Bool) (x y u v : Outcome A) → (if b then x else u).met ≡ false → (if b then y else v).met ≡ false
    → (x.met ≡ false → y.met ≡ false → x ≡ y) → (u.met ≡ false → v.met ≡ false → u ≡ v) → (if b then x else u) ≡ (if b then y else v)
both-alike b x y u v h k f g = grind arith

if-alike : {A : Type 0} (b : Bool) (x y u : Outcome A) → (if b then x else u).met ≡ false → (if b then y else u).met ≡ false
    → (x.met ≡ false → y.met ≡ false → x ≡ y) → (if b then x else u) ≡ (if b then y else u)
if-alike b x y u h k f = grind arith

first-met : {A : Type 0} (b : Bool) (x u : Outcome A) (m : Bool) → (x.met ≡ false → m ≡ false) → (u.met ≡ false → m ≡ false) → (if b then x else u).met ≡ false → m ≡ false
first-met b x u m f g h = grind arith

alike-turns : {A : Type 0} (m n : A → Meaning (Bool × A)) → ((x : A) → Alike (m x) (n x)) → (k : ℕ) (x : A) → Alike (turns m k x) (turns n k x)
alike-turns m n f zero x z s h i = refl
alike-turns m n f (suc k) x z s h i =
    let o = n x z s in
    let u = m x z s in
    let b = o.value.0 && nat_lt 0 o.taken in
    let e = f x z s (first-met (u.value.0 && nat_lt 0 u.taken) _ _ u.met (or-first u.met _) (λ l. l) h) (first-met b _ _ o.met (or-first o.met _) (λ l. l) i) in
    let h2 = subst (λ u. (if u.value.0 && nat_lt 0 u.taken then followed u (λ v. turns m k v.1) z else as_last u).met ≡ false) e h in
    rw e (if-alike b _ _ _ h2 i (λ l j. ap (joined o) (alike-turns m n f k o.value.1 (moved o.taken z) o.state (or-second o.met _ l) (or-second o.met _ j))))

chosen-met : {A : Type 0} (b : Bool) (o x : Outcome A) → (if b then given_up o x else o).met ≡ false → o.met ≡ false
chosen-met b o x h = grind arith

chosen-alike : {A : Type 0} (b : Bool) (o x y : Outcome A) → (if b then given_up o x else o).met ≡ false → (if b then given_up o y else o).met ≡ false
    → (x.met ≡ false → y.met ≡ false → x ≡ y) → (if b then given_up o x else o) ≡ (if b then given_up o y else o)
chosen-alike b o x y h k f = grind arith

-- what grows meets the limit where what it began with does
grown-met : {A : Type 0} (n : ℕ) (shape : Option Shape) (o : Outcome A) → (grown n shape o).met ≡ o.met
grown-met n shape o = grind arith

grew-met : {A : Type 0} (n : ℕ) (o : Outcome A) (p : Outcome (Option Shape × A)) → (grew n o p).met ≡ false → (o.met || p.met) ≡ false
grew-met n o p h = sym (grown-met n p.value.0 (answered p.value.1 (joined o p))) ∙ h

growths-met : {A : Type 0} (m : A → Meaning (Option Shape × A)) (n k : ℕ) (o : Outcome A) (z : Place) → (growths m n k o z).met ≡ false → o.met ≡ false
growths-met m n zero o z h = h
growths-met m n (suc k) o z h =
    let p = m o.value (moved o.taken z) o.state in
    first-met (is_more p.value.0 && nat_lt 0 p.taken) (growths m n k (grew n o p) z) (grew n o p) o.met
    (λ l. or-first o.met p.met (grew-met n o p (growths-met m n k (grew n o p) z l))) (λ l. or-first o.met p.met (grew-met n o p l)) h

turn-met : {A : Type 0} (m : A → Meaning (Option Shape × A)) (n k : ℕ) (o : Outcome A) (z : Place) (p : Outcome (Option Shape × A))
    → (if is_more p.value.0 && nat_lt 0 p.taken then growths m n k (grew n o p) z else grew n o p).met ≡ false → p.met ≡ false
turn-met m n k o z p h = search (rules, first-met, or-second, grew-met, growths-met)

alike-growths : {A : Type 0} (m n : A → Meaning (Option Shape × A)) → ((x : A) → Alike (m x) (n x)) → (b k : ℕ) (o : Outcome A) (z : Place)
    → (growths m b k o z).met ≡ false → (growths n b k o z).met ≡ false → growths m b k o z ≡ growths n b k o z
alike-growths m n f b zero o z h i = refl
alike-growths m n f b (suc k) o z h i =
    let p = m o.value (moved o.taken z) o.state in
    let q = n o.value (moved o.taken z) o.state in
    let e = f o.value (moved o.taken z) o.state (turn-met m b k o z p h) (turn-met n b k o z q i) in
    let h2 = subst (λ u. (if is_more u.value.0 && nat_lt 0 u.taken then growths m b k (grew b o u) z else grew b o u).met ≡ false) e h in
    rw e (if-alike (is_more q.value.0 && nat_lt 0 q.taken) _ _ (grew b o q) h2 i (λ l j. alike-growths m n f b k (grew b o q) z l j))

alike-growing : {A : Type 0} (m n : A → Meaning (Option Shape × A)) → ((x : A) → Alike (m x) (n x)) → (b k : ℕ) (o u : Outcome A) (z : Place)
    → (o.met ≡ false → u.met ≡ false → o ≡ u) → (growths m b k o z).met ≡ false → (growths n b k u z).met ≡ false → growths m b k o z ≡ growths n b k u z
alike-growing m n f b k o u z first h i = grind (arith, growths-met, alike-growths)

alike-nestings : {A : Type 0} (f : A → Shape) (begin : Begin) (m n : A → Meaning (Bool × A)) → ((x : A) → Alike (m x) (n x)) → (k : ℕ) (x : A) → Alike (nestings f begin m k x) (nestings f begin n k x)
alike-nestings f begin m n g zero x z s h i = refl
alike-nestings f begin m n g (suc k) x z s h i =
    let o = n x z s in
    let u = m x z s in
    let b = o.value.0 && nat_lt 0 o.taken in
    let e = g x z s (first-met (u.value.0 && nat_lt 0 u.taken) _ (as_last u) u.met (or-first u.met _) (λ l. l) h) (first-met b _ (as_last o) o.met (or-first o.met _) (λ l. l) i) in
    let h2 = subst (λ u. (if u.value.0 && nat_lt 0 u.taken then followed u (λ v. nestings f begin m k v.1) z else as_last u).met ≡ false) e h in
    rw e (ap (nest f (before begin s)) (if-alike b _ _ (as_last o) h2 i (λ l j. ap (joined o) (alike-nestings f begin m n g k o.value.1 (moved o.taken z) o.state (or-second o.met _ l) (or-second o.met _ j)))))

-- two levels that differ in how many are left
module _ (k : CharClasses) (i j : ℕ) (d e : (c : Call) → Meaning (Answer c)) (has : Block → Bool) (a b : Block → Meaning (Unit {0})) where
  abbrev one : Level
  one = record { classes = k; levels = i; deeper = d; has = has; blocks = a; guess = no_guess }

  abbrev other : Level
  other = record { classes = k; levels = j; deeper = e; has = has; blocks = b; guess = no_guess }

  alike-done : {A : Type 0} (o : Op A) → Alike (done one o) (done other o)
  alike-done hand z s h g = refl
  alike-done (so way) z s h g = refl
  alike-done further z s h g = refl
  alike-done column z s h g = refl
  alike-done erred z s h g = refl
  alike-done (takes trims making) z s h g = refl
  alike-done (takes_so way making) z s h g = refl
  alike-done flushes z s h g = refl
  alike-done (complains message) z s h g = refl
  alike-done (advises hint) z s h g = refl
  alike-done (marks mark) z s h g = refl
  alike-done is_deepest z s h g = ap (λ t. record (plain t s) { met = t }) (h ∙ sym g)

  module _ (f : (c : Call) → Alike (d c) (e c)) (g : (x : Block) → Alike (a x) (b x)) where
    -- the law of depth
    pub alike-run : {A : Type 0} (p : Parser A) → Alike (run one p) (run other p)
    unfolding run repeated growing nesting
    alike-run (gives x) z s h i = refl
    alike-run (does o) z s h i = alike-done o z s h i
    alike-run (next p q) z s h i = alike-followed (run one p) (run other p) (λ x. run one (q x)) (λ x. run other (q x)) (alike-run p) (λ x. alike-run (q x)) z s h i
    alike-run (pick t p q) z s h i = both-alike t _ _ _ _ h i (alike-run p z s) (alike-run q z s)
    alike-run (repeat p x) z s h i = alike-turns (λ y. run one (p y)) (λ y. run other (p y)) (λ y. alike-run (p y)) (suc (bound z s)) x z s h i
    alike-run (wraps w begin p) z s h i = ap (wrapped w (before begin s)) (alike-run p z s h i)
    alike-run (grows begin p q) z s h i =
        alike-growing (λ y. run one (q y)) (λ y. run other (q y)) (λ y. alike-run (q y)) (before begin s) (suc (bound z s)) (run one p z s) (run other p z s) z (alike-run p z s) h i
    alike-run (nests w begin p x) z s h i = alike-nestings w begin (λ y. run one (p y)) (λ y. run other (p y)) (λ y. alike-run (p y)) (suc (bound z s)) x z s h i
    alike-run (scoped w p) z s h i = ap (left_to s.reading) (alike-run p z (entered (w s.reading) s) h i)
    alike-run (either p is_wrong q) z s h i =
        let o = run other p z s in
        let u = run one p z s in
        let first = alike-run p z s (chosen-met (is_wrong u.value) u (run one q z s) h) (chosen-met (is_wrong o.value) o (run other q z s) i) in
        let h2 = subst (λ u. (chosen is_wrong u (run one q z s)).met ≡ false) first h in
        rw first (chosen-alike (is_wrong o.value) o (run one q z s) (run other q z s) h2 i (alike-run q z s))
    alike-run (calls c) z s h i = ap deeper_by_one (f c z s h i)
    alike-run (block x) z s h i = grind arith
