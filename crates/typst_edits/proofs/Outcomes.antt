-- A block in a larger whole.
use Rattle.typst_edits.proofs.Cited.{◌≡◌, ℕ, suc, ◌+◌, ◌-◌, ◌<◌, ◌≤◌, Bool, false, ◌||◌, List, [], ◌∷◌, ◌++◌, length, map, take, length-append, append_assoc, refl, ap, sym, ◌∙◌, arith, or_assoc, map-append, lt-ltb, is_error, Head, Tree, Ask, shift, shift_one, sunk, sink_one, Point, hinted, seen, hinted_last, Outcome, less, joined, Deep, fill, Hole, plug, under, Spot, around, then_spot, after_spot, lowered, lower, hinted_error, hints_before}
use Rattle.typst_edits.specs.Hole.{top}
use Rattle.typst_edits.specs.Hole.Deep.{bare}
pub use Rattle.typst_grammar.proofs.Pieces.{shift-zero, shift-twice}

-- ---- outcomes that are the same

pub same-outcome : {A : Type 0} (v : A) (t u : ℕ) (s r : Point) (b d : ℕ) (hs js : List (List ℕ)) (ns ms : List Tree) (ls ks : List Ask) (m k : Bool) → t ≡ u → s ≡ r → b ≡ d → hs ≡ js → ns ≡ ms → ls ≡ ks → m ≡ k
    → ◌≡◌ {A = Outcome A} (record { value = v; taken = t; state = s; back = b; hints = hs; nodes = ns; asks = ls; met = m }) (record { value = v; taken = u; state = r; back = d; hints = js; nodes = ms; asks = ks; met = k })
same-outcome v t u s r b d hs js ns ms ls ks m k e f g h i j l = rw (e, f, g, h, i, j, l) refl

-- ---- lists of asks

lower-zero : (ask : Ask) → lower 0 ask ≡ ask
lower-zero ask = grind arith

pub lowered-zero : (ls : List Ask) → lowered 0 ls ≡ ls
lowered-zero [] = refl
lowered-zero (l ∷ ls) = rw (lower-zero l, lowered-zero ls) refl

sink-lower : (n : ℕ) (ask : Ask) → sink_one (lower n ask) ≡ lower (suc n) ask
sink-lower n ask = grind arith

pub sunk-lowered : (n : ℕ) (ls : List Ask) → sunk (lowered n ls) ≡ lowered (suc n) ls
sunk-lowered n [] = refl
sunk-lowered n (l ∷ ls) = rw (sink-lower n l, sunk-lowered n ls) refl

sink-shift : (n : ℕ) (ask : Ask) → sink_one (shift_one n ask) ≡ shift_one n (sink_one ask)
sink-shift n ask = grind arith

pub sunk-shift : (n : ℕ) (ls : List Ask) → sunk (shift n ls) ≡ shift n (sunk ls)
sunk-shift n [] = refl
sunk-shift n (l ∷ ls) = rw (sink-shift n l, sunk-shift n ls) refl

-- ---- the ends of lists with a hole

pub less-skip : (k : ℕ) (y : Tree) (ys : List Tree) → k ≤ length ys → less k (y ∷ ys) ≡ y ∷ less k ys
unfolding less
less-skip k y ys h = let e : length (y ∷ ys) - k ≡ suc (length ys - k) = omega arith in ap (λ j. take j (y ∷ ys)) e

pub less-plug : (k : ℕ) (left : List Tree) (y : Tree) (right : List Tree) → k ≤ length right → less k (left ++ y ∷ right) ≡ left ++ y ∷ less k right
less-plug k [] y right h = less-skip k y right h
less-plug k (l ∷ left) y right h =
    less-skip k l (left ++ y ∷ right) (omega (arith, length-append left (y ∷ right))) ∙ ap (λ r. l ∷ r) (less-plug k left y right h)

no-error : (hs : List (List ℕ)) (y : Tree) → is_error y.head.kind ≡ false → hinted_error hs y ≡ y
no-error hs y h = rw h refl

last-plug : (hs : List (List ℕ)) (left : List Tree) (y : Tree) (right : List Tree) → is_error y.head.kind ≡ false → hinted_last hs (left ++ y ∷ right) ≡ left ++ y ∷ hinted_last hs right
last-plug hs [] y [] h = ap (λ u. u ∷ []) (no-error hs y h)
last-plug hs [] y (r ∷ right) h = refl
last-plug hs (l ∷ []) y right h = ap (λ u. l ∷ u) (last-plug hs [] y right h)
last-plug hs (l ∷ m ∷ left) y right h = ap (λ u. l ∷ u) (last-plug hs (m ∷ left) y right h)

-- A hint passes by a node that is no error.
pub hinted-plug : (hs : List (List ℕ)) (left : List Tree) (y : Tree) (right : List Tree) → is_error y.head.kind ≡ false → hinted hs (left ++ y ∷ right) ≡ left ++ y ∷ hinted hs right
hinted-plug hs left y right h = grind (arith, last-plug)

-- ---- heads

pub head-fill : (d : Deep) (x : Tree) (h : Head) → x.head ≡ h → (fill d x).head ≡ top d h
head-fill bare x h e = e
head-fill (under above left d right) x h e = refl

pub seen-head : (x y : Tree) → x.head ≡ y.head → seen x ≡ seen y
seen-head x y e = rw e refl

pub seen-plug : (h : Hole) (x y : Tree) (a : Head) → x.head ≡ a → y.head ≡ a → map seen (plug h x) ≡ map seen (plug h y)
seen-plug h x y a e f = grind (arith, seen-head, head-fill, map-append)

-- ---- the whole of a larger whole

pub shift-append : (n : ℕ) (ls ks : List Ask) → shift n (ls ++ ks) ≡ shift n ls ++ shift n ks
shift-append n = map-append (shift_one n)

looks-then : (bs ls ks qs : List Ask) (m k r : ℕ) → (bs ++ (shift m ls ++ shift (m + k) ks)) ++ shift (m + (k + r)) qs ≡ bs ++ (shift m ls ++ shift (m + k) (ks ++ shift r qs))
looks-then bs ls ks qs m k r = let f : (m + k) + r ≡ m + (k + r) = omega arith in simp (append_assoc, map-append, shift-twice, f)

looks-after : (os bs ls ks : List Ask) (t m k : ℕ) → os ++ shift t (bs ++ (shift m ls ++ shift (m + k) ks)) ≡ (os ++ shift t bs) ++ (shift (t + m) ls ++ shift ((t + m) + k) ks)
looks-after os bs ls ks t m k = let f : t + (m + k) ≡ (t + m) + k = omega arith in simp (append_assoc, map-append, shift-twice, f)

pub hints-first : {A B : Type 0} (o : Outcome B) (q : Outcome A) → q.back < length o.nodes → hints_before o q ≡ o.hints
hints-first o q h = rw (lt-ltb q.back (length o.nodes) h) refl

pub then-around : {A B : Type 0} (c : Spot B) (b : Outcome (Unit {0})) (x : Tree) (q : Outcome A) → q.back ≤ length c.hole.right → is_error (fill c.hole.deep x).head.kind ≡ false
    → joined (around c b x) q ≡ around (then_spot c q) b x
then-around c b x q h solid =
    let y = fill c.hole.deep x in
    let few : q.back < length (plug c.hole x) = omega (arith, length-append c.hole.left (y ∷ c.hole.right), h) in
    let ns : hinted q.hints (less q.back (c.hole.left ++ y ∷ c.hole.right)) ++ q.nodes ≡ c.hole.left ++ y ∷ (hinted q.hints (less q.back c.hole.right) ++ q.nodes) =
    ap (λ u. hinted q.hints u ++ q.nodes) (less-plug q.back c.hole.left y c.hole.right h) ∙ ap (λ u. u ++ q.nodes) (hinted-plug q.hints c.hole.left y (less q.back c.hole.right) solid)
    ∙ append_assoc c.hole.left (y ∷ hinted q.hints (less q.back c.hole.right)) q.nodes in
    same-outcome q.value _ _ q.state q.state _ _ _ _ _ _ _ _ _ _
    (omega arith) refl (omega (arith, few)) (hints-first (around c b x) q few) ns
    (looks-then c.before (lowered c.fewer b.asks) c.after q.asks c.at b.taken c.rest)
    (or_assoc c.met_before (b.met || c.met_after) q.met ∙ ap (λ m. c.met_before || m) (or_assoc b.met c.met_after q.met))

pub after-around : {A B : Type 0} (o : Outcome B) (c : Spot A) (b : Outcome (Unit {0})) (x : Tree) → joined o (around c b x) ≡ around (after_spot o c) b x
after-around o c b x =
    same-outcome c.value _ _ c.state c.state _ _ _ _ _ _ _ _ _ _
    (omega arith) refl refl refl
    (sym (append_assoc (hinted c.hints (less c.back o.nodes)) c.hole.left (fill c.hole.deep x ∷ c.hole.right)))
    (looks-after o.asks c.before (lowered c.fewer b.asks) c.after o.taken c.at b.taken)
    (sym (or_assoc o.met c.met_before (b.met || c.met_after)))
