-- Children with their bytes, taken from the front.
use Rattle.typst_candidates.proofs.Cited.{◌≡◌, ℕ, zero, suc, ◌+◌, ◌-◌, ◌^◌, ◌<◌, ◌≤◌, Bool, true, false, min, List, [], ◌∷◌, length, drop, get_or, refl, ap, sym, subst, ◌∙◌, arith, add-one, nat_lt, nat_le, drop_of_length-le, nat_tests, Tree, text_of, saturated, first_near, end_near, clings, leads, with_hash, around, Child, laid, begins, begun, ended, holds_at, back_past, on_past, ◌||◌, not, max}
pub use Rattle.typst_tree.proofs.SpansAside.{trees_forest}

pub laid_length : (at : ℕ) (ts : List Tree) → length (laid at ts) ≡ length ts
laid_length at [] = refl
laid_length at (t ∷ ts) = ap suc (laid_length (at + length (text_of t)) ts)

pub begins_first : (at : ℕ) (ts : List Tree) → begins at ts 0 ≡ at
begins_first at [] = refl
begins_first at (t ∷ ts) = refl

begins_suc : (at : ℕ) (ts : List Tree) (n : ℕ) (d : Tree) → n < length ts → begins at ts (suc n) ≡ begins at ts n + length (text_of (get_or ts n d))
begins_suc at [] n d h = absurd (omega arith)
begins_suc at (x ∷ ts) zero d h = begins_first (at + length (text_of x)) ts
begins_suc at (x ∷ ts) (suc n) d h = begins_suc (at + length (text_of x)) ts n d (omega arith)

pub begins_next : (at : ℕ) (ts : List Tree) (n : ℕ) (d : Tree) → n < length ts → begins at ts (n + 1) ≡ begins at ts n + length (text_of (get_or ts n d))
begins_next at ts n d h = rw add-one (begins_suc at ts n d h)

pub begins_least : (at : ℕ) (ts : List Tree) (n : ℕ) → at ≤ begins at ts n
begins_least at [] n = omega arith
begins_least at (t ∷ ts) zero = omega arith
begins_least at (t ∷ ts) (suc n) = omega (arith, begins_least (at + length (text_of t)) ts n)

-- children begin in order
pub begins_order : (at : ℕ) (ts : List Tree) (n m : ℕ) → n ≤ m → begins at ts n ≤ begins at ts m
begins_order at [] n m h = omega arith
begins_order at (t ∷ ts) zero m h = begins_least at (t ∷ ts) m
begins_order at (t ∷ ts) (suc n) zero h = absurd (omega arith)
begins_order at (t ∷ ts) (suc n) (suc m) h = begins_order (at + length (text_of t)) ts n m (omega (arith, h))

-- no child begins after the last one's end
pub begins_most : (at : ℕ) (ts : List Tree) (n : ℕ) → n ≤ length ts → begins at ts n ≤ begins at ts (length ts)
begins_most at ts zero h = omega (arith, begins_first at ts, begins_least at ts (length ts))
begins_most at [] (suc n) h = absurd (omega arith)
begins_most at (t ∷ ts) (suc n) h = begins_most (at + length (text_of t)) ts n (omega arith)

-- one child is as long as counted, where the last one's end can be counted
pub record Stepped (at : ℕ) (ts : List Tree) (n len : ℕ) : Type 0 where
  pub next : begins at ts (n + 1) ≡ begins at ts n + len
  pub fits : begins at ts (n + 1) < 2 ^ 64

pub stepped : (at : ℕ) (ts : List Tree) (n : ℕ) (d : Tree) (len : ℕ) → n < length ts → begins at ts (length ts) < 2 ^ 64 → len ≡ saturated (length (text_of (get_or ts n d))) → Stepped at ts n len
stepped at ts n d len h fits is = grind (arith, begins_next, begins_most)

-- ---- tests of one child

pub holds_here : (f : Child → Bool) (at : ℕ) (ts : List Tree) (n : ℕ) (d : Tree) → n < length ts → holds_at f (laid at ts) n ≡ f (record { start = begins at ts n; end = begins at ts n + length (text_of (get_or ts n d)); node = get_or ts n d })
holds_here f at [] n d h = absurd (omega arith)
holds_here f at (x ∷ ts) zero d h = refl
holds_here f at (x ∷ ts) (suc n) d h = holds_here f (at + length (text_of x)) ts n d (omega arith)

pub holds_at_byte : (f : Child → Bool) (at : ℕ) (ts : List Tree) (n byte : ℕ) (d : Tree) → n < length ts → byte ≡ begins at ts n → holds_at f (laid at ts) n ≡ f (record { start = byte; end = byte + length (text_of (get_or ts n d)); node = get_or ts n d })
holds_at_byte f at ts n byte d h e = holds_here f at ts n d h ∙ ap (λ (b : ℕ). f (record { start = b; end = b + length (text_of (get_or ts n d)); node = get_or ts n d })) (sym e)

pub or_right : (a b : Bool) → a ≡ false → (a || b) ≡ b
or_right a b e = rw e refl

pub holds_none : (f : Child → Bool) (at : ℕ) (ts : List Tree) (n : ℕ) → length ts ≤ n → holds_at f (laid at ts) n ≡ false
holds_none f at [] n h = refl
holds_none f at (x ∷ ts) zero h = absurd (omega arith)
holds_none f at (x ∷ ts) (suc n) h = holds_none f (at + length (text_of x)) ts n (omega arith)

-- ---- steps back and on

pub back_step : (f : ℕ → Bool) (n : ℕ) → 0 < n → f n ≡ true → back_past f n ≡ back_past f (n - 1)
back_step f n h e = grind arith

pub back_stop : (f : ℕ → Bool) (n : ℕ) → f n ≡ false → back_past f n ≡ n
back_stop f n e = grind arith

pub on_step : (f : ℕ → Bool) (all n : ℕ) → n < all → f n ≡ true → on_past f (all - n) n ≡ on_past f (all - (n + 1)) (n + 1)
on_step f all n h e = grind arith

-- ---- how many begin before a byte

begun_suc : (b at : ℕ) (ts : List Tree) (n : ℕ) → n < length ts → begins at ts n < b → begun b (laid (begins at ts n) (drop n ts)) ≡ suc (begun b (laid (begins at ts (suc n)) (drop (suc n) ts)))
begun_suc b at [] n h lt = absurd (omega arith)
begun_suc b at (x ∷ ts) zero h lt = let yes : nat_lt at b ≡ true = grind (arith, nat_tests) in rw (yes, begins_first (at + length (text_of x)) ts) refl
begun_suc b at (x ∷ ts) (suc n) h lt = begun_suc b (at + length (text_of x)) ts n (omega arith) lt

pub begun_none : (b c : ℕ) (ts : List Tree) → b ≤ c → begun b (laid c ts) ≡ 0
begun_none b c [] h = refl
begun_none b c (x ∷ ts) h = let no : nat_lt c b ≡ false = grind (arith, nat_tests) in rw no refl

-- the first n begin before a byte, and it is asked of the others
abbrev pub Begun : ℕ → ℕ → List Tree → ℕ → Type 0
Begun b at ts n = begun b (laid at ts) ≡ n + begun b (laid (begins at ts n) (drop n ts))

pub begun_first : (b at : ℕ) (ts : List Tree) → Begun b at ts 0
begun_first b at ts = let none : 0 + begun b (laid at ts) ≡ begun b (laid at ts) = omega arith in rw (begins_first at ts, none) refl

pub begun_next : (b at : ℕ) (ts : List Tree) (n : ℕ) → Begun b at ts n → n < length ts → begins at ts n < b → Begun b at ts (n + 1)
begun_next b at ts n known h lt = rw add-one (omega (arith, known, begun_suc b at ts n h lt))

pub begun_stop : (b at : ℕ) (ts : List Tree) (n : ℕ) → Begun b at ts n → b ≤ begins at ts n → begun b (laid at ts) ≡ n
begun_stop b at ts n known h = omega (arith, known, begun_none b (begins at ts n) (drop n ts) h)

pub begun_all : (b at : ℕ) (ts : List Tree) (n : ℕ) → Begun b at ts n → length ts ≤ n → begun b (laid at ts) ≡ n
begun_all b at ts n known h = grind (arith, drop_of_length-le)

-- where one begins before a byte, so do those before it
pub begun_upto : (b at : ℕ) (ts : List Tree) (n : ℕ) → n < length ts → begins at ts n < b → Begun b at ts (n + 1)
begun_upto b at ts zero h lt = begun_next b at ts 0 (begun_first b at ts) h lt
begun_upto b at ts (suc n) h lt =
    let earlier : Begun b at ts (n + 1) = begun_upto b at ts n (omega (arith, h)) (omega (arith, lt, begins_order at ts n (suc n) (omega arith))) in
    grind (arith, begun_next)

-- ---- how many end at a byte or before it

ended_suc : (b at : ℕ) (ts : List Tree) (n : ℕ) → n < length ts → begins at ts (suc n) ≤ b → ended b (laid (begins at ts n) (drop n ts)) ≡ suc (ended b (laid (begins at ts (suc n)) (drop (suc n) ts)))
ended_suc b at [] n h le = absurd (omega arith)
ended_suc b at (x ∷ ts) zero h le = grind (arith, begins_first, nat_tests)
ended_suc b at (x ∷ ts) (suc n) h le = ended_suc b (at + length (text_of x)) ts n (omega arith) le

ended_none : (b at : ℕ) (ts : List Tree) (n : ℕ) → n < length ts → b < begins at ts (suc n) → ended b (laid (begins at ts n) (drop n ts)) ≡ 0
ended_none b at [] n h lt = absurd (omega arith)
ended_none b at (x ∷ ts) zero h lt = grind (arith, begins_first, nat_tests)
ended_none b at (x ∷ ts) (suc n) h lt = ended_none b (at + length (text_of x)) ts n (omega arith) lt

-- the first n end at a byte or before it, and it is asked of the others
abbrev pub Ended : ℕ → ℕ → List Tree → ℕ → Type 0
Ended b at ts n = ended b (laid at ts) ≡ n + ended b (laid (begins at ts n) (drop n ts))

pub ended_from : (b at : ℕ) (ts : List Tree) (n : ℕ) → n ≤ length ts → (0 < n → begins at ts n ≤ b) → Ended b at ts n
ended_from b at ts zero h le = let none : 0 + ended b (laid at ts) ≡ ended b (laid at ts) = omega arith in rw (begins_first at ts, none) refl
ended_from b at [] (suc n) h le = absurd (omega arith)
ended_from b at (x ∷ ts) (suc n) h le =
    let last : begins (at + length (text_of x)) ts n ≤ b = le (omega arith) in
    let here : at + length (text_of x) ≤ b = omega (arith, last, begins_least (at + length (text_of x)) ts n) in
    let yes : nat_le (at + length (text_of x)) b ≡ true = grind (arith, nat_tests) in
    rw yes (omega (arith, ended_from b (at + length (text_of x)) ts n (omega arith) (λ _. last)))

pub ended_next : (b at : ℕ) (ts : List Tree) (n : ℕ) → Ended b at ts n → n < length ts → begins at ts (n + 1) ≤ b → Ended b at ts (n + 1)
ended_next b at ts n known h le = grind (arith, add-one, ended_suc)

pub ended_stop : (b at : ℕ) (ts : List Tree) (n : ℕ) → Ended b at ts n → n < length ts → b < begins at ts (n + 1) → ended b (laid at ts) ≡ n
ended_stop b at ts n known h lt = grind (arith, ended_none, add-one)

pub ended_all : (b at : ℕ) (ts : List Tree) (n : ℕ) → Ended b at ts n → length ts ≤ n → ended b (laid at ts) ≡ n
ended_all b at ts n known h = grind (arith, drop_of_length-le)

-- ---- the children near an edit

pub first_stop : (b at : ℕ) (ts : List Tree) (n m : ℕ) → Begun b at ts n → b ≤ begins at ts n → m ≡ n - 1 → m ≡ first_near b (laid at ts)
first_stop b at ts n m known h e = omega (arith, e, begun_stop b at ts n known h)

-- how many children begin before a byte, counted from the last one back
begun_here : (b at : ℕ) (ts : List Tree) (n : ℕ) → Begun b at ts n → (n < length ts → b ≤ begins at ts n) → begun b (laid at ts) ≡ n
begun_here b at ts n known after = grind (arith, begun_stop b at ts n known, begun_all b at ts n known)

pub back_stop_first : (b at : ℕ) (ts : List Tree) (n m : ℕ) → n ≤ length ts → (n < length ts → b ≤ begins at ts n) → 0 < n → m ≡ n - 1 → begins at ts m < b → m ≡ first_near b (laid at ts)
back_stop_first b at ts n m within after some e lt =
    let next : m + 1 ≡ n = omega (arith, some, e) in
    let known : Begun b at ts n = subst (Begun b at ts) next (begun_upto b at ts m (omega (arith, within, some, e)) lt) in
    omega (arith, e, begun_here b at ts n known after)

pub back_all_first : (b at : ℕ) (ts : List Tree) (n : ℕ) → (n < length ts → b ≤ begins at ts n) → n ≡ 0 → n ≡ first_near b (laid at ts)
back_all_first b at ts n after e = let known : Begun b at ts n = subst (Begun b at ts) (sym e) (begun_first b at ts) in grind (arith, begun_here)

pub end_stop : (b at : ℕ) (ts : List Tree) (n m : ℕ) → Ended b at ts n → n < length ts → b < begins at ts (n + 1) → m ≡ n + 1 → m ≡ end_near b (laid at ts)
end_stop b at ts n m known h lt e = omega (arith, e, ended_stop b at ts n known h lt, laid_length at ts)

pub end_all : (b at : ℕ) (ts : List Tree) (n : ℕ) → Ended b at ts n → length ts ≤ n → n ≤ length ts → n ≡ end_near b (laid at ts)
end_all b at ts n known h le = omega (arith, ended_all b at ts n known h, laid_length at ts)

-- a stretch in steps
pub around_is : (cuts : List ℕ) (at : ℕ) (ts : List Tree) (i j x back left hash from right to : ℕ)
    → back ≡ i - max x 2
    → left ≡ back_past (holds_at (λ c. clings c.node) (laid at ts)) back
    → hash ≡ with_hash (laid at ts) left
    → from ≡ back_past (holds_at (λ c. not (leads cuts c)) (laid at ts)) hash
    → right ≡ min (j + x) (length ts)
    → to ≡ on_past (holds_at (λ c. clings c.node || not (leads cuts c)) (laid at ts)) (length ts - right) right
    → record { from = from; to = to } ≡ around cuts (laid at ts) i j x
around_is cuts at ts i j x back left hash from right to b l h f r t = grind (arith, laid_length)
