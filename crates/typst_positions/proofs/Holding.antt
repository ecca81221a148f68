-- The line that holds a byte.
use Rattle.typst_positions.proofs.Cited.{◌≡◌, ℕ, zero, suc, ◌+◌, ◌-◌, ◌<◌, ◌≤◌, Bool, true, false, cond, List, [], ◌∷◌, ◌++◌, length, get_or, count_by, refl, sym, ap, ◌∙◌, arith, add-one, append-nil, ◌⊎◌, line_starts, starts_between, starts_line}
use Rattle.std.proofs.lemmas.List.Recursion.{is_count_by}
use Rattle.std.specs.List.Sorted.{IsNonDecreasingBy, IsPartitionPoint}
use Rattle.typst_positions.proofs.Tables.{between-one, between-split, picked}

-- ---- the last byte up to one where a line starts

abbrev pub last_start : List ℕ → ℕ → ℕ
last_start text zero = 0
last_start text (suc b) = cond (starts_line text (suc b)) (suc b) (last_start text b)

cond-le : (t : Bool) (a b : ℕ) → a ≤ b → cond t (suc b) a ≤ suc b
cond-le t a b h = grind arith

pub last-le : (text : List ℕ) (b : ℕ) → last_start text b ≤ b
last-le text zero = omega arith
last-le text (suc b) = cond-le (starts_line text (suc b)) (last_start text b) b (last-le text b)

later : (text : List ℕ) (a b k : ℕ) → (k ≡ suc b) ⊎ ((k < suc b) ⊎ (suc b < k)) → starts_line text (suc b) ≡ false → ((j : ℕ) → a < j → j ≤ b → starts_line text j ≡ false) → a < k → k ≤ suc b → starts_line text k ≡ false
later text a b k h e g lo hi = grind arith

cond-after : (text : List ℕ) (t : Bool) (a b k : ℕ) → starts_line text (suc b) ≡ t → ((j : ℕ) → a < j → j ≤ b → starts_line text j ≡ false) → cond t (suc b) a < k → k ≤ suc b → starts_line text k ≡ false
cond-after text t a b k e h lo hi = grind arith

pub last-after : (text : List ℕ) (b k : ℕ) → last_start text b < k → k ≤ b → starts_line text k ≡ false
last-after text zero k lo hi = absurd (omega arith)
last-after text (suc b) k lo hi = cond-after text (starts_line text (suc b)) (last_start text b) b k refl (λ j l h. last-after text b j l h) lo hi

-- the starts up to a byte are some, and then that one
pub record EndsWith (xs : List ℕ) (x : ℕ) : Type 0 where
  pub before : List ℕ
  pub parts : xs ≡ before ++ x ∷ []

ends-more : (xs ys : List ℕ) (t : Bool) (a b : ℕ) → EndsWith xs a → ys ≡ xs ++ cond t (b ∷ []) [] → EndsWith ys (cond t b a)
ends-more xs ys t a b h e = grind (arith, append-nil)

pub ends-last : (text : List ℕ) (b : ℕ) → EndsWith (starts_between text 0 b) (last_start text b)
ends-last text zero = record { before = []; parts = between-one text 0 }
ends-last text (suc b) =
    ends-more (starts_between text 0 b) (starts_between text 0 (suc b)) (starts_line text (suc b)) (last_start text b) (suc b) (ends-last text b)
    (between-split text 0 b (suc b) (omega arith) (omega arith)
    ∙ ap (λ k. starts_between text 0 b ++ starts_between text k (suc b)) (add-one b)
    ∙ ap (λ l. starts_between text 0 b ++ l) (between-one text (suc b)))

-- ---- how many starts pass a test

abbrev pub passing : (ℕ → Bool) → List ℕ → ℕ
passing p [] = 0
passing p (x ∷ xs) = cond (p x) (1 + passing p xs) (passing p xs)

pub passing-is : (p : ℕ → Bool) (xs : List ℕ) → passing p xs ≡ count_by p xs
passing-is p xs = is_count_by (passing p) p refl (λ x xs. refl) xs

passing-point : (p : ℕ → Bool) (xs : List ℕ) (i : ℕ) → i ≤ length xs → IsPartitionPoint (λ y. p y ≡ true) (λ y. p y ≡ false) xs i → passing p xs ≡ i
passing-point p [] i le h = omega arith
passing-point p (x ∷ xs) zero le h =
    let here : p x ≡ false = h.1 0 x (omega arith) (omega arith) in
    rw here (passing-point p xs zero (omega arith) (λ k d lo hi. absurd (omega arith), λ k d lo hi. h.1 (suc k) d (omega arith) (omega arith)))
passing-point p (x ∷ xs) (suc i) le h =
    let here : p x ≡ true = h.0 0 x (omega arith) (omega arith) in
    grind (arith, passing-point p xs i (omega arith) (λ k d lo hi. h.0 (suc k) d (omega arith) (omega arith), λ k d lo hi. h.1 (suc k) d (omega arith) (omega arith)))

-- where those that pass come first, there are as many as the place where they end
pub count-point : (p : ℕ → Bool) (xs : List ℕ) (i : ℕ) → i ≤ length xs → IsPartitionPoint (λ y. p y ≡ true) (λ y. p y ≡ false) xs i → count_by p xs ≡ i
count-point p xs i le h = sym (passing-is p xs) ∙ passing-point p xs i le h

cond-passing : (q : ℕ → Bool) (t : Bool) (x : ℕ) (xs : List ℕ) (n : ℕ) → passing q xs ≡ n → (t ≡ true → q x ≡ false) → n ≡ 0 → passing q (cond t (x ∷ xs) xs) ≡ 0
cond-passing q t x xs n e h z = grind arith

picked-none-pass : (p q : ℕ → Bool) (n a : ℕ) → ((k : ℕ) → a ≤ k → k < a + n → q k ≡ false) → passing q (picked p a n) ≡ 0
picked-none-pass p q zero a h = refl
picked-none-pass p q (suc n) a h =
    cond-passing q (p a) a (picked p (a + 1) n) 0 (picked-none-pass p q n (a + 1) (λ k lo hi. h k (omega arith) (omega arith))) (λ _. h a (omega arith) (omega arith)) refl

cond-all : (q : ℕ → Bool) (t : Bool) (x : ℕ) (xs : List ℕ) → passing q xs ≡ length xs → q x ≡ true → passing q (cond t (x ∷ xs) xs) ≡ length (cond t (x ∷ xs) xs)
cond-all q t x xs e h = grind arith

picked-all-pass : (p q : ℕ → Bool) (n a : ℕ) → ((k : ℕ) → a ≤ k → k < a + n → q k ≡ true) → passing q (picked p a n) ≡ length (picked p a n)
picked-all-pass p q zero a h = refl
picked-all-pass p q (suc n) a h =
    cond-all q (p a) a (picked p (a + 1) n) (picked-all-pass p q n (a + 1) (λ k lo hi. h k (omega arith) (omega arith))) (h a (omega arith) (omega arith))

cond-plus : (t : Bool) (a b c : ℕ) → a ≡ b + c → cond t (1 + a) a ≡ cond t (1 + b) b + c
cond-plus t a b c e = grind arith

passing-append : (p : ℕ → Bool) (xs ys : List ℕ) → passing p (xs ++ ys) ≡ passing p xs + passing p ys
passing-append p [] ys = omega arith
passing-append p (x ∷ xs) ys = cond-plus (p x) _ _ _ (passing-append p xs ys)

-- those that pass are the starts up to a byte, where the test asks for that
pub count-between : (text : List ℕ) (q : ℕ → Bool) (a b c : ℕ) → a ≤ b + 1 → b ≤ c → ((k : ℕ) → k ≤ b → q k ≡ true) → ((k : ℕ) → b < k → k ≤ c → q k ≡ false) → count_by q (starts_between text a c) ≡ length (starts_between text a b)
unfolding starts_between
count-between text q a b c lo hi pass fail =
    sym (passing-is q (starts_between text a c))
    ∙ ap (passing q) (between-split text a b c lo hi)
    ∙ passing-append q (starts_between text a b) (starts_between text (b + 1) c)
    ∙ ap (λ n. n + passing q (starts_between text (b + 1) c)) (picked-all-pass (starts_line text) q (b + 1 - a) a (λ k l h. pass k (omega arith)))
    ∙ ap (λ n. length (starts_between text a b) + n) (picked-none-pass (starts_line text) q (c + 1 - (b + 1)) (b + 1) (λ k l h. fail k (omega arith) (omega arith)))
    ∙ omega arith

-- ---- the starts are in order

abbrev rising : ℕ → List ℕ → Type 0
rising low [] = Unit {0}
rising low (x ∷ xs) = (low ≤ x) × rising x xs

rising-lower : (low high : ℕ) (xs : List ℕ) → low ≤ high → rising high xs → rising low xs
rising-lower low high [] le r = tt
rising-lower low high (x ∷ xs) le r = (omega (arith, le, r.0), r.1)

cond-rising : (t : Bool) (x : ℕ) (xs : List ℕ) → rising (x + 1) xs → rising x (cond t (x ∷ xs) xs)
cond-rising t x xs r = grind (arith, rising-lower)

picked-rising : (p : ℕ → Bool) (n a : ℕ) → rising a (picked p a n)
picked-rising p zero a = tt
picked-rising p (suc n) a = cond-rising (p a) a (picked p (a + 1) n) (picked-rising p n (a + 1))

rising-le : (low : ℕ) (xs : List ℕ) (j : ℕ) (d : ℕ) → rising low xs → j < length xs → low ≤ get_or xs j d
rising-le low [] j d r lt = absurd (omega arith)
rising-le low (x ∷ xs) zero d r lt = r.0
rising-le low (x ∷ xs) (suc j) d r lt = omega (arith, r.0, rising-le x xs j d r.1 (omega arith))

ordered : (low : ℕ) (xs : List ℕ) → rising low xs → IsNonDecreasingBy (λ (x : ℕ). x) xs
ordered low [] r i j d le lt = absurd (omega arith)
ordered low (x ∷ xs) r zero zero d le lt = omega arith
ordered low (x ∷ xs) r zero (suc j) d le lt = rising-le x xs j d r.1 (omega arith)
ordered low (x ∷ xs) r (suc i) zero d le lt = absurd (omega arith)
ordered low (x ∷ xs) r (suc i) (suc j) d le lt = ordered x xs r.1 i j d (omega arith) (omega arith)

pub starts-ordered : (text : List ℕ) → IsNonDecreasingBy (λ (x : ℕ). x) (line_starts text)
unfolding line_starts starts_between
starts-ordered text = ordered 0 _ (picked-rising (starts_line text) (length text + 1 - 0) 0)
