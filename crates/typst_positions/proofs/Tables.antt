-- The bytes between two ones where a line starts.
use Rattle.typst_positions.proofs.Cited.{◌≡◌, ℕ, zero, suc, ◌+◌, ◌-◌, ◌<◌, ◌≤◌, Bool, false, ◌==◌, cond, List, [], ◌∷◌, ◌++◌, length, map, filter, get_or, refl, ap, ◌∙◌, arith, and_left, or_from, or_parts, is_line_end, line_starts, starts_between, starts_line, range_with_len, Nowhere, Passes}

-- ---- numbers in a row that pass a test

abbrev pub picked : (ℕ → Bool) → ℕ → ℕ → List ℕ
picked p a n = filter p (range_with_len a n)

cons-append : (t : Bool) (x : ℕ) (xs ys zs : List ℕ) → xs ≡ ys ++ zs → cond t (x ∷ xs) xs ≡ cond t (x ∷ ys) ys ++ zs
cons-append t x xs ys zs e = grind arith

picked-append : (p : ℕ → Bool) (m n k a b : ℕ) → k ≡ m + n → b ≡ a + m → picked p a k ≡ picked p a m ++ picked p b n
picked-append p zero n k a b e f = grind arith
picked-append p (suc m) n zero a b e f = absurd (omega arith)
picked-append p (suc m) n (suc k) a b e f = cons-append (p a) a _ _ _ (picked-append p m n k (a + 1) b (omega arith) (omega arith))

cons-same : (s t : Bool) (x : ℕ) (xs ys : List ℕ) → s ≡ t → xs ≡ ys → cond s (x ∷ xs) xs ≡ cond t (x ∷ ys) ys
cons-same s t x xs ys e f = ap (λ b. cond b (x ∷ xs) xs) e ∙ ap (λ l. cond t (x ∷ l) l) f

picked-same : (p q : ℕ → Bool) (n a : ℕ) → ((k : ℕ) → a ≤ k → k < a + n → p k ≡ q k) → picked p a n ≡ picked q a n
picked-same p q zero a h = refl
picked-same p q (suc n) a h = cons-same (p a) (q a) a _ _ (h a (omega arith) (omega arith)) (picked-same p q n (a + 1) (λ k lo hi. h k (omega arith) (omega arith)))

cons-none : (t : Bool) (x : ℕ) (xs : List ℕ) → t ≡ false → xs ≡ [] → cond t (x ∷ xs) xs ≡ []
cons-none t x xs e f = ap (λ b. cond b (x ∷ xs) xs) e ∙ f

picked-none : (p : ℕ → Bool) (n a : ℕ) → ((k : ℕ) → a ≤ k → k < a + n → p k ≡ false) → picked p a n ≡ []
picked-none p zero a h = refl
picked-none p (suc n) a h = cons-none (p a) a _ (h a (omega arith) (omega arith)) (picked-none p n (a + 1) (λ k lo hi. h k (omega arith) (omega arith)))

cons-map : (f : ℕ → ℕ) (s t : Bool) (x y : ℕ) (xs ys : List ℕ) → s ≡ t → f x ≡ y → ys ≡ map f xs → cond t (y ∷ ys) ys ≡ map f (cond s (x ∷ xs) xs)
cons-map f s t x y xs ys e g h = grind arith

picked-moved : (p q : ℕ → Bool) (f : ℕ → ℕ) (n a b : ℕ) → ((k l : ℕ) → a ≤ k → k < a + n → l + a ≡ k + b → (p k ≡ q l) × (f k ≡ l)) → picked q b n ≡ map f (picked p a n)
picked-moved p q f zero a b h = refl
picked-moved p q f (suc n) a b h =
    let here = h a b (omega arith) (omega arith) (omega arith) in
    cons-map f (p a) (q b) a b _ _ here.0 here.1 (picked-moved p q f n (a + 1) (b + 1) (λ k l lo hi e. h k l (omega arith) (omega arith) (omega arith)))

-- ---- the starts between two bytes

pub between-split : (text : List ℕ) (a b c : ℕ) → a ≤ b + 1 → b ≤ c → starts_between text a c ≡ starts_between text a b ++ starts_between text (b + 1) c
unfolding starts_between
between-split text a b c lo hi = picked-append (starts_line text) (b + 1 - a) (c + 1 - (b + 1)) (c + 1 - a) a (b + 1) (omega arith) (omega arith)

pub between-same : (t u : List ℕ) (a b : ℕ) → ((k : ℕ) → a ≤ k → k ≤ b → starts_line t k ≡ starts_line u k) → starts_between t a b ≡ starts_between u a b
unfolding starts_between
between-same t u a b h = picked-same (starts_line t) (starts_line u) (b + 1 - a) a (λ k lo hi. h k lo (omega arith))

pub between-none : (text : List ℕ) (a b : ℕ) → ((k : ℕ) → a ≤ k → k ≤ b → starts_line text k ≡ false) → starts_between text a b ≡ []
unfolding starts_between
between-none text a b h = picked-none (starts_line text) (b + 1 - a) a (λ k lo hi. h k lo (omega arith))

pub between-one : (text : List ℕ) (a : ℕ) → starts_between text a a ≡ cond (starts_line text a) (a ∷ []) []
unfolding starts_between
between-one text a = let one : a + 1 - a ≡ 1 = omega arith in ap (picked (starts_line text) a) one

pub between-moved : (t u : List ℕ) (f : ℕ → ℕ) (a b c d : ℕ) → d + a ≡ b + c → ((k l : ℕ) → a ≤ k → k ≤ b → l + a ≡ k + c → (starts_line t k ≡ starts_line u l) × (f k ≡ l))
    → starts_between u c d ≡ map f (starts_between t a b)
unfolding starts_between
between-moved t u f a b c d e h =
    let same : d + 1 - c ≡ b + 1 - a = omega arith in
    ap (picked (starts_line u) c) same ∙ picked-moved (starts_line t) (starts_line u) f (b + 1 - a) a c (λ k l lo hi g. h k l lo (omega arith) g)

-- no line starts behind a byte that ends none
pub no-start : (text : List ℕ) (k : ℕ) → is_line_end (get_or text k 0) ≡ false → starts_line text (suc k) ≡ false
no-start text k e = let p = or_parts (get_or text k 0 == 10) (get_or text k 0 == 13) e in or_from _ _ p.0 (and_left _ _ p.1)

no-starts : (text : List ℕ) (from to k : ℕ) → Nowhere (Passes is_line_end text) from to → from + 1 ≤ k → k ≤ to → starts_line text k ≡ false
no-starts text from to k h lo hi = grind arith

pub none-left : (text : List ℕ) (from to : ℕ) → Nowhere (Passes is_line_end text) from to → starts_between text (from + 1) to ≡ []
none-left text from to none = between-none text (from + 1) to (λ k lo hi. no-starts text from to k none lo hi)

-- behind the first byte that ends a line, if one starts there, comes what starts later
pub next-start : (text : List ℕ) (from end to : ℕ) → from ≤ end → end < to → Nowhere (Passes is_line_end text) from end
    → starts_between text (from + 1) to ≡ cond (starts_line text (end + 1)) ((end + 1) ∷ []) [] ++ starts_between text (end + 1 + 1) to
next-start text from end to lo hi none =
    between-split text (from + 1) end to (omega arith) (omega arith)
    ∙ ap (λ l. l ++ starts_between text (end + 1) to) (none-left text from end none)
    ∙ between-split text (end + 1) (end + 1) to (omega arith) (omega arith)
    ∙ ap (λ l. l ++ starts_between text (end + 1 + 1) to) (between-one text (end + 1))

-- the text's start, and what starts behind it
pub table-split : (text : List ℕ) → line_starts text ≡ 0 ∷ starts_between text 1 (length text)
unfolding line_starts
table-split text = between-split text 0 0 (length text) (omega arith) (omega arith) ∙ ap (λ xs. xs ++ starts_between text 1 (length text)) (between-one text 0)
