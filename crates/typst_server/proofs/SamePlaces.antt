-- Positions of two texts that are the same up to a line's start, or from one on.
use Rattle.typst_server.proofs.Cited.{◌≡◌, ℕ, zero, suc, ◌+◌, ◌-◌, ◌<◌, ◌≤◌, Bool, true, false, not, cond, min, List, [], ◌∷◌, ◌++◌, length, map, take, drop, get_or, refl, ap, sym, ◌∙◌, arith, length-append, length-drop, length-take-le, le-leb, lt-leb, prefix_len, line_of, position_of, Encoding, Position, column_of, is_line_end, line_at, line_starts, starts_between, starts_line, held, position-is, one-add}
use Rattle.std.proofs.lemmas.List.{drop-drop, get_or-drop, get_or-take, length-map, take-append-drop, drop-append-le}
use Rattle.typst_positions.proofs.Holding.{count-between, ends-last, last-le, last_start}
use Rattle.typst_positions.proofs.Tables.{between-moved, between-one, between-same, between-split}
use Rattle.typst_positions.proofs.Shifts.{starts-alike}

-- how many lines start up to a byte
abbrev pub lines_to : List ℕ → ℕ → ℕ
lines_to text byte = length (starts_between text 0 byte)

line_is : (text : List ℕ) (byte : ℕ) → byte ≤ length text → line_of text byte ≡ lines_to text byte - 1
unfolding line_starts
line_is text byte h = grind (arith, count-between, le-leb, lt-leb)

-- the position of a byte, by where the last line up to it starts
place_of : (e : Encoding) (text : List ℕ) (byte : ℕ) → byte ≤ length text → (let p : Position = record { line = lines_to text byte - 1; column = column_of e (line_at text (last_start text byte)) (byte - last_start text byte) } in p) ≡ position_of e text byte
place_of e text byte h =
    let w = held text byte in
    let here : min byte (length text) ≡ byte = omega (arith, h) in
    let start : last_start text byte ≡ w.start = sym (w.is ∙ ap (last_start text) here) in
    position-is e text byte (lines_to text byte - 1) (column_of e (line_at text (last_start text byte)) (byte - last_start text byte)) w.start (sym (line_is text byte h)) w.at
    (ap (λ s. column_of e (line_at text s) (byte - s)) start)

-- ---- from a line's start on

-- the second text is from a byte on as the first one is from another byte on, and an LF stands before both
pub record SameBehind (t u : List ℕ) (b c : ℕ) : Type 0 where
  pub drops : drop b t ≡ drop c u
  pub some : 0 < b
  pub some_too : 0 < c
  pub feed : get_or t (b - 1) 0 ≡ 10
  pub feed_too : get_or u (c - 1) 0 ≡ 10

module _ (t u : List ℕ) (b c : ℕ) (w : SameBehind t u b c) where
  got : (k : ℕ) → get_or t (b + k) 0 ≡ get_or u (c + k) 0
  got k = sym (get_or-drop b t k 0) ∙ (ap (λ xs. get_or xs k 0) w.drops ∙ get_or-drop c u k 0)

  first_starts : starts_line t b ≡ true
  first_starts = grind arith

  starts_same : (k : ℕ) → starts_line t (b + k) ≡ starts_line u (c + k)
  starts_same zero = grind arith
  starts_same (suc k) = let one : b + suc k ≡ suc (b + k) = omega arith in grind (arith, starts-alike, got)

  record Last (k : ℕ) : Type 0 where
    low : b ≤ last_start t (b + k)
    same : last_start u (c + k) + b ≡ last_start t (b + k) + c

  last_choice : (p q : Bool) (k m n : ℕ) → p ≡ q → b ≤ m → n + b ≡ m + c → (b ≤ cond p (suc (b + k)) m) × (cond q (suc (c + k)) n + b ≡ cond p (suc (b + k)) m + c)
  last_choice p q k m n e l g = grind arith

  last_same : (k : ℕ) → Last k
  last_same zero =
      let some = w.some in
      let some_too = w.some_too in
      let one : b + zero ≡ suc (b - 1) = omega (arith, some) in
      let two : c + zero ≡ suc (c - 1) = omega (arith, some_too) in
      grind arith
  last_same (suc k) =
      let one : b + suc k ≡ suc (b + k) = omega arith in
      let two : c + suc k ≡ suc (c + k) = omega arith in
      let so_far = last_same k in
      let test : starts_line t (suc (b + k)) ≡ starts_line u (suc (c + k)) = sym (ap (starts_line t) one) ∙ (starts_same (suc k) ∙ ap (starts_line u) two) in
      let both = last_choice (starts_line t (suc (b + k))) (starts_line u (suc (c + k))) k (last_start t (b + k)) (last_start u (c + k)) test so_far.low so_far.same in
      grind arith

  -- how many lines start between
  lines_same : (k : ℕ) → lines_to u (c + k) + lines_to t (b - 1) ≡ lines_to t (b + k) + lines_to u (c - 1)
  lines_same k =
      let some = w.some in
      let some_too = w.some_too in
      let one : b - 1 + 1 ≡ b = omega (arith, some) in
      let two : c - 1 + 1 ≡ c = omega (arith, some_too) in
      let front : lines_to t (b + k) ≡ lines_to t (b - 1) + length (starts_between t b (b + k)) =
      ap length (between-split t 0 (b - 1) (b + k) (omega arith) (omega arith) ∙ ap (λ n. starts_between t 0 (b - 1) ++ starts_between t n (b + k)) one) ∙ length-append (starts_between t 0 (b - 1)) (starts_between t b (b + k)) in
      let back : lines_to u (c + k) ≡ lines_to u (c - 1) + length (starts_between u c (c + k)) =
      ap length (between-split u 0 (c - 1) (c + k) (omega arith) (omega arith) ∙ ap (λ n. starts_between u 0 (c - 1) ++ starts_between u n (c + k)) two) ∙ length-append (starts_between u 0 (c - 1)) (starts_between u c (c + k)) in
      let move : ℕ → ℕ = λ n. n - b + c in
      let same : starts_between u c (c + k) ≡ map move (starts_between t b (b + k)) =
      between-moved t u move b (b + k) c (c + k) (omega arith) (λ n l lo hi e. (alike n l lo e, omega (arith, lo, e))) in
      omega (arith, front, back, ap length same, length-map (starts_between t b (b + k)) move)
    where
      alike : (n l : ℕ) → b ≤ n → l + b ≡ n + c → starts_line t n ≡ starts_line u l
      alike n l lo e =
          let one : n ≡ b + (n - b) = omega (arith, lo) in
          let two : c + (n - b) ≡ l = omega (arith, lo, e) in
          ap (starts_line t) one ∙ (starts_same (n - b) ∙ ap (starts_line u) two)

  line_same : (s v : ℕ) → b ≤ s → v + b ≡ s + c → line_at u v ≡ line_at t s
  unfolding line_at
  line_same s v lo e =
      let one : b + (s - b) ≡ s = omega (arith, lo) in
      let two : c + (s - b) ≡ v = omega (arith, lo, e) in
      let rest : drop v u ≡ drop s t = sym (drop-drop (s - b) c u ∙ ap (λ n. drop n u) two) ∙ (sym (ap (drop (s - b)) w.drops) ∙ (drop-drop (s - b) b t ∙ ap (λ n. drop n t) one)) in
      ap (λ xs. take (prefix_len (λ z. not (is_line_end z)) xs) xs) rest

  -- a byte behind has the same column, and as many lines between
  pub record Follows (e : Encoding) (k : ℕ) : Type 0 where
    pub line : (position_of e u (c + k)).line + lines_to t (b - 1) ≡ (position_of e t (b + k)).line + lines_to u (c - 1)
    pub column : (position_of e u (c + k)).column ≡ (position_of e t (b + k)).column

  pub follows : (e : Encoding) (k : ℕ) → b + k ≤ length t → c + k ≤ length u → Follows e k
  follows e k l m =
      let last = last_same k in
      let low = last.low in
      let same = last.same in
      let s : ℕ = last_start t (b + k) in
      let v : ℕ = last_start u (c + k) in
      let top = last-le t (b + k) in
      let by : c + k - v ≡ b + k - s = omega (arith, low, same, top) in
      let one = place_of e t (b + k) l in
      let two = place_of e u (c + k) m in
      let lines = lines_same k in
      let some = w.some in
      record {
        line = omega (arith, ap (λ (p : Position). p.line) one, ap (λ (p : Position). p.line) two, lines, some_lines t (b + k), some_lines u (c + k));
        column = sym (ap (λ (p : Position). p.column) two) ∙ ((λ i. column_of e (line_same s v low same i) (by i)) ∙ ap (λ (p : Position). p.column) one);
      }
    where
      some_lines : (text : List ℕ) (n : ℕ) → 0 < lines_to text n
      some_lines text n = let w = ends-last text n in omega (arith, ap length w.parts, length-append w.before (last_start text n ∷ []))

  -- and isn't in an earlier line
  pub first_line : (e : Encoding) (k : ℕ) → b + k ≤ length t → lines_to t (b - 1) ≤ (position_of e t (b + k)).line
  first_line e k l =
      let some = w.some in
      let one : b - 1 + 1 ≡ b = omega (arith, some) in
      let here : starts_between t b b ≡ b ∷ [] = between-one t b ∙ ap (λ z. cond z (b ∷ []) []) first_starts in
      let parts : starts_between t 0 (b + k) ≡ starts_between t 0 (b - 1) ++ (starts_between t b b ++ starts_between t (b + 1) (b + k)) =
      between-split t 0 (b - 1) (b + k) (omega arith) (omega arith)
      ∙ (ap (λ n. starts_between t 0 (b - 1) ++ starts_between t n (b + k)) one ∙ ap (λ xs. starts_between t 0 (b - 1) ++ xs) (between-split t b b (b + k) (omega arith) (omega arith))) in
      let place = place_of e t (b + k) l in
      omega (arith, ap length parts, length-append (starts_between t 0 (b - 1)) (starts_between t b b ++ starts_between t (b + 1) (b + k)), length-append (starts_between t b b) (starts_between t (b + 1) (b + k)), ap length here, ap (λ (p : Position). p.line) place)

-- ---- up to a line's start

until_step : (b : Bool) (x m n : ℕ) (xs ys : List ℕ) → take m xs ≡ take n ys → take (cond b (1 + m) 0) (x ∷ xs) ≡ take (cond b (1 + n) 0) (x ∷ ys)
until_step true x m n xs ys e = ap (λ k. take k (x ∷ xs)) (one-add m) ∙ (ap (λ zs. x ∷ zs) e ∙ sym (ap (λ k. take k (x ∷ ys)) (one-add n)))
until_step false x m n xs ys e = refl

-- what is taken up to a byte that fails a test doesn't depend on what is behind it
until : (q : ℕ → Bool) (xs ys zs : List ℕ) (i : ℕ) → i < length xs → q (get_or xs i 0) ≡ false → take (prefix_len q (xs ++ ys)) (xs ++ ys) ≡ take (prefix_len q (xs ++ zs)) (xs ++ zs)
until q [] ys zs i l e = absurd (omega (arith, l))
until q (x ∷ xs) ys zs zero l e = grind arith
until q (x ∷ xs) ys zs (suc i) l e = until_step (q x) x (prefix_len q (xs ++ ys)) (prefix_len q (xs ++ zs)) (xs ++ ys) (xs ++ zs) (until q xs ys zs i (omega (arith, l)) e)

module _ (t u : List ℕ) (a : ℕ) (same : take a t ≡ take a u) (some : 0 < a) (feed : get_or t (a - 1) 0 ≡ 10) (few : a ≤ length t) (few_too : a ≤ length u) where
  front : (k : ℕ) → k < a → get_or t k 0 ≡ get_or u k 0
  front k h = sym (get_or-take a t k 0 h) ∙ (ap (λ xs. get_or xs k 0) same ∙ get_or-take a u k 0 h)

  starts_front : (k : ℕ) → k < a → starts_line t k ≡ starts_line u k
  starts_front zero h = refl
  starts_front (suc k) h = starts-alike t u k k (front k (omega (arith, h))) (front (suc k) h)

  last_front : (k : ℕ) → k < a → last_start t k ≡ last_start u k
  last_front zero h = refl
  last_front (suc k) h = grind (arith, starts_front (suc k) h, last_front k (omega (arith, h)))

  parted : (text : List ℕ) (s : ℕ) → s < a → a ≤ length text → drop s text ≡ drop s (take a text) ++ drop a text
  parted text s h l = sym (ap (drop s) (take-append-drop a text)) ∙ drop-append-le s (take a text) (drop a text) (omega (arith, h, length-take-le a text l))

  line_front : (s : ℕ) → s < a → line_at t s ≡ line_at u s
  unfolding line_at
  line_front s h =
      let q : ℕ → Bool = λ z. not (is_line_end z) in
      let xs : List ℕ = drop s (take a t) in
      let long : length xs ≡ a - s = length-drop s (take a t) ∙ omega (arith, length-take-le a t few) in
      let i : ℕ = a - 1 - s in
      let there : s + i ≡ a - 1 = omega (arith, h) in
      let byte : get_or xs i 0 ≡ 10 = get_or-drop s (take a t) i 0 ∙ (ap (λ n. get_or (take a t) n 0) there ∙ (get_or-take a t (a - 1) 0 (omega (arith, some)) ∙ feed)) in
      let one : drop s t ≡ xs ++ drop a t = parted t s h few in
      let two : drop s u ≡ xs ++ drop a u = parted u s h few_too ∙ ap (λ zs. drop s zs ++ drop a u) (sym same) in
      ap (λ zs. take (prefix_len q zs) zs) one ∙ (until q xs (drop a t) (drop a u) i (omega (arith, long, h, some)) (ap q byte) ∙ sym (ap (λ zs. take (prefix_len q zs) zs) two))

  -- a byte before has the same position
  pub same_place : (e : Encoding) (k : ℕ) → k < a → position_of e t k ≡ position_of e u k
  same_place e k h =
      let last = last_front k h in
      let low = last-le t k in
      let lines : lines_to t k ≡ lines_to u k = ap length (between-same t u 0 k (λ n lo hi. starts_front n (omega (arith, hi, h)))) in
      let line : line_at t (last_start t k) ≡ line_at u (last_start u k) = line_front (last_start t k) (omega (arith, low, h)) ∙ ap (line_at u) last in
      sym (place_of e t k (omega (arith, h, few)))
      ∙ ((λ i. (let p : Position = record { line = lines i - 1; column = column_of e (line i) (k - last i) } in p))
      ∙ place_of e u k (omega (arith, h, few_too)))
