-- Lines as stretches of their text, and bytes in them.
use Rattle.typst_positions.proofs.Cited.{◌≡◌, ℕ, zero, suc, ◌+◌, ◌-◌, ◌<◌, ◌≤◌, inl, inr, min, Bool, true, false, ◌==◌, ◌&&◌, ◌||◌, not, nat_le, cond, List, [], ◌∷◌, ◌++◌, length, take, drop, get_or, slice_get, Some, count_by, append_assoc, refl, sym, ap, subst, ◌∙◌, arith, add-one, length-drop, length-take-le, get_or-take, get_or-drop, and_parts, both_ways, cases_lt, cases_order, eq-eqb, eqb-true, le-leb, lt-leb, not-false, not-true, or_cases, or_left, length_push, IsCharBoundary, IsUtf8, column_of, IsInsideEnd, byte_at, line_of, position_of, is_line_end, line_at, line_starts, starts_between, starts_line, IsCharBoundary-after_ascii, IsCharBoundary-start, IsUtf8-between, prefix_len, Encoding, Position}
use Rattle.std.specs.Prelude.{slice_index}
use Rattle.typst_positions.proofs.Holding.{count-between, ends-last, last-after, last-le, last_start}
use Rattle.typst_positions.proofs.Tables.{between-split, picked}
use Rattle.typst_positions.proofs.Widths.{column-back}

-- ---- the front of a list that passes a test

pub prefix-is : (p : ℕ → Bool) (xs : List ℕ) (n : ℕ) → n ≤ length xs → ((k : ℕ) → k < n → p (get_or xs k 0) ≡ true) → (n < length xs → p (get_or xs n 0) ≡ false) → prefix_len p xs ≡ n
prefix-is p [] n le all stop = omega arith
prefix-is p (x ∷ xs) zero le all stop = ap (λ b. cond b (1 + prefix_len p xs) 0) (stop (omega arith))
prefix-is p (x ∷ xs) (suc n) le all stop =
    let rest = prefix-is p xs n (omega arith) (λ k h. all (suc k) (omega arith)) (λ h. stop (omega arith)) in
    ap (λ b. cond b (1 + prefix_len p xs) 0) (all 0 (omega arith)) ∙ omega (arith, rest)

pub record IsPrefix (p : ℕ → Bool) (xs : List ℕ) (n : ℕ) : Type 0 where
  pub within : n ≤ length xs
  pub passes : (k : ℕ) → k < n → p (get_or xs k 0) ≡ true
  pub stops : n < length xs → p (get_or xs n 0) ≡ false

prefix-cons : (p : ℕ → Bool) (t : Bool) (x : ℕ) (xs : List ℕ) (n : ℕ) → p x ≡ t → IsPrefix p xs n → IsPrefix p (x ∷ xs) (cond t (1 + n) 0)
prefix-cons p t x xs n e h = grind arith

prefix-of : (p : ℕ → Bool) (xs : List ℕ) → IsPrefix p xs (prefix_len p xs)
prefix-of p [] = record { within = omega arith; passes = λ k lt. absurd (omega arith); stops = λ lt. absurd (omega arith) }
prefix-of p (x ∷ xs) = prefix-cons p (p x) x xs (prefix_len p xs) refl (prefix-of p xs)

-- ---- a line

abbrev inside : ℕ → Bool
inside c = not (is_line_end c)

-- the line that starts at a byte has so many bytes
pub record HasLine (text : List ℕ) (start n : ℕ) : Type 0 where
  pub is : line_at text start ≡ take n (drop start text)
  pub within : start + n ≤ length text
  pub plain : (k : ℕ) → start ≤ k → k < start + n → is_line_end (get_or text k 0) ≡ false
  pub ended : start + n < length text → is_line_end (get_or text (start + n) 0) ≡ true

has-line : (text : List ℕ) (start : ℕ) → start ≤ length text → HasLine text start (prefix_len inside (drop start text))
unfolding line_at
has-line text start h =
    let n = prefix_len inside (drop start text) in
    let p = prefix-of inside (drop start text) in
    let long = length-drop start text in
    let within = p.within in
    record {
      is = refl;
      within = omega arith;
      plain = λ k lo hi.
          let i : ℕ = k - start in
          let at : start + i ≡ k = omega arith in
          not-true _ (ap inside (ap (λ j. get_or text j 0) (sym at) ∙ sym (get_or-drop start text i 0)) ∙ p.passes i (omega arith));
      ended = λ lt. not-false _ (ap inside (sym (get_or-drop start text n 0)) ∙ p.stops (omega arith));
    }

pub line-is : (text : List ℕ) (start n : ℕ) → start + n ≤ length text → ((k : ℕ) → start ≤ k → k < start + n → is_line_end (get_or text k 0) ≡ false) → (start + n < length text → is_line_end (get_or text (start + n) 0) ≡ true)
    → take n (drop start text) ≡ line_at text start
unfolding line_at
line-is text start n h plain ended =
    let long = length-drop start text in
    ap (λ i. take i (drop start text)) (sym (prefix-is inside (drop start text) n (omega arith)
    (λ k lt. ap inside (get_or-drop start text k 0) ∙ ap not (plain (start + k) (omega arith) (omega arith)))
    (λ lt. ap inside (get_or-drop start text n 0) ∙ ap not (ended (omega arith)))))

-- where a line ends a character does
pub line-end : (text : List ℕ) (start n : ℕ) → start + n ≤ length text → (start + n < length text → is_line_end (get_or text (start + n) 0) ≡ true) → IsCharBoundary text (start + n)
line-end text start n h ended = grind arith

-- a boundary in a line is one in the text
in-line : (text : List ℕ) (start n j : ℕ) → HasLine text start n → IsCharBoundary (line_at text start) j → IsCharBoundary text (start + j)
in-line text start n j line b = grind (arith, length-take-le, length-drop, cases_lt, get_or-take, get_or-drop, line-end)

pub boundary-in : (text : List ℕ) (start j : ℕ) → start ≤ length text → IsCharBoundary (line_at text start) j → IsCharBoundary text (start + j)
boundary-in text start j h b = in-line text start _ j (has-line text start h) b

-- ---- where lines start

starter-ascii : (c : ℕ) (t : Bool) → (c == 10 || (c == 13 && t)) ≡ true → c < 128
starter-ascii c t e = elim (or_cases (c == 10) (c == 13 && t) e) [ inl feed ↦ omega (arith, eqb-true c 10 feed) | inr return ↦ omega (arith, eqb-true c 13 (and_parts (c == 13) t return).0) ]

starts-boundary : (text : List ℕ) (s : ℕ) → IsUtf8 text → starts_line text s ≡ true → s ≤ length text → IsCharBoundary text s
starts-boundary text zero u e h = IsCharBoundary-start text u
starts-boundary text (suc k) u e h =
    subst (IsCharBoundary text) (add-one k) (IsCharBoundary-after_ascii text k u (omega arith) (starter-ascii (get_or text k 0) (not (get_or text (suc k) 0 == 10)) e))

record Found (p : ℕ → Bool) (a n s : ℕ) : Type 0 where
  passes : p s ≡ true
  low : a ≤ s
  high : s < a + n

cond-found : (p : ℕ → Bool) (t : Bool) (a n i s : ℕ) (xs : List ℕ) → p a ≡ t → ((j : ℕ) → slice_get xs j ≡ Some s → Found p (a + 1) n s) → slice_get (cond t (a ∷ xs) xs) i ≡ Some s → Found p a (suc n) s
cond-found p t a n i s xs e h g = grind arith

found : (p : ℕ → Bool) (n a i s : ℕ) → slice_get (picked p a n) i ≡ Some s → Found p a n s
found p zero a i s g = absurd (cc)
found p (suc n) a i s g = cond-found p (p a) a n i s (picked p (a + 1) n) refl (λ j h. found p n (a + 1) j s h) g

pub start-within : (text : List ℕ) (i s : ℕ) → slice_get (line_starts text) i ≡ Some s → s ≤ length text
unfolding line_starts starts_between
start-within text i s g = let f = found (starts_line text) (length text + 1 - 0) 0 i s g in let hi = f.high in omega arith

pub start-boundary : (text : List ℕ) (i s : ℕ) → IsUtf8 text → slice_get (line_starts text) i ≡ Some s → IsCharBoundary text s
unfolding line_starts starts_between
start-boundary text i s u g = starts-boundary text s u (found (starts_line text) (length text + 1 - 0) 0 i s g).passes (start-within text i s g)

-- ---- the line that holds a byte

pub record Held (text : List ℕ) (byte : ℕ) : Type 0 where
  pub start : ℕ
  pub at : slice_get (line_starts text) (line_of text byte) ≡ Some start
  pub below : start ≤ byte
  pub is : start ≡ last_start text (min byte (length text))

index-from : (xs : List ℕ) (i x : ℕ) → slice_get xs i ≡ Some x → slice_index xs i ≡ x
index-from [] i x e = absurd (cc)
index-from (y ∷ xs) zero x e = cc
index-from (y ∷ xs) (suc i) x e = index-from xs i x e

slice_get-at : (xs : List ℕ) (x : ℕ) (ys : List ℕ) → slice_get (xs ++ x ∷ ys) (length xs) ≡ Some x
slice_get-at [] x ys = refl
slice_get-at (y ∷ xs) x ys = slice_get-at xs x ys

held_at : (text : List ℕ) (byte b : ℕ) → b ≡ min byte (length text) → Held text byte
unfolding line_starts
held_at text byte b e =
    let ends = ends-last text b in
    let count : count_by (λ s. nat_le s byte) (starts_between text 0 (length text)) ≡ length (starts_between text 0 b) =
    count-between text (λ s. nat_le s byte) 0 b (length text) (omega arith) (omega arith) (λ k h. le-leb k byte (omega arith)) (λ k lo hi. lt-leb k byte (omega arith)) in
    let number : line_of text byte ≡ length ends.before = omega (arith, count, ap length ends.parts, length_push ends.before (last_start text b)) in
    let all : starts_between text 0 (length text) ≡ ends.before ++ last_start text b ∷ starts_between text (b + 1) (length text) =
    between-split text 0 b (length text) (omega arith) (omega arith) ∙ ap (λ xs. xs ++ starts_between text (b + 1) (length text)) ends.parts ∙ append_assoc ends.before (last_start text b ∷ []) (starts_between text (b + 1) (length text)) in
    grind (arith, slice_get-at, last-le)

pub held : (text : List ℕ) (byte : ℕ) → Held text byte
held text byte = held_at text byte (min byte (length text)) refl

-- ---- the way back

-- behind an end, a line starts or the CR LF goes on
behind-end : (text : List ℕ) (k : ℕ) → is_line_end (get_or text k 0) ≡ true → starts_line text (suc k) ≡ false → (get_or text k 0 ≡ 13) × (get_or text (suc k) 0 ≡ 10)
behind-end text k e none = grind arith

behind-feed : (text : List ℕ) (k : ℕ) → get_or text k 0 ≡ 10 → starts_line text (suc k) ≡ true
behind-feed text k e = or_left (get_or text k 0 == 10) (get_or text k 0 == 13 && not (get_or text (suc k) 0 == 10)) (eq-eqb (get_or text k 0) 10 e)

-- a byte that isn't inside a line end is no farther from its line's start than the line goes
beyond : (text : List ℕ) (byte k : ℕ) → k < byte → is_line_end (get_or text k 0) ≡ true → ((j : ℕ) → last_start text byte < j → j ≤ byte → starts_line text j ≡ false) → last_start text byte ≤ k → ¬ (IsInsideEnd text byte) → ⊥
beyond text byte k lt e none lo outside =
    let two = behind-end text k e (none (suc k) (omega arith) (omega arith)) in
    elim (cases_order (suc k) byte) [
      | inl here ↦
          outside (record {
            some = omega arith;
            return = let e : byte - 1 ≡ k = omega arith in ap (λ i. get_or text i 0) e ∙ two.0;
            feed = ap (λ i. get_or text i 0) (sym here) ∙ two.1;
          })
      | inr (inl before) ↦ both_ways (starts_line text (suc (suc k))) (none (suc (suc k)) (omega arith) (omega arith)) (behind-feed text (suc k) two.1)
      | inr (inr after) ↦ absurd (omega arith)
    ]

reaches : (text : List ℕ) (byte n : ℕ) → byte ≤ length text → HasLine text (last_start text byte) n → ¬ (IsInsideEnd text byte) → byte ≤ last_start text byte + n
reaches text byte n h line outside = elim (cases_lt (last_start text byte + n) byte) [ inl lt ↦ absurd (beyond text byte (last_start text byte + n) lt (line.ended (omega arith)) (last-after text byte) (omega arith) outside) | inr le ↦ le ]

in-part : (text : List ℕ) (start n j : ℕ) → HasLine text start n → j ≤ n → IsCharBoundary text (start + j) → IsCharBoundary (line_at text start) j
in-part text start n j line le b = grind (arith, length-take-le, length-drop, get_or-take, get_or-drop)

line-utf8 : (text : List ℕ) (start n : ℕ) → IsUtf8 text → IsCharBoundary text start → HasLine text start n → IsUtf8 (line_at text start)
line-utf8 text start n u b line =
    let size : start + n - start ≡ n = omega arith in
    subst IsUtf8 (ap (λ i. take i (drop start text)) size ∙ sym line.is) (IsUtf8-between text start (start + n) u (omega arith) b (line-end text start n line.within line.ended))

pub utf8-line : (text : List ℕ) (start : ℕ) → IsUtf8 text → IsCharBoundary text start → IsUtf8 (line_at text start)
utf8-line text start u b = line-utf8 text start _ u b (has-line text start b.0)

pub place-back : (e : Encoding) (text : List ℕ) (byte : ℕ) → IsUtf8 text → IsCharBoundary text byte → ¬ (IsInsideEnd text byte) → byte_at e text (position_of e text byte) ≡ byte
place-back e text byte u b outside =
    let h = held text byte in
    let within = b.0 in
    let limit : min byte (length text) ≡ byte = omega arith in
    let is : h.start ≡ last_start text byte = h.is ∙ ap (last_start text) limit in
    let first = start-boundary text (line_of text byte) h.start u h.at in
    let line = has-line text h.start first.0 in
    let n = prefix_len inside (drop h.start text) in
    let far : byte ≤ h.start + n = subst (λ s. byte ≤ s + n) (sym is) (reaches text byte n within (subst (λ s. HasLine text s n) is line) outside) in
    let j : ℕ = byte - h.start in
    let below = h.below in
    let at : h.start + j ≡ byte = omega arith in
    let start_is : slice_index (line_starts text) (line_of text byte) ≡ h.start = index-from (line_starts text) (line_of text byte) h.start h.at in
    let part = in-part text h.start n j line (omega arith) (subst (IsCharBoundary text) (sym at) b) in
    grind (arith, column-back, utf8-line)

-- ---- what a place of the table says

pub some-below : (xs : List ℕ) (i x : ℕ) → slice_get xs i ≡ Some x → i < length xs
some-below [] i x e = absurd (cc)
some-below (y ∷ xs) zero x e = omega arith
some-below (y ∷ xs) (suc i) x e = omega (arith, some-below xs i x e)

pub got : (xs : List ℕ) (i x d : ℕ) → slice_get xs i ≡ Some x → get_or xs i d ≡ x
got [] i x d e = absurd (cc)
got (y ∷ xs) zero x d e = cc
got (y ∷ xs) (suc i) x d e = got xs i x d e

abbrev pub position : ℕ → ℕ → Position
position line column = record { line = line; column = column }

pub position-is : (e : Encoding) (text : List ℕ) (byte number column start : ℕ) → number ≡ line_of text byte → slice_get (line_starts text) (line_of text byte) ≡ Some start → column ≡ column_of e (line_at text start) (byte - start)
    → position number column ≡ position_of e text byte
position-is e text byte number column start n at c = grind (arith, index-from)
