-- What is read back of the numbers of tokens.
use Rattle.typst_server.proofs.Cited.{◌≡◌, ℕ, ◌+◌, ◌-◌, ◌^◌, ◌<◌, ◌≤◌, ◌==◌, ◌⊎◌, inl, inr, Bool, cond, not, List, [], ◌∷◌, ◌++◌, length, drop, refl, sym, ap, ◌∙◌, arith, length-drop, length-take, if◌then◌else◌, cases_lt, le-leb, lt-leb, prefix_len, slice_index, IsUtf8, chars, end_of, Token, line_of, position_of, Encoding, Position, Shown, clipped, decoded, encoded, five, shown, shown_each, column_of, measured, width, is_line_end, line_at, line_starts, starts_between, held, position-is, some-below, start-boundary, utf8-line}
use Rattle.std.proofs.lemmas.List.FromFn.{length-range_with_len}
use Rattle.std.proofs.lemmas.List.Sums.{count_by-le-length, length-filter}
use Rattle.std.specs.Char.{len_utf8}
use Rattle.typst_styles.specs.Tokens as tokens
use Rattle.typst_positions.proofs.Shifts.{count-mono}
use Rattle.typst_positions.proofs.Widths.{total, total-text, width-le}

-- ---- tokens that are in order

-- a token stands at or behind a line and a column
abbrev After : ℕ → ℕ → Shown → Type 0
After line column s = (line < s.line) ⊎ ((line ≡ s.line) × (column ≤ s.column))

-- the numbers of a token fit those of the protocol
record IsSmall (s : Shown) : Type 0 where
  pub line : s.line < 2 ^ 32
  pub column : s.column < 2 ^ 32
  pub size : s.size < 2 ^ 32

-- tokens follow one on another
abbrev AreOrdered : ℕ → ℕ → List Shown → Type 0
AreOrdered line column [] = Unit {0}
AreOrdered line column (s ∷ ss) = After line column s × (IsSmall s × AreOrdered s.line s.column ss)

clipped-small : (n : ℕ) → n < 2 ^ 32 → clipped n ≡ n
clipped-small n h = omega (arith, h)

-- how many columns are written of a token
abbrev right_of : ℕ → ℕ → Shown → ℕ
right_of line column s = s.column - (if s.line == line then column else 0)

abbrev start_by : Bool → ℕ → ℕ → ℕ
start_by same column right = if same then column + right else right

start-back : (line column : ℕ) (s : Shown) → After line column s → start_by (s.line - line == 0) column (right_of line column s) ≡ s.column
start-back line column s h = grind arith

after-le : (line column : ℕ) (s : Shown) → After line column s → line ≤ s.line
after-le line column s h = grind arith

-- one token is read back
one-back : (line column : ℕ) (s : Shown) (rest : List ℕ) → After line column s → IsSmall s → decoded line column (five line column s ++ rest) ≡ s ∷ decoded s.line s.column rest
one-back line column s rest after small = grind (arith, after-le, clipped-small, small, start-back)

-- and so are all
read-back : (line column : ℕ) (ss : List Shown) → AreOrdered line column ss → decoded line column (encoded line column ss) ≡ ss
read-back line column [] h = refl
read-back line column (s ∷ ss) h = one-back line column s (encoded s.line s.column ss) h.0 h.1.0 ∙ ap (λ l. s ∷ l) (read-back s.line s.column ss h.1.1)

-- ---- positions are in order, and small

measured-mono : (e : Encoding) (cs : List ℕ) (a b : ℕ) → a ≤ b → measured (width e) len_utf8 a cs ≤ measured (width e) len_utf8 b cs
measured-mono e [] a b h = omega arith
measured-mono e (c ∷ cs) a b h = elim (cases_lt a (len_utf8 c)) [
  | inl lt ↦
      let none : measured (width e) len_utf8 a (c ∷ cs) ≡ 0 = ap (λ t. cond t (width e c + measured (width e) len_utf8 (a - len_utf8 c) cs) 0) (lt-leb (len_utf8 c) a lt) in
      omega (arith, none)
  | inr ge ↦
      let one : measured (width e) len_utf8 a (c ∷ cs) ≡ width e c + measured (width e) len_utf8 (a - len_utf8 c) cs =
      ap (λ t. cond t (width e c + measured (width e) len_utf8 (a - len_utf8 c) cs) 0) (le-leb (len_utf8 c) a ge) in
      let two : measured (width e) len_utf8 b (c ∷ cs) ≡ width e c + measured (width e) len_utf8 (b - len_utf8 c) cs =
      ap (λ t. cond t (width e c + measured (width e) len_utf8 (b - len_utf8 c) cs) 0) (le-leb (len_utf8 c) b (omega (arith, ge, h))) in
      omega (arith, one, two, measured-mono e cs (a - len_utf8 c) (b - len_utf8 c) (omega (arith, h)))
]

column-mono : (e : Encoding) (line : List ℕ) (a b : ℕ) → a ≤ b → column_of e line a ≤ column_of e line b
unfolding column_of
column-mono e line a b h = measured-mono e (chars line) a b h

measured-le : (e : Encoding) (cs : List ℕ) (most : ℕ) → measured (width e) len_utf8 most cs ≤ total len_utf8 cs
measured-le e [] most = omega arith
measured-le e (c ∷ cs) most = elim (cases_lt most (len_utf8 c)) [
  | inl lt ↦
      let none : measured (width e) len_utf8 most (c ∷ cs) ≡ 0 = ap (λ t. cond t (width e c + measured (width e) len_utf8 (most - len_utf8 c) cs) 0) (lt-leb (len_utf8 c) most lt) in
      omega (arith, none)
  | inr ge ↦
      let one : measured (width e) len_utf8 most (c ∷ cs) ≡ width e c + measured (width e) len_utf8 (most - len_utf8 c) cs =
      ap (λ t. cond t (width e c + measured (width e) len_utf8 (most - len_utf8 c) cs) 0) (le-leb (len_utf8 c) most ge) in
      omega (arith, one, width-le e c, measured-le e cs (most - len_utf8 c))
]

column-le : (e : Encoding) (line : List ℕ) (n : ℕ) → IsUtf8 line → column_of e line n ≤ length line
unfolding column_of
column-le e line n u = omega (arith, measured-le e (chars line) n, total-text line u)

line-le : (text : List ℕ) (start : ℕ) → length (line_at text start) ≤ length text
unfolding line_at
line-le text start = omega (arith, length-take (prefix_len (λ c. not (is_line_end c)) (drop start text)) (drop start text), length-drop start text)

column-small : (e : Encoding) (text : List ℕ) (byte : ℕ) → IsUtf8 text → (position_of e text byte).column ≤ length text
column-small e text byte u =
    let h = held text byte in
    let line : IsUtf8 (line_at text h.start) = utf8-line text h.start u (start-boundary text (line_of text byte) h.start u h.at) in
    let is : (position_of e text byte).column ≡ column_of e (line_at text h.start) (byte - h.start) =
    sym (ap (λ (p : Position). p.column) (position-is e text byte (line_of text byte) (column_of e (line_at text h.start) (byte - h.start)) h.start refl h.at refl)) in
    omega (arith, is, column-le e (line_at text h.start) (byte - h.start) line, line-le text h.start)

starts-few : (text : List ℕ) → length (line_starts text) ≤ length text + 1
unfolding line_starts starts_between
starts-few text = grind (arith, length-filter, count_by-le-length, length-range_with_len)

line-small : (text : List ℕ) (byte : ℕ) → line_of text byte ≤ length text
line-small text byte = let h = held text byte in omega (arith, some-below (line_starts text) (line_of text byte) h.start h.at, starts-few text)

-- ---- from byte to byte

pub in-order : (e : Encoding) (text : List ℕ) (a : ℕ) (t : Token) → a ≤ t.start → After (position_of e text a).line (position_of e text a).column (shown e text t)
in-order e text a t h = elim (cases_lt (line_of text a) (line_of text t.start)) [
  | inl less ↦ inl less
  | inr more ↦
      let same : line_of text a ≡ line_of text t.start = omega (arith, more, count-mono a t.start (line_starts text) h) in
      let start : ℕ = slice_index (line_starts text) (line_of text a) in
      let there : (position_of e text t.start).column ≡ column_of e (line_at text start) (t.start - start) =
      ap (λ n. column_of e (line_at text (slice_index (line_starts text) n)) (t.start - slice_index (line_starts text) n)) (sym same) in
      inr (same, omega (arith, there, column-mono e (line_at text start) (a - start) (t.start - start) (omega (arith, h))))
]

small : (e : Encoding) (text : List ℕ) (t : Token) → IsUtf8 text → length text < 2 ^ 32 → IsSmall (shown e text t)
small e text t u h =
    record {
      line = omega (arith, h, line-small text t.start);
      column = omega (arith, h, column-small e text t.start u);
      size = omega (arith, h, column-small e text (end_of t) u);
    }

-- ---- so they are read back

ordered : (e : Encoding) (text : List ℕ) → IsUtf8 text → length text < 2 ^ 32 → (line column a : ℕ) (ts : List Token) → ((t : Token) → a ≤ t.start → After line column (shown e text t)) → tokens.AreOrdered a ts
    → AreOrdered line column (shown_each e text ts)
ordered e text u h line column a [] after r = tt
ordered e text u h line column a (t ∷ ts) after r =
    let s : Shown = shown e text t in
    (after t r.0, (small e text t u h, ordered e text u h s.line s.column t.start ts (λ v le. in-order e text t.start v le) r.1))

from_start : (s : Shown) → After 0 0 s
from_start s = elim (cases_lt 0 s.line) [ inl less ↦ inl less | inr more ↦ inr (omega (arith, more), omega arith) ]

pub tokens-back : (e : Encoding) (text : List ℕ) (ts : List Token) → IsUtf8 text → length text < 2 ^ 32 → tokens.AreOrdered 0 ts → decoded 0 0 (encoded 0 0 (shown_each e text ts)) ≡ shown_each e text ts
tokens-back e text ts u h rising = read-back 0 0 (shown_each e text ts) (ordered e text u h 0 0 0 ts (λ t le. from_start (shown e text t)) rising)
