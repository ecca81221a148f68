-- The way between two bytes of a line.
use Rattle.typst_document.proofs.Cited.{◌≡◌, ℕ, ◌+◌, ◌-◌, ◌^◌, ◌<◌, ◌≤◌, inl, inr, cond, min, nat_le, not, List, [], ◌∷◌, ◌++◌, length, take, drop, get_or, slice_get, Some, count_by, refl, sym, ap, subst, ◌∙◌, arith, append-nil, get_or-drop, get_or-take, length-drop, length-take-le, take-append-drop, take-add, at_drop_more, drop-drop, take-take, IsUtf8-take, chars-append, chars-nil, len_utf8_bounds, slice_range, IsCharBoundary, IsUtf8, chars, IsInsideEnd, byte_in, line_of, position_of, is_line_end, line_at, line_starts, starts_between, held, place-back, position, position-is, start-boundary, utf8-line, IsOneLine, IsWay, wide}
use Rattle.std.proofs.lemmas.Bool.{cases_lt, le-leb, lt-leb}
use Rattle.std.proofs.lemmas.List.Folds.{length-prefix_len}
use Rattle.std.specs.Char.{len_utf8}
use Rattle.std.specs.List.{prefix_len}
use Rattle.typst_positions.specs.Columns.{bytes_before, column_of, measured, width}
use Rattle.typst_positions.specs.declared.columns.Encoding.{Encoding}
use Rattle.typst_positions.specs.declared.columns.Encoding.TheVariants.{Utf8}
use Rattle.typst_positions.specs.declared.positions.Position.{Position}
use Rattle.typst_positions.proofs.Holding.{count-between}
use Rattle.typst_positions.proofs.Tables.{between-split, none-left}
use Rattle.typst_positions.proofs.Widths.{before-boundary, total, total-text, width-le}

-- ---- how wide a front of a line is

pub wide-append : (e : Encoding) (cs ds : List ℕ) → wide e (cs ++ ds) ≡ wide e cs + wide e ds
wide-append e [] ds = omega arith
wide-append e (c ∷ cs) ds = omega (arith, wide-append e cs ds)

pub wide-le : (e : Encoding) (cs : List ℕ) → wide e cs ≤ total len_utf8 cs
wide-le e [] = omega arith
wide-le e (c ∷ cs) = omega (arith, width-le e c, wide-le e cs)

measured-front : (e : Encoding) (cs ds : List ℕ) → measured (width e) len_utf8 (total len_utf8 cs) (cs ++ ds) ≡ wide e cs
measured-front e [] [] = refl
measured-front e [] (d ∷ ds) = ap (λ b. cond b (width e d + measured (width e) len_utf8 (0 - len_utf8 d) ds) 0) (lt-leb (len_utf8 d) 0 (omega (arith, (len_utf8_bounds d).0)))
measured-front e (c ∷ cs) ds =
    let rest : len_utf8 c + total len_utf8 cs - len_utf8 c ≡ total len_utf8 cs = omega arith in
    ap (λ b. cond b (width e c + measured (width e) len_utf8 (len_utf8 c + total len_utf8 cs - len_utf8 c) (cs ++ ds)) 0) (le-leb (len_utf8 c) (len_utf8 c + total len_utf8 cs) (omega arith))
    ∙ ap (λ n. width e c + measured (width e) len_utf8 n (cs ++ ds)) rest
    ∙ ap (λ n. width e c + n) (measured-front e cs ds)

column-front : (e : Encoding) (line : List ℕ) (n : ℕ) → IsUtf8 line → IsCharBoundary line n → column_of e line n ≡ wide e (chars (take n line))
unfolding column_of
column-front e line n u b =
    let first : IsUtf8 (take n line) = IsUtf8-take line n u b in
    let parts : chars line ≡ chars (take n line) ++ chars (drop n line) = ap chars (sym (take-append-drop n line)) ∙ chars-append (take n line) (drop n line) first in
    let size : total len_utf8 (chars (take n line)) ≡ n = total-text (take n line) first ∙ length-take-le n line b.0 in
    grind (arith, measured-front)

-- ---- the line of a byte

record InLine (text : List ℕ) (byte : ℕ) : Type 0 where
  pub start : ℕ
  pub at : slice_get (line_starts text) (line_of text byte) ≡ Some start
  pub below : start ≤ byte
  pub utf8 : IsUtf8 (line_at text start)
  pub part : IsCharBoundary (line_at text start) (byte - start)

in_line : (text : List ℕ) (byte : ℕ) → IsUtf8 text → IsCharBoundary text byte → ¬ (IsInsideEnd text byte) → InLine text byte
in_line text byte u b outside =
    let h = held text byte in
    let line : IsUtf8 (line_at text h.start) = utf8-line text h.start u (start-boundary text (line_of text byte) h.start u h.at) in
    let column : ℕ = (position_of Utf8 text byte).column in
    let there : h.start + bytes_before Utf8 (line_at text h.start) column ≡ byte = sym (ap (byte_in Utf8 text column) h.at) ∙ place-back Utf8 text byte u b outside in
    let far : bytes_before Utf8 (line_at text h.start) column ≡ byte - h.start = omega (arith, there) in
    record { start = h.start; at = h.at; below = h.below; utf8 = line; part = subst (IsCharBoundary (line_at text h.start)) far (before-boundary Utf8 (line_at text h.start) column line) }

-- ---- where no line ends, none starts

count-to : (text : List ℕ) (byte : ℕ) → byte ≤ length text → count_by (λ s. nat_le s byte) (line_starts text) ≡ length (starts_between text 0 byte)
unfolding line_starts
count-to text byte h = count-between text (λ s. nat_le s byte) 0 byte (length text) (omega arith) h (λ k le. le-leb k byte le) (λ k lo hi. lt-leb k byte lo)

same-line : (text : List ℕ) (from to : ℕ) → from ≤ to → to ≤ length text → IsOneLine text from to → line_of text to ≡ line_of text from
same-line text from to le within none =
    let same : starts_between text 0 to ≡ starts_between text 0 from =
    between-split text 0 from to (omega arith) le ∙ ap (λ l. starts_between text 0 from ++ l) (none-left text from to none) ∙ append-nil (starts_between text 0 from) in
    ap (λ n. n - 1) (count-to text to within ∙ ap length same ∙ sym (count-to text from (omega (arith, le, within))))

-- ---- columns of one line

prefix-take : (text : List ℕ) (start k : ℕ) → k ≤ length (line_at text start) → take k (line_at text start) ≡ take k (drop start text)
unfolding line_at
prefix-take text start k h = take-take k (prefix_len (λ c. not (is_line_end c)) (drop start text)) (drop start text) (omega (arith, h, length-prefix_len (λ c. not (is_line_end c)) (drop start text)))

front-more : (text : List ℕ) (start from to : ℕ) → start ≤ from → from ≤ to → to - start ≤ length (line_at text start) → take (to - start) (line_at text start) ≡ take (from - start) (line_at text start) ++ slice_range text from to
front-more text start from to low le within =
    let rest : List ℕ = drop start text in
    let j : ℕ = from - start in
    let d : ℕ = to - from in
    let sum : to - start ≡ j + d = omega (arith, low, le) in
    grind (arith, prefix-take, take-add, drop-drop)

column-more : (e : Encoding) (text : List ℕ) (start from to : ℕ) → start ≤ from → from ≤ to → IsUtf8 (line_at text start) → IsCharBoundary (line_at text start) (from - start) → IsCharBoundary (line_at text start) (to - start)
    → column_of e (line_at text start) (to - start) ≡ column_of e (line_at text start) (from - start) + wide e (chars (slice_range text from to))
column-more e text start from to low le u first last =
    let line : List ℕ = line_at text start in
    let front : List ℕ = take (from - start) line in
    let part : List ℕ = slice_range text from to in
    column-front e line (to - start) u last
    ∙ ap (λ l. wide e (chars l)) (front-more text start from to low le last.0)
    ∙ ap (wide e) (chars-append front part (IsUtf8-take line (from - start) u first))
    ∙ wide-append e (chars front) (chars part)
    ∙ ap (λ n. n + wide e (chars part)) (sym (column-front e line (from - start) u first))

column-le : (e : Encoding) (line : List ℕ) (n : ℕ) → IsUtf8 line → IsCharBoundary line n → column_of e line n ≤ n
column-le e line n u b =
    let size : total len_utf8 (chars (take n line)) ≡ n = total-text (take n line) (IsUtf8-take line n u b) ∙ length-take-le n line b.0 in
    omega (arith, column-front e line n u b, wide-le e (chars (take n line)), size)

-- a byte behind another one in its line: as many columns behind it as what stands between is wide
pub record IsBehind (e : Encoding) (text : List ℕ) (from to : ℕ) : Type 0 where
  pub line : (position_of e text to).line ≡ (position_of e text from).line
  pub column : (position_of e text to).column ≡ (position_of e text from).column + wide e (chars (slice_range text from to))
  pub bound : (position_of e text to).column ≤ to

column_is : (e : Encoding) (text : List ℕ) (byte : ℕ) → (h : InLine text byte) → (position_of e text byte).column ≡ column_of e (line_at text h.start) (byte - h.start)
column_is e text byte h = sym (ap (λ (p : Position). p.column) (position-is e text byte (line_of text byte) (column_of e (line_at text h.start) (byte - h.start)) h.start refl h.at refl))

some-injective : (a b : ℕ) → Some a ≡ Some b → a ≡ b
some-injective a b e = cc

outside_from : (text : List ℕ) (from to : ℕ) → from < to → IsOneLine text from to → ¬ (IsInsideEnd text from)
outside_from text from to lt none = λ i. none from (omega arith) lt (ap is_line_end i.feed)

outside_to : (text : List ℕ) (from to : ℕ) → from < to → IsOneLine text from to → ¬ (IsInsideEnd text to)
outside_to text from to lt none = λ i. none (to - 1) (omega (arith, lt)) (omega (arith, lt)) (ap is_line_end i.return)

behind_by : (e : Encoding) (text : List ℕ) (from to : ℕ) → from ≤ to → line_of text to ≡ line_of text from → InLine text from → InLine text to → IsBehind e text from to
behind_by e text from to le same a b =
    let start : b.start ≡ a.start = some-injective b.start a.start (sym b.at ∙ ap (slice_get (line_starts text)) same ∙ a.at) in
    let last : IsCharBoundary (line_at text a.start) (to - a.start) = subst (λ s. IsCharBoundary (line_at text s) (to - s)) start b.part in
    let there : (position_of e text to).column ≡ column_of e (line_at text a.start) (to - a.start) = column_is e text to b ∙ ap (λ s. column_of e (line_at text s) (to - s)) start in
    record {
      line = same;
      column = there ∙ column-more e text a.start from to a.below le a.utf8 a.part last ∙ ap (λ n. n + wide e (chars (slice_range text from to))) (sym (column_is e text from a));
      bound = omega (arith, there, column-le e (line_at text a.start) (to - a.start) a.utf8 last);
    }

pub behind : (e : Encoding) (text : List ℕ) (from to : ℕ) → IsUtf8 text → from < to → IsCharBoundary text from → IsCharBoundary text to → IsOneLine text from to → IsBehind e text from to
behind e text from to u lt first last none =
    behind_by e text from to (omega arith) (same-line text from to (omega arith) last.0 none) (in_line text from u first (outside_from text from to lt none)) (in_line text to u last (outside_to text from to lt none))

-- ---- how wide a text is, character by character

pub wide-more : (e : Encoding) (cs : List ℕ) (n c : ℕ) → (n < length cs) × (c ≡ get_or cs n c) → wide e (drop n cs) ≡ width e c + wide e (drop (n + 1) cs)
wide-more e cs n c at = at_drop_more (wide e) cs n c at.0 ∙ ap (λ d. wide e (d ∷ drop (n + 1) cs)) (sym at.1)

pub wide-text : (e : Encoding) (text : List ℕ) → IsUtf8 text → wide e (chars text) ≤ length text
wide-text e text u = omega (arith, wide-le e (chars text), total-text text u)

-- ---- from a byte to another one

one-line : (text : List ℕ) (from to : ℕ) → from ≤ to → to ≤ length text → IsOneLine (slice_range text from to) 0 (length (slice_range text from to)) → IsOneLine text from to
one-line text from to le within none k lo hi e =
    let i : ℕ = k - from in
    let here : from + i ≡ k = omega (arith, lo) in
    grind (arith, length-take-le, length-drop, get_or-take, get_or-drop)

pub way : (e : Encoding) (text : List ℕ) (from to count : ℕ) → IsUtf8 text → from ≤ to → IsCharBoundary text from → IsCharBoundary text to → IsOneLine (slice_range text from to) 0 (length (slice_range text from to))
    → count ≡ wide e (chars (slice_range text from to)) → IsWay e text from to count
way e text from to count u le first last none is = record { utf8 = u; ordered = le; first = first; last = last; line = one-line text from to le last.0 none; is = is }

-- the way is none, or leads behind
nothing-between : (e : Encoding) (text : List ℕ) (from to count : ℕ) → from ≡ to → IsWay e text from to count → count ≡ 0
nothing-between e text from to count same w = grind (arith, chars-nil)

pub there-behind : (e : Encoding) (text : List ℕ) (from to count line column : ℕ) → to < 2 ^ 64 → column < 2 ^ 64 → from ≤ to → IsWay e text from to count → position line column ≡ position_of e text from
    → position line (min (column + count) (2 ^ 64 - 1)) ≡ position_of e text to
there-behind e text from to count line column small fits le w is = elim (cases_lt from to) [
  | inl lt ↦
      let b = behind e text from to w.utf8 lt w.first w.last w.line in
      let there : min (column + count) (2 ^ 64 - 1) ≡ (position_of e text to).column = omega (arith, b.column, b.bound, w.is, small, ap (λ (p : Position). p.column) is) in
      ap (λ l. position l (min (column + count) (2 ^ 64 - 1))) (ap (λ (p : Position). p.line) is ∙ sym b.line) ∙ ap (position (position_of e text to).line) there
  | inr ge ↦
      let same : from ≡ to = omega (arith, le, ge) in
      let there : min (column + count) (2 ^ 64 - 1) ≡ column = omega (arith, fits, nothing-between e text from to count same w) in
      ap (position line) there ∙ is ∙ ap (position_of e text) same
]

pub there-before : (e : Encoding) (text : List ℕ) (from to count line column : ℕ) → to < from → IsWay e text to from count → position line column ≡ position_of e text from → position line (column - count) ≡ position_of e text to
there-before e text from to count line column lt w is = let b = behind e text to from w.utf8 lt w.first w.last w.line in grind arith
