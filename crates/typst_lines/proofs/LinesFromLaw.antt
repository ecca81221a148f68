-- Facts on the lines that start after a place.
use Rattle.typst_lines.proofs.Cited.{◌≡◌, ◌≤◌, ◌<◌, Bool, length, ℕ, zero, suc, ◌+◌, List, [], ◌∷◌, ◌++◌, slice_get, Option, Some, None, refl, sym, ap, subst, ◌∙◌, true, false, arith, take, drop, filter, nat_lt, get_or, nat_tests, chars-nil, IsCharBoundary-start, chars, IsUtf8, IsCharBoundary, not-true, is_plain_byte, IsPlainFront, is_newline, ends_line, Place, place_at, moved, scout, char_width, IsStep, utf16_len, units, bytes, line_table, lines_after, utf16_before, IsPlainRun, Line, and_parts}
use Rattle.typst_lines.proofs.LineTable.{line_at, onto_if, starts_from, line_table-starts, width-positive, chars-split, bytes-front, place-end, ahead-text}
use Rattle.typst_lines.proofs.PlaceLemmas.{head-splits, IsStep-from_ascii}
use Rattle.typst_lines.proofs.RoundTrip.{units-before, units-moved}

module _ (k : ℕ) where
  abbrev pub after : Line → Bool
  after l = nat_lt k l.byte_idx

  pub later-line : (n : ℕ) → k < n → nat_lt k n ≡ true
  later-line n lt = grind (arith, nat_tests)

  pub earlier-line : (n : ℕ) → n ≤ k → nat_lt k n ≡ false
  earlier-line n le = grind (arith, nat_tests)

  kept : (t : Bool) (x : Line) (xs : List Line) → nat_lt k x.byte_idx ≡ true → filter after xs ≡ xs → filter after (onto_if t x xs) ≡ onto_if t x xs
  kept t x xs e rest = grind arith

  left-out : (t : Bool) (x : Line) (xs : List Line) → nat_lt k x.byte_idx ≡ false → filter after (onto_if t x xs) ≡ filter after xs
  left-out t x xs e = grind arith

  all-after : (b u : ℕ) (cs : List ℕ) → k ≤ b → filter after (starts_from b u cs) ≡ starts_from b u cs
  all-after b u [] le = refl
  all-after b u (c ∷ cs) le =
      let wide = width-positive c in
      kept (ends_line c (slice_get cs 0)) (line_at (char_width c + b) (utf16_len c + u)) _ (later-line (char_width c + b) (omega arith)) (all-after (char_width c + b) (utf16_len c + u) cs (omega arith))

  past-front : (xs ys : List ℕ) (b u : ℕ) → k ≡ bytes xs + b → filter after (starts_from b u (xs ++ ys)) ≡ starts_from k (units xs + u) ys
  past-front [] ys b u e = grind (arith, all-after)
  past-front (c ∷ xs) ys b u e =
      left-out (ends_line c (slice_get (xs ++ ys) 0)) (line_at (char_width c + b) (utf16_len c + u)) _ (earlier-line (char_width c + b) (omega arith))
      ∙ past-front xs ys (char_width c + b) (utf16_len c + u) (omega arith) ∙ ap (λ n. starts_from k n ys) (let e : units xs + (utf16_len c + u) ≡ utf16_len c + units xs + u = omega arith in e)

module _ (s : List ℕ) (v : IsUtf8 s) (i : ℕ) (at : IsCharBoundary s i) where
  pub after-starts : lines_after s i ≡ starts_from i (utf16_before s i) (place_at s i).ahead
  unfolding lines_after place_at
  after-starts =
      let front : i ≡ bytes (chars (take i s)) + 0 = omega (arith, bytes-front s v i at) in
      let sum : units (chars (take i s)) + 0 ≡ utf16_before s i = omega arith in
      ap (filter (after i)) (line_table-starts s ∙ ap (λ cs. line_at 0 0 ∷ starts_from 0 0 cs) (chars-split s v i at))
      ∙ left-out i true (line_at 0 0) _ (earlier-line i 0 (omega arith))
      ∙ past-front i (chars (take i s)) (chars (drop i s)) 0 0 front ∙ ap (λ n. starts_from i n (chars (drop i s))) sum

starts-step : (b u : ℕ) (p : Place) (c : ℕ) → Some c ≡ scout 0 p
    → starts_from b u p.ahead ≡ onto_if (ends_line c (scout 0 (moved 1 p))) (line_at (char_width c + b) (utf16_len c + u)) (starts_from (char_width c + b) (utf16_len c + u) (moved 1 p).ahead)
starts-step b u p c e = let t = head-splits p.ahead c (sym e) in rw t.1 refl

-- one step of a loop from a place to the next
module _ (s : List ℕ) (v : IsUtf8 s) (i : ℕ) (at : IsCharBoundary s i) (c j : ℕ) (there : IsStep s i c j) where
  pub units-next : utf16_before s j ≡ utf16_before s i + utf16_len c
  units-next = omega (arith, units-before s i, units-before s j, ap (λ p. units p.before) there.moves, units-moved (place_at s i) c (sym there.next))

  step : lines_after s i ≡ onto_if (ends_line c (scout 0 (place_at s j))) (line_at j (utf16_before s j)) (lines_after s j)
  step = grind (arith, units-next, after-starts, starts-step)

  pub after-line : ends_line c (scout 0 (place_at s j)) ≡ true → lines_after s i ≡ line_at j (utf16_before s j) ∷ lines_after s j
  after-line e = step ∙ rw e refl

  pub after-on : ends_line c (scout 0 (place_at s j)) ≡ false → lines_after s i ≡ lines_after s j
  after-on e = step ∙ rw e refl

no-end : (c : ℕ) (next : Option ℕ) → is_newline c ≡ false → ends_line c next ≡ false
no-end c next e = rw e refl

-- over a plain byte
pub plain-step : (s : List ℕ) → IsUtf8 s → (start i b : ℕ) → IsPlainRun s start i → i < length s → b ≡ get_or s i 0 → b < 128 → is_newline b ≡ false → IsPlainRun s start (i + 1)
plain-step s v start i b run lt is small plain =
    let there = IsStep-from_ascii s v i b run.boundary lt is small in
    let one : utf16_len b ≡ 1 = grind (arith, nat_tests) in
    let more = units-next s v i run.boundary b (i + 1) there in
    grind (arith, after-on, no-end)

-- over several
plain-steps : (s : List ℕ) → IsUtf8 s → (start i n : ℕ) → IsPlainRun s start i → i + n ≤ length s → ((k : ℕ) → i ≤ k → k < i + n → is_plain_byte (get_or s k 0) ≡ true) → IsPlainRun s start (i + n)
plain-steps s v start i zero run room plain = let none : i ≡ i + 0 = omega arith in subst (IsPlainRun s start) none run
plain-steps s v start i (suc n) run room plain =
    let here = plain (i + n) (omega arith) (omega arith) in
    let rest = plain-steps s v start i n run (omega arith) (λ k from to. plain k from (omega arith)) in
    let more : i + n + 1 ≡ i + suc n = omega arith in
    subst (IsPlainRun s start) more (plain-step s v start (i + n) (get_or s (i + n) 0) rest (omega arith) refl (small _ (and_parts _ _ here).0) (not-true _ (and_parts _ _ here).1))
  where
    small : (b : ℕ) → nat_lt b 128 ≡ true → b < 128
    small b e = grind (arith, nat_tests)

-- over those that stand first among n bytes
pub plain-block : (s t : List ℕ) → IsUtf8 s → t ≡ s → (start i n run : ℕ) → IsPlainRun s start i → i + n ≤ length t → IsPlainFront t i n run → IsPlainRun s start (i + run)
plain-block s t v same start i n run so_far room h =
    plain-steps s v start i run so_far (omega (arith, ap length same, h.within)) (λ k from to. subst (λ x. is_plain_byte (get_or x k 0) ≡ true) same (h.plain k from to))

pub after-end : (s : List ℕ) → IsUtf8 s → (i : ℕ) → IsCharBoundary s i → None ≡ scout 0 (place_at s i) → lines_after s i ≡ []
after-end s v i at e = after-starts s v i at ∙ ap (starts_from i (utf16_before s i)) (place-end (place_at s i) e)

pub none-before : (s : List ℕ) → 0 ≡ utf16_before s 0
none-before s = sym (ap units chars-nil)

-- the first line, and those after it
pub table-after : (s : List ℕ) → IsUtf8 s → line_table s ≡ line_at 0 0 ∷ lines_after s 0
table-after s v =
    line_table-starts s
    ∙ ap (λ xs. line_at 0 0 ∷ xs)
    (sym (after-starts s v 0 (IsCharBoundary-start s v) ∙ ap (λ n. starts_from 0 n (place_at s 0).ahead) (sym (none-before s)) ∙ ap (starts_from 0 0) (ahead-text s)))
