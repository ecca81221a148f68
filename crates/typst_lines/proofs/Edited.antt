-- The line table of a text in which a stretch was replaced: lines that start before it stay, those behind it move.
use Rattle.typst_lines.proofs.Cited.{◌≡◌, ℕ, zero, suc, ◌+◌, ◌-◌, ◌%◌, ◌^◌, ◌<◌, ◌≤◌, Bool, true, false, nat_le, List, [], ◌∷◌, ◌++◌, length, map, filter, take, drop, take_at, drop_at, append_assoc, slice_get, Some, refl, ap, sym, subst, ◌∙◌, arith, nat_tests, chars, IsUtf8, IsCharBoundary, chars-append, IsUtf8-take, IsCharBoundary-start, ends_line, char_width, place_at, utf16_len, units, bytes, line_table, lines_after, utf16_before, line_of, IsEdit, distance, units_at, moved_line, UpTo, Line, slice_range}
use Rattle.typst_lines.proofs.LineTable.{line_at, onto_if, starts_from, line_table-starts, width-positive, units-le, units-front, bytes-append, bytes-text, bytes-front, chars-split, chars-range, front-boundary, front-ahead, front-chars}
use Rattle.typst_lines.proofs.LinesFromLaw.{after, later-line, earlier-line, after-starts, none-before, table-after}
use Rattle.typst_lines.proofs.TableOrder.{rising, rising-bytes, rising-lower, rising-units, table-bytes, many, none-upto, line_of-many}

-- ---- lines that start in or behind some characters start behind the first

abbrev AllFrom : ℕ → List Line → Type 0
AllFrom b [] = Unit {0}
AllFrom b (l ∷ ls) = (b ≤ l.byte_idx) × AllFrom b ls

all-onto : (b : ℕ) (t : Bool) (l : Line) (ls : List Line) → b ≤ l.byte_idx → AllFrom b ls → AllFrom b (onto_if t l ls)
all-onto b t l ls h k = grind arith

all-lower : (a b : ℕ) (ls : List Line) → a ≤ b → AllFrom b ls → AllFrom a ls
all-lower a b [] le h = tt
all-lower a b (l ∷ ls) le h = let first = h.0 in (omega (arith, le, first), all-lower a b ls le h.1)

starts-later : (b u : ℕ) (cs : List ℕ) → AllFrom (suc b) (starts_from b u cs)
starts-later b u [] = tt
starts-later b u (c ∷ cs) =
    let wide = width-positive c in
    all-onto (suc b) (ends_line c (slice_get cs 0)) (line_at (char_width c + b) (utf16_len c + u)) _ (omega (arith, wide))
    (all-lower (suc b) (suc (char_width c + b)) _ (omega (arith, wide)) (starts-later (char_width c + b) (utf16_len c + u) cs))

all-get : (b : ℕ) (ls : List Line) (i : ℕ) (l : Line) → AllFrom b ls → slice_get ls i ≡ Some l → b ≤ l.byte_idx
all-get b [] i l h e = absurd (cc)
all-get b (m ∷ ls) zero l h e = let same : m ≡ l = cc in subst (λ (n : Line). b ≤ n.byte_idx) same h.0
all-get b (m ∷ ls) (suc i) l h e = all-get b ls i l h.1 e

-- ---- up to a line that starts before the end of what two texts begin with, both tables are the same

record Kept (b u : ℕ) (front xs ys : List ℕ) (i : ℕ) (l : Line) : Type 0 where
  first : List ℕ
  more : List ℕ
  parts : front ≡ first ++ more
  byte : l.byte_idx ≡ bytes first + b
  unit : l.utf16_idx ≡ units first + u
  now : starts_from b u (front ++ ys) ≡ take (suc i) (starts_from b u (front ++ xs)) ++ starts_from l.byte_idx l.utf16_idx (more ++ ys)

kept-next : (b u c : ℕ) (front xs ys : List ℕ) (i : ℕ) (l : Line) (t : Bool) → ends_line c (slice_get (front ++ xs) 0) ≡ t → ends_line c (slice_get (front ++ ys) 0) ≡ t
    → slice_get (onto_if t (line_at (char_width c + b) (utf16_len c + u)) (starts_from (char_width c + b) (utf16_len c + u) (front ++ xs))) i ≡ Some l
    → ((j : ℕ) → slice_get (starts_from (char_width c + b) (utf16_len c + u) (front ++ xs)) j ≡ Some l → Kept (char_width c + b) (utf16_len c + u) front xs ys j l)
    → Kept b u (c ∷ front) xs ys i l
kept-next b u c front xs ys zero l true e f at rest =
    let same : line_at (char_width c + b) (utf16_len c + u) ≡ l = cc in
    let byte : char_width c + b ≡ l.byte_idx = ap (λ (m : Line). m.byte_idx) same in
    let unit : utf16_len c + u ≡ l.utf16_idx = ap (λ (m : Line). m.utf16_idx) same in
    record {
      first = c ∷ [];
      more = front;
      parts = refl;
      byte = omega (arith, byte);
      unit = omega (arith, unit);
      now = rw (e, f) (ap (λ m. m ∷ starts_from (char_width c + b) (utf16_len c + u) (front ++ ys)) same ∙ ap (λ n. l ∷ starts_from n (utf16_len c + u) (front ++ ys)) byte ∙ ap (λ n. l ∷ starts_from l.byte_idx n (front ++ ys)) unit
          ∙ ap (λ m. m ∷ starts_from l.byte_idx l.utf16_idx (front ++ ys)) (sym same));
    }
kept-next b u c front xs ys (suc i) l true e f at rest =
    let k = rest i at in
    record {
      first = c ∷ k.first;
      more = k.more;
      parts = ap (λ cs. c ∷ cs) k.parts;
      byte = let is = k.byte in omega (arith, is);
      unit = let is = k.unit in omega (arith, is);
      now = rw (e, f) (ap (λ ls. line_at (char_width c + b) (utf16_len c + u) ∷ ls) k.now);
    }
kept-next b u c front xs ys i l false e f at rest =
    let k = rest i at in
    record {
      first = c ∷ k.first;
      more = k.more;
      parts = ap (λ cs. c ∷ cs) k.parts;
      byte = let is = k.byte in omega (arith, is);
      unit = let is = k.unit in omega (arith, is);
      now = rw (e, f) k.now;
    }

late : (b u : ℕ) (cs : List ℕ) (i : ℕ) (l : Line) → slice_get (starts_from b u cs) i ≡ Some l → b < l.byte_idx
late b u cs i l at = all-get (suc b) (starts_from b u cs) i l (starts-later b u cs) at

kept-from : (b u : ℕ) (front xs ys : List ℕ) (i : ℕ) (l : Line) → slice_get (starts_from b u (front ++ xs)) i ≡ Some l → l.byte_idx < bytes front + b → Kept b u front xs ys i l
kept-from b u [] xs ys i l at h = absurd (omega (arith, h, late b u xs i l at))
kept-from b u (c ∷ []) xs ys i l at h = grind (arith, all-get, all-onto, all-lower, starts-later)
kept-from b u (c ∷ d ∷ front) xs ys i l at h =
    kept-next b u c (d ∷ front) xs ys i l (ends_line c (Some d)) refl refl at (λ j there. kept-from (char_width c + b) (utf16_len c + u) (d ∷ front) xs ys j l there (omega (arith, h)))

-- ---- behind the stretch they are moved

abbrev plainly : ℕ → ℕ → ℕ → ℕ → Line → Line
plainly b c u v l = record { byte_idx = l.byte_idx - b + c; utf16_idx = l.utf16_idx - u + v }

moved-onto : (b0 c0 u0 v0 : ℕ) (t : Bool) (l m : Line) (ls ms : List Line) → m ≡ plainly b0 c0 u0 v0 l → ms ≡ map (plainly b0 c0 u0 v0) ls → onto_if t m ms ≡ map (plainly b0 c0 u0 v0) (onto_if t l ls)
moved-onto b0 c0 u0 v0 t l m ls ms e f = grind arith

line-is : (b c u v : ℕ) → b ≡ c → u ≡ v → line_at b u ≡ line_at c v
line-is b c u v e f = ap (λ n. line_at n u) e ∙ ap (λ n. line_at c n) f

starts-moved : (b0 c0 u0 v0 b u c v : ℕ) (cs : List ℕ) → b0 ≤ b → u0 ≤ u → c ≡ b - b0 + c0 → v ≡ u - u0 + v0 → starts_from c v cs ≡ map (plainly b0 c0 u0 v0) (starts_from b u cs)
starts-moved b0 c0 u0 v0 b u c v [] le lo e f = refl
starts-moved b0 c0 u0 v0 b u c v (d ∷ cs) le lo e f =
    moved-onto b0 c0 u0 v0 (ends_line d (slice_get cs 0)) (line_at (char_width d + b) (utf16_len d + u)) (line_at (char_width d + c) (utf16_len d + v)) _ _
    (line-is (char_width d + c) (char_width d + b - b0 + c0) (utf16_len d + v) (utf16_len d + u - u0 + v0) (omega (arith, le, e)) (omega (arith, lo, f)))
    (starts-moved b0 c0 u0 v0 (char_width d + b) (utf16_len d + u) (char_width d + c) (utf16_len d + v) cs (omega (arith, le)) (omega (arith, lo)) (omega (arith, le, e)) (omega (arith, lo, f)))

-- by the first of them, where a line ends at the first character, and where none does
first-by : (b0 c0 b u c v d : ℕ) (cs : List ℕ) → b0 ≤ b → c ≡ b - b0 + c0 → (y : Line) (ys : List Line) → starts_from c v (d ∷ cs) ≡ y ∷ ys
    → (starts_from (char_width d + c) (utf16_len d + v) cs ≡ y ∷ ys → y ∷ ys ≡ map (plainly b0 c0 (units_at (starts_from (char_width d + b) (utf16_len d + u) cs)) y.utf16_idx) (starts_from (char_width d + b) (utf16_len d + u) cs))
    → (t : Bool) → ends_line d (slice_get cs 0) ≡ t → y ∷ ys ≡ map (plainly b0 c0 (units_at (starts_from b u (d ∷ cs))) y.utf16_idx) (starts_from b u (d ∷ cs))
first-by b0 c0 b u c v d cs le e y ys at rest t h = grind (arith, line-is, starts-moved)

moved-first : (b0 c0 b u c v : ℕ) (cs : List ℕ) → b0 ≤ b → c ≡ b - b0 + c0 → (y : Line) (ys : List Line) → starts_from c v cs ≡ y ∷ ys
    → y ∷ ys ≡ map (plainly b0 c0 (units_at (starts_from b u cs)) y.utf16_idx) (starts_from b u cs)
moved-first b0 c0 b u c v [] le e y ys at = absurd (cc)
moved-first b0 c0 b u c v (d ∷ cs) le e y ys at = first-by b0 c0 b u c v d cs le e y ys at (moved-first b0 c0 (char_width d + b) (utf16_len d + u) (char_width d + c) (utf16_len d + v) cs (omega (arith, le)) (omega (arith, le, e)) y ys) (ends_line d (slice_get cs 0)) refl

-- in numbers that a machine word holds

abbrev Small : List Line → Type 0
Small [] = Unit {0}
Small (l ∷ ls) = (l.byte_idx < 2 ^ 64) × (l.utf16_idx < 2 ^ 64) × Small ls

small-onto : (t : Bool) (l : Line) (ls : List Line) → l.byte_idx < 2 ^ 64 → l.utf16_idx < 2 ^ 64 → Small ls → Small (onto_if t l ls)
small-onto t l ls h k m = grind arith

starts-small : (b u : ℕ) (cs : List ℕ) → bytes cs + b < 2 ^ 64 → units cs + u < 2 ^ 64 → Small (starts_from b u cs)
starts-small b u [] h k = tt
starts-small b u (c ∷ cs) h k =
    small-onto (ends_line c (slice_get cs 0)) (line_at (char_width c + b) (utf16_len c + u)) _ (omega (arith, h)) (omega (arith, k))
    (starts-small (char_width c + b) (utf16_len c + u) cs (omega (arith, h)) (omega (arith, k)))

first-small : (ls : List Line) → Small ls → units_at ls < 2 ^ 64
first-small ls h = grind arith

first-units : (low : ℕ) (ls : List Line) → rising (λ l. l.utf16_idx) low ls → rising (λ l. l.utf16_idx) (units_at ls) ls
first-units low ls r = grind arith

-- a number moved by a distance that wraps round is as far after `to` as it was after `from`, where a word holds that
moved-by : (from to at : ℕ) → from < 2 ^ 64 → from ≤ at → at - from + to < 2 ^ 64 → (at + distance from to) % 2 ^ 64 ≡ at - from + to
moved-by from to at small le short = omega (arith, small, le, short)

small-moved : (b c u v : ℕ) (ls ms : List Line) → b < 2 ^ 64 → u < 2 ^ 64 → rising (λ l. l.byte_idx) b ls → rising (λ l. l.utf16_idx) u ls → ms ≡ map (plainly b c u v) ls → Small ms
    → map (moved_line b c u v) ls ≡ ms
small-moved b c u v [] ms b_small u_small bytes_rise units_rise e h = sym e
small-moved b c u v (l ∷ ls) [] b_small u_small bytes_rise units_rise e h = absurd (cc)
small-moved b c u v (l ∷ ls) (m ∷ ms) b_small u_small bytes_rise units_rise e h =
    let first : m ≡ plainly b c u v l = cc in
    let rest : ms ≡ map (plainly b c u v) ls = cc in
    let byte : m.byte_idx ≡ l.byte_idx - b + c = ap (λ (n : Line). n.byte_idx) first in
    let unit : m.utf16_idx ≡ l.utf16_idx - u + v = ap (λ (n : Line). n.utf16_idx) first in
    let low = h.0 in
    let short = h.1 in
    let byte_moved = moved-by b c l.byte_idx b_small bytes_rise.0 (omega (arith, byte, low)) in
    let unit_moved = moved-by u v l.utf16_idx u_small units_rise.0 (omega (arith, unit, short)) in
    let same : moved_line b c u v l ≡ m = line-is ((l.byte_idx + distance b c) % 2 ^ 64) m.byte_idx ((l.utf16_idx + distance u v) % 2 ^ 64) m.utf16_idx (byte_moved ∙ sym byte) (unit_moved ∙ sym unit) in
    let later_bytes = rising-lower (λ n. n.byte_idx) b l.byte_idx ls bytes_rise.0 bytes_rise.1 in
    let later_units = rising-lower (λ n. n.utf16_idx) u l.utf16_idx ls units_rise.0 units_rise.1 in
    ap (λ n. n ∷ map (moved_line b c u v) ls) same ∙ ap (λ ns. m ∷ ns) (small-moved b c u v ls ms b_small u_small later_bytes later_units rest h.2)

-- ---- lines up to a byte and those behind it

upto-more : (b c : ℕ) (ls : List Line) → b ≤ c → UpTo b ls → UpTo c ls
upto-more b c [] le h = tt
upto-more b c (l ∷ ls) le h = let first = h.0 in (omega (arith, le, first), upto-more b c ls le h.1)

pub upto-one : (b : ℕ) (ls : List Line) (l : Line) → UpTo b ls → l.byte_idx ≤ b → UpTo b (ls ++ l ∷ [])
upto-one b [] l h k = (k, tt)
upto-one b (m ∷ ls) l h k = (h.0, upto-one b ls l h.1 k)

rising-get : (low : ℕ) (ls : List Line) (i : ℕ) (l : Line) → rising (λ m. m.byte_idx) low ls → slice_get ls i ≡ Some l → low ≤ l.byte_idx
rising-get low [] i l r e = absurd (cc)
rising-get low (m ∷ ls) zero l r e = let same : m ≡ l = cc in subst (λ (n : Line). low ≤ n.byte_idx) same r.0
rising-get low (m ∷ ls) (suc i) l r e = let first = r.0 in let later = rising-get m.byte_idx ls i l r.1 e in omega (arith, first, later)

take-upto : (low : ℕ) (ls : List Line) (i : ℕ) (l : Line) → rising (λ m. m.byte_idx) low ls → slice_get ls i ≡ Some l → UpTo l.byte_idx (take (suc i) ls)
take-upto low [] i l r e = absurd (cc)
take-upto low (m ∷ ls) zero l r e = let same : m ≡ l = cc in (subst (λ (n : Line). m.byte_idx ≤ n.byte_idx) same (omega arith), tt)
take-upto low (m ∷ ls) (suc i) l r e = (rising-get m.byte_idx ls i l r.1 e, take-upto m.byte_idx ls i l r.1 e)

-- those behind, of lines in order
all-behind : (b low : ℕ) (ls : List Line) → b < low → rising (λ m. m.byte_idx) low ls → filter (after b) ls ≡ ls
all-behind b low [] h r = refl
all-behind b low (l ∷ ls) h r =
    let first = r.0 in
    rw (later-line b l.byte_idx (omega (arith, h, first))) (ap (λ ms. l ∷ ms) (all-behind b l.byte_idx ls (omega (arith, h, first)) r.1))

behind-are : (b low : ℕ) (ls : List Line) (m : Line) (ms : List Line) → UpTo b ls → b < m.byte_idx → rising (λ n. n.byte_idx) low (ls ++ m ∷ ms) → filter (after b) (ls ++ m ∷ ms) ≡ m ∷ ms
behind-are b low [] m ms h lt r = rw (later-line b m.byte_idx lt) (ap (λ ns. m ∷ ns) (all-behind b m.byte_idx ms lt r.1))
behind-are b low (l ∷ ls) m ms h lt r = rw (earlier-line b l.byte_idx h.0) (behind-are b l.byte_idx ls m ms h.1 lt r.1)

abbrev upto : ℕ → Line → Bool
upto b l = nat_le l.byte_idx b

dropped-by : (b low : ℕ) (l : Line) (ls : List Line) (t : Bool) → nat_le l.byte_idx b ≡ t → rising (λ n. n.byte_idx) l.byte_idx ls → filter (after b) ls ≡ drop (many b ls) ls → filter (after b) (l ∷ ls) ≡ drop (many b (l ∷ ls)) (l ∷ ls)
dropped-by b low l ls t h r rest = grind (arith, nat_tests, earlier-line, none-upto, later-line, all-behind)

dropped : (b low : ℕ) (ls : List Line) → rising (λ n. n.byte_idx) low ls → filter (after b) ls ≡ drop (many b ls) ls
dropped b low [] r = refl
dropped b low (l ∷ ls) r = dropped-by b low l ls (nat_le l.byte_idx b) refl r.1 (dropped b l.byte_idx ls r.1)

-- only of none are none left
none-moved : (f : Line → Line) (ls : List Line) → map f ls ≡ [] → ls ≡ []
none-moved f [] e = refl
none-moved f (l ∷ ls) e = absurd (cc)

-- ---- a text in which a stretch was replaced

module _ (s new : List ℕ) (u : IsUtf8 s) (v : IsUtf8 new) (start end new_end : ℕ) (e : IsEdit s new start end new_end) where
  abbrev front : List ℕ
  front = chars (take start s)

  abbrev mid : List ℕ
  mid = chars (slice_range s start end)

  abbrev with : List ℕ
  with = chars e.with

  abbrev rest : List ℕ
  rest = chars (drop end s)

  utf8_front : IsUtf8 (take start s)
  utf8_front = IsUtf8-take s start u e.starts

  old-is : chars s ≡ front ++ (mid ++ rest)
  old-is = chars-split s u end e.ends ∙ ap (λ cs. cs ++ rest) (chars-range s u start end e.ordered e.starts e.ends) ∙ append_assoc front mid rest

  new-is : chars new ≡ front ++ (with ++ rest)
  new-is = ap chars e.is ∙ chars-append (take start s) (e.with ++ drop end s) utf8_front ∙ ap (λ cs. front ++ cs) (chars-append e.with (drop end s) e.utf8)

  front-size : bytes front ≡ start
  front-size = bytes-front s u start e.starts

  -- where the new stretch ends
  abbrev count : ℕ
  count = length (front ++ with)

  split-there : chars new ≡ (front ++ with) ++ rest
  split-there = new-is ∙ sym (append_assoc front with rest)

  end-size : new_end ≡ bytes (take count (chars new))
  end-size = grind (arith, bytes-append, front-size, bytes-text, split-there, take_at)

  pub start-boundary : IsCharBoundary new start
  start-boundary = front-boundary new v (length front) start (sym front-size ∙ ap bytes (sym (ap (take (length front)) new-is ∙ take_at front (with ++ rest) (length front) refl)))

  pub end-boundary : IsCharBoundary new new_end
  end-boundary = front-boundary new v count new_end end-size

  end-ahead : chars (drop new_end new) ≡ rest
  end-ahead = front-ahead new v count new_end end-size ∙ ap (drop count) split-there ∙ drop_at (front ++ with) rest count refl

  -- the tables behind
  new-behind : lines_after new new_end ≡ starts_from new_end (utf16_before new new_end) rest
  unfolding place_at
  new-behind = after-starts new v new_end end-boundary ∙ ap (starts_from new_end (utf16_before new new_end)) end-ahead

  old-behind : lines_after s end ≡ starts_from end (utf16_before s end) rest
  unfolding place_at
  old-behind = after-starts s u end e.ends

  -- ---- what stays

  pub record KeptFront (n : ℕ) (l : Line) : Type 0 where
    pub boundary : IsCharBoundary new l.byte_idx
    pub unit : l.utf16_idx ≡ utf16_before new l.byte_idx
    pub is : take (suc n) (line_table s) ++ lines_after new l.byte_idx ≡ line_table new
    pub upto : UpTo new_end (take (suc n) (line_table s))

  ends-late : start - 1 ≤ new_end
  ends-late = omega (arith, e.new_end_is)

  kept-more : (i : ℕ) (l : Line) → slice_get (starts_from 0 0 (chars s)) i ≡ Some l → slice_get (line_table s) (suc i) ≡ Some l → l.byte_idx ≤ start - 1 → KeptFront (suc i) l
  unfolding place_at
  kept-more i l at there le =
      let at_front : slice_get (starts_from 0 0 (front ++ (mid ++ rest))) i ≡ Some l = ap (λ cs. slice_get (starts_from 0 0 cs) i) (sym old-is) ∙ at in
      let some = late 0 0 (front ++ (mid ++ rest)) i l at_front in
      let k = kept-from 0 0 front (mid ++ rest) (with ++ rest) i l at_front (omega (arith, le, some, front-size)) in
      let c = length k.first in
      let parts : chars new ≡ k.first ++ (k.more ++ (with ++ rest)) = new-is ∙ ap (λ cs. cs ++ (with ++ rest)) k.parts ∙ append_assoc k.first k.more (with ++ rest) in
      let taken : take c (chars new) ≡ k.first = ap (take c) parts ∙ take_at k.first (k.more ++ (with ++ rest)) c refl in
      let byte = k.byte in
      let size : l.byte_idx ≡ bytes (take c (chars new)) = omega (arith, byte, ap bytes taken) in
      let boundary = front-boundary new v c l.byte_idx size in
      let is_unit = k.unit in
      let unit : l.utf16_idx ≡ utf16_before new l.byte_idx = omega (arith, is_unit, ap units (front-chars new v c l.byte_idx size ∙ taken)) in
      let ahead : chars (drop l.byte_idx new) ≡ k.more ++ (with ++ rest) = front-ahead new v c l.byte_idx size ∙ ap (drop c) parts ∙ drop_at k.first (k.more ++ (with ++ rest)) c refl in
      let later : lines_after new l.byte_idx ≡ starts_from l.byte_idx l.utf16_idx (k.more ++ (with ++ rest)) =
      after-starts new v l.byte_idx boundary ∙ ap (λ n. starts_from l.byte_idx n (chars (drop l.byte_idx new))) (sym unit) ∙ ap (starts_from l.byte_idx l.utf16_idx) ahead in
      let table : take (suc (suc i)) (line_table s) ≡ line_at 0 0 ∷ take (suc i) (starts_from 0 0 (front ++ (mid ++ rest))) = ap (take (suc (suc i))) (line_table-starts s ∙ ap (λ cs. line_at 0 0 ∷ starts_from 0 0 cs) old-is) in
      record {
        boundary = boundary;
        unit = unit;
        is = ap (λ ls. ls ++ lines_after new l.byte_idx) table ∙ ap (λ ls. line_at 0 0 ∷ (take (suc i) (starts_from 0 0 (front ++ (mid ++ rest))) ++ ls)) later
            ∙ ap (λ ls. line_at 0 0 ∷ ls) (sym k.now) ∙ sym (line_table-starts new ∙ ap (λ cs. line_at 0 0 ∷ starts_from 0 0 cs) new-is);
        upto = upto-more l.byte_idx new_end (take (suc (suc i)) (line_table s)) (omega (arith, le, ends-late)) (take-upto 0 (line_table s) (suc i) l (table-bytes s) there);
      }

  kept-zero : (l : Line) → line_at 0 0 ≡ l → KeptFront 0 l
  kept-zero l same = subst (KeptFront 0) same (record {
    boundary = IsCharBoundary-start new v;
    unit = none-before new;
    is = ap (λ ls. take 1 ls ++ lines_after new 0) (line_table-starts s) ∙ sym (table-after new v);
    upto = subst (λ ls. UpTo new_end (take 1 ls)) (sym (line_table-starts s)) (omega arith, tt);
  })

  pub kept-front : (n : ℕ) (l : Line) → slice_get (line_table s) n ≡ Some l → l.byte_idx ≤ start - 1 → KeptFront n l
  kept-front zero l at le = kept-zero l (let here = ap (λ ls. slice_get ls 0) (sym (line_table-starts s)) ∙ at in cc)
  kept-front (suc i) l at le = kept-more i l (ap (λ ls. slice_get ls (suc i)) (sym (line_table-starts s)) ∙ at) at le

  -- ---- what moves

  abbrev behind : List Line
  behind = drop (suc (line_of s end)) (line_table s)

  behind-is : behind ≡ starts_from end (utf16_before s end) rest
  unfolding lines_after
  behind-is = ap (λ n. drop n (line_table s)) (line_of-many end s) ∙ sym (dropped end 0 (line_table s) (table-bytes s)) ∙ old-behind

  pub settled : length s < 2 ^ 64 → length new < 2 ^ 64 → (lines : List Line) (y : Line) (ys : List Line) → lines ++ y ∷ ys ≡ line_table new → UpTo new_end lines → new_end < y.byte_idx
      → lines ++ map (moved_line end new_end (units_at behind) y.utf16_idx) behind ≡ line_table new
  unfolding lines_after
  settled fits short lines y ys is few late_line =
      let order = subst (rising (λ n. n.byte_idx) 0) (sym is) (table-bytes new) in
      let later : y ∷ ys ≡ starts_from new_end (utf16_before new new_end) rest = sym (behind-are new_end 0 lines y ys few late_line order) ∙ ap (filter (after new_end)) is ∙ new-behind in
      let old = starts_from end (utf16_before s end) rest in
      let moves : y ∷ ys ≡ map (plainly end new_end (units_at old) y.utf16_idx) old = moved-first end new_end end (utf16_before s end) new_end (utf16_before new new_end) rest (omega arith) (omega arith) y ys (sym later) in
      let whole : bytes rest + new_end ≡ length new = let a = ap bytes split-there in let b = bytes-append (front ++ with) rest in let c = bytes-text new v in let d = ap bytes (ap (take count) split-there ∙ take_at (front ++ with) rest count refl) in omega (arith, a, b, c, d, end-size) in
      let unit_few = units-front new v new_end end-boundary in
      let small = subst Small (sym later) (starts-small new_end (utf16_before new new_end) rest (omega (arith, whole, short)) (omega (arith, units-le rest, whole, short, unit_few))) in
      let old_whole : bytes rest + end ≡ length s = let a = ap bytes (chars-split s u end e.ends) in let b = bytes-append (chars (take end s)) rest in let c = bytes-text s u in let d = bytes-front s u end e.ends in omega (arith, a, b, c, d) in
      let old_few = units-front s u end e.ends in
      let old_small = starts-small end (utf16_before s end) rest (omega (arith, old_whole, fits)) (omega (arith, units-le rest, old_whole, fits, old_few)) in
      let units_rise = first-units (utf16_before s end) old (rising-units end (utf16_before s end) rest) in
      let all : map (moved_line end new_end (units_at old) y.utf16_idx) old ≡ y ∷ ys =
      small-moved end new_end (units_at old) y.utf16_idx old (y ∷ ys) (omega (arith, old_whole, fits)) (first-small old old_small) (rising-bytes end (utf16_before s end) rest) units_rise moves small in
      ap (λ ls. lines ++ map (moved_line end new_end (units_at ls) y.utf16_idx) ls) behind-is ∙ ap (λ ls. lines ++ ls) all ∙ is

  -- where no line starts behind the stretch now, none did
  pub none-behind : lines_after new new_end ≡ [] → behind ≡ []
  none-behind e =
      grind (arith, starts-moved end new_end (utf16_before s end) (utf16_before new new_end) end (utf16_before s end) new_end (utf16_before new new_end) rest (omega arith) (omega arith) (omega arith) (omega arith), behind-is, none-moved, new-behind)
