-- Facts on positions: units, lines and columns, and the ways back.
use Rattle.typst_lines.proofs.Cited.{◌≡◌, ◌≤◌, ◌<◌, suc, Bool, length, ℕ, ◌+◌, ◌-◌, ◌==◌, ◌&&◌, List, [], ◌∷◌, ◌++◌, slice_get, is_none, Option, Some, None, refl, sym, ap, subst, ◌∙◌, true, false, arith, take, drop, slice_range, filter, nat_le, nat_lt, take_at, unwrap_or, length-append, take-add, drop-drop, length-take-le, length-drop, nat_tests, chars-append, IsUtf8-between, IsCharBoundary-end, option_map, chars, IsUtf8, IsCharBoundary, Place, place_at, moved, scout, char_width, utf16_len, units, bytes, places_from, line_table, line_of, line_start, line_range, column_of, byte_at, byte_reached, byte_at_utf16, least_place, utf16_before, IsLine, IsLineOf, IsLineUpTo, Line, Range}
use Rattle.std.proofs.lemmas.List.{take-append-drop}
use mathlib.Core.List.{reverse_aux}
use Rattle.typst_lines.proofs.LineTable.{units-append, bytes-append, bytes-front, units-front, bytes-text, chars-split, chars-range, utf16_len-positive, place-end, bytes-step}
use Rattle.typst_lines.proofs.PlaceLemmas.{head-splits}
use Rattle.typst_lines.proofs.TableOrder.{table-sound, table-next, line_of-next}
use Rattle.std.proofs.lemmas.Bool.{and_right}

-- the units up to j are those up to i and those between
pub units-range : (s : List ℕ) → IsUtf8 s → (i j : ℕ) → i ≤ j → IsCharBoundary s i → IsCharBoundary s j → utf16_before s i + units (chars (slice_range s i j)) ≡ utf16_before s j
units-range s u i j le at end = sym (units-append (chars (take i s)) (chars (slice_range s i j))) ∙ sym (ap units (chars-range s u i j le at end))

-- a stretch of characters in two parts
chars-between-both : (s : List ℕ) → IsUtf8 s → (i j k : ℕ) → i ≤ j → j ≤ k → IsCharBoundary s i → IsCharBoundary s j → chars (slice_range s i k) ≡ chars (slice_range s i j) ++ chars (slice_range s j k)
chars-between-both s u i j k le le' at mid =
    let sum : k - i ≡ (j - i) + (k - j) = omega arith in
    let there : i + (j - i) ≡ j = omega arith in
    ap (λ n. chars (take n (drop i s))) sum ∙ ap chars (take-add (j - i) (k - j) (drop i s))
    ∙ ap (λ t. chars (slice_range s i j ++ take (k - j) t)) (drop-drop (j - i) i s ∙ ap (λ n. drop n s) there)
    ∙ chars-append (slice_range s i j) (slice_range s j k) (IsUtf8-between s i j u le at mid)

bytes-between : (s : List ℕ) → IsUtf8 s → (i j : ℕ) → i ≤ j → IsCharBoundary s i → IsCharBoundary s j → i + bytes (chars (slice_range s i j)) ≡ j
bytes-between s u i j le at end =
    omega (arith, bytes-text (slice_range s i j) (IsUtf8-between s i j u le at end), length-take-le (j - i) (drop i s) (omega (arith, length-drop i s, end.0)))

-- ---- the least place with so many units

abbrev pub enough : ℕ → Place → Bool
enough u p = nat_le u (units p.before)

-- the first place from here on with so many units before it
abbrev pub reach : ℕ → Place → Option Place
reach u p = slice_get (filter (enough u) (places_from p.before p.ahead)) 0

too-few : (u n : ℕ) → n < u → nat_le u n ≡ false
too-few u n lt = grind (arith, nat_tests)

so-many : (u n : ℕ) → u ≤ n → nat_le u n ≡ true
so-many u n le = grind (arith, nat_tests)

skip : (u : ℕ) (xs ys before : List ℕ) → units xs + units before ≤ u → filter (enough u) (places_from before (xs ++ ys)) ≡ filter (enough u) (places_from (reverse_aux xs before) ys)
skip u [] ys before le = refl
skip u (c ∷ xs) ys before le =
    let positive = utf16_len-positive c in
    rw (too-few u (units before) (omega arith)) (skip u xs ys (c ∷ before) (omega arith))

units-reverse_aux : (xs ys : List ℕ) → units (reverse_aux xs ys) ≡ units xs + units ys
units-reverse_aux [] ys = omega arith
units-reverse_aux (c ∷ xs) ys = omega (arith, units-reverse_aux xs (c ∷ ys))

bytes-reverse_aux : (xs ys : List ℕ) → bytes (reverse_aux xs ys) ≡ bytes xs + bytes ys
bytes-reverse_aux [] ys = omega arith
bytes-reverse_aux (c ∷ xs) ys = omega (arith, bytes-reverse_aux xs (c ∷ ys))

-- what stands before a place of a text
pub units-before : (s : List ℕ) (i : ℕ) → units (place_at s i).before ≡ utf16_before s i
unfolding place_at
units-before s i = omega (arith, units-reverse_aux (chars (take i s)) [])

pub bytes-before : (s : List ℕ) → IsUtf8 s → (i : ℕ) → IsCharBoundary s i → bytes (place_at s i).before ≡ i
unfolding place_at
bytes-before s u i at = omega (arith, bytes-reverse_aux (chars (take i s)) [], bytes-front s u i at)

-- a place with no more units before it is passed
pub reach-from : (s : List ℕ) → IsUtf8 s → (i u : ℕ) → IsCharBoundary s i → utf16_before s i ≤ u → reach u (place_at s i) ≡ least_place s u
unfolding place_at
reach-from s v i u at le =
    ap (λ ps. slice_get ps 0) (sym (skip u (chars (take i s)) (chars (drop i s)) [] (omega arith)))
    ∙ ap (λ cs. slice_get (filter (enough u) (places_from [] cs)) 0) (sym (chars-split s v i at))

pub reach-here : (u : ℕ) (p : Place) → u ≤ units p.before → reach u p ≡ Some p
reach-here u p le = here p.before p.ahead (so-many u (units p.before) le)
  where
    here : (xs ys : List ℕ) → nat_le u (units xs) ≡ true → slice_get (filter (enough u) (places_from xs ys)) 0 ≡ Some (record { before = xs; ahead = ys })
    here xs [] t = rw t refl
    here xs (c ∷ ys) t = rw t refl

pub reach-on : (u : ℕ) (p : Place) (c : ℕ) → Some c ≡ scout 0 p → units p.before < u → reach u (moved 1 p) ≡ reach u p
reach-on u p c e lt = grind arith

pub reach-end : (u : ℕ) (p : Place) → p.ahead ≡ [] → units p.before < u → reach u p ≡ None
reach-end u p e lt = rw (e, too-few u (units p.before) lt) refl

not-past : (u n k : ℕ) → n ≤ u → nat_lt u n ≡ false
not-past u n k le = grind (arith, nat_tests)

-- ---- the ways back

pub back-from_utf16 : (s : List ℕ) → IsUtf8 s → (b : ℕ) → IsCharBoundary s b → byte_at_utf16 s (utf16_before s b) ≡ Some b
unfolding byte_at_utf16
back-from_utf16 s v b at =
    let n = utf16_before s b in
    let p = place_at s b in
    let first : least_place s n ≡ Some p = sym (reach-from s v b n at (omega arith)) ∙ reach-here n p (omega (arith, units-before s b)) in
    let some : byte_reached n p ≡ Some (bytes p.before) = rw (not-past n (units p.before) 0 (omega (arith, units-before s b))) refl in
    rw first (some ∙ ap Some (bytes-before s v b at))

module _ (s : List ℕ) (v : IsUtf8 s) (b : ℕ) (end : IsCharBoundary s b) (l : Line) (of : IsLineOf s b l) where
  sound : IsLine s l
  sound = table-sound s v (line_of s b) l of.at

  pub start-is : line_start s (line_of s b) ≡ Some l.byte_idx
  unfolding line_start
  start-is = rw of.at refl

  pub column-is : column_of s b ≡ length (chars (slice_range s l.byte_idx b))
  unfolding column_of
  column-is = rw start-is refl

  next-bound : (o : Option Line) → slice_get (line_table s) (suc (line_of s b)) ≡ o → (b ≤ unwrap_or (option_map (λ (x : Line). x.byte_idx) o) (length s)) × IsCharBoundary s (unwrap_or (option_map (λ (x : Line). x.byte_idx) o) (length s))
  next-bound None e = (end.0, IsCharBoundary-end s)
  next-bound (Some x) e = let lt = line_of-next b s x e in (omega arith, (table-sound s v (suc (line_of s b)) x e).boundary)

  abbrev stop : ℕ
  stop = unwrap_or (option_map (λ (x : Line). x.byte_idx) (slice_get (line_table s) (suc (line_of s b)))) (length s)

  range-is : line_range s (line_of s b) ≡ Some (record { start = l.byte_idx; end = stop })
  unfolding line_range line_start
  range-is = let more : line_of s b + 1 ≡ suc (line_of s b) = omega arith in rw (of.at, more) refl

  pub back-from_line_column : byte_at s (line_of s b) (column_of s b) ≡ Some b
  unfolding byte_at
  back-from_line_column =
      let bound = next-bound (slice_get (line_table s) (suc (line_of s b))) refl in
      let xs = chars (slice_range s l.byte_idx b) in
      let zs = chars (slice_range s b stop) in
      let whole : chars (slice_range s l.byte_idx stop) ≡ xs ++ zs = chars-between-both s v l.byte_idx b stop of.before bound.0 sound.boundary end in
      grind (arith, so-many, length-append, bytes-between, sound, range-is, column-is, take_at)

-- ---- the range of a line

pub record IsSoundRange (s : List ℕ) (r : Range ℕ) : Type 0 where
  pub start : IsCharBoundary s r.start
  pub end : IsCharBoundary s r.end
  pub ordered : r.start ≤ r.end

same-range : (q r : Range ℕ) → Some q ≡ Some r → q ≡ r
same-range q r e = cc

abbrev range_at : List ℕ → Option Line → Line → Range ℕ
range_at s next l = record { start = l.byte_idx; end = unwrap_or (option_map (λ (x : Line). x.byte_idx) next) (length s) }

sound-range : (s : List ℕ) → IsUtf8 s → (i : ℕ) (o next : Option Line) (r : Range ℕ) → slice_get (line_table s) i ≡ o → slice_get (line_table s) (suc i) ≡ next → option_map (range_at s next) o ≡ Some r → IsSoundRange s r
sound-range s v i None next r e f is = absurd (cc)
sound-range s v i (Some l) None r e f is = grind (arith, table-sound s v i l e)
sound-range s v i (Some l) (Some m) r e f is =
    let line = table-sound s v i l e in
    subst (IsSoundRange s) (same-range (range_at s (Some m) l) r is) (record { start = line.boundary; end = (table-sound s v (suc i) m f).boundary; ordered = table-next s i l m e f })

map-map : (s : List ℕ) (next o : Option Line) → option_map (λ start. record { start = start; end = unwrap_or (option_map (λ (x : Line). x.byte_idx) next) (length s) }) (option_map (λ (x : Line). x.byte_idx) o) ≡ option_map (range_at s next) o
map-map s next o = grind arith

pub line_range-sound : (s : List ℕ) → IsUtf8 s → (i : ℕ) (r : Range ℕ) → line_range s i ≡ Some r → IsSoundRange s r
unfolding line_range line_start
line_range-sound s v i r is =
    let more : i + 1 ≡ suc i = omega arith in
    sound-range s v i (slice_get (line_table s) i) (slice_get (line_table s) (suc i)) r refl refl
    (sym (map-map s (slice_get (line_table s) (suc i)) (slice_get (line_table s) i)) ∙ rw more at is)

-- ---- a number of characters on

-- so many characters of a text have been passed
pub record HasPassed (cs : List ℕ) (i at : ℕ) (p : Place) : Type 0 where
  pub rest : p.ahead ≡ drop i cs
  pub long : length p.ahead + i ≡ length cs
  pub byte : at + bytes p.ahead ≡ bytes cs

length-step : (p : Place) (c : ℕ) → Some c ≡ scout 0 p → length p.ahead ≡ 1 + length (moved 1 p).ahead
length-step p c e = let t = head-splits p.ahead c (sym e) in rw t.1 (omega arith)

drop-step : (p : Place) (c : ℕ) → Some c ≡ scout 0 p → (moved 1 p).ahead ≡ drop 1 p.ahead
drop-step p c e = let t = head-splits p.ahead c (sym e) in rw t.1 refl

pub HasPassed-more : (cs : List ℕ) (i at : ℕ) (p q : Place) (c to : ℕ) → HasPassed cs i at p → Some c ≡ scout 0 p → q ≡ moved 1 p → to ≡ at + char_width c → HasPassed cs (i + 1) to q
HasPassed-more cs i at p q c to h e moves wide =
    record {
      rest = ap (λ x. x.ahead) moves ∙ drop-step p c e ∙ ap (drop 1) h.rest ∙ drop-drop 1 i cs;
      long = omega (arith, h.long, length-step p c e, ap (λ x. length x.ahead) moves);
      byte = omega (arith, h.byte, bytes-step p c e, ap (λ x. bytes x.ahead) moves, wide);
    }

module _ (s : List ℕ) (i column : ℕ) (r : Range ℕ) (is : line_range s i ≡ Some r) where
  pub byte_at-short : (k at : ℕ) (p : Place) → HasPassed (chars (slice_range s r.start r.end)) k at p → None ≡ scout 0 p → k < column → byte_at s i column ≡ None
  unfolding byte_at
  byte_at-short k at p h e lt = grind (arith, place-end, too-few)

  pub byte_at-found : (at : ℕ) (p : Place) → HasPassed (chars (slice_range s r.start r.end)) column at p → byte_at s i column ≡ Some (r.start + at)
  unfolding byte_at
  byte_at-found at p h =
      let cs = chars (slice_range s r.start r.end) in
      let size : bytes (take column cs) ≡ at =
      omega (arith, h.byte, ap bytes h.rest, bytes-append (take column cs) (drop column cs), ap bytes (take-append-drop column cs)) in
      rw (is, so-many column (length cs) (omega (arith, h.long))) (ap (λ n. Some (r.start + n)) size)

-- ---- what a caller reads of the text

-- the units before a byte, from its line
module _ (s t : List ℕ) (v : IsUtf8 t) (same : t ≡ s) (b : ℕ) (end : IsCharBoundary t b) (l : Line) (of : IsLineOf s b l) where
  text : IsUtf8 s
  text = subst IsUtf8 same v

  bound : IsCharBoundary s b
  bound = subst (λ x. IsCharBoundary x b) same end

  line : IsLine s l
  line = table-sound s text (line_of s b) l of.at

  pub line-boundary : IsCharBoundary t l.byte_idx
  line-boundary = subst (λ x. IsCharBoundary x l.byte_idx) (sym same) line.boundary

  pub units-at : (head : List ℕ) (n : ℕ) → head ≡ slice_range t l.byte_idx b → n ≡ units (chars head) → l.utf16_idx + n ≡ utf16_before s b
  units-at head n is e = omega (arith, line.counted, e, ap (λ x. units (chars x)) (is ∙ ap (λ x. slice_range x l.byte_idx b) same), units-range s text l.byte_idx b of.before line.boundary bound)

  pub units-small : utf16_before s b ≤ b
  units-small = units-front s text b bound

  pub boundary-at : IsCharBoundary s b
  boundary-at = bound

  pub utf16-back : byte_at_utf16 s (utf16_before s b) ≡ Some b
  utf16-back = back-from_utf16 s text b bound

  pub column-at : (head : List ℕ) (n : ℕ) → head ≡ slice_range t l.byte_idx b → n ≡ length (chars head) → n ≡ column_of s b
  column-at head n is e = e ∙ ap (λ x. length (chars x)) (is ∙ ap (λ x. slice_range x l.byte_idx b) same) ∙ sym (column-is s text b bound l of)

  pub column-back : byte_at s (line_of s b) (column_of s b) ≡ Some b
  column-back = back-from_line_column s text b bound l of

-- the way from units to a byte
pub units-moved : (p : Place) (c : ℕ) → Some c ≡ scout 0 p → units (moved 1 p).before ≡ utf16_len c + units p.before
units-moved p c e = let t = head-splits p.ahead c (sym e) in rw t.1 refl

-- more units than asked for stand before a place, which is the text's end
abbrev pub overshot : ℕ → Place → Bool
overshot u p = nat_lt u (units p.before) && length p.ahead == 0

module _ (s t : List ℕ) (v : IsUtf8 t) (same : t ≡ s) (u : ℕ) where
  module _ (l : Line) (of : IsLineUpTo s u l) where
    upto-sound : IsLine t l
    upto-sound = subst (λ x. IsLine x l) (sym same) (table-sound s (subst IsUtf8 same v) of.number l of.at)

    pub upto-boundary : IsCharBoundary t l.byte_idx
    upto-boundary = upto-sound.boundary

    pub upto-units : units (place_at t l.byte_idx).before ≡ l.utf16_idx
    upto-units = units-before t l.byte_idx ∙ sym upto-sound.counted

  pub utf16-found : (i : ℕ) → IsCharBoundary t i → reach u (place_at t i) ≡ least_place s u → u ≤ units (place_at t i).before → overshot u (place_at t i) ≡ false → Some i ≡ byte_at_utf16 s u
  unfolding byte_at_utf16
  utf16-found i at found le over = grind (arith, reach-here, bytes-before)

  pub utf16-short : (p : Place) → reach u p ≡ least_place s u → None ≡ scout 0 p → units p.before < u → byte_at_utf16 s u ≡ None
  unfolding byte_at_utf16
  utf16-short p found e lt = let none : least_place s u ≡ None = sym found ∙ reach-end u p (place-end p e) lt in rw none refl

  pub utf16-over : (p : Place) → reach u p ≡ least_place s u → None ≡ scout 0 p → u < units p.before → byte_at_utf16 s u ≡ None
  unfolding byte_at_utf16
  utf16-over p found e lt = grind (arith, reach-here, nat_tests, place-end)

pub none-from : (o : Option ℕ) → true ≡ is_none o → None ≡ o
none-from o e = grind arith

some-long : (cs : List ℕ) → false ≡ is_none (slice_get cs 0) → (length cs == 0) ≡ false
some-long [] e = absurd (cc)
some-long (c ∷ cs) e = grind (arith, nat_tests)

pub overshot-some : (u : ℕ) (p : Place) → false ≡ is_none (scout 0 p) → overshot u p ≡ false
overshot-some u p e = and_right (nat_lt u (units p.before)) (length p.ahead == 0) (some-long p.ahead e)

pub overshot-low : (u : ℕ) (p : Place) → units p.before ≤ u → overshot u p ≡ false
overshot-low u p le = rw (not-past u (units p.before) 0 le) refl

pub byte_at-none : (s : List ℕ) (i column : ℕ) → line_range s i ≡ None → byte_at s i column ≡ None
unfolding byte_at
byte_at-none s i column none = rw none refl
