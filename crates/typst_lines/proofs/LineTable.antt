-- Facts on the table of lines and on positions.
use Rattle.typst_lines.proofs.Cited.{◌≡◌, ◌≤◌, ◌<◌, Bool, length, ℕ, ◌+◌, ◌-◌, cond, List, [], ◌∷◌, ◌++◌, slice_get, Some, None, refl, sym, ap, ◌∙◌, true, false, arith, map, filter, take, drop, reverse, slice_range, take-add, take_at, drop_at, length-append, length-take-le, nat_tests, chars-append, scalars-chars, chars-encodes, encodes-chars, encodes-append, IsUtf8-take, IsCharBoundary-from_drop, length-encode, len_utf8_bounds, chars, IsUtf8, IsCharBoundary, ends_line, char_width, Place, place_at, moved, scout, utf16_len, units, bytes, between, places_from, starts_line, measured, line_table, utf16_before, Line, encode_utf8, encode_utf8_all}
use Rattle.std.proofs.lemmas.List.{take-append-drop}
use Rattle.typst_lines.proofs.PlaceLemmas.{scalars-both, head-splits}

-- ---- characters, bytes and units

pub width-positive : (c : ℕ) → 0 < char_width c
unfolding char_width
width-positive c = omega (arith, (len_utf8_bounds c).0)

pub utf16_len-le : (c : ℕ) → utf16_len c ≤ char_width c
unfolding char_width
utf16_len-le c = grind (arith, nat_tests)

pub utf16_len-positive : (c : ℕ) → 0 < utf16_len c
utf16_len-positive c = grind (arith, nat_tests)

pub units-le : (cs : List ℕ) → units cs ≤ bytes cs
units-le [] = omega arith
units-le (c ∷ cs) = omega (arith, units-le cs, utf16_len-le c)

pub units-append : (xs ys : List ℕ) → units (xs ++ ys) ≡ units xs + units ys
units-append [] ys = omega arith
units-append (c ∷ xs) ys = omega (arith, units-append xs ys)

pub bytes-append : (xs ys : List ℕ) → bytes (xs ++ ys) ≡ bytes xs + bytes ys
bytes-append [] ys = omega arith
bytes-append (c ∷ xs) ys = omega (arith, bytes-append xs ys)

width-is : (c : ℕ) → char_width c ≡ length (encode_utf8 c)
unfolding char_width
width-is c = sym (length-encode c)

pub bytes-length : (cs : List ℕ) → bytes cs ≡ length (encode_utf8_all cs)
bytes-length [] = refl
bytes-length (c ∷ cs) = omega (arith, bytes-length cs, width-is c, length-append (encode_utf8 c) (encode_utf8_all cs))

pub bytes-text : (s : List ℕ) → IsUtf8 s → bytes (chars s) ≡ length s
bytes-text s u = bytes-length (chars s) ∙ ap length (encodes-chars s u)

module _ (s : List ℕ) (u : IsUtf8 s) (b : ℕ) (at : IsCharBoundary s b) where
  pub chars-split : chars s ≡ chars (take b s) ++ chars (drop b s)
  chars-split = ap chars (sym (take-append-drop b s)) ∙ chars-append (take b s) (drop b s) (IsUtf8-take s b u at)

  pub bytes-front : bytes (chars (take b s)) ≡ b
  bytes-front = bytes-text (take b s) (IsUtf8-take s b u at) ∙ omega (arith, length-take-le b s at.0)

  pub units-front : utf16_before s b ≤ b
  units-front = omega (arith, units-le (chars (take b s)), bytes-front)

-- the characters up to j are those up to i and those between
pub chars-range : (s : List ℕ) → IsUtf8 s → (i j : ℕ) → i ≤ j → IsCharBoundary s i → IsCharBoundary s j → chars (take j s) ≡ chars (take i s) ++ chars (slice_range s i j)
chars-range s u i j le at end =
    let more : j ≡ i + (j - i) = omega arith in
    ap (λ n. chars (take n s)) more ∙ ap chars (take-add i (j - i) s) ∙ chars-append (take i s) (slice_range s i j) (IsUtf8-take s i u at)

-- a front of the characters ends at a boundary
module _ (s : List ℕ) (u : IsUtf8 s) (n k : ℕ) (size : k ≡ bytes (take n (chars s))) where
  abbrev front : List ℕ
  front = encode_utf8_all (take n (chars s))

  abbrev rest : List ℕ
  rest = encode_utf8_all (drop n (chars s))

  whole : s ≡ front ++ rest
  whole = sym (encodes-chars s u) ∙ ap encode_utf8_all (sym (take-append-drop n (chars s))) ∙ encodes-append (take n (chars s)) (drop n (chars s))

  long : k ≡ length front
  long = size ∙ bytes-length (take n (chars s))

  front-take : take k s ≡ front
  front-take = ap (take k) whole ∙ take_at front rest k (sym long)

  front-drop : drop k s ≡ rest
  front-drop = ap (drop k) whole ∙ drop_at front rest k (sym long)

  pub front-boundary : IsCharBoundary s k
  front-boundary =
      let le : k ≤ length s = omega (arith, long, ap length whole, length-append front rest) in
      IsCharBoundary-from_drop s k le (drop n (chars s), ((scalars-both n (chars s) (scalars-chars s u)).1, sym front-drop))

  pub front-ahead : chars (drop k s) ≡ drop n (chars s)
  front-ahead = ap chars front-drop ∙ chars-encodes (drop n (chars s)) (scalars-both n (chars s) (scalars-chars s u)).1

  pub front-chars : chars (take k s) ≡ take n (chars s)
  front-chars = ap chars front-take ∙ chars-encodes (take n (chars s)) (scalars-both n (chars s) (scalars-chars s u)).0

-- ---- the table

abbrev pub line_at : ℕ → ℕ → Line
line_at b u = record { byte_idx = b; utf16_idx = u }

-- a list with one more in front, or not
abbrev pub onto_if : Bool → Line → List Line → List Line
onto_if true x xs = x ∷ xs
onto_if false x xs = xs

-- the lines that start among or after these characters, of which the first stands at b bytes and u units
abbrev pub starts_from : ℕ → ℕ → List ℕ → List Line
starts_from b u [] = []
starts_from b u (c ∷ cs) =
    onto_if (ends_line c (slice_get cs 0)) (line_at (char_width c + b) (utf16_len c + u)) (starts_from (char_width c + b) (utf16_len c + u) cs)

abbrev later : List ℕ → List ℕ → List Place
later before [] = []
later before (c ∷ cs) = places_from (c ∷ before) cs

places-split : (before cs : List ℕ) → places_from before cs ≡ between before cs ∷ later before cs
places-split before cs = grind arith

kept-place : (t : Bool) (p : Place) (ps : List Place) (ls : List Line) → map measured ps ≡ ls → map measured (cond t (p ∷ ps) ps) ≡ onto_if t (measured p) ls
kept-place t p ps ls e = grind arith

table-later : (before cs : List ℕ) → map measured (filter starts_line (later before cs)) ≡ starts_from (bytes before) (units before) cs
table-later before [] = refl
table-later before (c ∷ cs) =
    ap (λ ps. map measured (filter starts_line ps)) (places-split (c ∷ before) cs)
    ∙ kept-place (ends_line c (slice_get cs 0)) (between (c ∷ before) cs) (filter starts_line (later (c ∷ before) cs)) _ (table-later (c ∷ before) cs)

pub line_table-starts : (s : List ℕ) → line_table s ≡ line_at 0 0 ∷ starts_from 0 0 (chars s)
unfolding line_table
line_table-starts s = grind (arith, places-split, table-later)

-- the steps of a loop over the places after a line start
module _ (s : List ℕ) (u : IsUtf8 s) (i : ℕ) (at : IsCharBoundary s i) where
  ahead-is : (place_at s i).ahead ≡ chars (drop i s)
  unfolding place_at
  ahead-is = refl

  pub before-is : (place_at s i).before ≡ reverse (chars (take i s))
  unfolding place_at
  before-is = refl

pub ahead-text : (s : List ℕ) → (place_at s 0).ahead ≡ chars s
unfolding place_at
ahead-text s = refl

pub bytes-step : (p : Place) (c : ℕ) → Some c ≡ scout 0 p → bytes p.ahead ≡ char_width c + bytes (moved 1 p).ahead
bytes-step p c e = let t = head-splits p.ahead c (sym e) in rw t.1 refl

pub none-first : (cs : List ℕ) → slice_get cs 0 ≡ None → cs ≡ []
none-first [] e = refl
none-first (c ∷ cs) e = absurd (cc)

pub place-end : (p : Place) → None ≡ scout 0 p → p.ahead ≡ []
place-end p e = none-first p.ahead (sym e)
