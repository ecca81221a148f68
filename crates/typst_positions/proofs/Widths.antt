-- What fronts of characters measure.
use Rattle.typst_positions.proofs.Cited.{◌≡◌, ℕ, suc, ◌+◌, ◌-◌, ◌<◌, ◌≤◌, ◌⊎◌, inl, inr, Bool, true, cond, List, [], ◌∷◌, ◌++◌, length, get_or, take, drop, refl, sym, ap, subst, ◌∙◌, arith, length-append, length-take-le, take-append-drop, and_parts, cases_lt, le-leb, lt-leb, at_drop_more, len_utf8, IsAscii, IsCharBoundary, IsUtf8, chars, bytes_before, column_of, measured, width, IsCharBoundary-at_seam, IsCharBoundary-from_take, IsUtf8-from_ascii, IsUtf8-take, chars-IsAscii, chars-append, encodes-append, encodes-chars, len_utf8_ascii, len_utf8_bounds, length-encode, scalars-chars, Encoding}
use lib.Utf8.{encodes, encode, scalar, scalars}
use Rattle.typst_positions.specs.Plain.{IsPlainFront}

abbrev pub total : (ℕ → ℕ) → List ℕ → ℕ
total f [] = 0
total f (c ∷ cs) = f c + total f cs

abbrev units_by : Bool → ℕ
units_by b = cond b 1 2

wide : (c : ℕ) → 0x1_0000 ≤ c → len_utf8 c ≡ 4
wide c h = grind arith

-- a character takes a byte at least, and no fewer bytes than units
pub width-some : (e : Encoding) (c : ℕ) → 1 ≤ width e c
width-some e c = grind arith

pub width-le : (e : Encoding) (c : ℕ) → width e c ≤ len_utf8 c
width-le e c = grind arith

pub width-ascii : (e : Encoding) (c : ℕ) → c < 128 → width e c ≡ 1
width-ascii e c h = grind arith

-- ---- one character

fits : (size by : ℕ → ℕ) (most c : ℕ) (cs : List ℕ) → by c ≤ most → measured size by most (c ∷ cs) ≡ size c + measured size by (most - by c) cs
fits size by most c cs h = ap (λ b. cond b (size c + measured size by (most - by c) cs) 0) (le-leb (by c) most h)

stops : (size by : ℕ → ℕ) (most c : ℕ) (cs : List ℕ) → most < by c → measured size by most (c ∷ cs) ≡ 0
stops size by most c cs h = ap (λ b. cond b (size c + measured size by (most - by c) cs) 0) (lt-leb (by c) most h)

-- one character more in a list of characters, from an index on
pub measured-more : (size by : ℕ → ℕ) (most : ℕ) (cs : List ℕ) (n c : ℕ) → (n < length cs) × (c ≡ get_or cs n c) → by c ≤ most → measured size by most (drop n cs) ≡ size c + measured size by (most - by c) (drop (n + 1) cs)
measured-more size by most cs n c at h =
    at_drop_more (measured size by most) cs n c at.0
    ∙ ap (λ d. measured size by most (d ∷ drop (n + 1) cs)) (sym at.1)
    ∙ fits size by most c (drop (n + 1) cs) h

pub measured-stops : (size by : ℕ → ℕ) (most : ℕ) (cs : List ℕ) (n c : ℕ) → (n < length cs) × (c ≡ get_or cs n c) → most < by c → measured size by most (drop n cs) ≡ 0
measured-stops size by most cs n c at h =
    at_drop_more (measured size by most) cs n c at.0
    ∙ ap (λ d. measured size by most (d ∷ drop (n + 1) cs)) (sym at.1)
    ∙ stops size by most c (drop (n + 1) cs) h

pub total-more : (f : ℕ → ℕ) (cs : List ℕ) (n c : ℕ) → (n < length cs) × (c ≡ get_or cs n c) → total f (drop n cs) ≡ f c + total f (drop (n + 1) cs)
total-more f cs n c at = at_drop_more (total f) cs n c at.0 ∙ ap (λ d. f d + total f (drop (n + 1) cs)) (sym at.1)

-- ---- a front of characters

pub total-encodes : (cs : List ℕ) → total len_utf8 cs ≡ length (encodes cs)
total-encodes [] = refl
total-encodes (c ∷ cs) = omega (arith, total-encodes cs, length-encode c, length-append (encode c) (encodes cs))

pub total-text : (text : List ℕ) → IsUtf8 text → total len_utf8 (chars text) ≡ length text
total-text text u = total-encodes (chars text) ∙ ap length (encodes-chars text u)

-- what a front measures one way says which front it is
measured-front : (size by : ℕ → ℕ) → ((c : ℕ) → 1 ≤ by c) → (cs ds : List ℕ) → measured size by (total by cs) (cs ++ ds) ≡ total size cs
measured-front size by some [] [] = refl
measured-front size by some [] (d ∷ ds) = stops size by 0 d ds (omega (arith, some d))
measured-front size by some (c ∷ cs) ds =
    let rest : by c + total by cs - by c ≡ total by cs = omega arith in
    fits size by (by c + total by cs) c (cs ++ ds) (omega arith)
    ∙ ap (λ n. size c + measured size by n (cs ++ ds)) rest
    ∙ ap (λ n. size c + n) (measured-front size by some cs ds)

-- a front of bytes is one of characters, where a character ends
record Front (line : List ℕ) (n : ℕ) : Type 0 where
  pub front : List ℕ
  pub back : List ℕ
  pub parts : chars line ≡ front ++ back
  pub size : total len_utf8 front ≡ n

front_of : (line : List ℕ) (n : ℕ) → IsUtf8 line → IsCharBoundary line n → Front line n
front_of line n u b =
    let first : IsUtf8 (take n line) = IsUtf8-take line n u b in
    record {
      front = chars (take n line);
      back = chars (drop n line);
      parts = ap chars (sym (take-append-drop n line)) ∙ chars-append (take n line) (drop n line) first;
      size = total-text (take n line) first ∙ length-take-le n line b.0;
    }

-- a column leads back to its byte
pub column-back : (e : Encoding) (line : List ℕ) (n : ℕ) → IsUtf8 line → IsCharBoundary line n → bytes_before e line (column_of e line n) ≡ n
unfolding bytes_before column_of
column-back e line n u b = let f = front_of line n u b in grind (arith, measured-front, len_utf8_bounds, width-some)

-- ---- what is measured ends with a character

record Ends (size by : ℕ → ℕ) (most : ℕ) (cs : List ℕ) : Type 0 where
  pub front : List ℕ
  pub back : List ℕ
  pub parts : cs ≡ front ++ back
  pub size_is : measured size by most cs ≡ total size front

ends_cons : (size by : ℕ → ℕ) (most c : ℕ) (cs : List ℕ) → (by c ≤ most) ⊎ (most < by c) → ((n : ℕ) → Ends size by n cs) → Ends size by most (c ∷ cs)
ends_cons size by most c cs (inl h) rest =
    let r = rest (most - by c) in
    record { front = c ∷ r.front; back = r.back; parts = ap (λ l. c ∷ l) r.parts; size_is = fits size by most c cs h ∙ ap (λ n. size c + n) r.size_is }
ends_cons size by most c cs (inr h) rest = record { front = []; back = c ∷ cs; parts = refl; size_is = stops size by most c cs h }

cases_le : (a b : ℕ) → (a ≤ b) ⊎ (b < a)
cases_le a b = elim (cases_lt b a) [ inl less ↦ inr less | inr more ↦ inl more ]

ends : (size by : ℕ → ℕ) (cs : List ℕ) (most : ℕ) → Ends size by most cs
ends size by [] most = record { front = []; back = []; parts = refl; size_is = refl }
ends size by (c ∷ cs) most = ends_cons size by most c cs (cases_le (by c) most) (ends size by cs)

scalars_back : (xs ys : List ℕ) → scalars (xs ++ ys) ≡ true → scalars ys ≡ true
scalars_back [] ys h = h
scalars_back (x ∷ xs) ys h = scalars_back xs ys (and_parts (scalar x) (scalars (xs ++ ys)) h).1

pub before-boundary : (e : Encoding) (line : List ℕ) (column : ℕ) → IsUtf8 line → IsCharBoundary line (bytes_before e line column)
unfolding bytes_before
before-boundary e line column u =
    let r = ends len_utf8 (width e) (chars line) column in
    let parts : line ≡ encodes r.front ++ encodes r.back = sym (encodes-chars line u) ∙ ap encodes r.parts ∙ encodes-append r.front r.back in
    let back : IsUtf8 (encodes r.back) = (r.back, (scalars_back r.front r.back (ap scalars (sym r.parts) ∙ scalars-chars line u), refl)) in
    subst (IsCharBoundary line) (sym (r.size_is ∙ total-encodes r.front)) (IsCharBoundary-at_seam line (encodes r.front) (encodes r.back) parts back)

-- ---- a front of ASCII

plain : (size by : ℕ → ℕ) → ((c : ℕ) → c < 128 → size c ≡ 1) → ((c : ℕ) → c < 128 → by c ≡ 1) → (xs cs : List ℕ) (most : ℕ) → IsAscii xs → length xs ≤ most
    → measured size by most (xs ++ cs) ≡ length xs + measured size by (most - length xs) cs
plain size by s b [] cs most ascii h = let same : most - 0 ≡ most = omega arith in omega (arith, ap (λ n. measured size by n cs) same)
plain size by s b (x ∷ xs) cs most ascii h =
    let small : x < 128 = ascii 0 in
    let one = b x small in
    let rest : most - by x - length xs ≡ most - length (x ∷ xs) = omega (arith, one) in
    let tail = plain size by s b xs cs (most - by x) (λ i. ascii (suc i)) (omega (arith, one)) in
    fits size by most x (xs ++ cs) (omega (arith, one)) ∙ omega (arith, s x small, tail, ap (λ n. measured size by n cs) rest)

plain_chars : (line : List ℕ) (most count : ℕ) → IsUtf8 line → IsPlainFront line most count → chars line ≡ take count line ++ chars (drop count line)
plain_chars line most count u p =
    ap chars (sym (take-append-drop count line)) ∙ chars-append (take count line) (drop count line) (IsUtf8-from_ascii (take count line) p.ascii)
    ∙ ap (λ l. l ++ chars (drop count line)) (chars-IsAscii (take count line) p.ascii)

plain_at : (size by : ℕ → ℕ) → ((c : ℕ) → c < 128 → size c ≡ 1) → ((c : ℕ) → c < 128 → by c ≡ 1) → (line : List ℕ) (most count : ℕ) → IsUtf8 line → IsPlainFront line most count
    → measured size by most (chars line) ≡ count + measured size by (most - count) (chars (drop count line))
plain_at size by s b line most count u p =
    let long : length (take count line) ≡ count = length-take-le count line p.within in
    ap (measured size by most) (plain_chars line most count u p)
    ∙ plain size by s b (take count line) (chars (drop count line)) most p.ascii (omega (arith, long, p.bounded))
    ∙ ap (λ n. n + measured size by (most - n) (chars (drop count line))) long

pub before-plain : (e : Encoding) (line : List ℕ) (most count : ℕ) → IsUtf8 line → IsPlainFront line most count → bytes_before e line most ≡ count + bytes_before e (drop count line) (most - count)
unfolding bytes_before
before-plain e line most count u p = plain_at len_utf8 (width e) len_utf8_ascii (width-ascii e) line most count u p

pub column-plain : (e : Encoding) (line : List ℕ) (most count : ℕ) → IsUtf8 line → IsPlainFront line most count → column_of e line most ≡ count + column_of e (drop count line) (most - count)
unfolding column_of
column-plain e line most count u p = plain_at (width e) len_utf8 (width-ascii e) len_utf8_ascii line most count u p

-- behind such a front a character begins
pub plain-boundary : (line : List ℕ) (most count : ℕ) → IsUtf8 line → IsPlainFront line most count → IsCharBoundary line count
plain-boundary line most count u p =
    IsCharBoundary-from_take line count u p.within (IsUtf8-from_ascii (take count line) p.ascii)
