-- What two texts don't have in common, in the place of one another, makes one text of the other.
use Rattle.typst_lines.proofs.Cited.{◌≡◌, ℕ, ◌+◌, ◌-◌, ◌≤◌, Bool, true, ◌==◌, if◌then◌else◌, List, [], ◌∷◌, ◌++◌, length, take, drop, reverse, slice_range, refl, sym, ap, subst, ◌∙◌, arith, append_assoc, take_at, drop_at, length-append, reverse-append, reverse-reverse, scalars-chars, encodes-chars, encodes-append, IsCharBoundary-at_seam, chars, IsUtf8, IsCharBoundary, all_scalars, bytes, common_front, common_ends, encode_utf8_all}
use Rattle.typst_lines.proofs.LineTable.{bytes-append, bytes-length}
use Rattle.typst_lines.proofs.PlaceLemmas.{scalars-both}
use Rattle.typst_lines.specs.Replacement.{Replaces}

-- ---- characters

-- a common front and what is left of the first list
first-step : (c d : ℕ) (cs ds : List ℕ) (b : Bool) → (common_front cs ds ++ drop (length (common_front cs ds)) cs ≡ cs) → (if b then c ∷ common_front cs ds else []) ++ drop (length (if b then c ∷ common_front cs ds else [])) (c ∷ cs) ≡ c ∷ cs
first-step c d cs ds b h = grind arith

front-first : (cs ds : List ℕ) → common_front cs ds ++ drop (length (common_front cs ds)) cs ≡ cs
front-first [] ds = refl
front-first (c ∷ cs) [] = refl
front-first (c ∷ cs) (d ∷ ds) = first-step c d cs ds (c == d) (front-first cs ds)

second-step : (c d : ℕ) (cs ds : List ℕ) (b : Bool) → (c == d) ≡ b → (common_front cs ds ++ drop (length (common_front cs ds)) ds ≡ ds) → (if b then c ∷ common_front cs ds else []) ++ drop (length (if b then c ∷ common_front cs ds else [])) (d ∷ ds) ≡ d ∷ ds
second-step c d cs ds b e h = grind arith

front-second : (cs ds : List ℕ) → common_front cs ds ++ drop (length (common_front cs ds)) ds ≡ ds
front-second [] ds = refl
front-second (c ∷ cs) [] = refl
front-second (c ∷ cs) (d ∷ ds) = second-step c d cs ds (c == d) refl (front-second cs ds)

-- a list whose reverse begins with zs ends with the reverse of zs
end-split : (us zs xs : List ℕ) → zs ++ xs ≡ reverse us → us ≡ reverse xs ++ reverse zs
end-split us zs xs e = sym (reverse-reverse us) ∙ ap reverse (sym e) ∙ reverse-append zs xs

bytes-comm : (a b : ℕ) → a + b ≡ b + a
bytes-comm a b = omega arith

pub bytes-reverse : (cs : List ℕ) → bytes (reverse cs) ≡ bytes cs
bytes-reverse [] = refl
bytes-reverse (c ∷ cs) =
    ap bytes (reverse-append (c ∷ []) cs) ∙ bytes-append (reverse cs) (c ∷ []) ∙ ap (λ n. n + bytes (c ∷ [])) (bytes-reverse cs) ∙ bytes-comm (bytes cs) (bytes (c ∷ [])) ∙ sym (bytes-append (c ∷ []) cs)

-- ---- bytes

-- a text in three parts, of which the first has f bytes and the last e
record Parts (s : List ℕ) (f e : ℕ) (a b c : List ℕ) : Type 0 where
  start : IsCharBoundary s f
  end : IsCharBoundary s (length s - e)
  ordered : f ≤ length s - e
  before : take f s ≡ a
  between : slice_range s f (length s - e) ≡ b
  behind : drop (length s - e) s ≡ c

module _ (s a b c : List ℕ) (is : s ≡ a ++ (b ++ c)) (f e : ℕ) (front : f ≡ length a) (end : e ≡ length c) (ubc : IsUtf8 (b ++ c)) (uc : IsUtf8 c) where
  long : length s ≡ length a + (length b + length c)
  long = omega (arith, ap length is, length-append a (b ++ c), length-append b c)

  seam : length s - e ≡ length (a ++ b)
  seam = omega (arith, long, end, length-append a b)

  left : s ≡ (a ++ b) ++ c
  left = is ∙ sym (append_assoc a b c)

  parts : Parts s f e a b c
  parts = record {
    start = subst (IsCharBoundary s) (sym front) (IsCharBoundary-at_seam s a (b ++ c) is ubc);
    end = subst (IsCharBoundary s) (sym seam) (IsCharBoundary-at_seam s (a ++ b) c left uc);
    ordered = omega (arith, long, front, end);
    before = ap (take f) is ∙ take_at a (b ++ c) f (sym front);
    between = ap (take (length s - e - f)) (ap (drop f) is ∙ drop_at a (b ++ c) f (sym front)) ∙ take_at b c (length s - e - f) (omega (arith, long, front, end));
    behind = ap (drop (length s - e)) left ∙ drop_at (a ++ b) c (length s - e) (sym seam);
  }

-- characters in three parts
module _ (s : List ℕ) (u : IsUtf8 s) (xs ys zs : List ℕ) (is : chars s ≡ xs ++ (ys ++ zs)) where
  all : all_scalars (xs ++ (ys ++ zs)) ≡ true
  all = ap all_scalars (sym is) ∙ scalars-chars s u

  rest-scalars : all_scalars (ys ++ zs) ≡ true
  rest-scalars = ap all_scalars (sym (drop_at xs (ys ++ zs) (length xs) refl)) ∙ (scalars-both (length xs) (xs ++ (ys ++ zs)) all).1

  last-scalars : all_scalars zs ≡ true
  last-scalars = ap all_scalars (sym (drop_at ys zs (length ys) refl)) ∙ (scalars-both (length ys) (ys ++ zs) rest-scalars).1

  whole : s ≡ encode_utf8_all xs ++ (encode_utf8_all ys ++ encode_utf8_all zs)
  whole = sym (encodes-chars s u) ∙ ap encode_utf8_all is ∙ encodes-append xs (ys ++ zs) ∙ ap (λ t. encode_utf8_all xs ++ t) (encodes-append ys zs)

  in-parts : Parts s (bytes xs) (bytes zs) (encode_utf8_all xs) (encode_utf8_all ys) (encode_utf8_all zs)
  in-parts = parts s (encode_utf8_all xs) (encode_utf8_all ys) (encode_utf8_all zs) whole (bytes xs) (bytes zs) (bytes-length xs) (bytes-length zs) (ys ++ zs, (rest-scalars, encodes-append ys zs)) (zs, (last-scalars, refl))

-- ---- the law

module _ (old new : List ℕ) (u : IsUtf8 old) (v : IsUtf8 new) where
  abbrev front : List ℕ
  front = common_front (chars old) (chars new)

  abbrev old-rest : List ℕ
  old-rest = drop (length front) (chars old)

  abbrev new-rest : List ℕ
  new-rest = drop (length front) (chars new)

  abbrev ends : List ℕ
  ends = common_front (reverse old-rest) (reverse new-rest)

  abbrev old-middle : List ℕ
  old-middle = reverse (drop (length ends) (reverse old-rest))

  abbrev new-middle : List ℕ
  new-middle = reverse (drop (length ends) (reverse new-rest))

  old-split : chars old ≡ front ++ (old-middle ++ reverse ends)
  old-split = sym (front-first (chars old) (chars new)) ∙ ap (λ t. front ++ t) (end-split old-rest ends (drop (length ends) (reverse old-rest)) (front-first (reverse old-rest) (reverse new-rest)))

  new-split : chars new ≡ front ++ (new-middle ++ reverse ends)
  new-split = sym (front-second (chars old) (chars new)) ∙ ap (λ t. front ++ t) (end-split new-rest ends (drop (length ends) (reverse new-rest)) (front-second (reverse old-rest) (reverse new-rest)))

  from-parts : (f e : ℕ) (a b c d : List ℕ) → Parts old f e a b c → Parts new f e a d c → new ≡ (a ++ d) ++ c → Replaces old new (f, e)
  from-parts f e a b c d p q w = grind arith

  by-bytes : Replaces old new (bytes front, bytes (reverse ends))
  by-bytes =
      from-parts (bytes front) (bytes (reverse ends)) (encode_utf8_all front) (encode_utf8_all old-middle) (encode_utf8_all (reverse ends)) (encode_utf8_all new-middle)
      (in-parts old u front old-middle (reverse ends) old-split)
      (in-parts new v front new-middle (reverse ends) new-split)
      (whole new v front new-middle (reverse ends) new-split ∙ sym (append_assoc (encode_utf8_all front) (encode_utf8_all new-middle) (encode_utf8_all (reverse ends))))

  pub replaces : Replaces old new (common_ends old new)
  unfolding common_ends
  replaces = subst (λ n. Replaces old new (bytes front, n)) (bytes-reverse ends) by-bytes
