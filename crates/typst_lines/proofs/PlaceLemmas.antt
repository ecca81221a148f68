-- Steps over the characters of a text.
use Rattle.typst_lines.proofs.Cited.{◌≡◌, ℕ, zero, suc, Bool, true, ◌&&◌, slice_get, ◌+◌, ◌-◌, ◌<◌, ◌≤◌, List, [], ◌∷◌, ◌++◌, reverse, length, take, drop, slice_range, refl, sym, ap, subst, ◌∙◌, arith, append_assoc, append-nil, take-add, drop-drop, take_at, drop_at, length-append, length-take-le, length-drop, min, get_or, ◌==◌, Some, drop-cons, chars-nil, chars-append, scalars-chars, chars-encodes, encodes-chars, encodes-append, chars_past_char, IsUtf8-between, IsUtf8-take, IsUtf8-drop, IsUtf8-past_char, IsCharBoundary-from_drop, IsCharBoundary-from_take, length-encode, len_utf8_bounds, encode_ascii, all_scalars, prefix_len, IsScalar, chars, IsUtf8, IsCharBoundary, bytes_ahead, char_width, Place, place_at, moved, scout, moved_from, passes, past, word_at, IsStep, IsStepBack, IsFirst, IsLast, moved_back, drop_split, scalar, encode_utf8, encode_utf8_all, and_parts}
use Rattle.std.proofs.lemmas.List.{reverse-append, reverse-reverse, take_min, take-append-drop}

pub encode_utf8_nonempty : (c : ℕ) → 0 < length (encode_utf8 c)
encode_utf8_nonempty c = let bounds = len_utf8_bounds c in omega (arith, length-encode c)

chars-encode_utf8 : (c : ℕ) → IsUtf8 (encode_utf8 c) → chars (encode_utf8 c) ≡ c ∷ []
chars-encode_utf8 c u = chars_past_char (encode_utf8 c) [] c u (sym (append-nil (encode_utf8 c))) ∙ ap (λ t. c ∷ t) chars-nil

module _ (s : List ℕ) (u : IsUtf8 s) (i c j : ℕ) (start : IsCharBoundary s i) (rest : List ℕ) (e : drop i s ≡ encode_utf8 c ++ rest) (at : j ≡ length s - length rest) where
  lens : i + (length (encode_utf8 c) + length rest) ≡ length s
  lens = omega (arith, ap length e, length-append (encode_utf8 c) rest, length-drop i s, start.0)

  width : j ≡ i + length (encode_utf8 c)
  width = omega (arith, lens, at)

  char_end-grows : i < j
  char_end-grows = omega (arith, width, encode_utf8_nonempty c)

  char_end-le : j ≤ length s
  char_end-le = omega (arith, at)

  behind_end : drop j s ≡ rest
  behind_end = ap (λ k. drop k s) width ∙ sym (drop-drop (length (encode_utf8 c)) i s) ∙ ap (drop (length (encode_utf8 c))) e ∙ drop_at (encode_utf8 c) rest (length (encode_utf8 c)) refl

  front : take j s ≡ take i s ++ encode_utf8 c
  front = ap (λ k. take k s) width ∙ take-add i (length (encode_utf8 c)) s ∙ ap (λ t. take i s ++ t) (ap (take (length (encode_utf8 c))) e ∙ take_at (encode_utf8 c) rest (length (encode_utf8 c)) refl)

  char_end-boundary : IsCharBoundary s j
  char_end-boundary = IsCharBoundary-from_drop s j char_end-le (subst IsUtf8 (sym behind_end) (IsUtf8-past_char (drop i s) rest c (IsUtf8-drop s i u start) e))

  coded : IsUtf8 (encode_utf8 c)
  coded =
      let n = length (encode_utf8 c) in
      let fits : i ≤ j = omega (arith, char_end-grows) in
      let n_is : j - i ≡ n = omega (arith, width) in
      subst IsUtf8 (ap (λ k. take k (drop i s)) n_is ∙ ap (take n) e ∙ take_at (encode_utf8 c) rest n refl) (IsUtf8-between s i j u fits start char_end-boundary)

  ahead : chars (drop i s) ≡ c ∷ chars (drop j s)
  ahead = chars_past_char (drop i s) (drop j s) c (IsUtf8-drop s i u start) (e ∙ ap (λ t. encode_utf8 c ++ t) (sym behind_end))

  is_scalar : IsScalar c
  is_scalar = let all = scalars-chars (drop i s) (IsUtf8-drop s i u start) in (and_parts _ _ (rw ahead at all)).0

  before : reverse (chars (take j s)) ≡ c ∷ reverse (chars (take i s))
  before =
      ap reverse (ap chars front ∙ chars-append (take i s) (encode_utf8 c) (IsUtf8-take s i u start) ∙ ap (λ t. chars (take i s) ++ t) (chars-encode_utf8 c coded))
      ∙ reverse-append (chars (take i s)) (c ∷ [])

  moves : place_at s j ≡ moved 1 (place_at s i)
  unfolding place_at
  moves = rw (ahead, before) refl

  next : scout 0 (place_at s i) ≡ Some c
  unfolding place_at
  next = rw ahead refl

  wide : j ≡ i + char_width c
  unfolding char_width
  wide = omega (arith, width, length-encode c)

  pub IsStep-from_bytes : IsStep s i c j
  IsStep-from_bytes = record { grows = char_end-grows; width = wide; boundary = char_end-boundary; scalar = is_scalar; next = next; moves = moves }

-- an ASCII byte is a character
pub IsStep-from_ascii : (s : List ℕ) → IsUtf8 s → (i b : ℕ) → IsCharBoundary s i → i < length s → b ≡ get_or s i 0 → b < 128 → IsStep s i b (i + 1)
IsStep-from_ascii s u i b start lt is small =
    let more : i + 1 ≡ suc i = omega arith in
    let e : drop i s ≡ encode_utf8 b ++ drop (i + 1) s =
    drop-cons s i 0 lt ∙ ap (λ c. c ∷ drop (suc i) s) (sym is) ∙ ap (λ n. b ∷ drop n s) (sym more) ∙ ap (λ t. t ++ drop (i + 1) s) (sym (encode_ascii b small)) in
    IsStep-from_bytes s u i b (i + 1) start (drop (i + 1) s) e (omega (arith, length-drop (i + 1) s))

pub IsLast-from_bytes : (s : List ℕ) (i : ℕ) → drop i s ≡ [] → IsLast s i
unfolding place_at
IsLast-from_bytes s i e = let none : chars (drop i s) ≡ [] = ap chars e ∙ chars-nil in record { next = rw none refl; stays = rw none refl }

-- ---- steps of a place

abbrev pub head_splits : List ℕ → ℕ → Type 0
head_splits ahead c = (rest : List ℕ) × (ahead ≡ c ∷ rest)

pub head-splits : (ahead : List ℕ) (c : ℕ) → slice_get ahead 0 ≡ Some c → head_splits ahead c
head-splits [] c e = absurd (cc)
head-splits (d ∷ rest) c e = (rest, cc)

past_list : (test : ℕ → Bool) (before rest : List ℕ) (c : ℕ) → test c ≡ true
    → moved_from (prefix_len test (c ∷ rest)) before (c ∷ rest) ≡ moved_from (prefix_len test rest) (c ∷ before) rest
past_list test before rest c e = let more : 1 + prefix_len test rest ≡ suc (prefix_len test rest) = omega arith in rw (e, more) refl

pub past-step : (test : ℕ → Bool) (p : Place) (c : ℕ) → scout 0 p ≡ Some c → test c ≡ true → past test (moved 1 p) ≡ past test p
past-step test p c e t = grind (arith, head-splits, past_list)

pub moved-ahead : (n : ℕ) (xs ys : List ℕ) → (moved_from n xs ys).ahead ≡ drop n ys
moved-ahead zero xs ys = refl
moved-ahead (suc n) xs [] = refl
moved-ahead (suc n) xs (c ∷ ys) = moved-ahead n (c ∷ xs) ys

front_from-rest : (xs d a : List ℕ) (n : ℕ) → a ≡ xs ++ d → d ≡ drop n a → xs ≡ take n a
front_from-rest xs d a n e r =
    let long : length xs ≡ min n (length a) = omega (arith, ap length e, length-append xs d, ap length r, length-drop n a) in
    sym (take_at xs d (length xs) refl) ∙ ap (take (length xs)) (sym e) ∙ ap (λ k. take k a) long ∙ take_min n a

-- the characters between two places
pub chars-between : (s : List ℕ) → IsUtf8 s → (i j n : ℕ) → i ≤ j → IsCharBoundary s i → IsCharBoundary s j → place_at s j ≡ moved n (place_at s i)
    → chars (slice_range s i j) ≡ take n (place_at s i).ahead
unfolding place_at
chars-between s u i j n le start end e =
    front_from-rest (chars (slice_range s i j)) (chars (drop j s)) (chars (drop i s)) n
    (ap chars (drop_split s i j le) ∙ chars-append (slice_range s i j) (drop j s) (IsUtf8-between s i j u le start end))
    (ap (λ p. p.ahead) e ∙ moved-ahead n (reverse (chars (take i s))) (chars (drop i s)))

-- what is before the end of a step
before-step : (s : List ℕ) (i c j : ℕ) → IsStep s i c j → Some c ≡ slice_get (place_at s j).before 0
before-step s i c j step = grind arith

back-step : (s : List ℕ) (i c j : ℕ) → IsStep s i c j → place_at s i ≡ moved_back (place_at s j)
back-step s i c j step = grind arith

pub IsStep-from_front : (s : List ℕ) → IsUtf8 s → (front : List ℕ) (c j : ℕ) → IsUtf8 front → IsCharBoundary s j → take j s ≡ front ++ encode_utf8 c → IsStepBack s (length front) c j
IsStep-from_front s u front c j v end e =
    let i = length front in
    let sum : i + length (encode_utf8 c) ≡ j = sym (length-append front (encode_utf8 c)) ∙ sym (ap length e) ∙ length-take-le j s end.0 in
    let le : i ≤ length s = omega (arith, sum, end.0) in
    let whole : s ≡ front ++ (encode_utf8 c ++ drop j s) = sym (take-append-drop j s) ∙ ap (λ t. t ++ drop j s) e ∙ append_assoc front (encode_utf8 c) (drop j s) in
    let first : take i s ≡ front = ap (take i) whole ∙ take_at front _ i refl in
    let second : drop i s ≡ encode_utf8 c ++ drop j s = ap (drop i) whole ∙ drop_at front _ i refl in
    let start = IsCharBoundary-from_take s i u le (subst IsUtf8 (sym first) v) in
    let step = IsStep-from_bytes s u i c j start (drop j s) second (omega (arith, length-drop j s, end.0)) in
    record { boundary = start; last = sym (before-step s i c j step); moves = back-step s i c j step }

pub IsFirst-from_nothing : (s : List ℕ) (j : ℕ) → take j s ≡ [] → IsFirst s j
unfolding place_at
IsFirst-from_nothing s j e = record { last = rw (e, chars-nil) refl; stays = rw (e, chars-nil) refl }

-- `&text[..j]`
pub front-range : (s : List ℕ) (j : ℕ) → take j s ≡ slice_range s 0 j
front-range s j = let same : j ≡ j - 0 = omega arith in ap (λ n. take n s) same

-- ---- words

pub moved-moved : (n : ℕ) (xs ys : List ℕ) → moved 1 (moved_from n xs ys) ≡ moved_from (suc n) xs ys
moved-moved zero xs ys = refl
moved-moved (suc n) xs [] = refl
moved-moved (suc n) xs (c ∷ ys) = moved-moved n (c ∷ xs) ys

pub scout-moved : (n : ℕ) (xs ys : List ℕ) → scout 0 (moved_from n xs ys) ≡ slice_get ys n
scout-moved zero xs ys = refl
scout-moved (suc n) xs [] = refl
scout-moved (suc n) xs (c ∷ ys) = scout-moved n (c ∷ xs) ys

pub word_at-step : (n : ℕ) (word : List ℕ) (p q : Place) → n < length word → q ≡ moved n p
    → word_at n (drop n word) p ≡ (passes (λ d. d == get_or word n 0) (scout 0 q) && word_at (n + 1) (drop (n + 1) word) p)
word_at-step n word p q lt e =
    let more : n + 1 ≡ suc n = omega arith in
    rw more
    (ap (λ w. word_at n w p) (drop-cons word n 0 lt)
    ∙ ap (λ o. passes (λ d. d == get_or word n 0) o && word_at (suc n) (drop (suc n) word) p) (sym (ap (scout 0) e ∙ scout-moved n p.before p.ahead)))

pub moved-step : (n : ℕ) (p q r : Place) → q ≡ moved n p → r ≡ moved 1 q → r ≡ moved (n + 1) p
moved-step n p q r e f = let more : n + 1 ≡ suc n = omega arith in rw more (f ∙ ap (moved 1) e ∙ moved-moved n p.before p.ahead)

-- a later place has the greater byte offset
pub cursor-le : (s : List ℕ) → IsUtf8 s → (i j n : ℕ) → IsCharBoundary s i → IsCharBoundary s j → place_at s j ≡ moved n (place_at s i) → i ≤ j
unfolding place_at
cursor-le s u i j n start end e =
    let cs = chars (drop i s) in
    let rest : chars (drop j s) ≡ drop n cs = ap (λ p. p.ahead) e ∙ moved-ahead n (reverse (chars (take i s))) cs in
    let whole : encode_utf8_all cs ≡ drop i s = encodes-chars (drop i s) (IsUtf8-drop s i u start) in
    let part : encode_utf8_all (drop n cs) ≡ drop j s = ap encode_utf8_all (sym rest) ∙ encodes-chars (drop j s) (IsUtf8-drop s j u end) in
    let split : encode_utf8_all (take n cs) ++ encode_utf8_all (drop n cs) ≡ encode_utf8_all cs = sym (encodes-append (take n cs) (drop n cs)) ∙ ap encode_utf8_all (take-append-drop n cs) in
    omega (arith, ap length split, length-append (encode_utf8_all (take n cs)) (encode_utf8_all (drop n cs)), ap length whole, ap length part, length-drop i s, length-drop j s, start.0, end.0)

-- a later place in an equal text, and what is passed up to it
module _ (a b : List ℕ) (same : b ≡ a) (u : IsUtf8 a) (i j n : ℕ) (start : IsCharBoundary a i) (end : IsCharBoundary b j) (e : place_at b j ≡ moved n (place_at a i)) where
  pub since-le : i ≤ j
  since-le = subst (λ t. IsCharBoundary t j → place_at t j ≡ moved n (place_at a i) → i ≤ j) (sym same) (cursor-le a u i j n start) end e

  pub since-text : chars (slice_range b i j) ≡ take n (place_at a i).ahead
  since-text = grind (arith, chars-between, cursor-le)

-- ---- several characters

pub scalars-both : (n : ℕ) (cs : List ℕ) → all_scalars cs ≡ true → (all_scalars (take n cs) ≡ true) × (all_scalars (drop n cs) ≡ true)
scalars-both zero cs e = (refl, e)
scalars-both (suc n) [] e = (refl, refl)
scalars-both (suc n) (c ∷ cs) e =
    let first : scalar c ≡ true = (and_parts _ _ e).0 in
    let rest = scalars-both n cs (and_parts _ _ e).1 in
    (rw (first, rest.0) refl, rest.1)

abbrev pub at_place : List ℕ → List ℕ → Place
at_place xs ys = record { before = xs; ahead = ys }

moved-whole : (n : ℕ) (xs cs : List ℕ) → moved_from n (reverse xs) cs ≡ at_place (reverse (xs ++ take n cs)) (drop n cs)
moved-whole zero xs cs = rw append-nil refl
moved-whole (suc n) xs [] = rw append-nil refl
moved-whole (suc n) xs (c ∷ cs) =
    ap (λ b. moved_from n b cs) (sym (reverse-append xs (c ∷ []))) ∙ moved-whole n (xs ++ c ∷ []) cs ∙ ap (λ t. at_place (reverse t) (drop n cs)) (append_assoc xs (c ∷ []) (take n cs))

module _ (s : List ℕ) (u : IsUtf8 s) (i n bytes : ℕ) (start : IsCharBoundary s i) (e : bytes ≡ bytes_ahead n (place_at s i)) where
  rest_utf8 : IsUtf8 (drop i s)
  rest_utf8 = IsUtf8-drop s i u start

  parts : (all_scalars (take n (chars (drop i s))) ≡ true) × (all_scalars (drop n (chars (drop i s))) ≡ true)
  parts = scalars-both n (chars (drop i s)) (scalars-chars (drop i s) rest_utf8)

  whole : drop i s ≡ encode_utf8_all (take n (chars (drop i s))) ++ encode_utf8_all (drop n (chars (drop i s)))
  whole = sym (encodes-chars (drop i s) rest_utf8) ∙ ap encode_utf8_all (sym (take-append-drop n (chars (drop i s)))) ∙ encodes-append (take n (chars (drop i s))) (drop n (chars (drop i s)))

  size : bytes ≡ length (encode_utf8_all (take n (chars (drop i s))))
  unfolding place_at bytes_ahead
  size = e

  pub advance-le : i + bytes ≤ length s
  advance-le = omega (arith, size, ap length whole, length-append (encode_utf8_all (take n (chars (drop i s)))) (encode_utf8_all (drop n (chars (drop i s)))), length-drop i s, start.0)

  left : drop (i + bytes) s ≡ encode_utf8_all (drop n (chars (drop i s)))
  left = sym (drop-drop bytes i s) ∙ ap (drop bytes) whole ∙ drop_at (encode_utf8_all (take n (chars (drop i s)))) _ bytes (sym size)

  passed : take (i + bytes) s ≡ take i s ++ encode_utf8_all (take n (chars (drop i s)))
  passed = take-add i bytes s ∙ ap (λ t. take i s ++ t) (ap (take bytes) whole ∙ take_at (encode_utf8_all (take n (chars (drop i s)))) _ bytes (sym size))

  pub advance-boundary : IsCharBoundary s (i + bytes)
  advance-boundary = IsCharBoundary-from_drop s (i + bytes) advance-le (drop n (chars (drop i s)), (parts.1, sym left))

  pub advance-moves : place_at s (i + bytes) ≡ moved n (place_at s i)
  unfolding place_at
  advance-moves =
      let b : chars (take (i + bytes) s) ≡ chars (take i s) ++ take n (chars (drop i s)) =
      ap chars passed ∙ chars-append (take i s) (encode_utf8_all (take n (chars (drop i s)))) (IsUtf8-take s i u start)
      ∙ ap (λ t. chars (take i s) ++ t) (chars-encodes (take n (chars (drop i s))) parts.0) in
      let a : chars (drop (i + bytes) s) ≡ drop n (chars (drop i s)) = ap chars left ∙ chars-encodes (drop n (chars (drop i s))) parts.1 in
      grind (arith, moved-whole)

-- ---- the texts before and after a place

pub chars-ahead : (s : List ℕ) (i : ℕ) → chars (drop i s) ≡ (place_at s i).ahead
unfolding place_at
chars-ahead s i = refl

pub chars-before : (s : List ℕ) (i : ℕ) → chars (take i s) ≡ reverse (place_at s i).before
unfolding place_at
chars-before s i = sym (reverse-reverse (chars (take i s)))
