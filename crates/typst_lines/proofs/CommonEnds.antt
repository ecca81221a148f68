-- What two texts have in common at the front and at the end.
use Rattle.typst_lines.proofs.Cited.{◌≡◌, length, ℕ, ◌+◌, ◌-◌, ◌==◌, List, [], ◌∷◌, ◌++◌, slice_get, Option, Some, None, refl, sym, ap, subst, ◌∙◌, true, false, arith, take, drop, reverse, append_assoc, append-nil, drop_at, nat_eq, nat_tests, IsCharBoundary-end, chars, IsUtf8, IsCharBoundary, bytes, common_front, common_ends, IsCommonFront, Place, place_at, moved, moved_back, scout, passes, pointwise}
use Rattle.std.proofs.lemmas.List.{take-append-drop}
use Rattle.typst_lines.proofs.LineTable.{bytes-append, bytes-text, bytes-front, chars-split, none-first}
use Rattle.typst_lines.proofs.PlaceLemmas.{head-splits}
use Rattle.typst_lines.proofs.RoundTrip.{bytes-before}

-- two lists that begin alike and then differ, or end
pub record Shares (cs ds us vs : List ℕ) : Type 0 where
  pub front : List ℕ
  pub first : cs ≡ front ++ us
  pub second : ds ≡ front ++ vs

pub shares-more : (cs ds us vs rest left : List ℕ) (c : ℕ) → Shares cs ds us vs → us ≡ c ∷ rest → vs ≡ c ∷ left → Shares cs ds rest left
shares-more cs ds us vs rest left c h e f =
    record {
      front = h.front ++ c ∷ [];
      first = h.first ∙ ap (λ t. h.front ++ t) e ∙ sym (append_assoc h.front (c ∷ []) rest);
      second = h.second ∙ ap (λ t. h.front ++ t) f ∙ sym (append_assoc h.front (c ∷ []) left);
    }

pub same-test : (c : ℕ) → (c == c) ≡ true
same-test c = grind (arith, nat_tests)

front-append : (xs us vs : List ℕ) → common_front (xs ++ us) (xs ++ vs) ≡ xs ++ common_front us vs
front-append [] us vs = refl
front-append (c ∷ xs) us vs = rw (same-test c) (ap (λ t. c ∷ t) (front-append xs us vs))

-- the heads of two lists differ
abbrev pub Differ : List ℕ → List ℕ → Type 0
Differ us vs = common_front us vs ≡ []

pub differ-heads : (us vs : List ℕ) (c : ℕ) → slice_get us 0 ≡ Some c → (slice_get vs 0 ≡ Some c → ⊥) → Differ us vs
differ-heads [] vs c e n = refl
differ-heads (a ∷ us) [] c e n = refl
differ-heads (a ∷ us) (b ∷ vs) c e n = grind arith

pub differ-end : (us vs : List ℕ) → us ≡ [] → Differ us vs
differ-end us vs e = rw e refl

pub shares-is : (cs ds us vs : List ℕ) (h : Shares cs ds us vs) → Differ us vs → common_front cs ds ≡ h.front
shares-is cs ds us vs h d = ap (λ t. common_front t ds) h.first ∙ ap (common_front (h.front ++ us)) h.second ∙ front-append h.front us vs ∙ ap (λ t. h.front ++ t) d ∙ append-nil h.front

rest-is : (cs front us : List ℕ) → cs ≡ front ++ us → us ≡ drop (length front) cs
rest-is cs front us e = sym (ap (drop (length front)) e ∙ drop_at front us (length front) refl)

ahead-is : (s : List ℕ) (i : ℕ) → (place_at s i).ahead ≡ chars (drop i s)
unfolding place_at
ahead-is s i = refl

drop-all : (s : List ℕ) → drop (length s) s ≡ []
drop-all s = ap (drop (length s)) (sym (append-nil s)) ∙ drop_at s [] (length s) refl

pub take-all : (s : List ℕ) → take (length s) s ≡ s
take-all s = sym (append-nil (take (length s) s)) ∙ ap (λ t. take (length s) s ++ t) (sym (drop-all s)) ∙ take-append-drop (length s) s

before-end : (s : List ℕ) → (place_at s (length s)).before ≡ reverse (chars s)
unfolding place_at
before-end s = ap (λ t. reverse (chars t)) (take-all s)

-- the bytes of what was passed going back
pub passed-back : (s : List ℕ) → IsUtf8 s → (i : ℕ) → IsCharBoundary s i → (xs : List ℕ) → reverse (chars s) ≡ xs ++ (place_at s i).before → length s - i ≡ bytes xs
passed-back s u i at xs e =
    omega (arith, ap bytes (before-end s), ap bytes e, bytes-append xs (place_at s i).before, bytes-before s u i at, bytes-before s u (length s) (IsCharBoundary-end s), at.0)

bytes-ahead : (s : List ℕ) → IsUtf8 s → (i : ℕ) → IsCharBoundary s i → i + bytes (place_at s i).ahead ≡ length s
bytes-ahead s u i at =
    omega (arith, ap bytes (ahead-is s i), bytes-text s u, ap bytes (chars-split s u i at), bytes-append (chars (take i s)) (chars (drop i s)), bytes-front s u i at)

common-at : (old new : List ℕ) → IsUtf8 old → IsUtf8 new → (i j : ℕ) → IsCharBoundary old i → IsCharBoundary new j
    → Shares (chars old) (chars new) (place_at old i).ahead (place_at new j).ahead → Differ (place_at old i).ahead (place_at new j).ahead
    → IsCommonFront old new i
common-at old new u v i j at there h d =
    let front = shares-is (chars old) (chars new) (place_at old i).ahead (place_at new j).ahead h d in
    grind (arith, bytes-ahead, bytes-text, bytes-append, ahead-is, rest-is)

-- two cursors that have passed the same characters, before ones that differ
pub IsCommonFront-at : (old new t w : List ℕ) → IsUtf8 old → IsUtf8 new → t ≡ old → w ≡ new → (i j : ℕ) → IsCharBoundary t i → IsCharBoundary w j
    → Shares (chars old) (chars new) (place_at t i).ahead (place_at w j).ahead → Differ (place_at t i).ahead (place_at w j).ahead
    → IsCommonFront old new i
IsCommonFront-at old new t w u v e f i j =
    subst (λ x. IsCharBoundary x i → IsCharBoundary w j → Shares (chars old) (chars new) (place_at x i).ahead (place_at w j).ahead → Differ (place_at x i).ahead (place_at w j).ahead → IsCommonFront old new i) (sym e)
    (subst (λ y. IsCharBoundary old i → IsCharBoundary y j → Shares (chars old) (chars new) (place_at old i).ahead (place_at y j).ahead → Differ (place_at old i).ahead (place_at y j).ahead → IsCommonFront old new i) (sym f)
    (common-at old new u v i j))

-- the characters passed going back
pub common-back : (old new t : List ℕ) → IsUtf8 old → t ≡ old → (i : ℕ) (us vs : List ℕ) → IsCharBoundary t i → us ≡ (place_at t i).before
    → Shares (reverse (chars old)) (reverse (chars new)) us vs → Differ us vs → length old - i ≡ bytes (common_front (reverse (chars old)) (reverse (chars new)))
common-back old new t u e i us vs at is h d =
    passed-back old u i (subst (λ x. IsCharBoundary x i) e at) h.front (h.first ∙ ap (λ x. h.front ++ x) (is ∙ ap (λ x. (place_at x i).before) e)) ∙ ap bytes (sym (shares-is (reverse (chars old)) (reverse (chars new)) us vs h d))

-- the next character isn't the one that is asked for
pub not-next : (c : ℕ) (o : Option ℕ) → passes (λ d. d == c) o ≡ false → o ≡ Some c → ⊥
not-next c o e f = grind arith

pub is-next : (c : ℕ) (o : Option ℕ) → passes (λ d. d == c) o ≡ true → Some c ≡ o
is-next c o e = grind arith

pub ahead-step : (p : Place) (c : ℕ) → Some c ≡ scout 0 p → p.ahead ≡ c ∷ (moved 1 p).ahead
ahead-step p c e = let t = head-splits p.ahead c (sym e) in rw t.1 refl

pub before-step : (p : Place) (c : ℕ) → Some c ≡ slice_get p.before 0 → p.before ≡ c ∷ (moved_back p).before
before-step p c e = let t = head-splits p.before c (sym e) in rw t.1 refl

pub before-none : (p : Place) → None ≡ slice_get p.before 0 → p.before ≡ []
before-none p e = none-first p.before (sym e)

pub before-all : (s : List ℕ) → (place_at s (length s)).before ≡ reverse (chars s)
before-all s = before-end s

pub common_ends-at : (old new t a b : List ℕ) (n m : ℕ) → t ≡ old → IsCommonFront t new n → a ≡ drop n t → b ≡ drop n new → m ≡ bytes (common_front (reverse (chars a)) (reverse (chars b))) → (n, m) ≡ common_ends old new
unfolding common_ends
common_ends-at old new t a b n m same front e f is = grind arith

pub pointwise-same : (xs : List ℕ) → pointwise nat_eq xs xs ≡ true
pointwise-same [] = refl
pointwise-same (x ∷ xs) = rw (same-test x) (pointwise-same xs)
