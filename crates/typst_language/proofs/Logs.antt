-- What was looked at and noted.
use Rattle.typst_language.proofs.Cited.{Option, Some, None, ◌≡◌, ℕ, zero, suc, ◌+◌, ◌-◌, ◌≤◌, Bool, true, false, if◌then◌else◌, List, [], ◌∷◌, ◌++◌, refl, ap, ◌∙◌, arith, SyntaxMode, Place, moved, CharClasses, hull_of, Hull, Note, Reading, Ask, shift, sunk, looked, marked, Trivia, ahead, len_at, at_trivia, asks_by, ahead_asks, column_look, hand_at, hand_asks, joined_hull, token_hull, tokens_by, tokens_at, column_hull, whole_at, Log, with_hull, with_note, logged_one, logged}
use Rattle.typst_language.proofs.Hulls.{In, own-in, second-in}
use Rattle.typst_language.proofs.Places.{moved-sum}

-- ---- logs

pub same-log : (r s l m : ℕ) (ns : Option (List Note)) → r ≡ s → l ≡ m → ◌≡◌ {A = Log} (record { reach = r; least = l; notes = ns }) (record { reach = s; least = m; notes = ns })
same-log r s l m ns e f = rw (e, f) refl

-- a hull lies in what was looked at
pub record Among (u : Hull) (h : Log) : Type 0 where
  pub reach : u.reach ≤ h.reach
  pub least : h.least ≤ u.least

pub among-is : (u : Hull) (h : Log) → with_hull u h ≡ h → Among u h
among-is u h e = record { reach = omega (arith, ap (λ (x : Log). x.reach) e); least = omega (arith, ap (λ (x : Log). x.least) e) }

pub is-among : (u : Hull) (h : Log) → Among u h → with_hull u h ≡ h
is-among u h a = same-log _ _ _ _ h.notes (omega (arith, a.reach)) (omega (arith, a.least))

pub in-among : (u v : Hull) (h : Log) → In u v → Among v h → Among u h
in-among u v h i a = record { reach = omega (arith, i.reach, a.reach); least = omega (arith, i.least, a.least) }

pub with-again : (u : Hull) (h : Log) → Among u (with_hull u h)
with-again u h = record { reach = omega arith; least = omega arith }

pub logged-append : (n : ℕ) (z : Place) (h : Log) (xs ys : List Ask) → logged n z h (xs ++ ys) ≡ logged n z (logged n z h xs) ys
logged-append n z h [] ys = refl
logged-append n z h (x ∷ xs) ys = logged-append n z (logged_one n z h x) xs ys

pub logged-shift : (n k : ℕ) (z : Place) (h : Log) (ys : List Ask) → logged n z h (shift k ys) ≡ logged n (moved k z) h ys
logged-shift n k z h [] = refl
logged-shift n k z h (looked at l ∷ ys) = logged-shift n k z (with_hull (hull_of l (moved (k + at) z)) h) ys ∙ ap (λ p. logged n (moved k z) (with_hull (hull_of l p) h) ys) (moved-sum k at z)
logged-shift n k z h (marked at gap level m s ∷ ys) = logged-shift n k z (with_note gap (n - level) m s (moved (k + at) z) h) ys ∙ ap (λ p. logged n (moved k z) (with_note gap (n - level) m s p h) ys) (moved-sum k at z)

pub logged-sunk : (n : ℕ) (z : Place) (h : Log) (ys : List Ask) → logged n z h (sunk ys) ≡ logged (n - 1) z h ys
logged-sunk n z h [] = refl
logged-sunk n z h (looked at l ∷ ys) = logged-sunk n z (with_hull (hull_of l (moved at z)) h) ys
logged-sunk n z h (marked at gap level m s ∷ ys) =
    let e : n - suc level ≡ n - 1 - level = omega arith in
    logged-sunk n z (with_note gap (n - suc level) m s (moved at z) h) ys ∙ ap (λ d. logged (n - 1) z (with_note gap d m s (moved at z) h) ys) e

-- ---- the token at hand

module _ (k : CharClasses) (m : SyntaxMode) where
  pub logged-tokens : (n f : ℕ) (z : Place) (h : Log) → logged n z h (asks_by k m f z) ≡ with_hull (tokens_by k m f z) h
  logged-tokens n zero z h = refl
  logged-tokens n (suc f) z h =
      elim (at_trivia k m z) as (λ t. logged n z (with_hull (token_hull k m z) h) (if t then shift (len_at k m z) (asks_by k m f (moved (len_at k m z) z)) else []) ≡ with_hull (if t then joined_hull (token_hull k m z) (tokens_by k m f (moved (len_at k m z) z)) else token_hull k m z) h) [
        | true ↦
            let w = moved (len_at k m z) z in
            logged-shift n (len_at k m z) z (with_hull (token_hull k m z) h) (asks_by k m f w)
            ∙ logged-tokens n f w (with_hull (token_hull k m z) h)
            ∙ same-log _ _ _ _ h.notes (omega arith) (omega arith)
        | false ↦ refl
      ]

module _ (k : CharClasses) (held : Reading) (z : Place) where
  column-log : (b : Bool) (n g : ℕ) (h : Log) (t own : Hull) → In own t
      → logged n z (with_hull t h) (if b then looked g (column_look (moved g z)) ∷ [] else [])
      ≡ with_hull (joined_hull t (if b then joined_hull own (hull_of (column_look (moved g z)) (moved g z)) else own)) h
  column-log true n g h t own i = same-log _ _ _ _ h.notes (omega (arith, i.reach)) (omega (arith, i.least))
  column-log false n g h t own i = same-log _ _ _ _ h.notes (omega (arith, i.reach)) (omega (arith, i.least))

  -- what was asked for the token at hand where nothing was known
  pub logged-none : (n : ℕ) (h : Log) → logged n z h (hand_asks k held None z) ≡ with_hull (whole_at k held z) h
  unfolding hand_asks ahead_asks whole_at tokens_at ahead
  logged-none n h = grind (arith, logged-append, logged-tokens, column-log, own-in)

  -- what was asked for it where the trivia are known
  pub logged-some : (n : ℕ) (h : Log) (t : Trivia)
      → logged n z h (hand_asks k held (Some t) z) ≡ with_hull (column_hull held t.newlines (moved t.gap z) (token_hull k held.mode (moved t.gap z))) h
  unfolding hand_asks
  logged-some n h t = grind arith

  -- the token itself is among it
  pub hand-among : (known : Option Trivia) (n : ℕ) (h : Log)
      → let a = hand_at k held known z in Among (column_hull held a.newlines (moved a.gap z) (token_hull k held.mode (moved a.gap z))) (logged n z h (hand_asks k held known z))
  unfolding hand_at whole_at
  hand-among known n h = grind (arith, logged-none, in-among, second-in, with-again, logged-some)
