-- Words.
use Rattle.typst_tokens.proofs.Cited.{◌≡◌, ◌≤◌, ◌<◌, ℕ, suc, ◌+◌, max, Bool, true, false, ◌&&◌, ◌==◌, if◌then◌else◌, List, [], ◌∷◌, drop, length, get_or, refl, sym, ap, ◌∙◌, arith, Option, Place, moved, scout, passes, word_at, Step, see_word, Sight, Covers, far, regard, saw_word, went, word_reach, moved-moved, scout-moved}
use Rattle.std.proofs.Math.Seq.{drop-cons}
use Rattle.typst_tokens.proofs.Sights.{far-moved, far-none, same-sight}

pub scout-next : (n : ℕ) (p : Place) → scout n (moved 1 p) ≡ scout (suc n) p
scout-next n p = grind arith

-- a word after the next character
pub word_at-moved : (n : ℕ) (word : List ℕ) (p : Place) → word_at n word (moved 1 p) ≡ word_at (suc n) word p
word_at-moved n [] p = refl
word_at-moved n (c ∷ word) p = rw (scout-next n p, word_at-moved (suc n) word p) refl

pub word_reach-moved : (n : ℕ) (word : List ℕ) (p : Place) (r : ℕ) → word_reach n word (moved 1 p) r ≡ word_reach (suc n) word p r
word_reach-moved n [] p r = refl
word_reach-moved n (c ∷ word) p r =
    let e : suc (n + 1) ≡ suc (suc n) = omega arith in
    let f : far (suc n) (moved 1 p) ≡ far (suc (suc n)) p = far-moved n 1 p.before p.ahead ∙ ap (λ m. far m p) e in
    rw (scout-next n p, f, word_reach-moved (suc n) word p (max r (far (suc (suc n)) p))) refl

pub regard-see_word : {A : Type 0} (n : ℕ) (word : List ℕ) (found other : Step A) (v : Sight) → regard (see_word n word found other) v ≡ (if word_at n word v.place then regard found (saw_word n word v) else regard other (saw_word n word v))
regard-see_word n [] found other v = refl
regard-see_word n (c ∷ word) found other v =
    let u = record v { reach = max v.reach (far (suc n) v.place) } in
    elim (passes (λ d. d == c) (scout n v.place)) as (λ t. regard (if t then see_word (suc n) word found other else other) u ≡ (if t && word_at (suc n) word v.place then regard found (record v { reach = if t then word_reach (suc n) word v.place u.reach else u.reach }) else regard other (record v { reach = if t then word_reach (suc n) word v.place u.reach else u.reach })))
    [ true ↦ regard-see_word (suc n) word found other u | false ↦ refl ]

-- ---- how far is looked at a word

word-more : (n : ℕ) (word : List ℕ) (z : Place) (r : ℕ) → r ≤ word_reach n word z r
word-more n [] z r = omega arith
word-more n (c ∷ word) z r =
    elim (passes (λ d. d == c) (scout n z)) as (λ t. r ≤ (if t then word_reach (suc n) word z (max r (far (suc n) z)) else max r (far (suc n) z)))
    [ true ↦ omega (arith, word-more (suc n) word z (max r (far (suc n) z))) | false ↦ omega arith ]

pub covers-word : (n : ℕ) (word : List ℕ) (v : Sight) → Covers v → Covers (saw_word n word v)
covers-word n word v h = record { reach = omega (arith, h.reach, word-more n word v.place v.reach); least = h.least }

-- a word that stands there was looked at to its end
word-reaches : (n : ℕ) (word : List ℕ) (z : Place) (r : ℕ) → word_at n word z ≡ true → far n z ≤ r → far (n + length word) z ≤ word_reach n word z r
word-reaches n [] z r t h = let e : n + 0 ≡ n = omega arith in omega (arith, ap (λ m. far m z) e, h)
word-reaches n (c ∷ word) z r t h =
    let e : n + suc (length word) ≡ suc n + length word = omega arith in
    rw e (by-test (passes (λ d. d == c) (scout n z)) t (λ u. word-reaches (suc n) word z (max r (far (suc n) z)) u (omega arith)))
  where
    by-test : (b : Bool) → (b && word_at (suc n) word z) ≡ true → (word_at (suc n) word z ≡ true → far (suc n + length word) z ≤ word_reach (suc n) word z (max r (far (suc n) z)))
        → far (suc n + length word) z ≤ (if b then word_reach (suc n) word z (max r (far (suc n) z)) else max r (far (suc n) z))
    by-test true t f = f t
    by-test false t f = absurd (cc)

pub word-eaten : (word : List ℕ) (z y : Place) (r l m : ℕ) → word_at 0 word z ≡ true → y ≡ moved (length word) z → m ≡ word_reach 0 word z r → Covers (record { place = z; reach = r; least = l })
    → ◌≡◌ {A = Sight} (record { place = y; reach = m; least = l }) (went (length word) (saw_word 0 word (record { place = z; reach = r; least = l })))
word-eaten word z y r l m t e f h = grind (arith, word-reaches, far-none, same-sight)

-- ---- a word, character by character

-- where the word is looked at next
pub record Looking (word : List ℕ) (z : Place) (first : ℕ) (n : ℕ) (at : Place) (r : ℕ) : Type 0 where
  pub found : word_at 0 word z ≡ word_at n (drop n word) z
  pub place : at ≡ moved n z
  pub reach : word_reach 0 word z first ≡ word_reach n (drop n word) z r

module _ (word : List ℕ) (z : Place) (first n : ℕ) (at next : Place) (r : ℕ) (o : Option ℕ) (lt : n < length word) (h : Looking word z first n at r) (e : o ≡ scout 0 at) (m : next ≡ moved 1 at) where
  here : o ≡ scout n z
  here = e ∙ ap (scout 0) h.place ∙ scout-moved n z.before z.ahead

  far-here : far 1 at ≡ far (suc n) z
  far-here = let q : suc (0 + n) ≡ suc n = omega arith in ap (far 1) h.place ∙ far-moved 0 n z.before z.ahead ∙ ap (λ k. far k z) q

  split : drop n word ≡ get_or word n 0 ∷ drop (suc n) word
  split = drop-cons word n 0 lt

  found-is : word_at 0 word z ≡ (passes (λ d. d == get_or word n 0) o && word_at (suc n) (drop (suc n) word) z)
  found-is = h.found ∙ ap (λ w. word_at n w z) split ∙ ap (λ q. passes (λ d. d == get_or word n 0) q && word_at (suc n) (drop (suc n) word) z) (sym here)

  reach-is : word_reach 0 word z first ≡ (if passes (λ d. d == get_or word n 0) o then word_reach (suc n) (drop (suc n) word) z (max r (far 1 at)) else max r (far 1 at))
  reach-is =
      h.reach ∙ ap (λ w. word_reach n w z r) split
      ∙ ap (λ q. if passes (λ d. d == get_or word n 0) q then word_reach (suc n) (drop (suc n) word) z (max r (far (suc n) z)) else max r (far (suc n) z)) (sym here)
      ∙ ap (λ f. if passes (λ d. d == get_or word n 0) o then word_reach (suc n) (drop (suc n) word) z (max r f) else max r f) (sym far-here)

  pub looking-on : passes (λ d. d == get_or word n 0) o ≡ true → Looking word z first (n + 1) next (max r (far 1 at))
  looking-on t = let q : n + 1 ≡ suc n = omega arith in grind (arith, found-is, moved-moved, reach-is)

  pub looking-off : passes (λ d. d == get_or word n 0) o ≡ false → (word_at 0 word z ≡ false) × (word_reach 0 word z first ≡ max r (far 1 at))
  looking-off t = (found-is ∙ rw t refl, reach-is ∙ rw t refl)
