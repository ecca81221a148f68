-- What holds of each of some tokens, and of those of a stretch.
use Rattle.typst_styles.proofs.Cited.{◌≡◌, ℕ, ◌+◌, ◌-◌, ◌<◌, ◌≤◌, true, List, [], ◌∷◌, ◌++◌, length, Option, None, Some, arith, length-take, Range, cond_both, leb_tells, nat_tests, both, continues, end_of, ends_line, lines, merged, merged_after, stretch, token, touches, touching, Style, Token}

-- ---- each of some tokens

abbrev pub Each : (Token → Type 0) → List Token → Type 0
Each P [] = Unit {0}
Each P (t ∷ ts) = P t × Each P ts

pub each_of : (P : Token → Type 0) → ((t : Token) → P t) → (ts : List Token) → Each P ts
each_of P f [] = tt
each_of P f (t ∷ ts) = (f t, each_of P f ts)

pub each_both : (P : Token → Type 0) (xs ys : List Token) → Each P xs → Each P ys → Each P (xs ++ ys)
each_both P [] ys v w = w
each_both P (t ∷ xs) ys v w = (v.0, each_both P xs ys v.1 w)

pub each_so : (P Q : Token → Type 0) → ((t : Token) → P t → Q t) → (ts : List Token) → Each P ts → Each Q ts
each_so P Q f [] w = tt
each_so P Q f (t ∷ ts) w = (f t w.0, each_so P Q f ts w.1)

-- those that a range touches
pub touching_each : (P Q : Token → Type 0) (range : Range ℕ) → ((t : Token) → P t → touches range t ≡ true → Q t) → (ts : List Token) → Each P ts → Each Q (touching range ts)
touching_each P Q range f [] w = tt
touching_each P Q range f (t ∷ ts) w = let rest : Each Q (touching range ts) = touching_each P Q range f ts w.1 in grind arith

-- what continues a token begins where it ends
pub begins_there : (t u : Token) → continues t u ≡ true → end_of t ≡ u.start
begins_there t u e = grind (arith, nat_tests)

-- those that are left of neighbours that are one, where what holds of two holds of both as one
after_each : (P : Token → Type 0) → ((t u : Token) → end_of t ≡ u.start → P t → P u → P (both t u)) → (t : Token) (ts : List Token) → P t → Each P ts → Each P (merged_after (Some t) ts)
after_each P join t [] v w = (v, tt)
after_each P join t (u ∷ us) v w =
    cond_both (continues t u) (merged_after (Some (both t u)) us) (t ∷ merged_after (Some u) us) (Each P)
    (λ e. after_each P join (both t u) us (join t u (begins_there t u e) v w.0) w.1)
    (λ e. (v, after_each P join u us w.0 w.1))

pub merged_each : (P : Token → Type 0) → ((t u : Token) → end_of t ≡ u.start → P t → P u → P (both t u)) → (ts : List Token) → Each P ts → Each P (merged ts)
merged_each P join ts w = grind (arith, after_each)

-- ---- where they are

-- each ends before a byte
abbrev pub AllBefore : ℕ → List Token → Type 0
AllBefore m = Each (λ (t : Token). t.start + t.len < m)

-- each begins at a byte or after it
abbrev pub AllFrom : ℕ → List Token → Type 0
AllFrom m = Each (λ (t : Token). m ≤ t.start)

-- each begins before a byte
abbrev pub AllUnder : ℕ → List Token → Type 0
AllUnder m = Each (λ (t : Token). t.start < m)

-- a token is between two bytes
abbrev pub IsBetween : ℕ → ℕ → Token → Type 0
IsBetween a e t = (a ≤ t.start) × (t.start + t.len ≤ e)

abbrev pub Between : ℕ → ℕ → List Token → Type 0
Between a e = Each (IsBetween a e)

lines_between : (b e : ℕ) (s : Style) (a k : ℕ) (bs : List ℕ) → b ≤ a → a + k + length bs ≤ e → Between b e (lines s a k bs)
lines_between b e s a k [] l m = grind (arith, nat_tests)
lines_between b e s a k (z ∷ bs) l m =
    cond_both (ends_line z) (token s a k ++ lines s (a + k + 1) 0 bs) (lines s a (k + 1) bs) (Between b e)
    (λ f. each_both (IsBetween b e) (token s a k) (lines s (a + k + 1) 0 bs) (grind (arith, nat_tests)) (lines_between b e s (a + k + 1) 0 bs (omega arith) (omega arith)))
    (λ f. lines_between b e s a (k + 1) bs l (omega arith))

-- the tokens of bytes from byte a on that are shown like this
abbrev pub piece : Option Style → ℕ → List ℕ → List Token
piece None a bs = []
piece (Some s) a bs = lines s a 0 bs

pub piece_between : (b e : ℕ) (o : Option Style) (a : ℕ) (bs : List ℕ) → b ≤ a → a + length bs ≤ e → Between b e (piece o a bs)
piece_between b e o a bs l m = grind (arith, lines_between)

-- a stretch without a byte has no tokens
pub stretch_none : (text : List ℕ) (a e : ℕ) (o : Option Style) → e ≤ a → stretch text a e o ≡ []
stretch_none text a e o l = grind arith

pub stretch_between : (b e : ℕ) (text : List ℕ) (a z : ℕ) (o : Option Style) → (a < z → b ≤ a) → z ≤ e → Between b e (stretch text a z o)
stretch_between b e text a z o l m = grind (arith, leb_tells, stretch_none, lines_between, length-take)
