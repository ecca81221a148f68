-- Tokens in the order in which they begin.
use Rattle.typst_styles.proofs.Cited.{ℕ, ◌+◌, ◌-◌, ◌≤◌, ◌==◌, List, [], ◌∷◌, ◌++◌, length, drop, Option, None, Some, subst, arith, append_assoc, length-take, slice_range, Range, cond_both, Tagged, style_of, AreOrdered, both, continues, ends_line, first_role, lines, merged_after, stretch, stretches, token, touches, touching, Role, Style, Token}
use Rattle.typst_highlight.specs.Stretches.{AreJoined}

-- those from a later byte on are those from an earlier one on
pub lower : (a b : ℕ) (ts : List Token) → a ≤ b → AreOrdered b ts → AreOrdered a ts
lower a b [] le h = tt
lower a b (t ∷ ts) le h = (omega (arith, le, h.0), h.1)

-- ---- those of stretches

token-ordered : (s : Style) (a n : ℕ) (rest : List Token) → AreOrdered a rest → AreOrdered a (token s a n ++ rest)
token-ordered s a n rest h = cond_both (n == 0) [] (record { start = a; len = n; style = s } ∷ []) (λ xs. AreOrdered a (xs ++ rest)) (λ e. h) (λ e. (omega arith, h))

lines-ordered : (s : Style) (a n : ℕ) (bs : List ℕ) (e : ℕ) (rest : List Token) → a + n + length bs ≤ e → AreOrdered e rest → AreOrdered a (lines s a n bs ++ rest)
lines-ordered s a n [] e rest le h = token-ordered s a n rest (lower a e rest (omega arith) h)
lines-ordered s a n (b ∷ bs) e rest le h =
    cond_both (ends_line b) (token s a n ++ lines s (a + n + 1) 0 bs) (lines s a (n + 1) bs) (λ xs. AreOrdered a (xs ++ rest))
    (λ f. rw append_assoc (token-ordered s a n (lines s (a + n + 1) 0 bs ++ rest) (lower a (a + n + 1) (lines s (a + n + 1) 0 bs ++ rest) (omega arith) (lines-ordered s (a + n + 1) 0 bs e rest (omega arith) h))))
    (λ f. lines-ordered s a (n + 1) bs e rest (omega arith) h)

stretch-ordered : (text : List ℕ) (a e : ℕ) (o : Option Style) (rest : List Token) → a ≤ e → AreOrdered e rest → AreOrdered a (stretch text a e o ++ rest)
stretch-ordered text a e None rest le h = lower a e rest le h
stretch-ordered text a e (Some s) rest le h = lines-ordered s a 0 (slice_range text a e) e rest (omega (arith, le, length-take (e - a) (drop a text))) h

pub stretches-ordered : (text : List ℕ) (a b : ℕ) (ss : List Tagged) (rs : List (Option Role)) → AreJoined a ss b → AreOrdered a (stretches text ss rs)
stretches-ordered text a b [] rs h = tt
stretches-ordered text a b (s ∷ ss) rs h =
    subst (λ k. AreOrdered k (stretches text (s ∷ ss) rs)) h.0
    (stretch-ordered text s.range.start s.range.end (style_of s.tag (first_role rs)) (stretches text ss (drop 1 rs)) (omega (arith, h.0, h.1.0)) (stretches-ordered text s.range.end b ss (drop 1 rs) h.1.1))

-- ---- those in a range, and merged

pub touching-ordered : (range : Range ℕ) (a : ℕ) (ts : List Token) → AreOrdered a ts → AreOrdered a (touching range ts)
touching-ordered range a [] h = tt
touching-ordered range a (t ∷ ts) h =
    cond_both (touches range t) (t ∷ touching range ts) (touching range ts) (AreOrdered a) (λ e. (h.0, touching-ordered range t.start ts h.1)) (λ e. touching-ordered range a ts (lower a t.start ts h.0 h.1))

after-ordered : (a : ℕ) (t : Token) (us : List Token) → a ≤ t.start → AreOrdered t.start us → AreOrdered a (merged_after (Some t) us)
after-ordered a t [] le h = (le, tt)
after-ordered a t (u ∷ us) le h =
    cond_both (continues t u) (merged_after (Some (both t u)) us) (t ∷ merged_after (Some u) us) (AreOrdered a)
    (λ e. after-ordered a (both t u) us le (lower t.start u.start us h.0 h.1))
    (λ e. (le, after-ordered t.start u us h.0 h.1))

pub merged-ordered : (a : ℕ) (ts : List Token) → AreOrdered a ts → AreOrdered a (merged_after None ts)
merged-ordered a ts h = grind (arith, after-ordered)
