-- Sums that are counted round the machine's numbers.
use Rattle.std.proofs.Common.{◌≡◌, ℕ, ◌+◌, ◌-◌, ◌%◌, ◌^◌, ◌<◌, ap, ◌∙◌, arith}
use Rattle.std.proofs.Math.Nat.{mod-add-mod}

-- a sum round the machine with two numbers more
pub two-more : (sum all a b : ℕ) → sum ≡ all % 2 ^ 64 → ((sum + a) % 2 ^ 64 + b) % 2 ^ 64 ≡ (all + (a + b)) % 2 ^ 64
two-more sum all a b h = grind arith

-- a sum round the machine with one number more
pub one-more-round : (sum all a : ℕ) → sum ≡ all % 2 ^ 64 → (sum + a) % 2 ^ 64 ≡ (all + a) % 2 ^ 64
one-more-round sum all a h = ap (λ n. (n + a) % 2 ^ 64) h ∙ mod-add-mod all (2 ^ 64) a

-- both sums of what lies between two places
pub both-between : (from to s l : ℕ) → to ≡ from + (s + l) → (from + (s % 2 ^ 64 + l % 2 ^ 64) % 2 ^ 64) % 2 ^ 64 ≡ to % 2 ^ 64
both-between from to s l h = grind arith

-- the last token of entries of which a part took the place of others: those up to the first, up to the last that goes, and after it
pub last-put : (last gone part from to after : ℕ) → last ≡ (to + after) % 2 ^ 64 → gone < 2 ^ 64 → (from + gone) % 2 ^ 64 ≡ to % 2 ^ 64
    → ((last + (2 ^ 64 - gone)) % 2 ^ 64 + part % 2 ^ 64) % 2 ^ 64 ≡ ((from + part) + after) % 2 ^ 64
last-put last gone part from to after l g h = omega (arith, l, g, h)
