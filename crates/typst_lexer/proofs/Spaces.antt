-- A space before a printable character of ASCII is a token in each mode.
use Rattle.typst_lexer.proofs.Cited.{◌≡◌, ◌≤◌, ◌==◌, ℕ, false, true, List, [], ◌∷◌, Option, Some, slice_get, refl, ap, ◌∙◌, arith, nat_tests, prefix_len, CharClasses, moved, moved_from, passes, scout, is_space, line_ends, space, whitespace, Sight, saw, sight, went, plain, far-on, same-sight, token, SyntaxMode}
use Rattle.typst_kinds.specs.declared.kind.SyntaxKind.TheVariants as kind
use Rattle.typst_tokens.specs.Reader.{place}

-- a space is whitespace in each mode
space-is : (mode : SyntaxMode) → is_space mode 32 ≡ true
space-is mode = grind arith

-- a printable character of ASCII is in none
printable-is-none : (mode : SyntaxMode) (c : ℕ) → 33 ≤ c → c ≤ 126 → is_space mode c ≡ false
printable-is-none mode c low high = grind arith

-- so the run of whitespace ends after the space
run-is-one : (mode : SyntaxMode) (c : ℕ) (a : List ℕ) → 33 ≤ c → c ≤ 126 → prefix_len (is_space mode) (32 ∷ c ∷ a) ≡ 1
run-is-one mode c a low high = rw (space-is mode, printable-is-none mode c low high) refl

module _ (k : CharClasses) (b a : List ℕ) (c r l : ℕ) (low : 33 ≤ c) (high : c ≤ 126) where
  abbrev at_space : Sight
  at_space = record { place = place b (32 ∷ c ∷ a); reach = r; least = l }

  read-space : (mode : SyntaxMode) → sight (token k mode) at_space ≡ (plain kind.Space, went 1 (saw 2 (saw 1 at_space)))
  unfolding token whitespace line_ends
  read-space mode = grind (arith, run-is-one)

  -- to look at the character after the space from there is the same
  looked : went 1 (saw 2 (saw 1 at_space)) ≡ saw 1 (went 1 at_space)
  looked = same-sight _ _ _ _ _ _ refl (omega (arith, far-on 1 32 b (c ∷ a))) refl

-- the next character is a space
pub is-space : (o : Option ℕ) → passes (λ d. d == 32) o ≡ true → o ≡ Some 32
is-space o e = grind arith

-- what is read where a space stands before such a character
pub lone-space : (k : CharClasses) (mode : SyntaxMode) (v : Sight) (c : ℕ) → passes (λ d. d == 32) (scout 0 v.place) ≡ true → Some c ≡ scout 0 (moved 1 v.place) → 33 ≤ c → c ≤ 126
    → sight (token k mode) v ≡ (plain kind.Space, saw 1 (went 1 v))
lone-space k mode v c first second low high = from v.place.before v.place.ahead first second
  where
    from : (b a : List ℕ) → passes (λ d. d == 32) (slice_get a 0) ≡ true → Some c ≡ scout 0 (moved_from 1 b a)
        → sight (token k mode) (record { place = place b a; reach = v.reach; least = v.least }) ≡ (plain kind.Space, saw 1 (went 1 (record { place = place b a; reach = v.reach; least = v.least })))
    from b [] e f = absurd (cc)
    from b (d ∷ []) e f = absurd (cc)
    from b (d ∷ x ∷ a) e f =
        let space : d ≡ 32 = grind (arith, nat_tests, e) in
        let next : x ≡ c = cc in
        rw (space, next) (read-space k b a c v.reach v.least low high mode ∙ ap (λ (w : Sight). (plain kind.Space, w)) (looked k b a c v.reach v.least low high))
