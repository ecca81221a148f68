-- Columns: characters back to the line's start, and what is looked at for them.
use Rattle.typst_tokens.proofs.Cited.{◌≡◌, ◌<◌, ◌≤◌, ℕ, suc, true, false, List, [], ◌∷◌, length, take, drop, slice_get, Some, None, length-take, refl, ap, sym, ◌∙◌, arith, length-reverse, encodes-chars, length-le-encodes, IsUtf8-take, prefix_len, IsUtf8, IsCharBoundary, chars, in_line, Place, place_at, moved_back, column_at, column_look, near, position, is_newline}
use Rattle.typst_tokens.proofs.Frame.{run-agree, run_look}
use Rattle.typst_tokens.proofs.Sights.{near-on, near-none, near-start, position-step}
pub use Rattle.typst_tokens.proofs.Sights.{same-hull}
use Rattle.typst_tokens.specs.Reader.{place, no_look, Agree}

pub before-most : (s : List ℕ) (i : ℕ) → IsUtf8 s → IsCharBoundary s i → length (place_at s i).before ≤ i
unfolding place_at
before-most s i u b = grind (arith, chars (take i s), ap length (encodes-chars (take i s) (IsUtf8-take s i u b)), length-reverse, length-le-encodes, length-take)

-- one step back within a line, and its end
pub line-more : (xs rest : List ℕ) (c : ℕ) → xs ≡ c ∷ rest → is_newline c ≡ false → prefix_len in_line xs ≡ suc (prefix_len in_line rest)
line-more xs rest c e h = rw (e, h) (omega arith)

pub line-stop : (xs rest : List ℕ) (c : ℕ) → xs ≡ c ∷ rest → is_newline c ≡ true → prefix_len in_line xs ≡ 0
line-stop xs rest c e h = rw (e, h) refl

none-some : (c : ℕ) → Some c ≡ None → ⊥
none-some c e = cc

none-some2 : (x : ℕ) → None ≡ Some x → ⊥
none-some2 x e = cc

pub some-before : (xs : List ℕ) (c : ℕ) → Some c ≡ slice_get xs 0 → xs ≡ c ∷ drop 1 xs
some-before xs c e = grind arith

pub none-before : (xs : List ℕ) → None ≡ slice_get xs 0 → xs ≡ []
none-before [] e = refl
none-before (x ∷ xs) e = absurd (none-some2 x e)

back-from : (b a : List ℕ) (c : ℕ) → b ≡ c ∷ drop 1 b → (moved_back (record { before = b; ahead = a })).before ≡ drop 1 b
back-from b a c e = cc

pub back-is : (z : Place) (c : ℕ) → Some c ≡ slice_get z.before 0 → (moved_back z).before ≡ drop 1 z.before
back-is z c e = back-from z.before z.ahead c (some-before z.before c e)

-- ---- what is looked at for a column

-- one character back
pub near-back : (n : ℕ) (z : Place) (c : ℕ) → Some c ≡ slice_get z.before 0 → near (suc n) z ≡ near n (moved_back z)
near-back n z c e = grind (arith, none-some, near-on)

pub column-least : (z y : Place) (c : ℕ) → near (suc (column_at z)) z ≡ near (suc (prefix_len in_line y.before)) y → Some c ≡ slice_get y.before 0 → is_newline c ≡ true
    → suc (position (moved_back y)) ≡ near (suc (column_at z)) z
column-least z y c h e t = grind (arith, line-stop, some-before, near-back, near-none)

pub column-start : (z y : Place) → near (suc (column_at z)) z ≡ near (suc (prefix_len in_line y.before)) y → None ≡ slice_get y.before 0 → 0 ≡ near (suc (column_at z)) z
column-start z y h e =
    let none : prefix_len in_line y.before ≡ 0 = ap (prefix_len in_line) (none-before y.before e) in
    near-start y e ∙ sym (h ∙ ap (λ n. near (suc n) y) none)

pub column-back : (z y w : Place) (c : ℕ) → near (suc (column_at z)) z ≡ near (suc (prefix_len in_line y.before)) y → Some c ≡ slice_get y.before 0 → is_newline c ≡ false → w ≡ moved_back y
    → near (suc (column_at z)) z ≡ near (suc (prefix_len in_line w.before)) w
column-back z y w c h e t m = grind (arith, line-more, some-before, back-is, near-back)

pub back-smaller : (z : Place) (c : ℕ) → Some c ≡ slice_get z.before 0 → position (moved_back z) < position z
back-smaller z c e = at z.before z.ahead e
  where
    at : (b a : List ℕ) → Some c ≡ slice_get b 0 → position (moved_back (record { before = b; ahead = a })) < position (record { before = b; ahead = a })
    at [] a e = absurd (none-some c e)
    at (d ∷ b) a e = position-step d (record { before = b; ahead = d ∷ a }) refl

-- ---- the frame law

-- what stands before, turned so that it stands ahead
turned : (p q : Place) → Agree (column_look p) p q → Agree (run_look (column_at p) no_look) (place [] p.before) (place [] q.before)
unfolding column_at
turned p q g = grind arith

pub column-frame : (p q : Place) → Agree (column_look p) p q → column_at p ≡ column_at q
unfolding column_at
column-frame p q g = (run-agree in_line no_look [] p.before [] q.before (turned p q g)).long
