-- Which of trees that stand side by side hold a byte.
use Rattle.typst_names.proofs.Cited.{◌≡◌, ℕ, ◌+◌, ◌^◌, ◌-◌, ◌<◌, ◌≤◌, [], ◌++◌, length, length-append, true, false, Some, refl, arith, inl, inr, nat_tests, leb_tells, common_steps, Forest, none, more, Tree, joined, saturated, kid_at, inner, behind, range, around, holds}
use Rattle.typst_kinds.specs.Head.{Head}

-- none of trees hold a byte that can't be counted
around-far : (b a : ℕ) (f : Forest) → 2 ^ 64 - 1 ≤ b → around b a f ≡ []
around-far b a none l = refl
around-far b a (more h ks r) l =
    let fails : holds b (range a h ks) ≡ false = grind (arith, nat_tests, l) in
    let first : around b (inner a h) ks ≡ [] = around-far b (inner a h) ks l in
    let later : around b (behind a h ks) r ≡ [] = around-far b (behind a h ks) r l in
    simp (fails, first, later)

around-near : (b a : ℕ) (f : Forest) → b < a → b < 2 ^ 64 - 1 → around b a f ≡ []
around-near b a none l m = refl
around-near b a (more h ks r) l m =
    let fails : holds b (range a h ks) ≡ false = grind (arith, nat_tests, l) in
    let first : around b (inner a h) ks ≡ [] = around-near b (inner a h) ks (omega arith) m in
    let later : around b (behind a h ks) r ≡ [] = around-near b (behind a h ks) r (omega arith) m in
    simp (fails, first, later)

-- none of trees that begin behind the byte hold it
pub around-before : (b a : ℕ) (f : Forest) → b < a → around b a f ≡ []
around-before b a f l = elim (leb_tells (2 ^ 64 - 1) b) [ inl far ↦ around-far b a f far.1 | inr near ↦ around-near b a f l near.1 ]

-- none of trees that end by the byte hold it
pub around-behind : (b a : ℕ) (f : Forest) → saturated (a + length (joined f)) ≤ b → around b a f ≡ []
around-behind b a none l = refl
around-behind b a (more h ks r) l =
    let whole : length (h.text ++ joined ks) ≡ length h.text + length (joined ks) = length-append h.text (joined ks) in
    let all : length (joined (more h ks r)) ≡ length h.text + (length (joined ks) + length (joined r)) =
    grind (arith, common_steps) in
    let fails : holds b (range a h ks) ≡ false = grind (arith, nat_tests, l, whole, all) in
    let first : around b (inner a h) ks ≡ [] = around-behind b (inner a h) ks (omega (arith, whole, all, l)) in
    let later : around b (behind a h ks) r ≡ [] = around-behind b (behind a h ks) r (omega (arith, whole, all, l)) in
    simp (fails, first, later)

-- nothing within a tree holds the byte where it doesn't itself
pub around-within : (b a : ℕ) (h : Head) (ks : Forest) → holds b (range a h ks) ≡ false → around b (inner a h) ks ≡ []
around-within b a h ks fails = grind (arith, length-append, leb_tells, nat_tests, around-behind, around-far, around-near)

-- a tree that doesn't hold the byte gives nothing
pub around-passed : (b a : ℕ) (h : Head) (ks r : Forest) → holds b (range a h ks) ≡ false → around b a (more h ks r) ≡ around b (behind a h ks) r
around-passed b a h ks r fails = grind (arith, around-within)

-- where a tree holds the byte, those behind it give nothing
pub around-held : (b a : ℕ) (h : Head) (ks r : Forest) → holds b (range a h ks) ≡ true → around b a (more h ks r) ≡ around b a (more h ks none)
around-held b a h ks r held = grind (arith, nat_tests, around-before)

-- of trees of which the first holds the byte it is the first that does, and otherwise the first of the others
pub kid-held : (b a : ℕ) (t : Tree) (r : Forest) → holds b (range a t.head t.kids) ≡ true → kid_at b a (more t.head t.kids r) ≡ Some (record { start = a; node = t })
kid-held b a t r held = grind arith

pub kid-passed : (b a : ℕ) (t : Tree) (r : Forest) → holds b (range a t.head t.kids) ≡ false → kid_at b a (more t.head t.kids r) ≡ kid_at b (behind a t.head t.kids) r
kid-passed b a t r fails = grind arith
