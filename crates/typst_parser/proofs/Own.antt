-- In a tree whose numbers are in order, a span and a number find their own node.
use Rattle.typst_parser.proofs.Cited.{◌≡◌, ℕ, zero, suc, ◌+◌, ◌-◌, ◌^◌, ◌≤◌, Bool, true, false, IsTrue, List, [], ◌∷◌, length, Option, Some, refl, sym, ap, subst, ◌∙◌, arith, eq-eqb, zero-add, none-some, same_Some, Range, Bytes, number_of, Tree, places, nodes, saturated, IsNumberedIn, AreNumbered, file_of, top, found, range_of, FindsOwn, GivesOwn}
use Rattle.std.specs.Prelude.{nat_lt, slice_get, option_map}
use Rattle.std.proofs.lemmas.Bool.Decides.{nat_tests}
use Rattle.typst_tree.specs.Ordered.{IsKey}
use Rattle.typst_tree.specs.Steps.{At, at, find_span, find_number}
use Rattle.typst_tree.specs.Walks.{first_at, has_span, has_number, is_numbered, same_place}
use Rattle.typst_tree.proofs.SingleNodes.{place_self, place_same}
use Rattle.typst_tree.proofs.RisingNumbers.{Rising, rising_from}
use Rattle.typst_parser.proofs.Replaced.{all-at}

abbrev number : Tree → ℕ
number t = number_of t.head.span

-- ---- the first node with a number

least-at : (a : ℕ) (xs : List Tree) (i : ℕ) (t : Tree) → Rising a xs → slice_get xs i ≡ Some t → a ≤ number t
least-at a [] i t h g = absurd (none-some t g)
least-at a (x ∷ xs) zero t h g = omega (arith, h.0, ap number (same_Some x t g))
least-at a (x ∷ xs) (suc i) t h g = omega (arith, h.0, least-at (number x + 1) xs i t h.1 g)

never : (b : Bool) → (b ≡ true → ⊥) → b ≡ false
never b f = grind arith

found-at : (p : ℕ → ℕ → Tree → Bool) (m n b a : ℕ) (xs : List Tree) (i : ℕ) (t : Tree) → IsKey p m → Rising a xs → slice_get xs i ≡ Some t → number t ≡ m → ((k c : ℕ) → p k c t ≡ true) → first_at p n b xs ≡ Some (n + i)
found-at p m n b a [] i t key h g e holds = absurd (none-some t g)
found-at p m n b a (x ∷ xs) zero t key h g e holds = grind arith
found-at p m n b a (x ∷ xs) (suc i) t key h g e holds =
    let later : number x + 1 ≤ number t = least-at (number x + 1) xs i t h.1 g in
    let clash : p n (saturated b) x ≡ true → ⊥ = λ is. omega (arith, later, e, key n (saturated b) x is) in
    let here : n + 1 + i ≡ n + suc i = omega arith in
    rw (never (p n (saturated b) x) clash) (found-at p m (n + 1) (b + length x.head.text) (number x + 1) xs i t key h.1 g e holds ∙ ap (λ k. Some k) here)

span-key : (file m : ℕ) → IsKey (has_span (Some (file, m))) m
span-key file m n a t h = ap number_of (place_same t.head.span (Some (file, m)) h)

numbered-key : (m : ℕ) (p : Option (ℕ × ℕ)) → IsTrue (is_numbered m p) → number_of p ≡ m
numbered-key m p h = grind arith

number-key : (m : ℕ) → IsKey (has_number m) m
number-key m n a t h = numbered-key m t.head.span h

-- ---- from the root of a tree that is numbered in a file

module _ (file : ℕ) (root : Tree) (h : IsNumberedIn file root) where
  has-top : top root ≡ Some (at root 0)
  has-top = let less : nat_lt (nodes root) (2 ^ 64 - 1) ≡ true = grind (arith, nat_tests, h.few) in rw less refl

  by-span : (i : ℕ) (t : Tree) → slice_get (places root) i ≡ Some t → find_span (Some (file, number t)) (at root 0) ≡ Some (at root i)
  by-span i t g =
      let span : t.head.span ≡ Some (file, number t) = all-at (λ n. n.head.span ≡ Some (file, number_of n.head.span)) (places root) i t h.spans g in
      let holds : same_place t.head.span (Some (file, number t)) ≡ true = ap (λ s. same_place s (Some (file, number t))) span ∙ place_self (Some (file, number t)) in
      ap (option_map (at root)) (found-at (has_span (Some (file, number t))) (number t) 0 0 0 (places root) i t (span-key file (number t)) (rising_from root h.order) g refl (λ _ _. holds) ∙ ap (λ k. Some k) (zero-add i))

  pub finds-own : (span : Option (ℕ × ℕ)) → FindsOwn span root (found file span root)
  finds-own span i t g e =
      let is : Some (file, number t) ≡ span = sym (all-at (λ n. n.head.span ≡ Some (file, number_of n.head.span)) (places root) i t h.spans g) ∙ e in
      grind (arith, eq-eqb, has-top, by-span)

  by-number : (i : ℕ) (t : Tree) → slice_get (places root) i ≡ Some t → find_number (number t) (at root 0) ≡ Some (at root i)
  by-number i t g =
      let span : t.head.span ≡ Some (file, number t) = all-at (λ n. n.head.span ≡ Some (file, number_of n.head.span)) (places root) i t h.spans g in
      let holds : is_numbered (number t) t.head.span ≡ true = ap (is_numbered (number t)) span ∙ eq-eqb (number t) (number t) refl in
      ap (option_map (at root)) (found-at (has_number (number t)) (number t) 0 0 0 (places root) i t (number-key (number t)) (rising_from root h.order) g refl (λ _ _. holds) ∙ ap (λ k. Some k) (zero-add i))

  pub gives-own : (m : ℕ) (sub : Option Bytes) → GivesOwn m sub root (range_of m sub root)
  gives-own m sub i t g e = grind (arith, has-top, by-number)

-- ---- what a source's tree shows

pub find-own : (file : ℕ) (span : Option (ℕ × ℕ)) (root : Tree) (r : Option At) → r ≡ found file span root → AreNumbered (file_of root) root → file_of root ≡ Some file → FindsOwn span root r
find-own file span root r e h f i t g s = e ∙ finds-own file root (subst (λ o. AreNumbered o root) f h) span i t g s

pub range-own : (file m : ℕ) (sub : Option Bytes) (root : Tree) (r : Option (Range ℕ)) → r ≡ range_of m sub root → AreNumbered (file_of root) root → file_of root ≡ Some file → GivesOwn m sub root r
range-own file m sub root r e h f i t g s = e ∙ gives-own file root (subst (λ o. AreNumbered o root) f h) m sub i t g s
