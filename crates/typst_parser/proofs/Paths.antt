-- Nodes at the ends of paths, and the bytes at which they begin.
use Rattle.typst_parser.proofs.Cited.{◌≡◌, ℕ, zero, suc, ◌+◌, ◌≤◌, ◌<◌, ◌^◌, List, [], ◌∷◌, ◌++◌, append-nil, length, length-append, length-take-le, get_or, take, drop, Some, refl, ap, sym, subst, ◌∙◌, arith, at_drop_more, slice_get_read, slice_get, Tree, forest, trees, joined, saturated, text_of, At, kids_of, AtPath, or_none, start_at, start_in, trees_forest, forest_trees}

pub children-are : (t : Tree) (xs : List Tree) → forest xs ≡ t.kids → xs ≡ kids_of t
children-are t xs e = sym (trees_forest xs) ∙ ap trees e

pub taken-length : (t : Tree) (xs : List Tree) (n : ℕ) → forest xs ≡ t.kids → n ≤ length (kids_of t) → n ≡ length (take n xs)
taken-length t xs n e l = grind (arith, children-are, length-take-le)

-- one more of several trees adds its text
pub joined-next : (xs : List Tree) (i : ℕ) (d : Tree) → i < length xs → length (joined (forest (take (suc i) xs))) ≡ length (joined (forest (take i xs))) + length (text_of (get_or xs i d))
joined-next [] i d l = absurd (omega (arith, l))
joined-next (x ∷ xs) zero d l = let a = ap (λ ys. length (x.head.text ++ ys)) (append-nil (joined x.kids)) in omega (arith, a)
joined-next (x ∷ xs) (suc i) d l = let e = joined-next xs i d (omega (arith, l)) in grind (arith, length-append)

-- those taken are no more than all
pub joined-taken : (xs : List Tree) (i : ℕ) → length (joined (forest (take i xs))) ≤ length (joined (forest xs))
joined-taken xs zero = omega arith
joined-taken [] (suc i) = omega arith
joined-taken (x ∷ xs) (suc i) = let e = joined-taken xs i in grind (arith, length-append)

-- where a child ends lies in the node's text
pub child-ends : (t : Tree) (i : ℕ) (d : Tree) → i < length (kids_of t) → length t.head.text + (length (joined (forest (take i (kids_of t)))) + length (text_of (get_or (kids_of t) i d))) ≤ length (text_of t)
child-ends t i d l = grind (arith, joined-next, joined-taken, forest_trees, length-append)

take-get : (xs : List Tree) (n i : ℕ) (d : Tree) → i < n → get_or (take n xs) i d ≡ get_or xs i d
take-get xs zero i d l = absurd (omega (arith, l))
take-get [] (suc n) i d l = refl
take-get (x ∷ xs) (suc n) zero d l = refl
take-get (x ∷ xs) (suc n) (suc i) d l = take-get xs n i d (omega (arith, l))

-- the child of an index, among the first ones
pub kid-is : (t : Tree) (xs : List Tree) (n i : ℕ) (d : Tree) → forest xs ≡ t.kids → i < n → d ≡ get_or (take n xs) i d → d ≡ get_or (kids_of t) i d
kid-is t xs n i d same l is = is ∙ take-get xs n i d l ∙ ap (λ ys. get_or ys i d) (children-are t xs same)

-- one child more
pub record Further (t : Tree) (i sum : ℕ) : Type 0 where
  pub within : sum ≤ length (text_of t)
  pub is : sum ≡ length t.head.text + length (joined (forest (take (suc i) (kids_of t))))

pub further : (t : Tree) (i at len : ℕ) (d : Tree) → length (text_of t) < 2 ^ 64 → i < length (kids_of t) → d ≡ get_or (kids_of t) i d → at ≡ length t.head.text + length (joined (forest (take i (kids_of t))))
    → len ≡ saturated (length (text_of d)) → Further t i (at + len)
further t i at len d few l is here long = grind (arith, child-ends, joined-next)

-- ---- one step down

at-within : (P : Tree → Type 0) (xs : List Tree) (i : ℕ) → At P (slice_get xs i) → i < length xs
at-within P [] i h = absurd h
at-within P (x ∷ xs) zero h = omega arith
at-within P (x ∷ xs) (suc i) h = let l = at-within P xs i h in omega (arith, l)

module _ (node : Tree) (path : List ℕ) (i : ℕ) (further : i < length path) (leads : AtPath (λ _. Unit {0}) (drop i path) node) where
  abbrev step : ℕ
  step = get_or path i 0

  abbrev rest : List ℕ
  rest = drop (i + 1) path

  leads-on : At (AtPath (λ _. Unit {0}) rest) (slice_get (kids_of node) step)
  leads-on = subst (λ (p : List ℕ). AtPath (λ _. Unit {0}) p node) (at_drop_more (λ (p : List ℕ). p) path i 0 further) leads

  pub step-within : step < length (kids_of node)
  step-within = at-within (AtPath (λ _. Unit {0}) rest) (kids_of node) step leads-on

  -- the child begins in the node's text
  pub step-begins : start_in step node ≤ length (text_of node)
  step-begins = let e = child-ends node step node step-within in omega (arith, e)

  module _ (xs : List Tree) (same : forest xs ≡ node.kids) where
    pub child-there : step < length xs
    child-there = grind (arith, step-within, children-are)

    module _ (child : Tree) (is : child ≡ get_or xs step child) where
      got : slice_get (kids_of node) step ≡ Some child
      got = ap (λ ys. slice_get ys step) (sym (children-are node xs same)) ∙ slice_get_read xs (length xs) step child refl child-there is

      pub leads-further : AtPath (λ _. Unit {0}) rest child
      leads-further = subst (At (AtPath (λ _. Unit {0}) rest)) got leads-on

      pub child-within : start_in step node + length (text_of child) ≤ length (text_of node)
      child-within = grind (arith, children-are, step-within, child-ends)

      pub start-on : start_in step node + start_at rest 0 child ≡ start_at (drop i path) 0 node
      start-on = ap (λ o. start_in step node + or_none (start_at rest 0) o) (sym got) ∙ sym (at_drop_more (λ (p : List ℕ). start_at p 0 node) path i 0 further)

-- a node's children begin in its own text
pub start-within : (t : Tree) → start_in 0 t ≤ length (text_of t)
start-within t = let a = length-append t.head.text (joined t.kids) in omega (arith, a)
