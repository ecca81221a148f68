-- One step down a path.
use Rattle.typst_tree.proofs.Cited.{◌≡◌, ℕ, zero, suc, ◌<◌, List, ◌∷◌, length, get_or, Some, None, refl, ap, ◌∙◌, arith, [], set, SpanValue, Head, Tree, forest, trees, At, Reaches, replaced_at, replaced, in_file, swapped, option_map, slice_get, slice_range}
use Rattle.typst_tree.proofs.SpansAside.{over, trees_forest}

pub record Reached (i : ℕ) (rest : List ℕ) (a b : ℕ) (xs : List Tree) : Type 0 where
  pub within : i < length xs
  pub on : (d : Tree) → Reaches rest a b (get_or xs i d)

pub at_slice_get : (P : Tree → Type 0) (xs : List Tree) (i : ℕ) → At P (slice_get xs i) → (i < length xs) × ((d : Tree) → P (get_or xs i d))
at_slice_get P [] i h = absurd h
at_slice_get P (x ∷ xs) zero h = (omega arith, λ d. h)
at_slice_get P (x ∷ xs) (suc i) h = let r = at_slice_get P xs i h in (omega arith, r.1)

pub slice_get_is : (xs : List Tree) (i : ℕ) (d : Tree) → i < length xs → slice_get xs i ≡ Some (get_or xs i d)
slice_get_is [] i d h = absurd (omega arith)
slice_get_is (x ∷ xs) zero d h = refl
slice_get_is (x ∷ xs) (suc i) d h = slice_get_is xs i d (omega arith)

pub reached : (path rest : List ℕ) (i a b : ℕ) (t : Tree) (h : Head) (xs : List Tree) → over h xs ≡ t → path ≡ i ∷ rest → Reaches path a b t → Reached i rest a b xs
reached path rest i a b t h xs e p r = let s : At (Reaches rest a b) (slice_get (trees (forest xs)) i) = rw (p, ← e) at r in grind (arith, at_slice_get, trees_forest)

pub replaced_on : (path rest : List ℕ) (i a b : ℕ) (ns : List Tree) (t k k' : Tree) (h : Head) (xs : List Tree) → over h xs ≡ t → path ≡ i ∷ rest → i < length xs → k ≡ get_or xs i k → replaced_at rest a b ns k ≡ Some k' → replaced_at path a b ns t ≡ Some (over h (set xs i k'))
replaced_on path rest i a b ns t k k' h xs e p n q r = grind (arith, slice_get_is, trees_forest)

-- a node in a file swaps its children
pub in_file_some : (sp : SpanValue) (file : ℕ) (h : Head) (xs : List Tree) (from to : ℕ) (ms : List Tree) → option_map (λ p. p.0) sp ≡ Some file → in_file sp h xs from to ms ≡ swapped file h xs from to (slice_range xs from to) ms
in_file_some sp file h xs from to ms e = grind arith

pub replaced_by : (t : Tree) (h : Head) (xs ms : List Tree) (file from to : ℕ) → over h xs ≡ t → option_map (λ p. p.0) h.span ≡ Some file → replaced from to ms t ≡ option_map (over h) (swapped file h xs from to (slice_range xs from to) ms)
replaced_by t h xs ms file from to e p = grind (arith, trees_forest, in_file_some)

pub replaced_is : (t : Tree) (h : Head) (xs ns ms : List Tree) (file from to : ℕ) → over h xs ≡ t → option_map (λ p. p.0) h.span ≡ Some file → swapped file h xs from to (slice_range xs from to) ms ≡ Some ns → replaced from to ms t ≡ Some (over h ns)
replaced_is t h xs ns ms file from to e p f = replaced_by t h xs ms file from to e p ∙ ap (option_map (over h)) f

pub replaced_not : (t : Tree) (h : Head) (xs ms : List Tree) (file from to : ℕ) → over h xs ≡ t → option_map (λ p. p.0) h.span ≡ Some file → swapped file h xs from to (slice_range xs from to) ms ≡ None → replaced from to ms t ≡ None
replaced_not t h xs ms file from to e p f = replaced_by t h xs ms file from to e p ∙ ap (option_map (over h)) f

pub replaced_at_not : (path rest : List ℕ) (i a b : ℕ) (ns : List Tree) (t k : Tree) (h : Head) (xs : List Tree) → over h xs ≡ t → path ≡ i ∷ rest → i < length xs → k ≡ get_or xs i k → replaced_at rest a b ns k ≡ None → replaced_at path a b ns t ≡ None
replaced_at_not path rest i a b ns t k h xs e p n q r = grind (arith, slice_get_is, trees_forest)
