-- Children replaced: an equal front stays as it stands, and spans aside they are those exchanged.
use Rattle.typst_edits.proofs.Cited.{◌≡◌, ℕ, zero, suc, true, ◌+◌, ◌-◌, List, [], ◌∷◌, ◌++◌, length, take, drop, map, Option, refl, ap, sym, ◌∙◌, arith, length-append, option_map, slice_get, map-append, drop-map, take-map, Head, bare_head, Forest, none, more, Tree, forest, trees, bare, bare_forest, replaced_at, At, kids_of, put_at, AtPath, forest_trees, with_children, alter, drop-append-add, SpanValue, Begins, option_and_then, slice_set, slice_range, drop-drop, at_tree, take-nil, replaces_children}
use Rattle.typst_tree.specs.Replace.{with_kids, middle, back, swapped, in_file}
use Rattle.typst_tree.proofs.SpansAside.{forest_bare}
use Rattle.typst_edits.specs.Children.{exchanged as exchanged_nodes}
use Rattle.typst_edits.specs.Replaced.{FrontLaw, ReplacedLaw, PutLaw, ExchangedLaw}
use Rattle.typst_tree.specs.Same.{same_tree, front}
use Rattle.typst_tree.proofs.SameTree.{same_from_bare}

-- ---- an equal front

front-kept : (old kept new : List Tree) → map bare (take (length kept) old) ≡ map bare kept → front old (kept ++ new) ≡ length kept + front (drop (length kept) old) new
front-kept old [] new e = omega arith
front-kept [] (k ∷ kept) new e = absurd (omega (arith, ap length e))
front-kept (x ∷ old) (k ∷ kept) new e =
    let same : same_tree x k ≡ true = same_from_bare x k (cc) in
    let more : front old (kept ++ new) ≡ length kept + front (drop (length kept) old) new = front-kept old kept new (cc) in
    rw same (omega (arith, more))

-- a stretch of a list without its first elements
drop-of-take : (d n m : ℕ) (xs : List Tree) → n - d ≡ m → drop d (take n xs) ≡ take m (drop d xs)
drop-of-take zero n m xs is = grind arith
drop-of-take (suc d) zero m xs is = grind arith
drop-of-take (suc d) (suc n) m [] is = sym (take-nil m)
drop-of-take (suc d) (suc n) m (x ∷ xs) is = drop-of-take d n m xs (omega (arith, is))

-- what stays at the end, and what is between, where d more stay at the front
back-behind : (old kept new rest : List Tree) (a all : ℕ) → drop (length kept) old ≡ rest → all ≡ length kept + a → back all old (kept ++ new) ≡ back a rest new
back-behind old kept new rest a all e is = grind (arith, drop-drop, drop-append-add)

middle-behind : (kept new : List Tree) (a all b c : ℕ) → all ≡ length kept + a → b ≡ c → middle all b (kept ++ new) ≡ middle a c new
middle-behind kept new a all b c is same = grind (arith, length-append, drop-append-add)

swapped-behind : (file : ℕ) (h : Head) (xs : List Tree) (from to : ℕ) (kept new : List Tree) → map bare (take (length kept) (slice_range xs from to)) ≡ map bare kept
    → swapped file h xs from to (slice_range xs from to) (kept ++ new) ≡ swapped file h xs (from + length kept) to (slice_range xs (from + length kept) to) new
swapped-behind file h xs from to kept new e =
    let old = slice_range xs from to in
    let rest = slice_range xs (from + length kept) to in
    let behind : drop (length kept) old ≡ rest = drop-of-take (length kept) (to - from) (to - (from + length kept)) (drop from xs) (omega arith) ∙ ap (take (to - (from + length kept))) (drop-drop (length kept) from xs) in
    grind (arith, front-kept, back-behind, middle-behind)

in-file-behind : (place : SpanValue) (h : Head) (xs : List Tree) (from to : ℕ) (kept new : List Tree) → map bare (take (length kept) (slice_range xs from to)) ≡ map bare kept
    → in_file place h xs from to (kept ++ new) ≡ in_file place h xs (from + length kept) to new
in-file-behind place h xs from to kept new e = grind (arith, swapped-behind)

pub front-law : FrontLaw
front-law [] from to kept new t e = ap (option_map (with_kids t)) (in-file-behind t.head.span t.head (kids_of t) from to kept new e)
front-law (i ∷ path) from to kept new t e = ap (option_map (λ k. with_kids t (slice_set (kids_of t) i k))) (by-kid (slice_get (kids_of t) i) (front-law path from to kept new) e)
  where
    by-kid : (o : Option Tree) → ((k : Tree) → AtPath (Begins from to kept) path k → replaced_at path from to (kept ++ new) k ≡ replaced_at path (from + length kept) to new k) → At (AtPath (Begins from to kept) path) o
        → option_and_then (replaced_at path from to (kept ++ new)) o ≡ option_and_then (replaced_at path (from + length kept) to new) o
    by-kid o f e = grind arith

-- ---- spans aside

-- one of several trees changed
changed-at : (f : Tree → Tree) (i : ℕ) (ts : Forest) → at_tree f i ts ≡ forest (alter i f (trees ts))
changed-at f i none = refl
changed-at f zero (more h ks r) = ap (more (f (record { head = h; kids = ks })).head (f (record { head = h; kids = ks })).kids) (sym (forest_trees r))
changed-at f (suc i) (more h ks r) = ap (more h ks) (changed-at f i r)

-- the same by another function that does the same to each tree
altered : (f g : Tree → Tree) (i : ℕ) (ts : List Tree) → ((t : Tree) → f t ≡ g t) → alter i f ts ≡ alter i g ts
altered f g i ts e = λ j. alter i (λ t. e t j) ts

pub put-law : PutLaw
put-law [] from to new t = refl
put-law (n ∷ path) from to new t =
    λ i. record { head = t.head; kids = (changed-at (put_at path from to new) n t.kids ∙ ap forest (altered (put_at path from to new) (with_children path from to new) n (trees t.kids) (put-law path from to new))) i }

pub trees-bare : (f : Forest) → trees (bare_forest f) ≡ map bare (trees f)
trees-bare none = refl
trees-bare (more h ks r) = ap (λ ts. bare (record { head = h; kids = ks }) ∷ ts) (trees-bare r)

bare-exchanged : (from to : ℕ) (new ts : List Tree) → map bare (exchanged_nodes from to new ts) ≡ exchanged_nodes from to (map bare new) (map bare ts)
bare-exchanged from to new ts = simp (map-append, ← take-map, ← drop-map)

bare-altered : (f g : Tree → Tree) (n : ℕ) (ts : List Tree) → ((t : Tree) → bare (f t) ≡ g (bare t)) → map bare (alter n f ts) ≡ alter n g (map bare ts)
bare-altered f g n [] e = refl
bare-altered f g zero (t ∷ ts) e = ap (λ u. u ∷ map bare ts) (e t)
bare-altered f g (suc n) (t ∷ ts) e = ap (λ us. bare t ∷ us) (bare-altered f g n ts e)

pub exchanged-law : ExchangedLaw
exchanged-law [] from to new t =
    let kids : bare_forest (forest (exchanged_nodes from to new (trees t.kids))) ≡ forest (exchanged_nodes from to (map bare new) (trees (bare_forest t.kids))) =
    sym (forest_bare (exchanged_nodes from to new (trees t.kids))) ∙ ap forest (bare-exchanged from to new (trees t.kids) ∙ ap (exchanged_nodes from to (map bare new)) (sym (trees-bare t.kids))) in
    λ i. record { head = bare_head t.head; kids = kids i }
exchanged-law (n ∷ path) from to new t =
    let f = with_children path from to new in
    let g = with_children path from to (map bare new) in
    let kids : bare_forest (forest (alter n f (trees t.kids))) ≡ forest (alter n g (trees (bare_forest t.kids))) =
    sym (forest_bare (alter n f (trees t.kids))) ∙ ap forest (bare-altered f g n (trees t.kids) (exchanged-law path from to new) ∙ ap (alter n g) (sym (trees-bare t.kids))) in
    λ i. record { head = bare_head t.head; kids = kids i }

pub replaced-law : ReplacedLaw
replaced-law path from to new root was now same reaches is =
    let put : bare now ≡ bare (with_children path from to new root) = replaces_children path from to new root now reaches is ∙ ap bare (put-law path from to new root) in
    grind (arith, exchanged-law)
