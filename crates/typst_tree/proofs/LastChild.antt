-- A loop that changes each element of a list but one, which is changed behind the loop.
use Rattle.typst_tree.proofs.Cited.{common_steps, ◌≡◌, ◌≢◌, ℕ, zero, suc, ◌+◌, ◌*◌, ◌<◌, ◌≤◌, List, ◌∷◌, ◌++◌, length, map, take, drop, get_or, get_or-set_other, get_or-set_same, refl, ap, sym, ◌∙◌, arith, inl, inr, append-nil, length-append, length-drop, rules, [], set, get_or-map, cases_eq, Tree, forest, count, nodes, numbered, numbered_list}
use Rattle.std.proofs.lemmas.List.{set_comm, set-set, set-get_or, set_past, get_or_default, take_all, drop_all, length-map, length-take-le}
use Rattle.std.proofs.lemmas.List.Edits.{map_over_more}
use Rattle.typst_tree.proofs.Forests.{map_over_all}
use Rattle.typst_tree.proofs.Numbering.{numbered_more, length_numbered}

-- ys is ws except the element at last, which is the one of xs
pub record ButLast {X : Type 0} (ys ws xs : List X) (last : ℕ) : Type 0 where
  pub same : (d : X) → ys ≡ set ws last (get_or xs last d)

-- one more element is changed
but_more : {X : Type 0} (ys ws vs xs : List X) (last i : ℕ) (y : X) → set ws i y ≡ vs → i ≢ last → ButLast ys ws xs last → ButLast (set ys i y) vs xs last
but_more ys ws vs xs last i y e ne h = grind (arith, set_comm)

-- the one at last is not
but_here : {X : Type 0} (ys ws vs xs : List X) (last i : ℕ) (y : X) → set ws i y ≡ vs → i ≡ last → ButLast ys ws xs last → ButLast ys vs xs last
but_here ys ws vs xs last i y e q h = grind (arith, set-set)

-- an element that is written as it was
pub but_kept : {X : Type 0} (ys ws xs : List X) (last i : ℕ) (x : X) → x ≡ get_or ys i x → ButLast ys ws xs last → ButLast (set ys i x) ws xs last
but_kept ys ws xs last i x e h = grind (arith, set-get_or)

-- where the element at last is changed as the others were, all are
but_end : {X : Type 0} (ys ws xs : List X) (last : ℕ) (y : X) → ButLast ys ws xs last → get_or ws last y ≡ y → set ys last y ≡ ws
but_end ys ws xs last y h e =
    ap (λ zs. set zs last y) (h.same y) ∙ (set-set ws last (get_or xs last y) y ∙ (ap (λ z. set ws last z) (sym e) ∙ set-get_or ws last y))

-- no element is left out
but_past : {X : Type 0} (ys ws xs : List X) (last : ℕ) (d : X) → ButLast ys ws xs last → length ws ≤ last → ys ≡ ws
but_past ys ws xs last d h le = h.same d ∙ set_past ws last (get_or xs last d) le

but_other : {X : Type 0} (ys ws xs : List X) (last i : ℕ) (d : X) → ButLast ys ws xs last → i ≢ last → get_or ys i d ≡ get_or ws i d
but_other ys ws xs last i d h ne = ap (λ zs. get_or zs i d) (h.same d) ∙ get_or-set_other ws last i (get_or xs last d) d ne

-- the element left out is as it was
pub but_same : {X : Type 0} (ys ws xs : List X) (last : ℕ) (x : X) → ButLast ys ws xs last → last < length ws → x ≡ get_or ys last x → x ≡ get_or xs last x
but_same ys ws xs last x h lt e = e ∙ (ap (λ zs. get_or zs last x) (h.same x) ∙ get_or-set_same ws last (get_or xs last x) x lt)

past : {X : Type 0} (ys : List X) (i : ℕ) (d : X) → length ys ≡ i → get_or (ys ++ []) i d ≡ d
past ys i d e = grind (arith, common_steps)

-- what stands behind the first elements of a list in another's place
behind : {X : Type 0} (ys xs : List X) (i : ℕ) (d : X) → length ys ≡ i → get_or (ys ++ drop i xs) i d ≡ get_or xs i d
behind ys xs i d e = grind (arith, common_steps)

-- what a loop has not come to is as it was
pub but_still : {X : Type 0} (ys front xs : List X) (last i : ℕ) (x : X) → ButLast ys (front ++ drop i xs) xs last → length front ≡ i → i < length xs → x ≡ get_or ys i x → x ≡ get_or xs i x
but_still {X = X} ys front xs last i x h f lt e =
    elim (cases_eq i last) [
      | inl q ↦
          let there : last < length (front ++ drop i xs) = omega (arith, length-append front (drop i xs), length-drop i xs) in
          but_same ys (front ++ drop i xs) xs last x h there (e ∙ ap (λ k. get_or ys k x) q) ∙ ap (λ k. get_or xs k x) (sym q)
      | inr ne ↦ e ∙ (but_other ys (front ++ drop i xs) xs last i x h ne ∙ behind front xs i x f)
    ]

-- the first i elements mapped, and the others
abbrev pub mapped : {X : Type 0} → (X → X) → ℕ → List X → List X
mapped f i xs = map f (take i xs) ++ drop i xs

length_mapped : {X : Type 0} (f : X → X) (i : ℕ) (xs : List X) → i ≤ length xs → length (map f (take i xs)) ≡ i
length_mapped f i xs h = length-map (take i xs) f ∙ length-take-le i xs h

pub mapped_still : {X : Type 0} (f : X → X) (ys xs : List X) (last i : ℕ) (x : X) → ButLast ys (mapped f i xs) xs last → i < length xs → x ≡ get_or ys i x → x ≡ get_or xs i x
mapped_still f ys xs last i x h lt e = grind (arith, but_still, length_mapped)

next_mapped : {X : Type 0} (f : X → X) (xs : List X) (i : ℕ) (x : X) → i < length xs → x ≡ get_or xs i x → set (mapped f i xs) i (f x) ≡ mapped f (i + 1) xs
next_mapped f xs i x lt is = grind (arith, common_steps, map_over_more, length_mapped)

pub mapped_more : {X : Type 0} (f : X → X) (ys xs : List X) (last i : ℕ) (x : X) → ButLast ys (mapped f i xs) xs last → i < length xs → i ≢ last → x ≡ get_or ys i x → ButLast (set ys i (f x)) (mapped f (i + 1) xs) xs last
mapped_more f ys xs last i x h lt ne e =
    but_more ys (mapped f i xs) (mapped f (i + 1) xs) xs last i (f x) (next_mapped f xs i x lt (mapped_still f ys xs last i x h lt e)) ne h

pub mapped_here : {X : Type 0} (f : X → X) (ys xs : List X) (last i : ℕ) (d : X) → ButLast ys (mapped f i xs) xs last → i < length xs → i ≡ last → ButLast ys (mapped f (i + 1) xs) xs last
mapped_here f ys xs last i d h lt q =
    let x = get_or xs i d in
    but_here ys (mapped f i xs) (mapped f (i + 1) xs) xs last i (f x) (next_mapped f xs i x lt (get_or_default xs i d x lt)) q h

pub mapped_same : {X : Type 0} (f : X → X) (ys xs : List X) (last i : ℕ) (x : X) → ButLast ys (mapped f i xs) xs last → length xs ≤ i → last < length xs → x ≡ get_or ys last x → x ≡ get_or xs last x
mapped_same f ys xs last i x h le lt e = grind (arith, common_steps, but_same, map_over_all, length-map)

pub mapped_all : {X : Type 0} (f : X → X) (ys xs : List X) (last i : ℕ) (x : X) → ButLast ys (mapped f i xs) xs last → length xs ≤ i → last < length xs → x ≡ get_or ys last x → set ys last (f x) ≡ map f xs
mapped_all f ys xs last i x h le lt e = grind (arith, common_steps, map_over_all, mapped_same, but_end, get_or-map)

pub mapped_none : {X : Type 0} (f : X → X) (ys xs : List X) (last i : ℕ) (d : X) → ButLast ys (mapped f i xs) xs last → length xs ≤ i → length xs ≤ last → ys ≡ map f xs
mapped_none f ys xs last i d h le past = grind (arith, common_steps, map_over_all, but_past, length-map)

-- the first i trees numbered, and the others
abbrev pub counted : ℕ → ℕ → ℕ → ℕ → List Tree → List Tree
counted file s a i xs = numbered_list file s a (take i xs) ++ drop i xs

length_counted : (file s a i : ℕ) (xs : List Tree) → i ≤ length xs → length (numbered_list file s a (take i xs)) ≡ i
length_counted file s a i xs h = length_numbered file s a (take i xs) ∙ length-take-le i xs h

pub counted_still : (file s a : ℕ) (ys xs : List Tree) (last i : ℕ) (x : Tree) → ButLast ys (counted file s a i xs) xs last → i < length xs → x ≡ get_or ys i x → x ≡ get_or xs i x
counted_still file s a ys xs last i x h lt e = grind (arith, but_still, length_counted)

next_counted : (file s a b : ℕ) (xs : List Tree) (i : ℕ) (x : Tree) → i < length xs → x ≡ get_or xs i x → b ≡ a + count (forest (take i xs)) * s → set (counted file s a i xs) i (numbered file b (nodes x * s) x) ≡ counted file s a (i + 1) xs
next_counted file s a b xs i x lt is p = grind (arith, common_steps, numbered_more, length_counted)

pub counted_more : (file s a b : ℕ) (ys xs : List Tree) (last i : ℕ) (x : Tree) → ButLast ys (counted file s a i xs) xs last → i < length xs → i ≢ last → x ≡ get_or ys i x → b ≡ a + count (forest (take i xs)) * s → ButLast (set ys i (numbered file b (nodes x * s) x)) (counted file s a (i + 1) xs) xs last
counted_more file s a b ys xs last i x h lt ne e p = search (rules, but_more, next_counted, counted_still)

pub counted_here : (file s a : ℕ) (ys xs : List Tree) (last i : ℕ) (d : Tree) → ButLast ys (counted file s a i xs) xs last → i < length xs → i ≡ last → ButLast ys (counted file s a (i + 1) xs) xs last
counted_here file s a ys xs last i d h lt q =
    let x = get_or xs i d in
    let b = a + count (forest (take i xs)) * s in
    but_here ys (counted file s a i xs) (counted file s a (i + 1) xs) xs last i (numbered file b (nodes x * s) x) (next_counted file s a b xs i x lt (get_or_default xs i d x lt) refl) q h

all_counted : (file s a i : ℕ) (xs : List Tree) → length xs ≤ i → counted file s a i xs ≡ numbered_list file s a xs
all_counted file s a i xs h = rw (take_all i xs h, drop_all i xs h, append-nil) refl

-- a tree's stretch begins behind those of the trees before it
numbered_at : (file s a i : ℕ) (xs : List Tree) (x d : Tree) → i < length xs → x ≡ get_or xs i x → get_or (numbered_list file s a xs) i d ≡ numbered file (a + count (forest (take i xs)) * s) (nodes x * s) x
numbered_at file s a i [] x d h e = absurd (omega (arith, h))
numbered_at file s a zero (y ∷ xs) x d h e = grind arith
numbered_at file s a (suc i) (y ∷ xs) x d h e =
    let start : a + nodes y * s + count (forest (take i xs)) * s ≡ a + count (forest (take (suc i) (y ∷ xs))) * s = omega arith in
    numbered_at file s (a + nodes y * s) i xs x d (omega (arith, h)) e ∙ ap (λ b. numbered file b (nodes x * s) x) start

pub counted_same : (file s a : ℕ) (ys xs : List Tree) (last i : ℕ) (x : Tree) → ButLast ys (counted file s a i xs) xs last → length xs ≤ i → last < length xs → x ≡ get_or ys last x → x ≡ get_or xs last x
counted_same file s a ys xs last i x h le lt e = grind (arith, but_same, all_counted, length_numbered)

pub counted_all : (file s a b : ℕ) (ys xs : List Tree) (last i : ℕ) (x : Tree) → ButLast ys (counted file s a i xs) xs last → length xs ≤ i → last < length xs → x ≡ get_or ys last x → b ≡ a + count (forest (take last xs)) * s → set ys last (numbered file b (nodes x * s) x) ≡ numbered_list file s a xs
counted_all file s a b ys xs last i x h le lt e p = grind (arith, all_counted, numbered_at, counted_same, but_end)

pub counted_none : (file s a : ℕ) (ys xs : List Tree) (last i : ℕ) (d : Tree) → ButLast ys (counted file s a i xs) xs last → length xs ≤ i → length xs ≤ last → ys ≡ numbered_list file s a xs
counted_none file s a ys xs last i d h le past = grind (arith, all_counted, but_past, length_numbered)
