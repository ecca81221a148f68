-- A stretch of a tree's nodes, said in two ways.
use Rattle.typst_tree.proofs.Cited.{common_steps, ◌≡◌, ℕ, ◌+◌, ◌-◌, ◌<◌, ◌^◌, List, ◌∷◌, ◌++◌, length, take, drop, Some, refl, ap, sym, subst, ◌∙◌, arith, length-append, Bool, [], take-length, take-append_seam, drop-append_seam, Tree, forest, nodes, places, preorder, saturated, text_of, first_at, Within, Stands, at, node_of, first_below, slice_get, unwrap_or}
use Rattle.std.specs.Option.{option_map}
use Rattle.std.proofs.lemmas.List.{take-append-drop, length-take-le}
use Rattle.typst_tree.proofs.WalksInPreorder.{first_same, within_in, within_first, within_rest, length_preorder}

pub standing : (xs : List Tree) (k b : ℕ) (ys : List Tree) → Stands xs k b ys → Within 0 0 xs k b ys
standing xs k b ys s =
    record {
      front = take k xs;
      back = drop (length ys) (drop k xs);
      whole = sym (take-append-drop k xs) ∙ ap (λ zs. take k xs ++ zs) (sym (take-append-drop (length ys) (drop k xs)) ∙ ap (λ zs. zs ++ drop (length ys) (drop k xs)) s.here);
      number = omega (arith, length-take-le k xs (omega (arith, s.within)));
      offset = omega (arith, s.begins);
    }

here_of : (front ys back : List Tree) → take (length ys) (drop (length front) (front ++ (ys ++ back))) ≡ ys
here_of front ys back = rw (drop-append_seam front (ys ++ back)) (take-append_seam ys back)

pub stands : (xs : List Tree) (k b : ℕ) (ys : List Tree) → Within 0 0 xs k b ys → Stands xs k b ys
stands xs k b ys w = grind (arith, common_steps, length-append, here_of, take-append_seam)

pub get_seam : (front : List Tree) (t : Tree) (rest : List Tree) → slice_get (front ++ (t ∷ rest)) (length front) ≡ Some t
get_seam [] t rest = refl
get_seam (x ∷ front) t rest = get_seam front t rest

-- the node that stands at a number
pub stands_get : (xs : List Tree) (k b : ℕ) (t : Tree) → Stands xs k b (places t) → slice_get xs k ≡ Some t
stands_get xs k b t s = let w = standing xs k b (places t) s in grind (arith, common_steps, get_seam)

pub node_here : (root : Tree) (k b : ℕ) (t : Tree) → Stands (places root) k b (places t) → node_of (at root k) ≡ t
node_here root k b t s = ap (λ o. unwrap_or o root) (stands_get (places root) k b t s)

pub same_node : (xs : List Tree) (k m b c : ℕ) (t u : Tree) → k ≡ m → Stands xs k b (places t) → Stands xs m c (places u) → t ≡ u
same_node xs k m b c t u e s r = grind arith

-- to walk through the node that stands at a number is the step from there
pub first_here : (p : ℕ → ℕ → Tree → Bool) (root : Tree) (k b : ℕ) (t : Tree) → Stands (places root) k b (places t) → option_map (at root) (first_at p k b (places t)) ≡ first_below p (at root k)
first_here p root k b t s = grind (arith, node_here, first_same)

-- the whole tree stands at 0
pub stands_whole : (root : Tree) → Stands (places root) 0 0 (places root)
stands_whole root = record { within = omega arith; here = take-length (places root); begins = refl }

-- the row of nodes behind a first tree and those below it
pub stands_row : (xs : List Tree) (k b m c : ℕ) (ys zs : List Tree) → Stands xs k b ys → Within k b ys m c zs → Stands xs m c zs
stands_row xs k b m c ys zs s w = stands xs m c zs (within_in 0 0 xs k b ys m c zs (standing xs k b ys s) w)

pub stands_same : (xs : List Tree) (k b : ℕ) (ts us : List Tree) → ts ≡ us → Stands xs k b (preorder (forest ts)) → Stands xs k b (preorder (forest us))
stands_same xs k b ts us e s = subst (λ ys. Stands xs k b (preorder (forest ys))) e s

-- a row of trees, the first of which is t
pub record Row (xs : List Tree) (k b : ℕ) (t : Tree) (ts : List Tree) (n c d : ℕ) : Type 0 where
  pub exact : n ≡ nodes t
  pub first : Stands xs k b (places t)
  pub others : Stands xs (k + n) d (preorder (forest ts))

pub row : (xs : List Tree) (k b : ℕ) (t : Tree) (ts : List Tree) (n c d : ℕ) → length xs < 2 ^ 64 - 1 → Stands xs k b (preorder (forest (t ∷ ts))) → n ≡ saturated (nodes t) → c ≡ saturated (length (text_of t)) → d ≡ saturated (b + c) → Row xs k b t ts n c d
row xs k b t ts n c d h s e f g =
    let exact : n ≡ nodes t = omega (arith, h, e, s.within, length_preorder (forest (t ∷ ts))) in
    record {
      exact = exact;
      first = stands_row xs k b k b (preorder (forest (t ∷ ts))) (places t) s (within_first k b t ts (omega (arith, s.begins)));
      others = stands_row xs k b (k + n) d (preorder (forest (t ∷ ts))) (preorder (forest ts)) s (within_rest k b (k + n) d t ts (omega (arith, exact)) (omega (arith, f, g)));
    }
