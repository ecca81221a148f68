-- Children that stand side by side.
use Rattle.typst_tree.proofs.Cited.{common_steps, ◌≡◌, Bool, ℕ, zero, suc, ◌+◌, ◌-◌, ◌<◌, ◌≤◌, ◌^◌, List, ◌∷◌, ◌++◌, length, take, drop, Some, None, refl, ap, sym, subst, ◌∙◌, arith, append-nil, length-append, get_or, rules, [], cases_lt, same_Some, none-some, slice_get_read, Forest, none, more, Tree, forest, trees, count, nodes, places, preorder, joined, text_of, saturated, IsPassed, Stands, Within, texts, first_at, IsChild, slice_get}
use Rattle.typst_tree.proofs.SpansAside.{trees_forest}
use Rattle.typst_tree.proofs.LastLeaf.{preorder_split}
use Rattle.typst_tree.proofs.NodesOfStretch.{stands_row}
use Rattle.typst_tree.proofs.WalksInPreorder.{length_preorder, texts_preorder, within_first, within_in, first_append, first_same, turn}
use Rattle.typst_tree.proofs.Parents.{count_split}

-- before any tree of a row is passed over
pub passed_none : (xs : List Tree) (n b i m c : ℕ) → i ≡ 0 → m ≡ n → c ≡ saturated b → IsPassed xs n (saturated b) i m c
passed_none xs n b i m c e f g = rw (e, f, g) (record { within = omega arith; number = omega arith; offset = omega arith })

-- the children from the index i on lie within their parent, behind those before them
pub row_within : (o : Tree) (n b m c i : ℕ) (xs : List Tree) → forest xs ≡ o.kids → m ≡ n + 1 + count (forest (take i xs)) → c ≡ saturated (b + length o.head.text + length (joined (forest (take i xs)))) → Within n b (places o) m c (preorder (forest (drop i xs)))
row_within o n b m c i xs e number offset =
    record {
      front = o ∷ preorder (forest (take i xs));
      back = [];
      whole = ap (λ f. o ∷ preorder f) (sym e) ∙ ap (λ ys. o ∷ ys) (preorder_split i xs ∙ ap (λ ys. preorder (forest (take i xs)) ++ ys) (sym (append-nil (preorder (forest (drop i xs))))));
      number = omega (arith, number, length_preorder (forest (take i xs)));
      offset = omega (arith, offset, length-append o.head.text (texts (preorder (forest (take i xs)))), ap length (texts_preorder (forest (take i xs))));
    }

-- and stand behind those before them
pub row_stands : (root o : Tree) (n b i : ℕ) (xs : List Tree) → forest xs ≡ o.kids → Stands (places root) n b (places o) → Stands (places root) (n + 1 + count (forest (take i xs))) (saturated (b + length o.head.text + length (joined (forest (take i xs))))) (preorder (forest (drop i xs)))
row_stands root o n b i xs e s = search (rules, stands_row, row_within)

-- the row from a tree on, of which it is the first
pub record First (xs : List Tree) (i : ℕ) (x : Tree) (ys : List Tree) : Type 0 where
  pub here : slice_get xs i ≡ Some x
  pub rest : drop (i + 1) xs ≡ ys
  pub counted : count (forest (take (i + 1) xs)) ≡ count (forest (take i xs)) + nodes x
  pub long : length (joined (forest (take (i + 1) xs))) ≡ length (joined (forest (take i xs))) + length (text_of x)
  pub within : i < length xs
  pub all : count (forest (take (i + 1) xs)) ≤ count (forest xs)

pub first_of_row : (xs : List Tree) (i : ℕ) (x : Tree) (ys : List Tree) → drop i xs ≡ x ∷ ys → First xs i x ys
first_of_row [] zero x ys e = absurd (omega (arith, ap length e))
first_of_row [] (suc i) x ys e = absurd (omega (arith, ap length e))
first_of_row (z ∷ xs) zero x ys e = grind (arith, length-append, append-nil)
first_of_row (z ∷ xs) (suc i) x ys e = let w = first_of_row xs i x ys e in grind (arith, length-append)

-- the tree that a loop over a row stands at
pub tree_at : (xs : List Tree) (i : ℕ) (x : Tree) → x ≡ get_or xs i x → i < length xs → First xs i x (drop (i + 1) xs)
tree_at xs i x e h = first_of_row xs i x _ (turn xs i x e h).first

-- the row from the index of a tree on begins with it
pub row_from : (xs : List Tree) (i : ℕ) (x : Tree) → slice_get xs i ≡ Some x → drop i xs ≡ x ∷ drop (i + 1) xs
row_from [] i x g = absurd (none-some x g)
row_from (z ∷ xs) zero x g = ap (λ u. u ∷ xs) (same_Some z x g)
row_from (z ∷ xs) (suc i) x g =
    let next : suc (i + 1) ≡ suc i + 1 = omega arith in
    row_from xs i x g ∙ ap (λ k. x ∷ drop k (z ∷ xs)) next

pub index_counted : (f : Forest) (i : ℕ) → i ≤ length (trees f) → i ≤ count f
index_counted none i h = omega (arith, h)
index_counted (more g ks r) zero h = omega arith
index_counted (more g ks r) (suc i) h = omega (arith, index_counted r i (omega (arith, h)))

pub child_in : (o : Tree) (n : ℕ) (t : Tree) (m i : ℕ) (xs : List Tree) → forest xs ≡ o.kids → slice_get xs i ≡ Some t → m ≡ n + 1 + count (forest (take i xs)) → IsChild o n t m i
child_in o n t m i xs e g p = record { here = rw (← e, trees_forest) g; number = rw (← e, trees_forest) p }

pub here_in : (o : Tree) (n : ℕ) (t : Tree) (m i : ℕ) (xs : List Tree) → forest xs ≡ o.kids → IsChild o n t m i → slice_get xs i ≡ Some t
here_in o n t m i xs e c = rw (← e, trees_forest) at c.here

pub length_row : (xs : List Tree) (f : Forest) → forest xs ≡ f → length (trees f) ≡ length xs
length_row xs f e = rw (← e, trees_forest) refl

-- the tree behind those that are passed
pub record Over (o : Tree) (n b : ℕ) (xs : List Tree) (i m c : ℕ) (x : Tree) : Type 0 where
  pub child : IsChild o n x m i
  pub inside : Within n b (places o) m c (places x)
  pub fits : m + nodes x ≤ n + nodes o
  pub next : IsPassed xs (n + 1) (saturated (b + length o.head.text)) (i + 1) (m + nodes x) (saturated (c + length (text_of x)))

pub over_at : (o : Tree) (n b : ℕ) (xs : List Tree) (i m c : ℕ) (x : Tree) → forest xs ≡ o.kids → slice_get xs i ≡ Some x → IsPassed xs (n + 1) (saturated (b + length o.head.text)) i m c → Over o n b xs i m c x
over_at o n b xs i m c x e here w =
    let row : drop i xs ≡ x ∷ drop (i + 1) xs = row_from xs i x here in
    let behind : Within n b (places o) m c (preorder (forest (drop i xs))) = row_within o n b m c i xs e w.number (omega (arith, w.offset)) in
    let begins : Within n b (places o) m c (preorder (forest (x ∷ drop (i + 1) xs))) = subst (λ ys. Within n b (places o) m c (preorder (forest ys))) row behind in
    grind (arith, first_of_row xs i x (drop (i + 1) xs) row, child_in o n x m i xs e here w.number, within_in, within_first, count_split)

pub over : (o : Tree) (n b : ℕ) (xs : List Tree) (i m c : ℕ) (x : Tree) → forest xs ≡ o.kids → x ≡ get_or xs i x → i < length xs → IsPassed xs (n + 1) (saturated (b + length o.head.text)) i m c → Over o n b xs i m c x
over o n b xs i m c x e g l w = over_at o n b xs i m c x e (slice_get_read xs (length xs) i x refl l g) w

-- a loop over the children of a node stands at one of them
pub record Kid (root o : Tree) (n i : ℕ) (xs : List Tree) (x : Tree) (m c : ℕ) : Type 0 where
  pub stands : Stands (places root) m c (places x)
  pub child : IsChild o n x m i

pub kid_of : (root o : Tree) (n b i : ℕ) (xs : List Tree) (x : Tree) (m c : ℕ) → forest xs ≡ o.kids → Stands (places root) n b (places o) → slice_get xs i ≡ Some x → m ≡ n + 1 + count (forest (take i xs)) → c ≡ saturated (b + length o.head.text + length (joined (forest (take i xs)))) → Kid root o n i xs x m c
kid_of root o n b i xs x m c e s g p q =
    let short = (first_of_row xs i x _ (row_from xs i x g)).within in
    let w = over_at o n b xs i m c x e g (record { within = omega (arith, short); number = p; offset = omega (arith, q) }) in
    record { stands = stands_row _ _ _ _ _ _ _ s w.inside; child = w.child }

-- what stands beside a child: where the children behind it begin, and how far they go
pub record Beside (root o : Tree) (n b : ℕ) (t : Tree) (m c i : ℕ) (xs : List Tree) : Type 0 where
  pub within : i < length xs
  pub number : m ≡ n + 1 + count (forest (take i xs))
  pub start : saturated (b + length o.head.text + length (joined (forest (take i xs)))) ≡ c

pub beside : (root o : Tree) (n b : ℕ) (t : Tree) (m c i : ℕ) (xs : List Tree) → forest xs ≡ o.kids → Stands (places root) n b (places o) → IsChild o n t m i → Stands (places root) m c (places t) → Beside root o n b t m c i xs
beside root o n b t m c i xs e s child here =
    let number : m ≡ n + 1 + count (forest (take i xs)) = rw (← e, trees_forest) at child.number in
    record {
      within = (first_of_row xs i t _ (row_from xs i t (here_in o n t m i xs e child))).within;
      number = number;
      start = (row_stands root o n b i xs e s).begins ∙ (ap (λ j. saturated (length (texts (take j (places root))))) (sym number) ∙ sym here.begins);
    }

-- a loop from the back over a row goes on to the tree before
pub record Prior (xs : List Tree) (i : ℕ) (x : Tree) : Type 0 where
  pub counts : count (forest (take i xs)) ≡ count (forest (take (i - 1) xs)) + nodes x
  pub longs : length (joined (forest (take i xs))) ≡ length (joined (forest (take (i - 1) xs))) + length (text_of x)

pub prior : (xs : List Tree) (i : ℕ) (x : Tree) → 0 < i → i ≤ length xs → x ≡ get_or xs (i - 1) x → Prior xs i x
prior xs i x low high g = grind (arith, tree_at)

-- a loop from the back over the children of a node goes on to the one before
pub record StepBack (root o : Tree) (n b i : ℕ) (xs : List Tree) (x : Tree) (k p : ℕ) : Type 0 where
  pub kid : Kid root o n (i - 1) xs x (k - nodes x) (p - length (text_of x))
  pub counts : nodes x ≤ k
  pub reaches : length (text_of x) ≤ p
  pub number : k - nodes x ≡ n + 1 + count (forest (take (i - 1) xs))
  pub offset : p - length (text_of x) ≡ b + length o.head.text + length (joined (forest (take (i - 1) xs)))

pub step_back : (root o : Tree) (n b i : ℕ) (xs : List Tree) (x : Tree) (k p : ℕ) → forest xs ≡ o.kids → Stands (places root) n b (places o) → 0 < i → i ≤ length xs → x ≡ get_or xs (i - 1) x → k ≡ n + 1 + count (forest (take i xs)) → p ≡ b + length o.head.text + length (joined (forest (take i xs))) → p < 2 ^ 64 → StepBack root o n b i xs x k p
step_back root o n b i xs x k p e s low high g number offset fits =
    let w = prior xs i x low high g in
    let first : k - nodes x ≡ n + 1 + count (forest (take (i - 1) xs)) = omega (arith, w.counts, number) in
    let second : p - length (text_of x) ≡ b + length o.head.text + length (joined (forest (take (i - 1) xs))) = omega (arith, w.longs, offset) in
    record {
      kid = kid_of root o n b (i - 1) xs x (k - nodes x) (p - length (text_of x)) e s (slice_get_read xs (length xs) (i - 1) x refl (omega (arith, low, high)) g) first (omega (arith, second, fits));
      counts = omega (arith, w.counts, number);
      reaches = omega (arith, w.longs, offset);
      number = first;
      offset = second;
    }

-- where nothing is found in trees that are passed over, what is found is in those behind them
pub passed_front : (p : ℕ → ℕ → Tree → Bool) (n a i m c : ℕ) (xs : List Tree) → m ≡ n + count (forest (take i xs)) → c ≡ saturated (a + length (joined (forest (take i xs)))) → first_at p n a (preorder (forest (take i xs))) ≡ None → first_at p n a (preorder (forest xs)) ≡ first_at p m c (preorder (forest (drop i xs)))
passed_front p n a i m c xs number offset nothing =
    let first : n + length (preorder (forest (take i xs))) ≡ m = omega (arith, number, length_preorder (forest (take i xs))) in
    ap (first_at p n a) (preorder_split i xs)
    ∙ (first_append p n a (preorder (forest (take i xs))) (preorder (forest (drop i xs)))
    ∙ rw (nothing, first) (first_same p m (a + length (texts (preorder (forest (take i xs))))) c (preorder (forest (drop i xs))) (omega (arith, offset, ap length (texts_preorder (forest (take i xs)))))))

pub all_counted : (xs : List Tree) (i : ℕ) → length xs ≤ i → count (forest (take i xs)) ≡ count (forest xs)
all_counted xs i h = grind (arith, common_steps)

-- a tree that begins by a number of its parent's nodes is one of the row
pub passed_inside : (o : Tree) (n a i m c k : ℕ) (xs : List Tree) → forest xs ≡ o.kids → IsPassed xs (n + 1) a i m c → m ≤ k → k < n + nodes o → i < length xs
passed_inside o n a i m c k xs e w l h = grind (arith, cases_lt, all_counted)
