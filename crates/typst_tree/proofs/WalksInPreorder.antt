-- The laws of walks in preorder.
use Rattle.typst_tree.proofs.Cited.{◌≡◌, ℕ, ◌+◌, ◌<◌, ◌≤◌, ◌^◌, Bool, true, false, cond, List, ◌∷◌, ◌++◌, length, drop, Some, None, refl, ap, sym, subst, ◌∙◌, arith, length-append, append_assoc, append-nil, get_or, [], drop_more, Forest, none, more, Tree, forest, count, nodes, joined, text_of, preorder, places, saturated, texts, first_at, if_none, Within, unary_clauses}

pub length_preorder : (f : Forest) → length (preorder f) ≡ count f
length_preorder none = refl
length_preorder (more h ks r) = omega (arith, length-append (preorder ks) (preorder r), length_preorder ks, length_preorder r)

pub length_places : (t : Tree) → length (places t) ≡ nodes t
length_places t = omega (arith, length_preorder t.kids)

pub texts_append : (xs ys : List Tree) → texts (xs ++ ys) ≡ texts xs ++ texts ys
texts_append [] ys = refl
texts_append (x ∷ xs) ys = rw (texts_append xs ys) (sym (append_assoc x.head.text (texts xs) (texts ys)))

pub texts_preorder : (f : Forest) → texts (preorder f) ≡ joined f
texts_preorder none = refl
texts_preorder (more h ks r) = ap (λ s. h.text ++ s) (rw (texts_append (preorder ks) (preorder r), texts_preorder ks, texts_preorder r) refl)

pub texts_places : (t : Tree) → texts (places t) ≡ text_of t
texts_places t = ap (λ s. t.head.text ++ s) (texts_preorder t.kids)

-- a saturated offset finds what the offset itself finds
pub first_same : (p : ℕ → ℕ → Tree → Bool) (n a b : ℕ) (xs : List Tree) → saturated a ≡ saturated b → first_at p n a xs ≡ first_at p n b xs
first_same p n a b [] e = refl
first_same p n a b (t ∷ ts) e =
    let next : first_at p (n + 1) (a + length t.head.text) ts ≡ first_at p (n + 1) (b + length t.head.text) ts = first_same p (n + 1) (a + length t.head.text) (b + length t.head.text) ts (omega (arith, e)) in
    rw (e, next) refl

pub first_append : (p : ℕ → ℕ → Tree → Bool) (n a : ℕ) (xs ys : List Tree) → first_at p n a (xs ++ ys) ≡ if_none (first_at p n a xs) (first_at p (n + length xs) (a + length (texts xs)) ys)
first_append p n a [] ys = simp unary_clauses refl
first_append p n a (x ∷ xs) ys =
    let next : first_at p (n + 1) (a + length x.head.text) (xs ++ ys) ≡ if_none (first_at p (n + 1) (a + length x.head.text) xs) (first_at p (n + 1 + length xs) (a + length x.head.text + length (texts xs)) ys) = first_append p (n + 1) (a + length x.head.text) xs ys in
    grind (arith, length-append, cond)

-- what the walk through a first tree and those after it finds
pub first_of_more : (p : ℕ → ℕ → Tree → Bool) (n a : ℕ) (t : Tree) (ts : List Tree) → first_at p n a (preorder (forest (t ∷ ts))) ≡ if_none (first_at p n a (places t)) (first_at p (n + nodes t) (a + length (text_of t)) (preorder (forest ts)))
first_of_more p n a t ts = rw (sym (length_places t), sym (texts_places t)) (first_append p n a (places t) (preorder (forest ts)))

-- a walk finds nothing where no node that it reaches passes the test
pub none_between : (p : ℕ → ℕ → Tree → Bool) (n a : ℕ) (xs : List Tree) → ((k b : ℕ) (t : Tree) → n ≤ k → k < n + length xs → p k b t ≡ false) → first_at p n a xs ≡ None
none_between p n a [] h = refl
none_between p n a (x ∷ xs) h =
    let fails : p n (saturated a) x ≡ false = h n (saturated a) x (omega arith) (omega arith) in
    rw (fails, none_between p (n + 1) (a + length x.head.text) xs (λ k b t l m. h k b t (omega (arith, l)) (omega (arith, m)))) refl

pub usize_saturated : (a : ℕ) → a < 2 ^ 64 → saturated a ≡ a
usize_saturated a h = omega (arith, h)

pub within_self : (n a : ℕ) (xs : List Tree) → a < 2 ^ 64 → Within n a xs n a xs
within_self n a xs h =
    record { front = []; back = []; whole = sym (append-nil xs); number = omega arith; offset = omega (arith, h) }

pub within_in : (n a : ℕ) (xs : List Tree) (k b : ℕ) (ys : List Tree) (m c : ℕ) (zs : List Tree) → Within n a xs k b ys → Within k b ys m c zs → Within n a xs m c zs
within_in n a xs k b ys m c zs u v =
    record {
      front = u.front ++ v.front;
      back = v.back ++ u.back;
      whole = u.whole ∙ rw v.whole (simp append_assoc refl);
      number = omega (arith, u.number, v.number, length-append u.front v.front);
      offset = omega (arith, u.offset, v.offset, ap length (texts_append u.front v.front), length-append (texts u.front) (texts v.front));
    }

-- of a first tree and those after it, the first
pub within_first : (k b : ℕ) (x : Tree) (rest : List Tree) → b < 2 ^ 64 → Within k b (preorder (forest (x ∷ rest))) k b (places x)
within_first k b x rest h =
    record { front = []; back = preorder (forest rest); whole = refl; number = omega arith; offset = omega (arith, h) }

-- of a first tree and those after it, those after it
pub within_rest : (k b m c : ℕ) (x : Tree) (rest : List Tree) → m ≡ k + nodes x → c ≡ saturated (b + length (text_of x)) → Within k b (preorder (forest (x ∷ rest))) m c (preorder (forest rest))
within_rest k b m c x rest e f =
    record { front = places x; back = []; whole = ap (λ ys. places x ++ ys) (sym (append-nil (preorder (forest rest)))); number = omega (arith, e, length_places x); offset = rw texts_places f }

-- where the walk through a first tree finds nothing, the walk goes on behind it
pub found_next : (p : ℕ → ℕ → Tree → Bool) (k b m c : ℕ) (x : Tree) (rest : List Tree) → m ≡ k + nodes x → c ≡ saturated (b + length (text_of x)) → first_at p k b (places x) ≡ None → first_at p k b (preorder (forest (x ∷ rest))) ≡ first_at p m c (preorder (forest rest))
found_next p k b m c x rest e f nothing = grind (arith, first_of_more, first_same)

pub found_here : (p : ℕ → ℕ → Tree → Bool) (k b i : ℕ) (x : Tree) (rest : List Tree) → Some i ≡ first_at p k b (places x) → Some i ≡ first_at p k b (preorder (forest (x ∷ rest)))
found_here p k b i x rest e = sym (first_of_more p k b x rest ∙ rw (sym e) refl)

-- a loop over the children xs stands at child i, which is x
pub record Turn (xs : List Tree) (i : ℕ) (x : Tree) : Type 0 where
  pub first : drop i xs ≡ x ∷ drop (i + 1) xs
  pub rest : nodes x + count (forest (drop (i + 1) xs)) ≡ count (forest (drop i xs))

pub turn : (xs : List Tree) (i : ℕ) (x : Tree) → x ≡ get_or xs i x → i < length xs → Turn xs i x
turn xs i x e h = grind (arith, drop_more)

pub found_self : (p : ℕ → ℕ → Tree → Bool) (n a : ℕ) (t : Tree) → true ≡ p n (saturated a) t → first_at p n a (places t) ≡ Some n
found_self p n a t holds = rw (sym holds) refl

-- where a node itself doesn't pass the test, the walk goes on with its children
pub found_below : (p : ℕ → ℕ → Tree → Bool) (n a c : ℕ) (t : Tree) (ts : List Tree) → a < 2 ^ 64 → false ≡ p n a t → forest ts ≡ t.kids → c ≡ saturated (a + length t.head.text) → first_at p n a (places t) ≡ first_at p (n + 1) c (preorder (forest ts))
found_below p n a c t ts h fails e f = grind (arith, usize_saturated, first_same)

pub within_children : (n a c : ℕ) (t : Tree) (ts : List Tree) → forest ts ≡ t.kids → c ≡ saturated (a + length t.head.text) → Within n a (places t) (n + 1) c (preorder (forest ts))
within_children n a c t ts e f = rw e (record { front = t ∷ []; back = []; whole = ap (λ ys. t ∷ ys) (sym (append-nil (preorder t.kids))); number = refl; offset = rw append-nil f })

pub within_same : (n a : ℕ) (xs : List Tree) (k b : ℕ) (ts us : List Tree) → ts ≡ us → Within n a xs k b (preorder (forest ts)) → Within n a xs k b (preorder (forest us))
within_same n a xs k b ts us e h = subst (λ ys. Within n a xs k b (preorder (forest ys))) e h
