-- A stretch of a run that lies in a window is the same by the pieces that begin there alone.
use Rattle.typst_candidates.proofs.Cited.{◌≡◌, ℕ, zero, suc, ◌+◌, ◌-◌, ◌≤◌, Bool, true, max, min, List, [], ◌∷◌, ◌++◌, length, take, refl, ap, sym, ◌∙◌, arith, nat_lt, nat_le, leb-true, nat_tests, and_parts, take-append-add, take-append_seam, Tree, text_of, Window, Child, ChildRange, laid, begun, ended, first_near, end_near, clings, is_among, leads, holds_at, back_past, on_past, begins, with_hash, from_of, to_of, around, IsEdge, indices, within, ◌||◌, ◌&&◌, not}
use Rattle.typst_candidates.specs.declared.children.ChildRange as children
use Rattle.typst_candidates.proofs.Edges.{laid_length, begins_order, begun_none}

-- ---- the bytes of a window

among_within : (w : Window) (b : ℕ) (bs : List ℕ) → w.from ≤ b → b ≤ w.to → is_among b (within w bs) ≡ is_among b bs
among_within w b [] from to = refl
among_within w b (c ∷ cs) from to = grind (arith, nat_tests, among_within w b cs from to)

leads_within : (w : Window) (bs : List ℕ) (c : Child) → w.from ≤ c.start → c.start ≤ w.to → leads (within w bs) c ≡ leads bs c
leads_within w bs c from to = ap (λ (o : Bool). nat_lt c.start c.end && o) (among_within w c.start bs from to)

-- ---- tests that agree

holds_same : (f g : Child → Bool) (at : ℕ) (ts : List Tree) (n : ℕ) → ((c : Child) → c.start ≡ begins at ts n → f c ≡ g c) → holds_at f (laid at ts) n ≡ holds_at g (laid at ts) n
holds_same f g at [] n same = refl
holds_same f g at (t ∷ ts) zero same = same (record { start = at; end = at + length (text_of t); node = t }) refl
holds_same f g at (t ∷ ts) (suc n) same = holds_same f g (at + length (text_of t)) ts n same

pub back_most : (f : ℕ → Bool) (n : ℕ) → back_past f n ≤ n
back_most f zero = omega arith
back_most f (suc n) = grind (arith, back_most f n)

back_same : (f g : ℕ → Bool) (n : ℕ) → ((k : ℕ) → back_past f n ≤ k → k ≤ n → f k ≡ g k) → back_past f n ≡ back_past g n
back_same f g zero same = refl
back_same f g (suc n) same = pick (back_same f g n) (f (suc n)) refl
  where
    pick : (((k : ℕ) → back_past f n ≤ k → k ≤ n → f k ≡ g k) → back_past f n ≡ back_past g n) → (b : Bool) → f (suc n) ≡ b → back_past f (suc n) ≡ back_past g (suc n)
    pick less b e = grind (arith, back_most)

pub on_least : (f : ℕ → Bool) (limit n : ℕ) → n ≤ on_past f limit n
on_least f zero n = omega arith
on_least f (suc limit) n = grind (arith, on_least f limit (suc n))

on_same : (f g : ℕ → Bool) (limit n : ℕ) → ((k : ℕ) → n ≤ k → k ≤ on_past f limit n → f k ≡ g k) → on_past f limit n ≡ on_past g limit n
on_same f g zero n same = refl
on_same f g (suc limit) n same = pick (on_same f g limit (suc n)) (f n) refl
  where
    pick : (((k : ℕ) → suc n ≤ k → k ≤ on_past f limit (suc n) → f k ≡ g k) → on_past f limit (suc n) ≡ on_past g limit (suc n)) → (b : Bool) → f n ≡ b → on_past f (suc limit) n ≡ on_past g (suc limit) n
    pick next b e = grind (arith, on_least)

-- ---- a stretch in a window

pub hash_most : (cs : List Child) (n : ℕ) → with_hash cs n ≤ n
hash_most cs n = grind arith

module _ (w : Window) (bs : List ℕ) (at : ℕ) (ts : List Tree) (i j x : ℕ) (order : i ≤ j) (last : j ≤ length ts)
    (low : w.from ≤ begins at ts (from_of (within w bs) (laid at ts) i x)) (high : begins at ts (to_of (within w bs) (laid at ts) j x) ≤ w.to) where
  left : ℕ
  left = with_hash (laid at ts) (back_past (holds_at (λ c. clings c.node) (laid at ts)) (i - max x 2))

  right : ℕ
  right = min (j + x) (length (laid at ts))

  limit : ℕ
  limit = length (laid at ts) - right

  middle : left ≤ right
  unfolding left right
  middle = grind (arith, hash_most, back_most, laid_length)

  first : from_of (within w bs) (laid at ts) i x ≤ left
  unfolding left
  first = back_most (holds_at (λ c. not (leads (within w bs) c)) (laid at ts)) left

  final : right ≤ to_of (within w bs) (laid at ts) j x
  unfolding right
  final = on_least (holds_at (λ c. clings c.node || not (leads (within w bs) c)) (laid at ts)) (length (laid at ts) - right) right

  -- the pieces that begin in the window say the same of each child of the stretch, and of the one after it
  leads_here : (k : ℕ) → from_of (within w bs) (laid at ts) i x ≤ k → k ≤ to_of (within w bs) (laid at ts) j x → (c : Child) → c.start ≡ begins at ts k → leads (within w bs) c ≡ leads bs c
  leads_here k least most c e = grind (arith, leads_within, begins_order)

  from_same : from_of (within w bs) (laid at ts) i x ≡ from_of bs (laid at ts) i x
  unfolding left
  from_same = back_same (holds_at (λ c. not (leads (within w bs) c)) (laid at ts)) (holds_at (λ c. not (leads bs c)) (laid at ts)) left
      (λ k least most. holds_same (λ c. not (leads (within w bs) c)) (λ c. not (leads bs c)) at ts k (λ c e. ap not (leads_here k least (omega (arith, most, middle, final)) c e)))

  to_same : to_of (within w bs) (laid at ts) j x ≡ to_of bs (laid at ts) j x
  unfolding right
  to_same = on_same (holds_at (λ c. clings c.node || not (leads (within w bs) c)) (laid at ts)) (holds_at (λ c. clings c.node || not (leads bs c)) (laid at ts)) (length (laid at ts) - right) right
      (λ k least most. holds_same (λ c. clings c.node || not (leads (within w bs) c)) (λ c. clings c.node || not (leads bs c)) at ts k
      (λ c e. ap (λ (b : Bool). clings c.node || not b) (leads_here k (omega (arith, first, middle, least)) most c e)))

  around_within : around (within w bs) (laid at ts) i j x ≡ around bs (laid at ts) i j x
  around_within = λ k. record { from = from_same k; to = to_same k }

pub in_window : (w : Window) (bs cuts : List ℕ) (at : ℕ) (ts : List Tree) (i j x : ℕ) (s : children.ChildRange) → i ≤ j → j ≤ length ts → cuts ≡ within w bs → IsEdge at ts s.from → IsEdge at ts s.to
    → indices s ≡ around cuts (laid at ts) i j x → (nat_le w.from s.from.byte && nat_le s.to.byte w.to) ≡ true → indices s ≡ around bs (laid at ts) i j x
in_window w bs cuts at ts i j x s order last e from to is lies =
    let there : indices s ≡ around (within w bs) (laid at ts) i j x = is ∙ ap (λ (ds : List ℕ). around ds (laid at ts) i j x) e in
    let first : s.from.index ≡ from_of (within w bs) (laid at ts) i x = ap (λ (r : ChildRange). r.from) there in
    let final : s.to.index ≡ to_of (within w bs) (laid at ts) j x = ap (λ (r : ChildRange). r.to) there in
    let begin : s.from.byte ≡ begins at ts (from_of (within w bs) (laid at ts) i x) = from.byte ∙ ap (begins at ts) first in
    let end : s.to.byte ≡ begins at ts (to_of (within w bs) (laid at ts) j x) = to.byte ∙ ap (begins at ts) final in
    let low : w.from ≤ s.from.byte = leb-true w.from s.from.byte (and_parts (nat_le w.from s.from.byte) (nat_le s.to.byte w.to) lies).0 in
    let high : s.to.byte ≤ w.to = leb-true s.to.byte w.to (and_parts (nat_le w.from s.from.byte) (nat_le s.to.byte w.to) lies).1 in
    there ∙ around_within w bs at ts i j x order last (omega (arith, low, begin)) (omega (arith, high, end))

-- ---- the children near an edit

begun_ended : (rs re at : ℕ) (ts : List Tree) → rs ≤ re → begun rs (laid at ts) ≤ suc (ended re (laid at ts))
begun_ended rs re at [] h = omega arith
begun_ended rs re at (t ∷ ts) h = grind (arith, nat_tests, begun_ended rs re (at + length (text_of t)) ts h, begun_none rs (at + length (text_of t)) ts)

begun_most : (b at : ℕ) (ts : List Tree) → begun b (laid at ts) ≤ length ts
begun_most b at [] = omega arith
begun_most b at (t ∷ ts) = grind (arith, begun_most b (at + length (text_of t)) ts)

pub near_order : (rs re at : ℕ) (ts : List Tree) → rs ≤ re → first_near rs (laid at ts) ≤ end_near re (laid at ts)
near_order rs re at ts h = omega (arith, begun_ended rs re at ts h, begun_most rs at ts, laid_length at ts)

-- ---- so many of what is added

pub added_front : {X : Type 0} (xs ys zs us : List X) (n : ℕ) → xs ++ ys ≡ zs ++ us → length xs ≡ length zs + n → xs ≡ zs ++ take n us
added_front xs ys zs us n e long =
    sym (take-append_seam xs ys) ∙ (ap (take (length xs)) e ∙ (ap (λ (m : ℕ). take m (zs ++ us)) long ∙ take-append-add zs us n))
