-- Where a walk finds nothing for sure.
use Rattle.typst_tree.proofs.Cited.{common_steps, ◌≡◌, ℕ, ◌+◌, ◌<◌, ◌≤◌, ◌==◌, false, List, ◌∷◌, ◌++◌, length, ◌^◌, None, Some, refl, ap, ◌∙◌, arith, length-append, [], list_any, nat_tests, Forest, none, more, Tree, forest, count, nodes, joined, text_of, preorder, places, saturated, numbers, texts, first_at, if_none, has_child, is_leaf_from, holds_byte, is_childless, nat_le, nat_lt, if◌then◌else◌, and_right}
use Rattle.typst_tree.proofs.LastLeaf.{if_none_nothing}
use Rattle.typst_tree.proofs.WalksInPreorder.{length_preorder, length_places, texts_preorder, first_append, first_of_more, first_same, found_next, none_between, usize_saturated}

pub no_leaf : (k n a : ℕ) (t : Tree) → n + nodes t ≤ k → first_at (is_leaf_from k) n a (places t) ≡ None
no_leaf k n a t h = grind (arith, none_between, length_places, nat_tests)

pub no_number_below : (k n : ℕ) (f : Forest) → k < n → list_any (λ m. m == k) (numbers n f) ≡ false
no_number_below k n none h = refl
no_number_below k n (more g ks r) h =
    let fails : (n == k) ≡ false = grind (arith, nat_tests, h) in
    rw (fails, no_number_below k (n + 1 + count ks) r (omega (arith, h))) refl

pub no_number_above : (k n : ℕ) (f : Forest) → n + count f ≤ k → list_any (λ m. m == k) (numbers n f) ≡ false
no_number_above k n none h = refl
no_number_above k n (more g ks r) h =
    let below : n < k = omega (arith, h) in
    let fails : (n == k) ≡ false = grind (arith, nat_tests, below) in
    rw (fails, no_number_above k (n + 1 + count ks) r (omega (arith, h))) refl

pub no_child_before : (k n a : ℕ) (t : Tree) → k ≤ n → first_at (has_child k) n a (places t) ≡ None
no_child_before k n a t h = grind (arith, none_between, no_number_below)

pub no_child_above : (k n a : ℕ) (f : Forest) → n + count f ≤ k → first_at (has_child k) n a (preorder f) ≡ None
no_child_above k n a none h = refl
no_child_above k n a (more g ks r) h =
    let here : list_any (λ m. m == k) (numbers (n + 1) ks) ≡ false = no_number_above k (n + 1) ks (omega (arith, h)) in
    let below : first_at (has_child k) (n + 1) (a + length g.text) (preorder ks) ≡ None = no_child_above k (n + 1) (a + length g.text) ks (omega (arith, h)) in
    rw (here, first_append (has_child k) (n + 1) (a + length g.text) (preorder ks) (preorder r), below)
    (no_child_above k (n + 1 + length (preorder ks)) (a + length g.text + length (texts (preorder ks))) r (omega (arith, h, length_preorder ks)))

pub no_child_after : (k n a : ℕ) (t : Tree) → n + nodes t ≤ k → first_at (has_child k) n a (places t) ≡ None
no_child_after k n a t h = grind (arith, no_number_above, no_child_above)

pub no_byte_before : (b n a : ℕ) (xs : List Tree) → b < saturated a → first_at (holds_byte b) n a xs ≡ None
no_byte_before b n a [] h = refl
no_byte_before b n a (x ∷ xs) h =
    let fails : nat_le (saturated a) b ≡ false = grind (arith, nat_tests, h) in
    let here : holds_byte b n (saturated a) x ≡ false = rw fails (and_right (is_childless x.kids) false refl) in
    rw (here, no_byte_before b (n + 1) (a + length x.head.text) xs (omega (arith, h))) refl

-- a node that ends by the byte b doesn't hold it
ended : (b n a : ℕ) (t : Tree) → saturated (a + length (text_of t)) ≤ b → holds_byte b n (saturated a) t ≡ false
ended b n a t h =
    let reach : b < saturated (saturated a + length (text_of t)) → ⊥ = λ l. omega (arith, h, l) in
    let fails : nat_lt b (saturated (saturated a + length (text_of t))) ≡ false = grind (arith, nat_tests, reach) in
    rw (fails, and_right (nat_le (saturated a) b) false refl) (and_right (is_childless t.kids) false refl)

pub no_byte_above : (b n a : ℕ) (f : Forest) → saturated (a + length (joined f)) ≤ b → first_at (holds_byte b) n a (preorder f) ≡ None
no_byte_above b n a none h = refl
no_byte_above b n a (more g ks r) h =
    let whole : length (g.text ++ (joined ks ++ joined r)) ≡ length g.text + (length (joined ks) + length (joined r)) = length-append g.text (joined ks ++ joined r) ∙ ap (λ n. length g.text + n) (length-append (joined ks) (joined r)) in
    let own : length (g.text ++ joined ks) ≡ length g.text + length (joined ks) = length-append g.text (joined ks) in
    let here : holds_byte b n (saturated a) (record { head = g; kids = ks }) ≡ false = ended b n a (record { head = g; kids = ks }) (omega (arith, h, whole, own)) in
    let below : first_at (holds_byte b) (n + 1) (a + length g.text) (preorder ks) ≡ None = no_byte_above b (n + 1) (a + length g.text) ks (omega (arith, h, whole)) in
    rw (here, first_append (holds_byte b) (n + 1) (a + length g.text) (preorder ks) (preorder r), below)
    (no_byte_above b (n + 1 + length (preorder ks)) (a + length g.text + length (texts (preorder ks))) r (omega (arith, h, whole, ap length (texts_preorder ks))))

pub no_byte_after : (b n a : ℕ) (t : Tree) → saturated (a + length (text_of t)) ≤ b → first_at (holds_byte b) n a (places t) ≡ None
no_byte_after b n a t h = grind (arith, length-append, no_byte_above)

-- of a first tree and those behind it, only the first can hold a byte before its end
pub byte_first : (b n a c : ℕ) (x : Tree) (rest : List Tree) → c ≡ saturated (a + length (text_of x)) → b < c → first_at (holds_byte b) n a (preorder (forest (x ∷ rest))) ≡ first_at (holds_byte b) n a (places x)
byte_first b n a c x rest e h =
    first_of_more (holds_byte b) n a x rest
    ∙ (ap (if_none (first_at (holds_byte b) n a (places x))) (no_byte_before b (n + nodes x) (a + length (text_of x)) (preorder (forest rest)) (omega (arith, e, h))) ∙ if_none_nothing (first_at (holds_byte b) n a (places x)))

-- and those behind it where it ends by the byte
pub byte_next : (b n a m c : ℕ) (x : Tree) (rest : List Tree) → m ≡ n + nodes x → c ≡ saturated (a + length (text_of x)) → c ≤ b → first_at (holds_byte b) n a (preorder (forest (x ∷ rest))) ≡ first_at (holds_byte b) m c (preorder (forest rest))
byte_next b n a m c x rest e f h =
    found_next (holds_byte b) n a m c x rest e f (no_byte_after b n a x (omega (arith, f, h)))

-- a node with children doesn't hold it itself
pub byte_below : (b n a : ℕ) (t : Tree) (xs : List Tree) → forest xs ≡ t.kids → 0 < length xs → first_at (holds_byte b) n a (places t) ≡ first_at (holds_byte b) (n + 1) (saturated (a + length t.head.text)) (preorder (forest xs))
byte_below b n a t [] e h = absurd (omega (arith, h))
byte_below b n a t (x ∷ xs) e h = grind (arith, first_same)

-- where its children don't hold it, it is the one that may
pub byte_none : (b n a : ℕ) (t : Tree) (xs : List Tree) → forest xs ≡ t.kids → a < 2 ^ 64 → first_at (holds_byte b) (n + 1) (saturated (a + length t.head.text)) (preorder (forest xs)) ≡ None → first_at (holds_byte b) n a (places t) ≡ if holds_byte b 0 a t then Some n else None
byte_none b n a t xs e h nothing = grind (arith, common_steps, usize_saturated, byte_below)
