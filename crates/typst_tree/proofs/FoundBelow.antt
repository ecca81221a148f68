-- What a walk back found, seen from a node and from the node above it.
use Rattle.typst_tree.proofs.Cited.{◌≡◌, Bool, ℕ, ◌+◌, ◌-◌, ◌<◌, ◌≤◌, ◌++◌, List, length, get_or, take, refl, ap, ◌∙◌, arith, length-append, slice_get_read, Tree, count, forest, nodes, places, saturated, trees, IsBelow, IsBelowChild, Follows, Joins, reach_of, in_order_of, IsPassed, IsChild, IsOpen, Holds, long, Stands, Within, Found, Known, nat_lt}
use Rattle.typst_tree.specs.declared.known.Reach.TheVariants as reach
use Rattle.typst_tree.proofs.Forks.{holds_child, holds_joined}
use Rattle.typst_tree.proofs.NodesOfStretch.{stands_row}
use Rattle.typst_tree.proofs.Rows.{child_in, over_at}
use Rattle.typst_tree.proofs.SpansAside.{trees_forest}
use Rattle.typst_tree.proofs.StepDown.{at_slice_get, slice_get_is}
use Rattle.typst_tree.proofs.WalksInPreorder.{length_places, within_in, within_self}

-- offsets counted from another begin
pub within_from : (n a : ℕ) (xs : List Tree) (k b : ℕ) (ys : List Tree) → Within n 0 xs k b ys → Within n a xs k (saturated (a + b)) ys
within_from n a xs k b ys w = grind arith

pub record Inside (n : ℕ) (t : Tree) (k : ℕ) (u : Tree) : Type 0 where
  pub from : n ≤ k
  pub to : k + nodes u ≤ n + nodes t

pub inside : (n a : ℕ) (t : Tree) (k b : ℕ) (u : Tree) → Within n a (places t) k b (places u) → Inside n t k u
inside n a t k b u w =
    record {
      from = omega (arith, w.number);
      to = omega (arith, w.number, ap length w.whole, length-append w.front (places u ++ w.back), length-append (places u) w.back, length_places t, length_places u);
    }

holds_open : (root : Tree) (n b size : ℕ) (k : Known) → reach_of k ≡ reach.Open → IsOpen root n → Holds root n b size k
holds_open root n b size k e up = record { at_open = λ _. up; at_placed = λ f. absurd (cc) }

pub itself : (t : Tree) (n : ℕ) (in_order : Bool) (f : Found) → f.node.now ≡ t → f.number ≡ n → f.begins ≡ 0 → reach_of f.known ≡ reach.Open → in_order_of f.known ≡ in_order → IsBelow t n in_order f
itself t n in_order f e g h o q = grind (arith, within_self, holds_open)

-- of a node above which all is open, the numbers and bytes to its children don't count
follows_open : (a : Known) (is_long : Bool) (i x y z u : ℕ) (k : Known) → reach_of a ≡ reach.Open → Follows a is_long i x y k → Follows a is_long i z u k
follows_open a is_long i x y z u k e w = grind arith

pub above : (o : Tree) (n : ℕ) (t : Tree) (m c i : ℕ) (a way : Known) (is_long : Bool) (f g : Found) → IsChild o n t m i → Within n 0 (places o) m c (places t) → IsBelow t m (in_order_of f.known) f → is_long ≡ nat_lt long (length (trees o.kids)) → reach_of a ≡ reach.Open → Follows a is_long i 0 0 way → Joins way f.known (f.number - m) f.begins g.known → in_order_of g.known ≡ in_order_of f.known → g.node.now ≡ f.node.now → g.number ≡ f.number → g.begins ≡ saturated (c + f.begins) → IsBelow o n (in_order_of f.known) g
above o n t m c i a way is_long f g child w below l free follows joins order node number begins =
    let own = inside m 0 t f.number f.begins f.node.now below.within in
    record {
      within = rw (node, number, begins) (within_in n 0 (places o) m c (places t) f.number (saturated (c + f.begins)) (places f.node.now) w (within_from m c (places t) f.number f.begins (places f.node.now) below.within));
      order = order;
      holds = λ root b s up. (
          let here : Stands (places root) m (saturated (b + c)) (places t) = stands_row (places root) n b m (saturated (b + c)) (places o) (places t) s (within_from n b (places o) m c (places t) w) in
          let kid = holds_child root o n b a is_long t m (saturated (b + c)) i way l s here child (holds_open root n b (nodes o) a free up) (follows_open a is_long i 0 0 (m - n) (saturated (b + c) - b) way free follows) in
          let begin : saturated (b + g.begins) ≡ saturated (saturated (b + c) + f.begins) = omega (arith, begins) in
          rw (node, number, begin) (holds_joined root m (saturated (b + c)) (nodes t) f.number (saturated (saturated (b + c) + f.begins)) (nodes f.node.now) f.begins way f.known g.known kid (λ on. below.holds root (saturated (b + c)) here on) own.from own.to (omega arith) refl joins));
    }

-- what was found among a node that was found
pub joined : (o : Tree) (n : ℕ) (in_order : Bool) (a f g : Found) → IsBelow o n in_order a → IsBelow a.node.now a.number (in_order_of a.known) f → Joins a.known f.known (f.number - a.number) f.begins g.known → in_order_of g.known ≡ in_order_of a.known → g.node.now ≡ f.node.now → g.number ≡ f.number → g.begins ≡ saturated (a.begins + f.begins) → IsBelow o n in_order g
joined o n in_order a f g u v joins order node number begins =
    let own = inside a.number 0 a.node.now f.number f.begins f.node.now v.within in
    record {
      within = rw (node, number, begins) (within_in n 0 (places o) a.number a.begins (places a.node.now) f.number (saturated (a.begins + f.begins)) (places f.node.now) u.within (within_from a.number a.begins (places a.node.now) f.number f.begins (places f.node.now) v.within));
      order = order ∙ u.order;
      holds = λ root b s up. (
          let here : Stands (places root) a.number (saturated (b + a.begins)) (places a.node.now) = stands_row (places root) n b a.number (saturated (b + a.begins)) (places o) (places a.node.now) s (within_from n b (places o) a.number a.begins (places a.node.now) u.within) in
          let begin : saturated (b + g.begins) ≡ saturated (saturated (b + a.begins) + f.begins) = omega (arith, begins) in
          rw (node, number, begin) (holds_joined root a.number (saturated (b + a.begins)) (nodes a.node.now) f.number (saturated (saturated (b + a.begins) + f.begins)) (nodes f.node.now) f.begins a.known f.known g.known (u.holds root b s up) (λ on. v.holds root (saturated (b + a.begins)) here on) own.from own.to (omega arith) refl joins));
    }

-- the child that was passed to, which the found node is or is below
pub record Seen (o : Tree) (n i m c : ℕ) (in_order : Bool) (f : Found) : Type 0 where
  pub kid : Tree
  pub child : IsChild o n kid m i
  pub within : Within n 0 (places o) m c (places kid)
  pub below : IsBelow kid m in_order f
  pub from : m ≤ f.number

pub seen : (o : Tree) (n i m c : ℕ) (in_order : Bool) (f : Found) (row : List Tree) → forest row ≡ o.kids → IsBelowChild o n i in_order f → IsPassed row (n + 1) (saturated (0 + length o.head.text)) i m c → Seen o n i m c in_order f
seen o n i m c in_order f row e there passed = grind (arith, trees_forest, at_slice_get, over_at, slice_get_is)

pub under : (o : Tree) (n i m : ℕ) (in_order : Bool) (f : Found) (row : List Tree) (x : Tree) → forest row ≡ o.kids → x ≡ get_or row i x → i < length row → m ≡ n + 1 + count (forest (take i row)) → IsBelow x m in_order f → IsBelowChild o n i (in_order_of f.known) f
under o n i m in_order f row x e g h number below = let child = child_in o n x m i row e (slice_get_read row (length row) i x refl h g) number in grind arith
