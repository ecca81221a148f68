-- One more child of several that are added up.
use Rattle.typst_tree.proofs.Cited.{◌≡◌, ℕ, ◌+◌, ◌<◌, ◌≤◌, ◌^◌, List, length, drop, get_or, arith, length-append, [], drop_more, drop_all, Tree, forest, joined, count, text_of, nodes, saturated}

pub record OneMore (xs : List Tree) (i : ℕ) (x : Tree) : Type 0 where
  pub long : length (joined (forest (drop i xs))) ≡ length (text_of x) + length (joined (forest (drop (i + 1) xs)))
  pub many : count (forest (drop i xs)) ≡ nodes x + count (forest (drop (i + 1) xs))

pub one_more : (xs : List Tree) (i : ℕ) (x : Tree) → i < length xs → x ≡ get_or xs i x → OneMore xs i x
one_more xs i x h e = grind (arith, drop_more, length-append)

-- lengths of texts
abbrev pub row_long : List Tree → ℕ
row_long ts = length (joined (forest ts))

abbrev pub tree_long : Tree → ℕ
tree_long t = length (text_of t)

-- counts of nodes
abbrev pub row_many : List Tree → ℕ
row_many ts = count (forest ts)

-- n is what was added up of the first i of the children xs but the one at last, which comes behind the loop: with what is left the sum is
-- t. Here f t is the number of a child and w ts the sum of a row's
pub record Adds (w : List Tree → ℕ) (f : Tree → ℕ) (n last i : ℕ) (xs : List Tree) (t : ℕ) : Type 0 where
  pub before : i ≤ last → saturated (n + w (drop i xs)) ≡ t
  pub behind : (d : Tree) → last < i → saturated (n + w (drop i xs) + f (get_or xs last d)) ≡ t
  pub small : n < 2 ^ 64

pub adds_all : (w : List Tree → ℕ) (f : Tree → ℕ) (n last i : ℕ) (xs : List Tree) (t : ℕ) (d : Tree) → Adds w f n last i xs t → last < i → length xs ≤ i → w [] ≡ 0 → saturated (n + f (get_or xs last d)) ≡ t
adds_all w f n last i xs t d a lt le z = grind (arith, drop_all)
