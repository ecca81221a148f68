-- What is known of the way to a node, and to a child of one (for private clauses).
use Rattle.std.specs.Prelude.{◌≡◌, ℕ, ◌+◌, ◌/◌, ◌%◌, ◌==◌, Bool, true, false, if◌then◌else◌}
use Rattle.typst_tree.specs.declared.known.Known.{Known}
use Rattle.typst_tree.specs.declared.known.Reach.TheVariants as reach

-- the lowest bit of a word, 1 for yes
abbrev pub bit : Bool → ℕ
bit true = 1
bit false = 0

-- what the two bits above the lowest say of the way: that it is open, placed or lost
unfoldable pub told : ℕ → reach.the_data
told flag = if flag == 0 then reach.Open else if flag == 1 then reach.Placed else reach.Lost

-- how much is known of the way to a node
abbrev pub reach_of : Known → reach.the_data
reach_of k = told (k.word / 2 % 4)

-- the index of the tree in the first long row on the way
abbrev pub index_of : Known → ℕ
index_of k = k.word / 8

-- whether the tree's numbers are known to be in order
abbrev pub in_order_of : Known → Bool
in_order_of k = k.word % 2 == 1

-- if a is known of the way to a node, whose row of children is long or not, k is known of the way
-- to its child with the index i, so many numbers and bytes after the node
pub record Follows (a : Known) (is_long : Bool) (i numbers bytes : ℕ) (k : Known) : Type 0 where
  pub at_open : reach_of k ≡ reach.Open → (reach_of a ≡ reach.Open) × (is_long ≡ false)
  pub first : reach_of k ≡ reach.Placed → reach_of a ≡ reach.Open → (is_long ≡ true) × ((index_of k ≡ i) × ((k.below ≡ 0) × (k.begins ≡ 0)))
  pub further : reach_of k ≡ reach.Placed → reach_of a ≡ reach.Placed → (index_of k ≡ index_of a) × ((k.below ≡ a.below + numbers) × (k.begins ≡ a.begins + bytes))
  pub kept : reach_of k ≡ reach.Placed → reach_of a ≡ reach.Lost → ⊥

-- if a is known of the way to a node, and w of the way from there to another, so many numbers and
-- bytes after, k is known of the whole way
pub record Joins (a w : Known) (numbers bytes : ℕ) (k : Known) : Type 0 where
  pub free : reach_of a ≡ reach.Open → k ≡ w
  pub at_open : reach_of k ≡ reach.Open → reach_of a ≡ reach.Open
  pub further : reach_of k ≡ reach.Placed → reach_of a ≡ reach.Placed → (index_of k ≡ index_of a) × ((k.below ≡ a.below + numbers) × (k.begins ≡ a.begins + bytes))
  pub kept : reach_of k ≡ reach.Placed → reach_of a ≡ reach.Lost → ⊥
