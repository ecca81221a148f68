-- The records of the nodes that a walk has come to are in an array.
use Rattle.typst_flat.proofs.Cited.{◌≡◌, ℕ, ◌+◌, ◌<◌, ◌≤◌, List, [], set, length, arith, length-map, Tree, nodes, at, offset_of, end_of, filled, node_record, records_in, Course, IsFilled, Moves, ahead_from, Stretch}
use Rattle.typst_flat.specs.declared.records.Node.{Node}
use Rattle.typst_flat.proofs.Filling.{first_left, left_next, none_left, step_fits, step_full}
use Rattle.typst_flat.proofs.Placing.{one_meets, one_passes}

-- past a node that ends before the stretch
pub put_past : (s : Stretch) (root : Tree) (n count : ℕ) (array old : List Node) → n < nodes root → offset_of (at root n) ≤ s.end → end_of (at root n) < s.start → IsFilled s root n count array old → IsFilled s root (n + 1) count array old
put_past s root n count array old less reaches early f = grind (arith, one_passes)

-- one that meets it, and whose record fits
pub put_fits : (s : Stretch) (root : Tree) (n count : ℕ) (array old : List Node) (y : Node) → n < nodes root → offset_of (at root n) ≤ s.end → s.start ≤ end_of (at root n) → y ≡ node_record (at root n) → count < length array → IsFilled s root n count array old → IsFilled s root (n + 1) (count + 1) (set array count y) old
put_fits s root n count array old y less reaches begins is fits f = grind (arith, one_meets, first_left, left_next, step_fits)

-- or doesn't
pub put_full : (s : Stretch) (root : Tree) (n count : ℕ) (array old : List Node) → n < nodes root → offset_of (at root n) ≤ s.end → s.start ≤ end_of (at root n) → length array ≤ count → IsFilled s root n count array old → IsFilled s root (n + 1) (count + 1) array old
put_full s root n count array old less reaches begins full f = grind (arith, one_meets, first_left, left_next, step_full)

-- the walk goes on, past nodes that don't meet it
pub put_on : (s : Stretch) (root : Tree) (v w : Course) (count : ℕ) (array old : List Node) → v.root.now ≡ root → w.root.now ≡ v.root.now → v.stretch ≡ s → Moves v w → IsFilled s root (v.number + 1) count array old → IsFilled s root w.number count array old
put_on s root v w count array old same still stretch m f = grind arith

-- no node is left that meets it
pub record Put (s : Stretch) (root : Tree) (count : ℕ) (array old : List Node) : Type 0 where
  pub count_is : count ≡ length (records_in s root)
  pub array_is : array ≡ filled (records_in s root) old

pub put_all : (s : Stretch) (root : Tree) (n count : ℕ) (array old : List Node) → ahead_from s root n ≡ [] → IsFilled s root n count array old → Put s root count array old
put_all s root n count array old none f = grind (arith, none_left, length-map)
