-- The bytes of nodes, counted up to the largest usize.
use Rattle.std.specs.Prelude.{ℕ, ◌+◌, ◌++◌, length}
use Rattle.std.specs.declared.ops.Range.{Range}
use Rattle.typst_kinds.specs.Head.{Head}
use Rattle.typst_tree.specs.Tree.{Forest, joined, saturated}

-- where the children of a node begin that begins at byte a: after its own text
abbrev pub inner : ℕ → Head → ℕ
inner a h = saturated (a + length h.text)

-- where a node ends that begins at byte a
abbrev pub behind : ℕ → Head → Forest → ℕ
behind a h ks = saturated (a + length (h.text ++ joined ks))

-- the bytes of a node that begins at byte a
abbrev pub range : ℕ → Head → Forest → Range ℕ
range a h ks = record { start = a; end = behind a h ks }
