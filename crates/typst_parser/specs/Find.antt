-- How a source finds a node, and its bytes, by span and number.
use Rattle.std.specs.Prelude.{◌≡◌, ℕ, ◌+◌, ◌-◌, ◌^◌, nat_lt, nat_le, ◌==◌, Bool, false, Option, Some, None, option_and_then, if◌then◌else◌, slice_get}
use Rattle.std.specs.declared.ops.Range.{Range}
use Rattle.typst_kinds.specs.Span.{Bytes}
use Rattle.typst_kinds.specs.Span.{number_of}
use Rattle.typst_tree.specs.Tree.{Tree, nodes, places}
use Rattle.typst_tree.specs.Steps.{At, at, offset_of, end_of, find_span, find_number}

-- the root of a tree, if its nodes can be counted
abbrev pub top : Tree → Option At
top root = if nat_lt (nodes root) (2 ^ 64 - 1) then Some (at root 0) else None

-- whether a span is of the file
abbrev pub is_in_file : ℕ → Option (ℕ × ℕ) → Bool
is_in_file id None = false
is_in_file id (Some place) = place.0 == id

-- the first node with the span, if that is of the file
abbrev pub found : ℕ → Option (ℕ × ℕ) → Tree → Option At
found id span root = if is_in_file id span then option_and_then (find_span span) (top root) else None

-- the bytes of a node, or of a range that is counted from its start; none if that range passes its
-- end
abbrev pub bytes_in : Option Bytes → At → Option (Range ℕ)
bytes_in None a = Some (record { start = offset_of a; end = end_of a })
bytes_in (Some sub) a =
    if nat_le sub.end (end_of a - offset_of a) then Some (record { start = offset_of a + sub.start; end = offset_of a + sub.end }) else None

-- the bytes of the first node with the number
abbrev pub range_of : ℕ → Option Bytes → Tree → Option (Range ℕ)
range_of number sub root = option_and_then (bytes_in sub) (option_and_then (find_number number) (top root))

-- a node of the tree is the one that its own span finds
abbrev pub FindsOwn : Option (ℕ × ℕ) → Tree → Option At → Type 0
FindsOwn span root found =
    (i : ℕ) (t : Tree) → slice_get (places root) i ≡ Some t → t.head.span ≡ span → found ≡ Some (at root i)

-- the bytes of a node of the tree are those that its own number gives
abbrev pub GivesOwn : ℕ → Option Bytes → Tree → Option (Range ℕ) → Type 0
GivesOwn number sub root range =
    (i : ℕ) (t : Tree) → slice_get (places root) i ≡ Some t → number_of t.head.span ≡ number → range ≡ bytes_in sub (at root i)
