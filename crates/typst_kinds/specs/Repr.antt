-- How the parts of a node lie in memory, and what contracts see of them.
use Rattle.std.specs.Prelude.{◌≡◌, ℕ, ◌≤◌, ◌+◌, ◌*◌, ◌^◌, Bool, true, false, List, [], length}
use Rattle.typst_kinds.specs.declared.kind.SyntaxKind.{SyntaxKind}
use Rattle.typst_kinds.specs.Span.{SpanValue}
use Rattle.typst_kinds.specs.Head.{Own, leaf_own, kept, has_any}
use Rattle.typst_kinds.specs.declared.own.Parts.{Parts}
use Rattle.typst_kinds.specs.declared.own.Repr.{Repr}
use Rattle.typst_kinds.specs.declared.own.Repr.TheVariants.{ShortLeaf, BoxedLeaf, LongLeaf, Inner, MarkedInner, Diagnosed}

-- a leaf without diagnostics
abbrev pub plain_leaf : SpanValue → SyntaxKind → List ℕ → Own
plain_leaf sp k s = leaf_own (record { kind = k; is_inner = false; text = s; span = sp; upper = 0; diagnostics = [] })

-- an upper end, from its high and its low part
abbrev pub upper_end : ℕ → ℕ → ℕ
upper_end high low = high * 2 ^ 32 + low

-- an inner node without diagnostics
abbrev pub plain_inner : SpanValue → SyntaxKind → ℕ → ℕ → ℕ → Bool → Own
plain_inner sp k upper len descendants is_marked =
    record { head = record { kind = k; is_inner = true; text = []; span = sp; upper = upper; diagnostics = [] }; len = len; descendants = descendants; is_marked = is_marked }

-- a node whose parts are kept together in a box, as those of a node with diagnostics are
abbrev pub of_parts : SpanValue → SyntaxKind → Parts → Own
of_parts sp k p =
    record { head = record { kind = k; is_inner = p.is_inner; text = p.text; span = sp; upper = p.extent.upper; diagnostics = p.diagnostics.items }; len = p.extent.len; descendants = p.extent.descendants; is_marked = true }

-- what contracts see of a node, by its span and how its parts lie in memory
abbrev pub own_of : SpanValue → Repr → Own
own_of sp (ShortLeaf k s) = plain_leaf sp k s
own_of sp (BoxedLeaf k n s) = plain_leaf sp k s.value
own_of sp (LongLeaf k n s) = plain_leaf sp k s.value
own_of sp (Inner k high low len descendants) = plain_inner sp k (upper_end high low) len descendants false
own_of sp (MarkedInner k high low len descendants) = plain_inner sp k (upper_end high low) len descendants true
own_of sp (Diagnosed k p) = of_parts sp k p.value

-- an upper end is at most 2 ^ 47, the length that is kept beside a text is the text's, and only a node
-- with diagnostics has its parts in a box
abbrev pub IsOwn : Repr → Type 0
IsOwn (ShortLeaf k s) = Unit {0}
IsOwn (BoxedLeaf k n s) = n ≡ kept (length s.value)
IsOwn (LongLeaf k n s) = n ≡ kept (length s.value)
IsOwn (Inner k high low len descendants) = upper_end high low ≤ 2 ^ 47
IsOwn (MarkedInner k high low len descendants) = upper_end high low ≤ 2 ^ 47
IsOwn (Diagnosed k p) = (p.value.extent.upper ≤ 2 ^ 47) × (has_any p.value.diagnostics.items ≡ true)
