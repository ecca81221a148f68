-- Which tree a text has, and which bytes a span has.
use Rattle.std.specs.Prelude.{◌≡◌, ℕ, ◌==◌, List, Option, Some, None, option_and_then, if◌then◌else◌}
use Rattle.std.specs.Str.{chars}
use Rattle.std.specs.declared.ops.Range.{Range}
use Rattle.typst_parser.specs.Tree.{Tree}
use Rattle.typst_parser.specs.Grammar.{tree, tree_code, tree_math}
use Rattle.typst_parser.specs.UnicodeTables.{unicode_classes}
use Rattle.typst_parser.specs.Find.{found, bytes_in}
use Rattle.typst_parser.specs.Held.{Held}
use Rattle.typst_flat.specs.Codes.{span_of}
use Rattle.typst_flat.specs.declared.records.Stretch.{Stretch}

-- the tree of a text that is read as markup (0), code (1) or a formula (2)
abbrev pub tree_as : ℕ → List ℕ → Option Tree
tree_as mode text =
    if mode == 0 then Some (tree unicode_classes (chars text)) else
    if mode == 1 then Some (tree_code unicode_classes (chars text)) else
    if mode == 2 then Some (tree_math unicode_classes (chars text)) else None

-- the bytes of the first node with a span, which is packed in one number
abbrev pub range_with : {C : Type 0} → Held C → ℕ → Option (Range ℕ)
range_with s bits = option_and_then (bytes_in None) (found s.id (span_of bits) s.root)

-- bytes that are given where they are found, and 1, or 0 where there are none
abbrev pub IsTold : Option (Range ℕ) → ℕ → Stretch → Stretch → Type 0
IsTold None found old new = (found ≡ 0) × (new ≡ old)
IsTold (Some range) found old new = (found ≡ 1) × ((new.start ≡ range.start) × (new.end ≡ range.end))
