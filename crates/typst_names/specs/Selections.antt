-- The nodes around a byte.
use Rattle.std.specs.Prelude.{ℕ, ◌-◌, ◌==◌, ◌&&◌, nat_le, nat_lt, Bool, List, [], ◌∷◌, ◌++◌, length, min, take, reverse, false, if◌then◌else◌}
use Rattle.std.specs.declared.ops.Range.{Range}
use Rattle.typst_tree.specs.Tree.{Forest, none, more, Tree, text_of, saturated}
use Rattle.typst_names.specs.Bytes.{inner, behind, range}

-- the range holds byte b
abbrev pub holds : ℕ → Range ℕ → Bool
holds b r = nat_le r.start b && nat_lt b r.end

-- the ranges that hold byte b, of the nodes of trees side by side from byte a on, each before those below it
abbrev pub around : ℕ → ℕ → Forest → List (Range ℕ)
around b a none = []
around b a (more h ks r) =
    (if holds b (range a h ks) then range a h ks ∷ [] else []) ++ (around b (inner a h) ks ++ around b (behind a h ks) r)

-- the ranges begin with this one
abbrev pub begins : List (Range ℕ) → Range ℕ → Bool
begins [] r = false
begins (p ∷ ps) r = (p.start == r.start) && (p.end == r.end)

-- ranges without those that are the same as the next one
abbrev pub different : List (Range ℕ) → List (Range ℕ)
different [] = []
different (r ∷ rs) = if begins rs r then different rs else r ∷ different rs

-- the byte, or the last one of a tree's text if that ends before it
abbrev pub byte_in : Tree → ℕ → ℕ
byte_in t b = min b (saturated (length (text_of t)) - 1)

-- the ranges of the nodes of a tree that hold a byte, without repeats: the innermost n, from the leaf outwards
abbrev pub selections : ℕ → ℕ → Tree → List (Range ℕ)
selections n b t = take n (reverse (different (around (byte_in t b) 0 (more t.head t.kids none))))
