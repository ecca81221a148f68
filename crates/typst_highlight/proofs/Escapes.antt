-- Texts in which characters that have no entity stand between those that have one.
use Rattle.typst_highlight.proofs.Cited.{◌≡◌, ℕ, ◌+◌, ◌-◌, ◌<◌, ◌≤◌, List, [], ◌∷◌, ◌++◌, length, drop, get_or, refl, sym, arith, append_assoc, append-nil, length-drop, slice_range, take_more, drop_more, get_or-drop, escaped_byte, escaped}
use Rattle.std.proofs.lemmas.List.Folds.{drop_split}

pub escaped_append : (xs ys : List ℕ) → escaped (xs ++ ys) ≡ escaped xs ++ escaped ys
escaped_append [] ys = refl
escaped_append (x ∷ xs) ys = rw (escaped_append xs ys) (sym (append_assoc (escaped_byte x) (escaped xs) (escaped ys)))

slice_more : (xs : List ℕ) (a b : ℕ) → a ≤ b → b < length xs → slice_range xs a (b + 1) ≡ slice_range xs a b ++ get_or xs b 0 ∷ []
slice_more xs a b h l =
    let count : b + 1 - a ≡ (b - a) + 1 = omega arith in
    let there : a + (b - a) ≡ b = omega arith in
    grind (arith, take_more, length-drop, get_or-drop)

-- one byte more that has no entity
pub plain_more : (xs : List ℕ) (a b m x : ℕ) → a ≤ b → b < length xs → x ≡ get_or xs b 0 → m ≡ b + 1 → escaped_byte x ≡ x ∷ [] → escaped (slice_range xs a b) ≡ slice_range xs a b → escaped (slice_range xs a m) ≡ slice_range xs a m
plain_more xs a b m x h l e k p i = grind (arith, slice_more, escaped_append, append-nil)

-- what has no entity goes out as it is, and then the entity of the byte behind it
pub entity_more : (xs html all mid next : List ℕ) (a b m x : ℕ) → a ≤ b → b < length xs → x ≡ get_or xs b 0 → m ≡ b + 1 → mid ≡ html ++ slice_range xs a b → next ≡ mid ++ escaped_byte x → escaped (slice_range xs a b) ≡ slice_range xs a b → html ++ escaped (drop a xs) ≡ all → next ++ escaped (drop m xs) ≡ all
entity_more xs html all mid next a b m x h l e k p q i w =
    let parts : drop a xs ≡ slice_range xs a b ++ drop b xs = drop_split xs a b h in
    grind (arith, drop_more, escaped_append, append_assoc)

-- nothing is left of a stretch that ends where it begins
pub plain_none : (xs : List ℕ) (a b : ℕ) → a ≡ b → escaped (slice_range xs a b) ≡ slice_range xs a b
plain_none xs a b e = grind arith
