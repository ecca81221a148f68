-- What is left of a search for names, row by row.
use Rattle.typst_names.proofs.Cited.{◌≡◌, ℕ, ◌+◌, Bool, true, false, List, [], ◌∷◌, ◌++◌, length, refl, ap, sym, ◌∙◌, arith, append_assoc, append-nil, Forest, none, more, Tree, forest, left, left_all, steps_all, steps_left, is_end, names_in, is_nothing, Part, Name}
use Rattle.typst_names.specs.Bytes as bytes
use Rattle.typst_names.specs.declared.parts.Part.TheVariants as part
use Rattle.typst_names.specs.declared.scopes.Row.{Row}

-- where nothing counts there are no names
nothing_in : (u a : ℕ) (f : Forest) → names_in part.Nothing u a f ≡ []
nothing_in u a none = refl
nothing_in u a (more h ks r) = rw (nothing_in u (bytes.inner a h) ks, nothing_in u (bytes.behind a h ks) r) refl

pub nothing_left : (r : Row) → is_nothing r.part ≡ true → left r ≡ []
nothing_left r e = grind (arith, nothing_in)

none_of : (p : Part) (u a : ℕ) (ts : List Tree) → length ts ≡ 0 → names_in p u a (forest ts) ≡ []
none_of p u a [] e = refl
none_of p u a (t ∷ ts) e = absurd (omega (arith, e))

-- nor are there where no trees are
pub none_left : (r : Row) → length r.trees.now ≡ 0 → left r ≡ []
none_left r e = none_of r.part r.until r.start r.trees.now e

-- the last row comes first
pub left_pushed : (rows : List Row) (r : Row) → left_all (rows ++ r ∷ []) ≡ left r ++ left_all rows
left_pushed [] r = sym (append-nil (left r))
left_pushed (x ∷ rows) r = ap (λ ns. ns ++ left x) (left_pushed rows r) ∙ append_assoc (left r) (left_all rows) (left x)

pub steps_pushed : (rows : List Row) (r : Row) → steps_all (rows ++ r ∷ []) ≡ steps_left r + steps_all rows
steps_pushed [] r = omega arith
steps_pushed (x ∷ rows) r = omega (arith, steps_pushed rows r)

-- no trees stand behind the last one
pub end_is : (ts : List Tree) (b : Bool) → (b ≡ true → length ts ≡ 0) → (b ≡ false → length ts ≡ 0 → ⊥) → b ≡ is_end (forest ts)
end_is [] true p q = refl
end_is [] false p q = absurd (q refl refl)
end_is (t ∷ ts) true p q = let e : length (t ∷ ts) ≡ 0 = p refl in absurd (omega (arith, e))
end_is (t ∷ ts) false p q = refl

-- a node's own name and the rows below and behind it are what its row has
pub joined : (own a b c d found all : List Name) → (found ++ own) ++ (a ++ (b ++ (c ++ (d ++ all)))) ≡ found ++ ((own ++ (a ++ (b ++ (c ++ d)))) ++ all)
joined own a b c d found all = simp append_assoc
