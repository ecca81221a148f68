-- What is left of a search for what is shown (for private clauses).
use Rattle.std.specs.Prelude.{◌≡◌, ℕ, ◌+◌, List, [], ◌∷◌, ◌++◌, max, map, if◌then◌else◌}
use Rattle.typst_tree.specs.Tree.{Forest, none, more, forest}
use Rattle.typst_features.specs.Problems.{Reported, reported}
use Rattle.typst_features.specs.Shown.{Inside, is_error, is_swallowed, row_in, swallows_to}
use Rattle.typst_features.specs.declared.typing.Row.{Row}
use Rattle.typst_features.specs.declared.typing.Shown.{Shown}

-- an error, unless it is in what is swallowed up to a byte
abbrev pub unless_before : ℕ → Reported → List Reported
unless_before byte p = if is_swallowed byte p.range then [] else p ∷ []

-- what is shown of problems, where errors are hidden up to one byte, and after the next one up to another
abbrev pub shown_from : ℕ → ℕ → List Inside → List Reported
shown_from hidden next [] = []
shown_from hidden next (p ∷ ps) =
    if is_error p.problem.diagnostic then unless_before hidden p.problem ++ shown_from (max hidden next) (swallows_to p) ps else p.problem ∷ shown_from hidden next ps

-- what is shown so far, and of problems to come
abbrev pub told : Shown → List Inside → List Reported
told s ps = map reported s.problems.items ++ shown_from s.hidden_to s.next ps

-- a problem is taken, whatever comes after it
abbrev pub Takes : Shown → Shown → List Inside → Type 0
Takes old new taken = (ps : List Inside) → told new ps ≡ told old (taken ++ ps)

-- the problems that are left in a row
abbrev pub left : Row → List Inside
left r = row_in r.end r.start (forest r.trees.now)

-- the problems that are left in rows, of which the last one comes first
abbrev pub left_all : List Row → List Inside
left_all [] = []
left_all (r ∷ rs) = left_all rs ++ left r

-- how many steps some trees take at most
abbrev pub steps : Forest → ℕ
steps none = 0
steps (more h ks r) = 2 + (steps ks + steps r)

-- how many steps a row takes at most
abbrev pub steps_left : Row → ℕ
steps_left r = 1 + steps (forest r.trees.now)

-- how many steps some rows take at most
abbrev pub steps_all : List Row → ℕ
steps_all [] = 0
steps_all (r ∷ rs) = steps_all rs + steps_left r
