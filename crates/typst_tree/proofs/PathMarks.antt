-- Which nodes on a path have diagnostics, at them or below them.
use Rattle.typst_tree.proofs.Cited.{◌≡◌, ℕ, zero, suc, ◌+◌, ◌-◌, ◌<◌, ◌≤◌, Bool, true, false, ◌||◌, nat_lt, List, ◌∷◌, length, drop, get_or, Some, if◌then◌else◌, slice_get, slice_set, refl, ap, sym, ◌∙◌, arith, [], drop_more, Head, has_any, Tree, forest, have_diagnostics, has_diagnostics, kids_of, node_at, put_at, have_others, levels_above, marked_levels, slice_get_past}
use Rattle.typst_tree.proofs.SpansAside.{over, trees_forest}
use Rattle.typst_tree.proofs.StepDown.{slice_get_is}
use Rattle.typst_tree.proofs.Marks.{have_set}
use Rattle.typst_tree.proofs.PutAt.{step, got_at, put_same}

pub or_false : (b : Bool) → (b || false) ≡ b
or_false true = refl
or_false false = refl

-- a tree has diagnostics in the node at a path's end or elsewhere
pub put_marked : (path : List ℕ) (z t u : Tree) → put_at path z t ≡ Some u → has_diagnostics u ≡ (has_diagnostics z || nat_lt 0 (marked_levels path t))
put_marked [] z t u e = let same : z ≡ u = cc in ap has_diagnostics (sym same) ∙ sym (or_false (has_diagnostics z))
put_marked (i ∷ path) z t u e =
    let s = step path i z t u e in
    let found = s.found in
    let got = got_at (kids_of t) i s.kid found in
    let own = has_any t.head.diagnostics in
    let others = have_others i (kids_of t) in
    let levels : marked_levels (i ∷ path) t ≡ levels_above (own || others) (marked_levels path s.kid) = rw found refl in
    let kids : have_diagnostics (forest (slice_set (kids_of t) i s.new)) ≡ (others || (has_diagnostics z || nat_lt 0 (marked_levels path s.kid))) =
    have_set (kids_of t) i s.new got.0 ∙ ap (λ b. others || b) (put_marked path z s.kid s.new s.puts) in
    grind arith

-- the mark of a node on a path after the exchange, as `swap_at` sets it
pub swapped_mark : (path : List ℕ) (x z t u : Tree) (levels : ℕ) (gone come was : Bool) → node_at path t ≡ Some x → put_at path z t ≡ Some u → gone ≡ has_diagnostics x → come ≡ has_diagnostics z → was ≡ has_diagnostics t → (gone ≡ true → levels ≡ marked_levels path t) → (has_any u.head.diagnostics || (come || (if gone then nat_lt 0 levels else was))) ≡ has_diagnostics u
swapped_mark path x z t u levels gone come was e p g c w l =
    let elsewhere = nat_lt 0 (marked_levels path t) in
    let before : has_diagnostics t ≡ (has_diagnostics x || elsewhere) = put_marked path x t t (put_same path x t e) in
    let here = put_marked path z t u p in
    grind arith

less_above : (b : Bool) (m : ℕ) → levels_above b m - 1 ≡ m
less_above true zero = refl
less_above false zero = refl
less_above b (suc m) = let e : suc (suc m) - 1 ≡ suc m = omega arith in e

-- one level less from the second node on
pub levels_on : (path rest : List ℕ) (i : ℕ) (t k : Tree) (h : Head) (xs : List Tree) → over h xs ≡ t → path ≡ i ∷ rest → i < length xs → k ≡ get_or xs i k → marked_levels path t - 1 ≡ marked_levels rest k
levels_on path rest i t k h xs e p n q = grind (arith, slice_get_is, trees_forest, less_above)

-- how many levels there are where the first `depth` have `levels`, and m follow
abbrev pub all_levels : ℕ → ℕ → ℕ → ℕ
all_levels depth levels zero = levels
all_levels depth levels (suc m) = depth + suc m

level_done : (b : Bool) (depth levels m : ℕ) → all_levels depth levels (levels_above b m) ≡ all_levels (depth + 1) (if b then depth + 1 else levels) m
level_done true depth levels zero = refl
level_done false depth levels zero = refl
level_done b depth levels (suc m) = let e : depth + suc (suc m) ≡ depth + 1 + suc m = omega arith in e

-- one step along a path
pub level_on : (path : List ℕ) (j : ℕ) (t k : Tree) (h : Head) (xs : List Tree) (levels : ℕ) (b : Bool) → j < length path → over h xs ≡ t → slice_get xs (get_or path j 0) ≡ Some k → b ≡ (has_any t.head.diagnostics || have_others (get_or path j 0) (kids_of t)) → all_levels j levels (marked_levels (drop j path) t) ≡ all_levels (j + 1) (if b then j + 1 else levels) (marked_levels (drop (j + 1) path) k)
level_on path j t k h xs levels b l e got is = grind (arith, trees_forest, drop_more, level_done)

-- a step that leads nowhere
pub level_off : (path : List ℕ) (j : ℕ) (t : Tree) (h : Head) (xs : List Tree) → j < length path → over h xs ≡ t → length xs ≤ get_or path j 0 → marked_levels (drop j path) t ≡ 0
level_off path j t h xs l e past = rw (drop_more path j 0 l, ← e, trees_forest, slice_get_past xs (get_or path j 0) past) refl
