-- The fixes of a tree, found one after the other.
use Rattle.typst_fixes.proofs.Cited.{◌≡◌, ℕ, ◌+◌, ◌||◌, false, List, [], ◌∷◌, ◌++◌, length, Option, None, Some, refl, ap, sym, ◌∙◌, arith, append_assoc, append-nil, flat_map, option_map, Forest, none, more, Tree, forest, have_diagnostics, has_diagnostics, Standing, standing, left, left_all, steps_all, steps_left, Site, of_diagnostic, row, stated, stated_of, Range, inner, behind}
use Rattle.std.proofs.lemmas.Bool.{or_parts}
use Rattle.typst_kinds.specs.Diagnostic.{Diagnostic}
use Rattle.typst_kinds.specs.Head.{has_any}
use Rattle.typst_fixes.specs.declared.fixes.Fix.{Fix}
use Rattle.typst_fixes.specs.declared.fixes.Row.{Row}

-- ---- what is stated of fixes

-- of one that is added
pub pushed : (fs : List Fix) (f : Fix) → stated (fs ++ f ∷ []) ≡ stated fs ++ stated_of (Some f)
pushed [] f = append-nil (stated_of (Some f))
pushed (x ∷ fs) f = ap (λ ms. stated_of (Some x) ++ ms) (pushed fs f) ∙ sym (append_assoc (stated_of (Some x)) (stated fs) (stated_of (Some f)))

-- ---- rows

-- the last row comes first
pub left_pushed : (w : Range ℕ) (rows : List Row) (r : Row) → left_all w (rows ++ r ∷ []) ≡ left w r ++ left_all w rows
left_pushed w [] r = sym (append-nil (left w r))
left_pushed w (x ∷ rows) r = ap (λ ns. ns ++ left w x) (left_pushed w rows r) ∙ append_assoc (left w r) (left_all w rows) (left w x)

pub steps_pushed : (rows : List Row) (r : Row) → steps_all (rows ++ r ∷ []) ≡ steps_left r + steps_all rows
steps_pushed [] r = omega arith
steps_pushed (x ∷ rows) r = omega (arith, steps_pushed rows r)

none_of : (w : Range ℕ) (parent before : Option Standing) (a : ℕ) (ts : List Tree) → length ts ≡ 0 → row w parent before a (forest ts) ≡ []
none_of w parent before a [] h = refl
none_of w parent before a (t ∷ ts) h = absurd (omega (arith, h))

-- nothing is left where no trees are
pub none_left : (w : Range ℕ) (r : Row) → length r.trees.now ≡ 0 → left w r ≡ []
none_left w r h = none_of w (option_map standing r.parent) (option_map standing r.before) r.start r.trees.now h

none_own : (w : Range ℕ) (s : Site) (ds : List Diagnostic) → has_any ds ≡ false → flat_map (of_diagnostic w s) ds ≡ []
none_own w s ds h = grind arith

none_in : (w : Range ℕ) (parent before : Option Standing) (a : ℕ) (f : Forest) → have_diagnostics f ≡ false → row w parent before a f ≡ []
none_in w parent before a none h = refl
none_in w parent before a (more hd ks r) h =
    let n : Standing = record { start = a; node = record { head = hd; kids = ks } } in
    let s : Site = record { node = n; parent = parent; before = before; behind = r } in
    let b = behind a hd ks in
    let p = or_parts (has_any hd.diagnostics) (have_diagnostics ks || have_diagnostics r) h in
    let q = or_parts (have_diagnostics ks) (have_diagnostics r) p.1 in
    ap (λ xs. xs ++ (row w (Some n) None (inner a hd) ks ++ row w parent (Some n) b r)) (none_own w s hd.diagnostics p.0)
    ∙ ap (λ xs. xs ++ row w parent (Some n) b r) (none_in w (Some n) None (inner a hd) ks q.0)
    ∙ none_in w parent (Some n) b r q.1

-- a tree without errors and warnings is passed
pub past_clean : (w : Range ℕ) (parent before : Option Standing) (a : ℕ) (t : Tree) (ts : List Tree) → has_diagnostics t ≡ false
    → row w parent before a (forest (t ∷ ts)) ≡ row w parent (Some (record { start = a; node = t })) (behind a t.head t.kids) (forest ts)
past_clean w parent before a t ts h = grind (arith, or_parts, none_own, none_in)
