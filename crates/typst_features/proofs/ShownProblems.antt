-- What is shown of problems, one after the other.
use Rattle.typst_features.proofs.Cited.{◌≡◌, ℕ, ◌+◌, ◌<◌, ◌||◌, max, false, List, [], ◌∷◌, ◌++◌, length, drop, get_or, Option, refl, ap, sym, ◌∙◌, arith, append_assoc, append-nil, drop_more, Forest, none, more, Tree, forest, saturated, text_of, have_diagnostics, has_diagnostics, inner, behind, about, or_parts, Diagnostic, has_any, Inside, hidden_to, own_in, row_in, shown_after, swallowed_to, swallows_to}
use Rattle.typst_kinds.specs.Span.{Bytes}
use Rattle.typst_features.specs.ShownRows.{Takes, left, left_all, shown_from, steps_all, steps_left, told}
use Rattle.typst_features.specs.declared.typing.Row.{Row}
use Rattle.typst_features.specs.declared.typing.Shown.{Shown}

-- how far the last error swallows
abbrev next_of : List Inside → ℕ
next_of [] = 0
next_of (last ∷ before) = swallows_to last

further : (before : List Inside) → max (hidden_to before) (next_of before) ≡ swallowed_to before
further before = grind arith

-- errors are hidden by two bytes as they are by those before them
from_after : (before ps : List Inside) → shown_from (hidden_to before) (next_of before) ps ≡ shown_after before ps
from_after before [] = refl
from_after before (p ∷ ps) =
    let later : shown_from (max (hidden_to before) (next_of before)) (swallows_to p) ps ≡ shown_after (p ∷ before) ps =
    ap (λ h. shown_from h (swallows_to p) ps) (further before) ∙ from_after (p ∷ before) ps in
    rw (later, from_after before ps) refl

pub from_start : (ps : List Inside) → shown_from 0 0 ps ≡ shown_after [] ps
from_start ps = from_after [] ps

-- a node's length counts up to the largest usize, as places after it do
pub about_saturated : (a n : ℕ) (sub : Option Bytes) → about a (saturated n) sub ≡ about a n sub
about_saturated a n sub = grind arith

-- one more problem of a node is taken
pub takes_more : (old mid new : Shown) (e a n : ℕ) (ds : List Diagnostic) (whole : List Inside) (i : ℕ) (d : Diagnostic) → i < length ds → ((ps : List Inside) → told mid (own_in e a n (drop i ds) ++ ps) ≡ told old (whole ++ ps))
    → Takes mid new (record { problem = record { range = about a n (get_or ds i d).sub_range; diagnostic = get_or ds i d }; end = e } ∷ [])
    → (ps : List Inside) → told new (own_in e a n (drop (i + 1) ds) ++ ps) ≡ told old (whole ++ ps)
takes_more old mid new e a n ds whole i d within before taken ps = grind (arith, drop_more)

-- the last row comes first
pub left_pushed : (rows : List Row) (r : Row) → left_all (rows ++ r ∷ []) ≡ left r ++ left_all rows
left_pushed [] r = sym (append-nil (left r))
left_pushed (x ∷ rows) r = ap (λ ns. ns ++ left x) (left_pushed rows r) ∙ append_assoc (left r) (left_all rows) (left x)

pub steps_pushed : (rows : List Row) (r : Row) → steps_all (rows ++ r ∷ []) ≡ steps_left r + steps_all rows
steps_pushed [] r = omega arith
steps_pushed (x ∷ rows) r = omega (arith, steps_pushed rows r)

none_of : (e a : ℕ) (ts : List Tree) → length ts ≡ 0 → row_in e a (forest ts) ≡ []
none_of e a [] h = refl
none_of e a (t ∷ ts) h = absurd (omega (arith, h))

-- nothing is left where no trees are
pub none_left : (r : Row) → length r.trees.now ≡ 0 → left r ≡ []
none_left r h = none_of r.end r.start r.trees.now h

none_own : (e a n : ℕ) (ds : List Diagnostic) → has_any ds ≡ false → own_in e a n ds ≡ []
none_own e a n ds h = grind arith

none_in : (e a : ℕ) (f : Forest) → have_diagnostics f ≡ false → row_in e a f ≡ []
none_in e a none h = refl
none_in e a (more hd ks r) h =
    let t : Tree = record { head = hd; kids = ks } in
    let b = behind a hd ks in
    let p = or_parts (has_any hd.diagnostics) (have_diagnostics ks || have_diagnostics r) h in
    let q = or_parts (have_diagnostics ks) (have_diagnostics r) p.1 in
    ap (λ xs. xs ++ (row_in b (inner a hd) ks ++ row_in e b r)) (none_own e a (length (text_of t)) hd.diagnostics p.0)
    ∙ ap (λ xs. xs ++ row_in e b r) (none_in b (inner a hd) ks q.0)
    ∙ none_in e b r q.1

-- a tree without errors and warnings is passed
pub past_clean : (e a : ℕ) (t : Tree) (ts : List Tree) → has_diagnostics t ≡ false → row_in e a (forest (t ∷ ts)) ≡ row_in e (behind a t.head t.kids) (forest ts)
past_clean e a t ts h = grind (arith, or_parts, none_own, none_in)
