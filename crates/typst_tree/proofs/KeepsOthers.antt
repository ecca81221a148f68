-- Replacing keeps the children that are neither taken out nor renumbered.
use Rattle.typst_tree.proofs.Cited.{◌≡◌, ℕ, ◌+◌, ◌-◌, ◌≤◌, List, ◌∷◌, ◌++◌, length, take, drop, Option, Some, None, refl, ap, sym, ◌∙◌, arith, append_assoc, length-append, [], slice_range, Head, Tree, numbered_list, front, kids_of, with_kids, back, exchanged, replaced, Reaches, touched, touched_by, Keeps}
use Rattle.std.proofs.lemmas.List.{take_at, drop_at, length-take-le, length-drop}
use Rattle.typst_tree.proofs.SpansAside.{trees_forest}
use Rattle.typst_tree.proofs.SetAside.{aside}
use Rattle.typst_tree.proofs.AlongPath.{inside, exchange_some, exchange_none, grown}

-- the ends of the list xs where its middle l..r was replaced
pub record Ends (xs ys : List Tree) (l r : ℕ) : Type 0 where
  pub before : take l ys ≡ take l xs
  pub behind : drop (length ys - (length xs - r)) ys ≡ drop r xs

ends : (xs ys m : List Tree) (l r : ℕ) → l ≤ length xs → r ≤ length xs → ys ≡ take l xs ++ (m ++ drop r xs) → Ends xs ys l r
ends xs ys m l r lx rx e =
    let long : length (take l xs) ≡ l = length-take-le l xs lx in
    let all : length ys ≡ length (take l xs ++ m) + length (drop r xs) =
    ap length (e ∙ sym (append_assoc (take l xs) m (drop r xs))) ∙ length-append (take l xs ++ m) (drop r xs) in
    grind (arith, take_at, append_assoc, drop_at, length-drop)

unfoldable pub EndsAt : Option (ℕ × ℕ) → List Tree → List Tree → Type 0
EndsAt None xs ys = ⊥
EndsAt (Some p) xs ys = Ends xs ys p.0 p.1

pub exchanged_ends : (file : ℕ) (h : Head) (xs : List Tree) (from to : ℕ) (ns ys : List Tree) → from ≤ to → to ≤ length xs → exchanged file h xs from to ns ≡ Some ys → EndsAt (touched_by h xs from to ns) xs ys
unfolding EndsAt
exchanged_ends file h xs from to [] ys o w e = ends xs ys [] from to (omega arith) w (sym (exchange_none file h xs from to ys e))
exchanged_ends file h xs from to (n ∷ ns) ys o w e =
    let x = exchange_some file h xs from to n ns ys e in
    let g = grown h xs from to _ x.window x.fits in
    let left : x.window.left ≤ length xs = rw (sym g.is) (omega arith) in
    let right : x.window.right ≤ length xs = rw (sym g.is) (omega arith) in
    rw (x.fits) (ends xs ys (numbered_list file x.window.stride x.window.start (slice_range xs x.window.left from ++ ((n ∷ ns) ++ slice_range xs to x.window.right))) x.window.left x.window.right left right (sym x.is))

kept_at : (p : Option (ℕ × ℕ)) (t : Tree) (ys : List Tree) → EndsAt p (kids_of t) ys → Keeps p t (with_kids t ys)
unfolding EndsAt
kept_at p t ys e = grind (arith, trees_forest)

pub replaced_keeps : (from to : ℕ) (new : List Tree) (t u : Tree) → Reaches [] from to t → replaced from to new t ≡ Some u → Keeps (touched from to new t) t u
replaced_keeps from to new t u r e =
    let i = inside t u from to new e in
    let a = front (slice_range (kids_of t) from to) new in
    let b = back a (slice_range (kids_of t) from to) new in
    let s = aside (kids_of t) new from to a b r.1 r.2 refl refl in
    grind (arith, kept_at, exchanged_ends)
