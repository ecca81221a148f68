-- Replacing puts the new children in place of the old ones, spans aside.
use Rattle.typst_tree.proofs.Cited.{◌≡◌, ℕ, suc, ◌+◌, ◌-◌, ◌*◌, ◌<◌, ◌≤◌, List, ◌∷◌, ◌++◌, length, take, drop, map, get_or, Option, Some, None, refl, ap, sym, ◌∙◌, arith, append_assoc, length-append, [], set, take-append-add, drop-append-add, take-append-drop, take-append-le, drop-append-le, take_at, drop_at, map-append, map-set, set_split, set-get_or, drop_split, slice_get_within, get_or_from_slice_get, Stretch, Head, bare_head, Tree, forest, joined, text_of, nodes, bare, at_child, numbered_list, front, kids_of, with_kids, middle, back, swapped, exchanged, renumbered, replaced, replaced_at, At, Reaches, slice_get, slice_range}
use Rattle.typst_tree.specs.Laws.{put_at, start_in, or_none, start_at}
use Rattle.typst_tree.proofs.SpansAside.{forest_trees, forest_bare}
use Rattle.typst_tree.proofs.Forests.{forest_set}
use Rattle.typst_tree.proofs.Numbering.{numbered_bare, joined_bare}
use Rattle.typst_tree.proofs.Stretches.{take_split}
use Rattle.typst_tree.proofs.SetAside.{aside}
use Rattle.typst_tree.proofs.AlongPath.{inside, exchange_some, exchange_none, grown, below}

pub list_bare : (file s a : ℕ) (ts : List Tree) → map bare (numbered_list file s a ts) ≡ map bare ts
list_bare file s a [] = refl
list_bare file s a (t ∷ ts) =
    λ i. numbered_bare file a (nodes t * s) t i ∷ list_bare file s (a + nodes t * s) ts i

pub renumbered_bare : (file : ℕ) (xs : List Tree) (from to : ℕ) (ns : List Tree) (w : Stretch) → w.left ≤ from → to ≤ w.right → map bare (renumbered file xs from to ns w) ≡ map bare (take from xs ++ (ns ++ drop to xs))
renumbered_bare file xs from to ns w l r =
    let parts : map bare (renumbered file xs from to ns w) ≡ map bare ((take w.left xs ++ slice_range xs w.left from) ++ (ns ++ (slice_range xs to w.right ++ drop w.right xs))) = simp (map-append, append_assoc, list_bare) in
    cc (take_split xs w.left from l, drop_split xs to w.right r)

pub exchanged_bare : (file : ℕ) (h : Head) (xs : List Tree) (from to : ℕ) (ns ys : List Tree) → to ≤ length xs → exchanged file h xs from to ns ≡ Some ys → map bare ys ≡ map bare (take from xs ++ (ns ++ drop to xs))
exchanged_bare file h xs from to [] ys w e = ap (map bare) (sym (exchange_none file h xs from to ys e))
exchanged_bare file h xs from to (n ∷ ns) ys w e =
    let x = exchange_some file h xs from to n ns ys e in
    let g = grown h xs from to _ x.window x.fits in
    let left : x.window.left ≤ from = rw (sym g.is) (omega arith) in
    let right : to ≤ x.window.right = rw (sym g.is) (omega arith) in
    ap (map bare) (sym x.is) ∙ renumbered_bare file xs from to (n ∷ ns) x.window left right

-- a node's new children, spans aside
pub swapped_bare : (file : ℕ) (h : Head) (xs : List Tree) (from to : ℕ) (new ys : List Tree) → from ≤ to → to ≤ length xs → swapped file h xs from to (slice_range xs from to) new ≡ Some ys → map bare ys ≡ map bare (take from xs ++ (new ++ drop to xs))
swapped_bare file h xs from to new ys order within e =
    let a = front (slice_range xs from to) new in
    let b = back a (slice_range xs from to) new in
    let s = aside xs new from to a b order within refl refl in
    exchanged_bare file h xs (from + a) (to - b) (middle a b new) ys s.within e ∙ s.same

pub bare_over : (t : Tree) (xs ys : List Tree) → map bare xs ≡ map bare ys → bare (with_kids t xs) ≡ bare (with_kids t ys)
bare_over t xs ys e =
    ap (λ f. record { head = bare_head t.head; kids = f }) (sym (forest_bare xs) ∙ (ap forest e ∙ forest_bare ys))

pub replaced_bare : (from to : ℕ) (new : List Tree) (t u : Tree) → Reaches [] from to t → replaced from to new t ≡ Some u → bare u ≡ bare (put_at [] from to new t)
replaced_bare from to new t u r e =
    let i = inside t u from to new e in
    ap bare (sym i.is) ∙ bare_over t i.kids (take from (kids_of t) ++ (new ++ drop to (kids_of t))) (swapped_bare i.file t.head (kids_of t) from to new i.kids r.1 r.2 i.swaps)

-- a child is changed where its element of the list is
pub changed_kid : (f : Tree → Tree) (i : ℕ) (t k : Tree) → slice_get (kids_of t) i ≡ Some k → at_child f i t ≡ with_kids t (set (kids_of t) i (f k))
changed_kid f i t k e = grind (arith, slice_get_within, get_or_from_slice_get, forest_trees, forest_set)

pub replaces_children : (path : List ℕ) (from to : ℕ) (new : List Tree) (t u : Tree) → Reaches path from to t → replaced_at path from to new t ≡ Some u → bare u ≡ bare (put_at path from to new t)
replaces_children [] from to new t u r e = replaced_bare from to new t u r e
replaces_children (i ∷ path) from to new t u r e =
    let b = below path i from to new t u r e in
    let f = put_at path from to new in
    let ih : bare b.kid' ≡ bare (f b.kid) = replaces_children path from to new b.kid b.kid' b.reaches b.replaces in
    let sets : map bare (set (kids_of t) i b.kid') ≡ map bare (set (kids_of t) i (f b.kid)) =
    map-set bare (kids_of t) i b.kid' ∙ (ap (set (map bare (kids_of t)) i) ih ∙ sym (map-set bare (kids_of t) i (f b.kid))) in
    ap bare b.is ∙ (bare_over t (set (kids_of t) i b.kid') (set (kids_of t) i (f b.kid)) sets ∙ ap bare (sym (changed_kid f i t b.kid b.found)))

pub text_bare : (t : Tree) → text_of (bare t) ≡ text_of t
text_bare t = ap (λ s. t.head.text ++ s) (joined_bare t.kids)

pub joined-append : (xs ys : List Tree) → joined (forest (xs ++ ys)) ≡ joined (forest xs) ++ joined (forest ys)
joined-append [] ys = refl
joined-append (x ∷ xs) ys = simp (append_assoc, joined-append xs ys)

pub text_over : (t : Tree) → text_of t ≡ t.head.text ++ joined (forest (kids_of t))
text_over t = ap (λ f. t.head.text ++ joined f) (sym (forest_trees t.kids))

-- the text before child i of a node, and from there on
pub text_split : (i : ℕ) (t : Tree) → text_of t ≡ (t.head.text ++ joined (forest (take i (kids_of t)))) ++ joined (forest (drop i (kids_of t)))
text_split i t =
    text_over t ∙ (ap (λ xs. t.head.text ++ joined (forest xs)) (sym (take-append-drop i (kids_of t))) ∙ (ap (λ s. t.head.text ++ s) (joined-append (take i (kids_of t)) (drop i (kids_of t))) ∙ sym (append_assoc t.head.text (joined (forest (take i (kids_of t)))) (joined (forest (drop i (kids_of t)))))))

pub text_before : (i : ℕ) (t : Tree) → take (start_in i t) (text_of t) ≡ t.head.text ++ joined (forest (take i (kids_of t)))
text_before i t =
    ap (take (start_in i t)) (text_split i t) ∙ take_at (t.head.text ++ joined (forest (take i (kids_of t)))) (joined (forest (drop i (kids_of t)))) (start_in i t) (length-append t.head.text (joined (forest (take i (kids_of t)))))

pub text_behind : (i : ℕ) (t : Tree) → drop (start_in i t) (text_of t) ≡ joined (forest (drop i (kids_of t)))
text_behind i t =
    ap (drop (start_in i t)) (text_split i t) ∙ drop_at (t.head.text ++ joined (forest (take i (kids_of t)))) (joined (forest (drop i (kids_of t)))) (start_in i t) (length-append t.head.text (joined (forest (take i (kids_of t)))))

text_put : (from to : ℕ) (new : List Tree) (t : Tree) → text_of (put_at [] from to new t) ≡ take (start_in from t) (text_of t) ++ (joined (forest new) ++ drop (start_in to t) (text_of t))
text_put from to new t =
    let parts : text_of (put_at [] from to new t) ≡ (t.head.text ++ joined (forest (take from (kids_of t)))) ++ (joined (forest new) ++ joined (forest (drop to (kids_of t)))) = simp (joined-append, append_assoc) in
    parts ∙ (λ i. sym (text_before from t) i ++ (joined (forest new) ++ sym (text_behind to t) i))

-- the text of a node with child i among it
text_around : (i : ℕ) (t k : Tree) → i < length (kids_of t) → text_of (with_kids t (set (kids_of t) i k)) ≡ (t.head.text ++ joined (forest (take i (kids_of t)))) ++ (text_of k ++ joined (forest (drop (suc i) (kids_of t))))
text_around i t k h = grind (arith, set_split, joined-append, append_assoc)

text_at : (i : ℕ) (t k : Tree) → slice_get (kids_of t) i ≡ Some k → text_of t ≡ (t.head.text ++ joined (forest (take i (kids_of t)))) ++ (text_of k ++ joined (forest (drop (suc i) (kids_of t))))
text_at i t k e =
    let n : i < length (kids_of t) = slice_get_within (kids_of t) i k e in
    let is : get_or (kids_of t) i k ≡ k = get_or_from_slice_get (kids_of t) i k k e in
    text_over t ∙ (ap (λ xs. t.head.text ++ joined (forest xs)) (sym (ap (set (kids_of t) i) (sym is) ∙ set-get_or (kids_of t) i k)) ∙ text_around i t k n)

pub start_le : (path : List ℕ) (i : ℕ) (t : Tree) → start_at path i t ≤ length (text_of t)
start_le [] i t =
    omega (arith, ap length (text_split i t), length-append (t.head.text ++ joined (forest (take i (kids_of t)))) (joined (forest (drop i (kids_of t)))), length-append t.head.text (joined (forest (take i (kids_of t)))))
start_le (j ∷ path) i t = by_kid (slice_get (kids_of t) j) refl (start_le path i)
  where
    by_kid : (o : Option Tree) → slice_get (kids_of t) j ≡ o → ((k : Tree) → start_at path i k ≤ length (text_of k)) → start_in j t + or_none (start_at path i) o ≤ length (text_of t)
    by_kid None e f =
        omega (arith, ap length (text_split j t), length-append (t.head.text ++ joined (forest (take j (kids_of t)))) (joined (forest (drop j (kids_of t)))), length-append t.head.text (joined (forest (take j (kids_of t)))))
    by_kid (Some k) e f =
        omega (arith, f k, ap length (text_at j t k e), length-append (t.head.text ++ joined (forest (take j (kids_of t)))) (text_of k ++ joined (forest (drop (suc j) (kids_of t)))), length-append t.head.text (joined (forest (take j (kids_of t)))), length-append (text_of k) (joined (forest (drop (suc j) (kids_of t)))))

-- a stretch of the middle of a text replaced
middle_put : (a x b n y : List ℕ) (s e p q : ℕ) → s ≤ length x → e ≤ length x → p ≡ length a + s → q ≡ length a + e → y ≡ take s x ++ (n ++ drop e x) → a ++ (y ++ b) ≡ take p (a ++ (x ++ b)) ++ (n ++ drop q (a ++ (x ++ b)))
middle_put a x b n y s e p q hs he ip iq is = grind (arith, take-append-add, take-append-le, drop-append-add, drop-append-le, append_assoc)

pub text_put_at : (path : List ℕ) (from to : ℕ) (new : List Tree) (t : Tree) → Reaches path from to t → text_of (put_at path from to new t) ≡ take (start_at path from t) (text_of t) ++ (joined (forest new) ++ drop (start_at path to t) (text_of t))
text_put_at [] from to new t r = text_put from to new t
text_put_at (i ∷ path) from to new t r = by_kid (slice_get (kids_of t) i) refl r (text_put_at path from to new)
  where
    by_kid : (o : Option Tree) → slice_get (kids_of t) i ≡ o → At (Reaches path from to) o →
        ((k : Tree) → Reaches path from to k → text_of (put_at path from to new k) ≡ take (start_at path from k) (text_of k) ++ (joined (forest new) ++ drop (start_at path to k) (text_of k))) →
        text_of (put_at (i ∷ path) from to new t) ≡ take (start_in i t + or_none (start_at path from) o) (text_of t) ++ (joined (forest new) ++ drop (start_in i t + or_none (start_at path to) o) (text_of t))
    by_kid None e r f = absurd r
    by_kid (Some k) e r f =
        let long : length (t.head.text ++ joined (forest (take i (kids_of t)))) ≡ start_in i t = length-append t.head.text (joined (forest (take i (kids_of t)))) in
        let put = middle_put (t.head.text ++ joined (forest (take i (kids_of t)))) (text_of k) (joined (forest (drop (suc i) (kids_of t)))) (joined (forest new)) (text_of (put_at path from to new k)) (start_at path from k) (start_at path to k) (start_in i t + start_at path from k) (start_in i t + start_at path to k) (start_le path from k) (start_le path to k) (omega (arith, long)) (omega (arith, long)) (f k r) in
        ap text_of (changed_kid (put_at path from to new) i t k e) ∙ (text_around i t (put_at path from to new k) (slice_get_within (kids_of t) i k e) ∙ (put ∙ (λ j. take (start_in i t + start_at path from k) (sym (text_at i t k e) j) ++ (joined (forest new) ++ drop (start_in i t + start_at path to k) (sym (text_at i t k e) j)))))

pub replaces_text : (path : List ℕ) (from to : ℕ) (new : List Tree) (t u : Tree) → Reaches path from to t → replaced_at path from to new t ≡ Some u → text_of u ≡ take (start_at path from t) (text_of t) ++ (joined (forest new) ++ drop (start_at path to t) (text_of t))
replaces_text path from to new t u r e =
    sym (text_bare u) ∙ (ap text_of (replaces_children path from to new t u r e) ∙ (text_bare (put_at path from to new t) ∙ text_put_at path from to new t r))
