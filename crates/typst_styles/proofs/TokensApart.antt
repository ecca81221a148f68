-- The tokens on one side of an edge don't depend on what stands on the other.
use Rattle.typst_styles.proofs.Cited.{◌≡◌, ℕ, ◌+◌, ◌-◌, ◌^◌, ◌≤◌, List, [], ◌∷◌, ◌++◌, length, map, Option, None, refl, ap, sym, subst, ◌∙◌, arith, inl, inr, Range, nat_tests, map-append, Forest, none, more, Tree, forest, joined, text_of, Tag, past, passed, tree_of, within, after, below, role_of, is_end, Context, style_of, lines, touching, moved, Style, Token, spanned, first_tag, IsApart, IsEdge, before_edge}
use Rattle.typst_highlight.specs.declared.context.Context.{Context as Around}
use Rattle.typst_highlight.proofs.MovedRows.{Counted, IsMoved, Moved, MovedPlace, behind_edge, counted_below, counted_past, moved_later, moved_tag, moved_within, row_length, tree_length}
use Rattle.typst_styles.proofs.EachToken.{Between, IsBetween, each_both, piece, piece_between, touching_each}
use Rattle.typst_styles.proofs.TokensByWalk.{of_kids, of_later, of_tree, own_piece, shown, tag_by}
use Rattle.typst_styles.proofs.TokensTouching.{aside, behind_others, touching_append}

-- ---- where the tokens of trees are

pub shown_between : (b e : ℕ) (c : Around) (u : Option Tag) (x : Context) (f : Forest) → b ≤ c.offset → b ≤ 2 ^ 64 - 1 → c.offset + length (joined f) ≤ e → Between b e (shown c u x f)
shown_between b e c u x none l k m = tt
shown_between b e c u x (more h ks r) l k m =
    let t : Tree = tree_of h ks in
    let total = row_length h ks r in
    let whole = tree_length t in
    each_both (IsBetween b e) (of_tree c u x t r) (of_later c u x t r)
    (each_both (IsBetween b e) (own_piece c u x t r) (of_kids c u x t r)
    (piece_between b e (style_of (tag_by c u t r) (role_of x h.kind (is_end r))) c.offset h.text l (omega (arith, total, m)))
    (shown_between b e (within c t r) (tag_by c u t r) (below x h.kind) ks (omega (arith, l, k)) k (omega (arith, total, m))))
    (shown_between b e (past c t (passed c t r)) u (after x h.kind) r (omega (arith, l, k)) k (omega (arith, total, whole, m)))

-- ---- before an edge

ends_same : (front : List Tree) (b : Tree) (xs ys : List Tree) → is_end (forest (front ++ b ∷ xs)) ≡ is_end (forest (front ++ b ∷ ys))
ends_same [] b xs ys = refl
ends_same (t ∷ front) b xs ys = refl

pub list_length : (t : Tree) (ts : List Tree) → length (joined (forest (t ∷ ts))) ≡ length (text_of t) + length (joined (forest ts))
list_length t ts = omega (arith, row_length t.head t.kids (forest ts), tree_length t)

-- what is shown before an edge is the same, whatever stands behind it
pub shown_before : (range : Range ℕ) (c : Around) (u : Option Tag) (x : Context) (front : List Tree) (b : Tree) (xs ys : List Tree) → IsEdge b → range.end ≤ c.offset + length (joined (forest front)) → range.end ≤ 2 ^ 64 - 1
    → touching range (shown c u x (forest (front ++ b ∷ xs))) ≡ touching range (shown c u x (forest (front ++ b ∷ ys)))
shown_before range c u x [] b xs ys w l m =
    let begun : (f : Forest) → touching range (shown c u x f) ≡ [] =
    λ f. aside range range.end (c.offset + length (joined f)) (shown c u x f) (shown_between range.end (c.offset + length (joined f)) c u x f (omega (arith, l)) m (omega arith)) (inl (omega arith)) in
    begun (forest (b ∷ xs)) ∙ sym (begun (forest (b ∷ ys)))
shown_before range c u x (t ∷ front) b xs ys w l m =
    let q : Forest = forest (front ++ b ∷ xs) in
    let r : Forest = forest (front ++ b ∷ ys) in
    let apart : IsApart c t q r = before_edge c t front b xs ys w in
    let ends = ends_same front b xs ys in
    let mine : of_tree c u x t q ≡ of_tree c u x t r =
    λ i. piece (style_of (first_tag (spanned (apart.own i)) u) (role_of x t.head.kind (ends i))) c.offset t.head.text ++ shown (apart.below i) (first_tag (spanned (apart.own i)) u) (below x t.head.kind) t.kids in
    let others : touching range (of_later c u x t q) ≡ touching range (of_later c u x t r) =
    shown_before range (past c t (passed c t q)) u (after x t.head.kind) front b xs ys w (omega (arith, l, m, list_length t front)) m
    ∙ ap (λ z. touching range (shown z u (after x t.head.kind) r)) apart.later in
    touching_append range (of_tree c u x t q) (of_later c u x t q) ∙ ((λ i. touching range (mine i) ++ others i) ∙ sym (touching_append range (of_tree c u x t r) (of_later c u x t r)))

-- ---- behind some trees

-- what is round the trees q behind the trees xs
abbrev pub round : Around → List Tree → List Tree → Around
round c [] q = c
round c (t ∷ xs) q = round (past c t (passed c t (forest (xs ++ q)))) xs q

abbrev pub names_after : Context → List Tree → Context
names_after x [] = x
names_after x (t ∷ xs) = names_after (after x t.head.kind) xs

-- of trees that end by the range's start only what follows them is touched
pub shown_behind : (range : Range ℕ) (c : Around) (u : Option Tag) (x : Context) (xs q : List Tree) → c.offset + length (joined (forest xs)) ≤ range.start
    → touching range (shown c u x (forest (xs ++ q))) ≡ touching range (shown (round c xs q) u (names_after x xs) (forest q))
shown_behind range c u x [] q l = refl
shown_behind range c u x (t ∷ xs) q l =
    let r : Forest = forest (xs ++ q) in
    let total = list_length t xs in
    let whole = tree_length t in
    let inside : Between 0 range.start (of_kids c u x t r) = shown_between 0 range.start (within c t r) (tag_by c u t r) (below x t.head.kind) t.kids (omega arith) (omega arith) (omega (arith, l, total, whole)) in
    let first : Between 0 range.start (of_tree c u x t r) =
    each_both (IsBetween 0 range.start) (own_piece c u x t r) (of_kids c u x t r) (piece_between 0 range.start (style_of (tag_by c u t r) (role_of x t.head.kind (is_end r))) c.offset t.head.text (omega arith) (omega (arith, l, total, whole))) inside in
    behind_others range (of_tree c u x t r) (of_later c u x t r) (aside range 0 range.start (of_tree c u x t r) first (inr (omega arith)))
    ∙ shown_behind range (past c t (passed c t r)) u (after x t.head.kind) xs q (omega (arith, l, total))

-- what is round trees is the same, further on, except for the last leaves
pub record Follows (c d : Around) (n : ℕ) : Type 0 where
  pub parent : d.parent ≡ c.parent
  pub outer : d.outer ≡ c.outer
  pub ahead : d.ahead ≡ c.ahead
  pub offset : d.offset ≡ c.offset + n

pub round_follows : (c : Around) (xs q : List Tree) → c.offset + length (joined (forest xs)) ≤ 2 ^ 64 - 1 → Follows c (round c xs q) (length (joined (forest xs)))
round_follows c [] q l = record { parent = refl; outer = refl; ahead = refl; offset = omega arith }
round_follows c (t ∷ xs) q l =
    let total = list_length t xs in
    let w = round_follows (past c t (passed c t (forest (xs ++ q)))) xs q (omega (arith, l, total)) in
    grind arith

-- ---- tokens that are moved

lines_moved : (m n k a b : ℕ) (s : Style) (bs : List ℕ) → m ≤ a → b + m ≡ a + n → lines s b k bs ≡ map (moved m n) (lines s a k bs)
lines_moved m n k a b s [] l e = grind (arith, nat_tests)
lines_moved m n k a b s (z ∷ bs) l e =
    grind (arith, nat_tests, map-append, lines_moved m n 0 (a + k + 1) (b + k + 1) s bs (omega arith) (omega arith), lines_moved m n (k + 1) a b s bs l e)

piece_moved : (m n a b : ℕ) (o : Option Style) (bs : List ℕ) → m ≤ a → b + m ≡ a + n → piece o b bs ≡ map (moved m n) (piece o a bs)
piece_moved m n a b o bs l e = grind (arith, lines_moved)

-- trees at another place with the same round them are shown alike
pub shown_moved : (m n : ℕ) (c d : Around) (u : Option Tag) (x : Context) (f : Forest) → Moved m n c d → Counted c d f → m ≤ c.offset → shown d u x f ≡ map (moved m n) (shown c u x f)
shown_moved m n c d u x none w b l = refl
shown_moved m n c d u x (more h ks r) w b l =
    let t : Tree = tree_of h ks in
    let role = role_of x h.kind (is_end r) in
    let total = row_length h ks r in
    let whole = tree_length t in
    let same : tag_by d u t r ≡ tag_by c u t r = ap (λ z. first_tag (spanned z) u) (moved_tag m n c d t r w b) in
    let own : own_piece d u x t r ≡ map (moved m n) (own_piece c u x t r) = ap (λ z. piece (style_of z role) d.offset h.text) same ∙ piece_moved m n c.offset d.offset (style_of (tag_by c u t r) role) h.text l w.place.moved in
    let kids : of_kids d u x t r ≡ map (moved m n) (of_kids c u x t r) =
    ap (λ z. shown (within d t r) z (below x h.kind) ks) same
    ∙ shown_moved m n (within c t r) (within d t r) (tag_by c u t r) (below x h.kind) ks (moved_within m n c d t r w b) (counted_below c d t r r b) (omega (arith, l, b.here, total)) in
    let later : of_later d u x t r ≡ map (moved m n) (of_later c u x t r) =
    shown_moved m n (past c t (passed c t r)) (past d t (passed d t r)) u (after x h.kind) r (moved_later m n c d t r w b) (counted_past c d t (passed c t r) (passed d t r) r b) (omega (arith, l, b.here, total, whole)) in
    simp map-append (λ i. (own i ++ kids i) ++ later i)

-- ---- what a moved range touches

-- the second range is the first one, moved
pub record MovedRange (m n : ℕ) (old new : Range ℕ) : Type 0 where
  pub start : new.start + m ≡ old.start + n
  pub end : new.end + m ≡ old.end + n

pub touching_moved : (m n e : ℕ) (old new : Range ℕ) (ts : List Token) → MovedRange m n old new → Between m e ts → e ≤ 2 ^ 64 - 1 → e - m + n ≤ 2 ^ 64 - 1 → touching new (map (moved m n) ts) ≡ map (moved m n) (touching old ts)
touching_moved m n e old new [] w p b g = refl
touching_moved m n e old new (t ∷ ts) w p b g = grind (arith, nat_tests, touching_moved m n e old new ts w p.1 b g)

-- ---- behind an edge

-- a tree behind others ends by the range's start
pub record IsPast (c : Around) (xs s : List Tree) (b : Tree) (range : Range ℕ) : Type 0 where
  pub ended : c.offset + (length (joined (forest xs)) + length (text_of b)) ≤ range.start
  pub counted : c.offset + (length (joined (forest xs)) + (length (text_of b) + length (joined (forest s)))) ≤ 2 ^ 64 - 1

-- tokens are others, moved, and these are between two bytes
pub record AreMoved (m n e : ℕ) (old new : List Token) : Type 0 where
  pub same : new ≡ map (moved m n) old
  pub between : Between m e old
  pub counted : e ≤ 2 ^ 64 - 1
  pub counted_moved : e - m + n ≤ 2 ^ 64 - 1

-- what is shown behind an edge is the same, moved, whatever stands before it
pub shown_after : (c : Around) (u : Option Tag) (x : Context) (xs ys : List Tree) (b : Tree) (s : List Tree) (old new : Range ℕ)
    → IsEdge b → c.ahead ≡ None → names_after x xs ≡ names_after x ys → IsPast c xs s b old → IsPast c ys s b new
    → MovedRange (c.offset + length (joined (forest xs))) (c.offset + length (joined (forest ys))) old new
    → AreMoved (c.offset + length (joined (forest xs))) (c.offset + length (joined (forest ys))) (c.offset + (length (joined (forest xs)) + (length (text_of b) + length (joined (forest s))))) (touching old (shown c u x (forest (xs ++ b ∷ s)))) (touching new (shown c u x (forest (ys ++ b ∷ s))))
shown_after c u x xs ys b s old new w nothing names p q g =
    let m : ℕ = c.offset + length (joined (forest xs)) in
    let n : ℕ = c.offset + length (joined (forest ys)) in
    let e : ℕ = c.offset + (length (joined (forest xs)) + (length (text_of b) + length (joined (forest s)))) in
    let one : Around = round c xs (b ∷ s) in
    let two : Around = round c ys (b ∷ s) in
    let r : Forest = forest s in
    let row = row_length b.head b.kids r in
    let tree = tree_length b in
    let first = round_follows c xs (b ∷ s) (omega (arith, p.counted)) in
    let second = round_follows c ys (b ∷ s) (omega (arith, q.counted)) in
    let place : MovedPlace m n one two = record {
      same_parent = second.parent ∙ sym first.parent;
      same_outer = second.outer ∙ sym first.outer;
      moved = omega (arith, first.offset, second.offset);
      moved_ahead = subst (λ z. IsMoved m n z two.ahead) (sym (first.ahead ∙ nothing)) (subst (λ z. IsMoved m n None z) (sym (second.ahead ∙ nothing)) tt);
    } in
    let room : Counted one two (more b.head b.kids r) = record {
      here = omega (arith, first.offset, p.counted, row, tree);
      there = omega (arith, second.offset, q.counted, row, tree);
    } in
    let far : Around = past one b (passed one b r) in
    let near : Around = past two b (passed two b r) in
    let still : Moved m n far near = behind_edge m n one two b r place room w in
    let left : Counted far near r = counted_past one two b (passed one b r) (passed two b r) r room in
    let y : Context = after (names_after x xs) b.head.kind in
    let alike : shown near u y r ≡ map (moved m n) (shown far u y r) = shown_moved m n far near u y r still left (omega (arith, first.offset, p.counted, tree)) in
    let there : Between m e (shown far u y r) =
    shown_between m e far u y r (omega (arith, first.offset, p.counted, tree)) (omega (arith, p.counted)) (omega (arith, first.offset, p.counted, tree)) in
    let old_part : touching old (shown c u x (forest (xs ++ b ∷ s))) ≡ touching old (shown far u y r) =
    shown_behind old c u x xs (b ∷ s) (omega (arith, p.ended)) ∙ shown_behind old one u (names_after x xs) (b ∷ []) s (omega (arith, first.offset, p.ended, list_length b [])) in
    let new_part : touching new (shown c u x (forest (ys ++ b ∷ s))) ≡ touching new (shown near u y r) =
    shown_behind new c u x ys (b ∷ s) (omega (arith, q.ended))
    ∙ (shown_behind new two u (names_after x ys) (b ∷ []) s (omega (arith, second.offset, q.ended, list_length b []))
    ∙ ap (λ z. touching new (shown near u (after z b.head.kind) r)) (sym names)) in
    record {
      same = new_part ∙ (ap (touching new) alike ∙ (touching_moved m n e old new (shown far u y r) g there p.counted (omega (arith, q.counted)) ∙ ap (map (moved m n)) (sym old_part)));
      between = subst (Between m e) (sym old_part) (touching_each (IsBetween m e) (IsBetween m e) old (λ t is hit. is) (shown far u y r) there);
      counted = p.counted;
      counted_moved = omega (arith, q.counted);
    }
