-- The children of a root of markup, spans aside, and what an edit leaves of them.
use Rattle.typst_styles.proofs.Cited.{◌≡◌, ℕ, ◌+◌, ◌-◌, ◌^◌, ◌<◌, ◌≤◌, ◌⊎◌, true, List, [], ◌∷◌, ◌++◌, length, map, refl, ap, sym, subst, ◌∙◌, arith, inl, inr, append_assoc, length-append, Range, map-append, bare_head, Forest, none, more, Tree, bare, bare_forest, forest, joined, text_of, trees, joined-append, bytes_of, first_bytes, last_bytes, HasEdge, IsEdit, StartsBefore, StartsBehind, begins_plain, is_edge, bare_leaf, IsEdge, edge, joined_bare, text_bare}
use Rattle.typst_kinds.specs.declared.kind.SyntaxKind.TheVariants as kind
use Rattle.typst_tree.proofs.SpansAside.{forest_bare, trees_forest}
use Rattle.typst_styles.proofs.TokensApart.{list_length}

-- ---- bytes of trees

pub bytes_append : (xs ys : List Tree) → bytes_of (xs ++ ys) ≡ bytes_of xs + bytes_of ys
bytes_append xs ys = ap length (joined-append xs ys) ∙ length-append (joined (forest xs)) (joined (forest ys))

pub last_later : (p : List Tree) (b : Tree) (rest : List Tree) → last_bytes (p ++ b ∷ rest) ≡ last_bytes (b ∷ rest)
last_later [] b rest = refl
last_later (t ∷ []) b rest = refl
last_later (t ∷ u ∷ p) b rest = last_later (u ∷ p) b rest

pub last_append : (f n : List Tree) → last_bytes n ≤ last_bytes (f ++ n)
last_append f [] = omega arith
last_append f (t ∷ n) = omega (arith, last_later f t n)

last_small : (ts : List Tree) → last_bytes ts ≤ bytes_of ts
last_small [] = omega arith
last_small (t ∷ []) = omega (arith, list_length t [])
last_small (t ∷ u ∷ ts) = omega (arith, list_length t (u ∷ ts), last_small (u ∷ ts))

-- the last of some trees that end among others goes no further than what stands from a tree on
last_fits : (f n p : List Tree) (b : Tree) (rest : List Tree) → f ++ n ≡ p ++ b ∷ rest → last_bytes n ≤ length (text_of b) + bytes_of rest
last_fits f n p b rest e = omega (arith, ap last_bytes e, last_append f n, last_later p b rest, last_small (b ∷ rest), list_length b rest)

-- the first of some trees goes no further than the first tree that isn't one of others
first_fits : (n y : List Tree) (b : Tree) (back r : List Tree) → n ++ back ≡ y ++ b ∷ r → first_bytes n ≤ bytes_of y + length (text_of b)
first_fits [] y b back r e = omega arith
first_fits (t ∷ n) [] b back r e = let same : t ≡ b = cc in omega (arith, ap (λ v. length (text_of v)) same)
first_fits (t ∷ n) (u ∷ y) b back r e = let same : t ≡ u = cc in omega (arith, ap (λ v. length (text_of v)) same, list_length u y)

-- ---- two ways to part the same trees

-- the front of the second way is that of the first and more
pub record GoesOn (p q f g : List Tree) : Type 0 where
  pub more : List Tree
  pub front : f ≡ p ++ more
  pub back : q ≡ more ++ g

pub parted : (p q f g : List Tree) → p ++ q ≡ f ++ g → GoesOn p q f g ⊎ GoesOn f g p q
parted [] q f g e = inl (record { more = f; front = refl; back = e })
parted (t ∷ p) q [] g e = inr (record { more = t ∷ p; front = refl; back = sym e })
parted (t ∷ p) q (u ∷ f) g e = elim (parted p q f g (cc)) [
  | inl on ↦ inl (record { more = on.more; front = cc (on.front); back = on.back })
  | inr on ↦ inr (record { more = on.more; front = cc (on.front); back = on.back })
]

-- the tree b stands among the trees f
record Inside (p : List Tree) (b : Tree) (f : List Tree) : Type 0 where
  rest : List Tree
  same : f ≡ p ++ b ∷ rest

parts : (p : List Tree) (b : Tree) (r f q : List Tree) → p ++ b ∷ r ≡ f ++ q → Inside p b f ⊎ GoesOn f q p (b ∷ r)
parts p b r [] q e = inr (record { more = p; front = refl; back = sym e })
parts [] b r (g ∷ f) q e = inl (record { rest = f; same = cc })
parts (t ∷ p) b r (g ∷ f) q e = elim (parts p b r f q (cc)) [
  | inl in_it ↦ inl (record { rest = in_it.rest; same = cc (in_it.same) })
  | inr on ↦ inr (record { more = on.more; front = cc (on.front); back = on.back })
]

-- ---- the children of a root of markup, spans aside

-- a text, whose bytes can be counted, is that of a root of markup with these children
pub record IsOf (text : List ℕ) (root : Tree) (ts : List Tree) : Type 0 where
  pub whole : text ≡ text_of root
  pub few : length text ≤ 2 ^ 64 - 1
  pub kind : root.head.kind ≡ kind.Markup
  pub own : root.head.text ≡ []
  pub kids : bare_forest root.kids ≡ forest ts

pub joined_is : {text : List ℕ} {root : Tree} {ts : List Tree} → IsOf text root ts → text ≡ joined (forest ts)
joined_is {text} {root} {ts} w = w.whole ∙ (ap (λ bs. bs ++ joined root.kids) w.own ∙ (sym (joined_bare root.kids) ∙ ap joined w.kids))

pub bytes_is : {text : List ℕ} {root : Tree} {ts : List Tree} → IsOf text root ts → length text ≡ bytes_of ts
bytes_is w = ap length (joined_is w)

pub same_kids : {text one_text : List ℕ} {root : Tree} {ts us : List Tree} → IsOf text root ts → IsOf one_text root us → ts ≡ us
same_kids {ts = ts} {us = us} w v = sym (trees_forest ts) ∙ (ap trees (sym w.kids ∙ v.kids) ∙ trees_forest us)

-- ---- an edit

-- what an edit leaves of the children at the front and at the end
pub record Edited (text was_text : List ℕ) (was now : Tree) (read : Range ℕ) : Type 0 where
  pub front : List Tree
  pub old : List Tree
  pub new : List Tree
  pub back : List Tree
  pub before : IsOf was_text was (front ++ (old ++ back))
  pub after : IsOf text now (front ++ (new ++ back))
  pub starts : bytes_of front ≤ read.start
  pub begins : read.start ≤ bytes_of front + first_bytes new
  pub ends : bytes_of front + bytes_of new ≤ read.end + last_bytes new

pub bare_twice : (f : Forest) → bare_forest (bare_forest f) ≡ bare_forest f
bare_twice none = refl
bare_twice (more h ks r) = λ i. more (bare_head h) (bare_twice ks i) (bare_twice r i)

bare_bytes : (ts : List Tree) → bytes_of (map bare ts) ≡ bytes_of ts
bare_bytes ts = ap (λ f. length (joined f)) (forest_bare ts) ∙ ap length (joined_bare (forest ts))

bare_first : (ts : List Tree) → first_bytes (map bare ts) ≡ first_bytes ts
bare_first ts = grind (arith, text_bare)

bare_last : (ts : List Tree) → last_bytes (map bare ts) ≡ last_bytes ts
bare_last [] = refl
bare_last (t ∷ []) = ap length (text_bare t)
bare_last (t ∷ u ∷ ts) = bare_last (u ∷ ts)

bare_three : (xs ys zs : List Tree) → bare_forest (forest (xs ++ (ys ++ zs))) ≡ forest (map bare xs ++ (map bare ys ++ map bare zs))
bare_three xs ys zs = sym (forest_bare (xs ++ (ys ++ zs))) ∙ ap forest (simp map-append)

pub edited : {text was_text : List ℕ} {was now : Tree} {read : Range ℕ} → IsEdit text was_text was now read → Edited text was_text was now read
edited w = grind (arith, bare_three, bare_bytes, bare_first, bare_last)

-- ---- an edge among the children

plain_bare : (f : Forest) → begins_plain (bare_forest f) ≡ begins_plain f
plain_bare f = grind arith

bare_edge : (t : Tree) → is_edge t ≡ true → IsEdge (bare t)
bare_edge t e = edge (bare t) (cc (bare_leaf t, plain_bare t.kids))

edge_kids : {text : List ℕ} {root : Tree} {ts : List Tree} → IsOf text root ts → (s : HasEdge root.kids) → IsOf text root (map bare s.front ++ bare s.edge ∷ map bare s.back)
edge_kids w s = record { whole = w.whole; few = w.few; kind = w.kind; own = w.own; kids = ap bare_forest s.whole ∙ bare_three s.front (s.edge ∷ []) s.back }

-- an edge stands in both trees, behind the same trees
pub record AtFront (text was_text : List ℕ) (was now : Tree) (most at : ℕ) : Type 0 where
  pub p : List Tree
  pub b : Tree
  pub r : List Tree
  pub s : List Tree
  pub parts : IsEdge b
  pub before : IsOf was_text was (p ++ b ∷ s)
  pub after : IsOf text now (p ++ b ∷ r)
  pub within : at ≤ bytes_of p
  pub bound : at ≤ most

pub at_front : {text was_text : List ℕ} {was now : Tree} {read : Range ℕ} {at : ℕ} (w : Edited text was_text was now read) → StartsBefore now text read at → AtFront text was_text was now (bytes_of w.front) at
at_front {text} {was_text} {was} {now} w s =
    let p : List Tree = map bare s.edge.front in
    let b : Tree = bare s.edge.edge in
    let r : List Tree = map bare s.edge.back in
    let others : List Tree = w.old ++ w.back in
    let after : IsOf text now (p ++ b ∷ r) = edge_kids w.after s.edge in
    let long = bare_bytes s.edge.front in
    elim (parts p b r w.front (w.new ++ w.back) (same_kids after w.after)) [
      | inl in_it ↦
          record {
            p = p;
            b = b;
            r = r;
            s = in_it.rest ++ others;
            parts = bare_edge s.edge.edge s.edge.parts;
            before = subst (IsOf was_text was) (ap (λ ts. ts ++ others) in_it.same ∙ append_assoc p (b ∷ in_it.rest) others) w.before;
            after = after;
            within = omega (arith, s.within, long);
            bound = omega (arith, s.within, long, ap bytes_of in_it.same, bytes_append p (b ∷ in_it.rest));
          }
      | inr on ↦ absurd (omega (arith, first_fits w.new on.more b w.back r on.back, ap bytes_of on.front, bytes_append w.front on.more, s.ends, w.begins, long, ap length (text_bare s.edge.edge)))
    ]

-- an edge stands in both trees, before the same trees
pub record AtEnd (text was_text : List ℕ) (was now : Tree) (least at : ℕ) : Type 0 where
  pub xs : List Tree
  pub ys : List Tree
  pub b : Tree
  pub r : List Tree
  pub parts : IsEdge b
  pub some : 0 < length (text_of b)
  pub before : IsOf was_text was (xs ++ b ∷ r)
  pub after : IsOf text now (ys ++ b ∷ r)
  pub here : bytes_of ys + length (text_of b) ≤ at
  pub least_xs : least ≤ bytes_of xs
  pub least_ys : least ≤ bytes_of ys

regrouped : (f n back y z : List Tree) → back ≡ y ++ z → f ++ (n ++ back) ≡ (f ++ (n ++ y)) ++ z
regrouped f n back y z e = ap (λ ts. f ++ (n ++ ts)) e ∙ simp append_assoc

pub at_end : {text was_text : List ℕ} {was now : Tree} {read : Range ℕ} {at : ℕ} (w : Edited text was_text was now read) → StartsBehind now text read at → AtEnd text was_text was now (bytes_of w.front) at
at_end {text} {was_text} {was} {now} w s =
    let p : List Tree = map bare s.edge.front in
    let b : Tree = bare s.edge.edge in
    let r : List Tree = map bare s.edge.back in
    let f : List Tree = w.front in
    let long = bare_bytes s.edge.front in
    let same = ap length (text_bare s.edge.edge) in
    elim (parts p b r (f ++ w.new) w.back (same_kids (edge_kids w.after s.edge) w.after ∙ sym (append_assoc f w.new w.back))) [
      | inl in_it ↦ absurd (omega (arith, last_fits f w.new p b in_it.rest in_it.same, ap bytes_of in_it.same, bytes_append f w.new, bytes_append p (b ∷ in_it.rest), list_length b in_it.rest, s.begins, w.ends, long))
      | inr on ↦
          record {
            xs = f ++ (w.old ++ on.more);
            ys = f ++ (w.new ++ on.more);
            b = b;
            r = r;
            parts = bare_edge s.edge.edge s.edge.parts;
            some = omega (arith, s.edge.some, same);
            before = subst (IsOf was_text was) (regrouped f w.old w.back on.more (b ∷ r) on.back) w.before;
            after = subst (IsOf text now) (regrouped f w.new w.back on.more (b ∷ r) on.back) w.after;
            here = omega (arith, ap bytes_of (on.front ∙ append_assoc f w.new on.more), s.behind, long, same);
            least_xs = omega (arith, bytes_append f (w.old ++ on.more));
            least_ys = omega (arith, bytes_append f (w.new ++ on.more));
          }
    ]
