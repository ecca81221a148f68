-- The law of an edit inside a block, for whatever the language can say.
use Rattle.typst_edits.proofs.Cited.{◌≡◌, ℕ, suc, ◌+◌, ◌-◌, ◌≤◌, inl, inr, Bool, true, false, ◌&&◌, if◌then◌else◌, nat_le, List, [], ◌∷◌, ◌++◌, length, take, drop, length-append, length-take, length-drop, append_assoc, refl, ap, sym, ◌∙◌, subst, arith, ◌<◌, zero, max, nat_lt, map, Option, Some, None, take-append-le, drop-map, drop-append-le, SyntaxKind, is_error, Head, inner_head, Tree, forest, trees_forest, Point, point_of, gap_of, NodeChange, first_changed, without_parens, is_delimited, in_parens, Shape, shaped, after_shape, hinted, seen, is_sign, ends_with, renamed_last, parens_renamed, after_change, stays, turns_wrong, is_not, renamed, unparened, keeps, holds, under, Deep, fill, Hole, plug, stub, between_parens, changed_deep, first_hole, change_hole, in_node, in_nodes, after_nodes, wrap_in, wrap_past, wrap_hole, Place, moved, Ask, SameIn, Outcome, Meaning, less, joined, followed, answered, turns, as_last, bound, repeated, before, reshaped, wrapped, nestings, nesting, grown, is_more, growths, growing, Framed, Backs, Within, same_in-shift, same_in-first, same_in-second, moved-sum, length-less, Spot, around, Fits, unit_at, block_head, then_spot, after_spot, valued, rehole, flat_map, ltb-true, Begin, and-second, grew, turns-enough, Spots, joined_spots, goes, last_spot, turns_spots, repeated_spots, reshaped_spot, wrapped_spot, nestings_spots, nesting_spots, grown_spot, growths_spots, growing_spots, drop-append-add, length-hinted, if-true, if-false, changed, Seen, take-append-add, shape-counts, backs-turns, tidy-nestings, leb-false, framed-turns, framed-nestings, grew-asks}
use Rattle.typst_edits.specs.Hole.Deep.{bare}
use Rattle.typst_edits.specs.Hole.{top}
use Rattle.typst_language.proofs.Within.{if-same, nest, nestings-enough, growths-enough, Enough, enough-grew, grown-taken}
use Rattle.typst_tree.proofs.Stretches.{le_from as le-is}
use Rattle.typst_edits.proofs.Every.{Every, every-map, every-if, every-by, every-append, every-flat, every-any}
use Rattle.typst_edits.proofs.Outcomes.{head-fill, then-around, after-around, same-outcome, seen-plug}
use Rattle.typst_kinds.specs.declared.kind.SyntaxKind.TheVariants as kind

-- ---- a hole in what several nodes become

-- All except the first k nodes become something else.
abbrev pub wrap_nodes : Shape → ℕ → List Tree → List Tree
wrap_nodes shape k ts = take k ts ++ shaped shape (drop k ts)

-- No error stands there.
abbrev pub Solid : Deep → Head → Type 0
Solid d h = is_error (top d h).kind ≡ false

-- ---- the first node changes

-- the hole of the changed nodes
record Changes (change : NodeChange) (h : Head) (left : List Tree) (d : Deep) (right : List Tree) (g : Hole) : Type 0 where
  nodes : (x : Tree) → x.head ≡ h → first_changed change (left ++ fill d x ∷ right) ≡ plug g x
  solid : Solid g.deep h
  state : (x y : Tree) (s : Point) → x.head ≡ h → y.head ≡ h → after_change change (left ++ fill d x ∷ right) s ≡ after_change change (left ++ fill d y ∷ right) s
  few : (x : Tree) (s : Point) (n : ℕ) → x.head ≡ h → s.empties ≤ length right → (after_change change (left ++ fill d x ∷ right) s).empties ≤ length g.right

first-more : (change : NodeChange) (t : Tree) (ts us : List Tree) → first_changed change ((t ∷ ts) ++ us) ≡ first_changed change (t ∷ ts) ++ us
first-more stays t ts us = refl
first-more (turns_wrong message) t ts us = refl
first-more (is_not thing) t ts us = refl
first-more (renamed kind) t ts us = refl
first-more unparened t ts us = refl

after-more : (change : NodeChange) (t : Tree) (ts : List Tree) (u : Tree) (us : List Tree) (s : Point) → after_change change ((t ∷ ts) ++ u ∷ us) s ≡ s
after-more change t [] u us s = refl
after-more change t (v ∷ ts) u us s = refl

changes-more : (change : NodeChange) (h : Head) (t : Tree) (left : List Tree) (d : Deep) (right : List Tree) → Solid d h → Changes change h (t ∷ left) d right (record { left = first_changed change (t ∷ left); deep = d; right = right })
changes-more change h t left d right solid = grind (arith, first-more, after-more)

first-is : (change : NodeChange) (t : Tree) (ts : List Tree) → first_changed change (t ∷ ts) ≡ changed change t ∷ ts
first-is stays t ts = refl
first-is (turns_wrong message) t ts = refl
first-is (is_not thing) t ts = refl
first-is (renamed kind) t ts = refl
first-is unparened t ts = refl

-- The changed node is the other, with the same in its hole.
record Turns (change : NodeChange) (h : Head) (d e : Deep) : Type 0 where
  node : (x : Tree) → x.head ≡ h → changed change (fill d x) ≡ fill e x
  solid : Solid e h

changes-first : (change : NodeChange) (h : Head) (d e : Deep) (right : List Tree) → Solid d h → Turns change h d e → Changes change h [] d right (first_hole right e)
changes-first change h d e right solid t = grind arith

-- ---- parens in math

-- Only the heads of the nodes say whether they are between parens.
sign-head : (c : ℕ) (t u : Tree) → t.head ≡ u.head → is_sign c t ≡ is_sign c u
sign-head c t u e = ap (λ (a : Head). is_sign c (record { head = a; kids = forest [] })) e

ends-head : (c : ℕ) (left : List Tree) (t u : Tree) (right : List Tree) → t.head ≡ u.head → ends_with c (left ++ t ∷ right) ≡ ends_with c (left ++ u ∷ right)
ends-head c [] t u [] e = sign-head c t u e
ends-head c [] t u (v ∷ right) e = refl
ends-head c (v ∷ []) t u right e = ends-head c [] t u right e
ends-head c (v ∷ w ∷ left) t u right e = ends-head c (w ∷ left) t u right e

parens-head : (left : List Tree) (t u : Tree) (right : List Tree) → t.head ≡ u.head → in_parens (left ++ t ∷ right) ≡ in_parens (left ++ u ∷ right)
parens-head [] t u right e = ap (λ (b : Bool). b && ends_with 41 right) (sign-head 40 t u e)
parens-head (v ∷ left) t u right e = ap (λ (b : Bool). is_sign 40 v && b) (ends-head 41 left t u right e)

renamed-past : (k : SyntaxKind) (left : List Tree) (y u : Tree) (right : List Tree) → renamed_last k (left ++ y ∷ u ∷ right) ≡ left ++ y ∷ renamed_last k (u ∷ right)
renamed-past k [] y u right = refl
renamed-past k (t ∷ []) y u right = refl
renamed-past k (t ∷ v ∷ left) y u right = ap (λ ts. t ∷ ts) (renamed-past k (v ∷ left) y u right)

-- without its parens
parens-off : (head : Head) (left : List Tree) (d : Deep) (right : List Tree) (h : Head) (x : Tree) → x.head ≡ h → (is_delimited head.kind && in_parens (left ++ stub d h ∷ right)) ≡ true
    → without_parens (fill (under head left d right) x) ≡ record { head = record head { kind = kind.Math }; kids = forest (parens_renamed (left ++ fill d x ∷ right)) }
parens-off head left d right h x i e = grind (arith, trees_forest, parens-head, head-fill)

-- or as it was
parens-on : (head : Head) (left : List Tree) (d : Deep) (right : List Tree) (h : Head) (x : Tree) → x.head ≡ h → (is_delimited head.kind && in_parens (left ++ stub d h ∷ right)) ≡ false
    → without_parens (fill (under head left d right) x) ≡ fill (under head left d right) x
parens-on head left d right h x i e = grind (arith, trees_forest, parens-head, head-fill)

turns-between : (h head : Head) (left : List Tree) (d : Deep) (right : List Tree) → (is_delimited head.kind && in_parens (left ++ stub d h ∷ right)) ≡ true → Every (Turns unparened h (under head left d right)) (between_parens head left d right)
turns-between h head left d right e = grind (arith, parens-off, renamed-past)

-- ---- the node with the hole changes

every-turns : (change : NodeChange) (h : Head) (d : Deep) → Solid d h → Every (Turns change h d) (changed_deep change h d)
every-turns stays h d solid = (record { node = λ x i. refl; solid = solid }, tt)
every-turns (turns_wrong message) h d solid = tt
every-turns (is_not thing) h d solid = tt
every-turns (renamed kind) h bare solid = tt
every-turns (renamed kind) h (under head left d right) solid = grind arith
every-turns unparened h bare solid = grind arith
every-turns unparened h (under head left d right) solid = grind (arith, every-if, turns-between, parens-on)

every-changes : (change : NodeChange) (h : Head) (left : List Tree) (d : Deep) (right : List Tree) → Solid d h → Every (Changes change h left d right) (change_hole change h left d right)
every-changes change h (t ∷ left) d right solid = (changes-more change h t left d right solid, tt)
every-changes change h [] d right solid =
    every-map (Turns change h d) (Changes change h [] d right) (first_hole right) (λ e t. changes-first change h d e right solid t) (changed_deep change h d) (every-turns change h d solid)

-- ---- what becomes of a hole

-- The hole of what they become is where the node is.
pub record Wraps (shape : Shape) (k : ℕ) (hole : Hole) (h : Head) (g : Hole) : Type 0 where
  pub nodes : (x : Tree) → x.head ≡ h → wrap_nodes shape k (plug hole x) ≡ plug g x
  pub state : (x y : Tree) (s : Point) → x.head ≡ h → y.head ≡ h → after_shape shape (drop k (plug hole x)) s ≡ after_shape shape (drop k (plug hole y)) s
  pub few : (x : Tree) (s : Point) → x.head ≡ h → s.empties ≤ length hole.right → (after_shape shape (drop k (plug hole x)) s).empties ≤ length g.right
  pub solid : Solid g.deep h

-- The hole of what nodes become, given the nodes before them that stay.
record WrapsIn (shape : Shape) (kept left : List Tree) (d : Deep) (right : List Tree) (h : Head) (g : Hole) : Type 0 where
  nodes : (x : Tree) → x.head ≡ h → kept ++ shaped shape (left ++ fill d x ∷ right) ≡ plug g x
  state : (x y : Tree) (s : Point) → x.head ≡ h → y.head ≡ h → after_shape shape (left ++ fill d x ∷ right) s ≡ after_shape shape (left ++ fill d y ∷ right) s
  few : (x : Tree) (s : Point) → x.head ≡ h → s.empties ≤ length right → (after_shape shape (left ++ fill d x ∷ right) s).empties ≤ length g.right
  solid : Solid g.deep h

-- in an inner node of this head
wraps-node : (shape : Shape) (head : Head) (kept left : List Tree) (d : Deep) (right : List Tree) (h : Head) (p : Hole)
    → ((x : Tree) → x.head ≡ h → shaped shape (left ++ fill d x ∷ right) ≡ record { head = head; kids = forest (plug p x) } ∷ [])
    → ((ts : List Tree) (s : Point) → after_shape shape ts s ≡ record s { empties = 0; is_after_error = false })
    → Every (WrapsIn shape kept left d right h) (in_node head kept p)
wraps-node shape head kept left d right h p e f = grind arith

wraps-nodes : (change : NodeChange) (kind : _) (kept left : List Tree) (d : Deep) (right : List Tree) (h : Head) (ps : List Hole) → Every (Changes change h left d right) ps
    → Every (WrapsIn (holds change kind) kept left d right h) (in_nodes (inner_head kind) kept ps)
wraps-nodes change kind kept left d right h ps e = grind arith

wraps-behind : (change : NodeChange) (kept left : List Tree) (d : Deep) (right : List Tree) (h : Head) (ps : List Hole) → Every (Changes change h left d right) ps
    → Every (WrapsIn (keeps change) kept left d right h) (after_nodes kept ps)
wraps-behind change kept left d right h ps e = grind (arith, append_assoc)

-- after the node with the hole
take-past : (left : List Tree) (j : ℕ) (y : Tree) (right : List Tree) → take (length left + suc j) (left ++ y ∷ right) ≡ left ++ y ∷ take j right
take-past left j y right = take-append-add left (y ∷ right) (suc j)

drop-past : (left : List Tree) (j : ℕ) (y : Tree) (right : List Tree) → drop (length left + suc j) (left ++ y ∷ right) ≡ drop j right
drop-past left j y right = drop-append-add left (y ∷ right) (suc j)

lack-at : (b : Bool) (count : ℕ) (error : Tree) (left : List Tree) (d : Deep) (right : List Tree) (x : Tree) → nat_le count (length left) ≡ b
    → take count (left ++ fill d x ∷ right) ++ error ∷ drop count (left ++ fill d x ∷ right)
    ≡ plug (if b then record { left = take count left ++ error ∷ drop count left; deep = d; right = right } else record { left = left; deep = d; right = take (count - suc (length left)) right ++ error ∷ drop (count - suc (length left)) right }) x
lack-at true count error left d right x e = grind (arith, le-is, take-append-le, drop-append-le, append_assoc)
lack-at false count error left d right x e =
    let l = leb-false count (length left) e in
    let j = count - suc (length left) in
    let c : count ≡ length left + suc j = omega arith in
    grind (arith, take-past, drop-past, append_assoc)

wraps-in : (shape : Shape) (kept left : List Tree) (d : Deep) (right : List Tree) (h : Head) → Solid d h → Every (WrapsIn shape kept left d right h) (wrap_in shape h kept left d right)
wraps-in shape kept left d right h solid = grind (arith, wraps-behind, every-changes, wraps-nodes, wraps-node, lack-at)

-- the first nodes are apart
wraps-apart : (shape : Shape) (k : ℕ) (hole : Hole) (h : Head) (g : Hole) → k ≤ length hole.left → WrapsIn shape (take k hole.left) (drop k hole.left) hole.deep hole.right h g → Wraps shape k hole h g
wraps-apart shape k hole h g l e = grind (arith, drop-append-le, take-append-le)

-- The hole is before what becomes something else.
wraps-past : (shape : Shape) (hole : Hole) (h : Head) (j : ℕ) → Solid hole.deep h → Wraps shape (length hole.left + suc j) hole h (wrap_past shape j hole)
wraps-past shape hole h j solid =
    let left = hole.left in
    let right = hole.right in
    let split : (x : Tree) → drop (length left + suc j) (plug hole x) ≡ drop j right = λ x. drop-past left j (fill hole.deep x) right in
    record {
      nodes = λ x i. ap (λ u. u ++ shaped shape (drop (length left + suc j) (plug hole x))) (take-past left j (fill hole.deep x) right)
          ∙ ap (λ u. (left ++ fill hole.deep x ∷ take j right) ++ shaped shape u) (split x) ∙ append_assoc left (fill hole.deep x ∷ take j right) (shaped shape (drop j right));
      state = λ x y s a b. ap (λ u. after_shape shape u s) (split x) ∙ sym (ap (λ u. after_shape shape u s) (split y));
      few = λ x s i m. subst (λ u. (after_shape shape u s).empties ≤ length (take j right ++ shaped shape (drop j right))) (sym (split x)) (few-past s m);
      solid = solid;
    }
  where
    few-past : (s : Point) → s.empties ≤ length hole.right → (after_shape shape (drop j hole.right) s).empties ≤ length (take j hole.right ++ shaped shape (drop j hole.right))
    few-past s m =
        let one = length-append (take j hole.right) (shaped shape (drop j hole.right)) in
        elim (shape-counts shape (drop j hole.right) s) [
          | inl a ↦ omega (arith, a, one, length-take j hole.right, length-drop j hole.right, m)
          | inr a ↦ omega (arith, a.0, a.1, one)
        ]

pub wraps-hole : (shape : Shape) (h : Head) (k : ℕ) (hole : Hole) → Solid hole.deep h → Every (Wraps shape k hole h) (wrap_hole shape h k hole)
wraps-hole shape h k hole solid =
    every-if (Wraps shape k hole h) (nat_le k (length hole.left)) _ _
    (λ t.
    let l = le-is k (length hole.left) t in
    every-by {P = WrapsIn shape (take k hole.left) (drop k hole.left) hole.deep hole.right h} {Q = Wraps shape k hole h}
    (λ g e. wraps-apart shape k hole h g l e) _ (wraps-in shape (take k hole.left) (drop k hole.left) hole.deep hole.right h solid))
    (λ f.
    let l = leb-false k (length hole.left) f in
    let e : k ≡ length hole.left + suc (k - suc (length hole.left)) = omega arith in
    (subst (λ n. Wraps shape n hole h (wrap_past shape (k - suc (length hole.left)) hole)) (sym e) (wraps-past shape hole h (k - suc (length hole.left)) solid), tt))

-- ---- the law of an edit inside a block, for a block that something follows, and for one after something

-- What was looked at before the block and after it shows the same, and what is now read of it may stand there.
pub record Edits {A : Type 0} (z w : Place) (c : Spot A) (x : Tree) : Type 0 where
  pub before : SameIn c.before z w
  pub fits : Fits c (unit_at c w) x
  pub covers : 0 < (unit_at c z).taken
  pub some : 0 < (unit_at c w).taken
  pub after : SameIn c.after (moved (c.at + (unit_at c z).taken) z) (moved (c.at + (unit_at c w).taken) w)

-- What the law says of the spot of one block, in a whole that gives `o` in the old text, at `z`, and `n` in
-- the new one, at `w`: `o` is the spot around what the block gives there; and if what was looked at around
-- the block shows the same at `w`, `n` is the spot around what the block gives at `w`. (`Lawful` of
-- `typst_language` says which laws hold of a parser.)
pub record Lawful {A : Type 0} (z w : Place) (o n : Outcome A) (c : Spot A) : Type 0 where
  pub old : o ≡ around c (unit_at c z) c.node
  pub fits : Fits c (unit_at c z) c.node
  pub few : c.state.empties ≤ length c.hole.right
  pub solid : Solid c.hole.deep (block_head c.name)
  pub swaps : (x : Tree) → Edits z w c x → n ≡ around c (unit_at c w) x

pub same_in-at : (ls : List Ask) (z y w v : Place) → z ≡ y → w ≡ v → SameIn ls y v → SameIn ls z w
same_in-at ls z y w v e f h = rw (e, f) h

-- ---- followed by something

pub edits-then : {A B : Type 0} (z w : Place) (c : Spot B) (q : Outcome A) (x : Tree) → Edits z w (then_spot c q) x → Edits z w c x
edits-then z w c q x e = record { before = e.before; fits = record { state = e.fits.state; back = e.fits.back; hints = e.fits.hints; nodes = e.fits.nodes; head = e.fits.head }; covers = e.covers; some = e.some; after = same_in-first c.after _ _ _ e.after }

-- The node with the hole is no error.
pub no-error : {A : Type 0} (c : Spot A) (x : Tree) → x.head ≡ block_head c.name → Solid c.hole.deep (block_head c.name) → is_error (fill c.hole.deep x).head.kind ≡ false
no-error c x e s = ap (λ (h : Head). is_error h.kind) (head-fill c.hole.deep x (block_head c.name) e) ∙ s

-- What follows is the same in the new text.
pub rest-same : {A B : Type 0} (z w : Place) (o n : Outcome B) (f : B → Meaning A) (c : Spot B) (x : Tree) → ((b : B) → Framed (f b)) → Lawful z w o n c
    → Edits z w (then_spot c (f o.value (moved o.taken z) o.state)) x → f n.value (moved n.taken w) n.state ≡ f o.value (moved o.taken z) o.state
rest-same z w o n f c x frames l e =
    let b = unit_at c z in
    let d = unit_at c w in
    let q = f o.value (moved o.taken z) o.state in
    let m = l.swaps x (edits-then z w c q x e) in
    let value : n.value ≡ o.value = ap (λ u. u.value) m ∙ sym (ap (λ u. u.value) l.old) in
    let state : n.state ≡ o.state = ap (λ u. u.state) m ∙ sym (ap (λ u. u.state) l.old) in
    let there : n.taken ≡ (c.at + d.taken) + c.rest = omega (arith, ap (λ u. u.taken) m) in
    let here : o.taken ≡ (c.at + b.taken) + c.rest = omega (arith, ap (λ u. u.taken) l.old) in
    let z2 : moved o.taken z ≡ moved c.rest (moved (c.at + b.taken) z) = ap (λ k. moved k z) here ∙ moved-sum (c.at + b.taken) c.rest z in
    let w2 : moved n.taken w ≡ moved c.rest (moved (c.at + d.taken) w) = ap (λ k. moved k w) there ∙ moved-sum (c.at + d.taken) c.rest w in
    let shown : SameIn q.asks (moved o.taken z) (moved n.taken w) = same_in-at q.asks _ _ _ _ z2 w2 (same_in-shift c.rest q.asks _ _ (same_in-second c.after _ _ _ e.after)) in
    ap (λ v. f v (moved n.taken w) n.state) value ∙ ap (f o.value (moved n.taken w)) state ∙ frames o.value (moved o.taken z) (moved n.taken w) o.state shown

pub lawful-then : {A B : Type 0} (z w : Place) (o n : Outcome B) (f : B → Meaning A) (c : Spot B) → ((b : B) → Framed (f b)) → ((b : B) → Backs (f b))
    → Lawful z w o n c → Lawful z w (followed o f z) (followed n f w) (then_spot c (f o.value (moved o.taken z) o.state))
lawful-then z w o n f c frames tidy l =
    let q = f o.value (moved o.taken z) o.state in
    let t = tidy o.value (moved o.taken z) o.state in
    let same : o.state ≡ c.state = ap (λ u. u.state) l.old in
    let few : o.state.empties ≤ length c.hole.right = subst (λ (u : Point). u.empties ≤ length c.hole.right) (sym same) l.few in
    let h : q.back ≤ length c.hole.right = omega (arith, t.back, few) in
    record {
      old = ap (λ u. joined u q) l.old ∙ then-around c (unit_at c z) c.node q h (no-error c c.node l.fits.head l.solid);
      fits = record { state = l.fits.state; back = l.fits.back; hints = l.fits.hints; nodes = l.fits.nodes; head = l.fits.head };
      few = omega (arith, t.left, few, length-append (hinted q.hints (less q.back c.hole.right)) q.nodes, length-less q.back c.hole.right, length-hinted q.hints (less q.back c.hole.right), h);
      solid = l.solid;
      swaps = λ x e.
          (let m = l.swaps x (edits-then z w c q x e) in
          ap (joined n) (rest-same z w o n f c x frames l e) ∙ ap (λ u. joined u q) m ∙ then-around c (unit_at c w) x q h (no-error c x e.fits.head l.solid));
    }

-- ---- after something

fits-after : {A B : Type 0} (o : Outcome B) (c : Spot A) (b d : Outcome (Unit {0})) (x : Tree) → b ≡ d → Fits (after_spot o c) b x → Fits c d x
fits-after o c b d x e f = grind arith

-- The block is read at the same place.
unit-after : {A B : Type 0} (o : Outcome B) (c : Spot A) (z : Place) → unit_at (after_spot o c) z ≡ unit_at c (moved o.taken z)
unit-after o c z = ap (λ u. c.reads u (point_of c.start)) (moved-sum o.taken c.at z)

pub edits-after : {A B : Type 0} (z w : Place) (o : Outcome B) (c : Spot A) (x : Tree) → Edits z w (after_spot o c) x → Edits (moved o.taken z) (moved o.taken w) c x
edits-after z w o c x e = grind (arith, unit-after, moved-sum, same_in-shift, same_in-second, fits-after, same_in-at)

around-after : {A B : Type 0} (o : Outcome B) (c : Spot A) (z : Place) (q : Outcome A) (x : Tree) → q ≡ around c (unit_at c (moved o.taken z)) x → joined o q ≡ around (after_spot o c) (unit_at (after_spot o c) z) x
around-after o c z q x e = ap (joined o) e ∙ after-around o c (unit_at c (moved o.taken z)) x ∙ ap (λ u. around (after_spot o c) u x) (sym (unit-after o c z))

pub lawful-after : {A B : Type 0} (z w : Place) (o n : Outcome B) (f : B → Meaning A) (c : Spot A) → (SameIn o.asks z w → n ≡ o)
    → Lawful (moved o.taken z) (moved o.taken w) (f o.value (moved o.taken z) o.state) (f o.value (moved o.taken w) o.state) c → Lawful z w (followed o f z) (followed n f w) (after_spot o c)
lawful-after z w o n f c frames l = grind (arith, unit-after, around-after, same_in-first, edits-after)

-- What an edit inside each block of a reading gives.
abbrev pub Inside : {A : Type 0} → Meaning A → Spots A → Type 0
Inside m sp = (z w : Place) (s : Point) → Every (Lawful z w (m z s) (m w s)) (sp z s)

pub lawful-same : {A : Type 0} (z w : Place) (o p n k : Outcome A) (c : Spot A) → p ≡ o → Lawful z w o n c → ((x : Tree) → Edits z w c x → k ≡ n) → Lawful z w p k c
lawful-same z w o p n k c e l f = record { old = e ∙ l.old; fits = l.fits; few = l.few; solid = l.solid; swaps = λ x d. f x d ∙ l.swaps x d }

-- What is made of an outcome, whatever a block in it gives, of a spot with the same block: with what its own state and hole say.
pub lawful-by : {A B : Type 0} (f : Outcome A → Outcome B) (z w : Place) (o n : Outcome A) (c : Spot A) (d : Spot B) → Lawful z w o n c → ((b : Outcome (Unit {0})) (x : Tree) → x.head ≡ block_head c.name → f (around c b x) ≡ around d b x)
    → ((y : Place) → unit_at c y ≡ unit_at d y) → c.node ≡ d.node → Fits d (unit_at d z) d.node → d.state.empties ≤ length d.hole.right → Solid d.hole.deep (block_head d.name) → ((x : Tree) → Edits z w d x → Edits z w c x) → Lawful z w (f o) (f n) d
lawful-by f z w o n c d l same units node fits few solid edits = grind arith

pub every-same : {A : Type 0} (z w : Place) (o p n k : Outcome A) (xs ys : List (Spot A)) → p ≡ o → k ≡ n → ys ≡ xs → Every (Lawful z w o n) xs → Every (Lawful z w p k) ys
every-same z w o p n k xs ys e f g h = rw (e, f, g) h

-- ---- one after the other

pub joined-inside : {A B : Type 0} (z w : Place) (o n : Outcome B) (f : B → Meaning A) (cs : List (Spot B)) (ds : List (Spot A)) → ((b : B) → Framed (f b)) → ((b : B) → Backs (f b)) → (SameIn o.asks z w → n ≡ o)
    → Every (Lawful z w o n) cs → Every (Lawful (moved o.taken z) (moved o.taken w) (f o.value (moved o.taken z) o.state) (f o.value (moved o.taken w) o.state)) ds
    → Every (Lawful z w (followed o f z) (followed n f w)) (joined_spots o cs (f o.value (moved o.taken z) o.state) ds)
joined-inside z w o n f cs ds frames tidy same i j =
    every-append (Lawful z w (followed o f z) (followed n f w)) _ _
    (every-map (Lawful z w o n) _ (λ c. then_spot c (f o.value (moved o.taken z) o.state)) (λ c l. lawful-then z w o n f c frames tidy l) cs i)
    (every-map (Lawful (moved o.taken z) (moved o.taken w) (f o.value (moved o.taken z) o.state) (f o.value (moved o.taken w) o.state)) _ (after_spot o) (λ c l. lawful-after z w o n f c same l) ds j)

-- ---- another answer

-- with another answer, state and hole
pub edits-as : {A B : Type 0} (z w : Place) (v : B) (s : Point) (g : Hole) (c : Spot A) (x : Tree) → Edits z w (rehole s (valued v c) g) x → Edits z w c x
edits-as z w v s g c x e = grind arith

pub edits-last : {A B : Type 0} (z w : Place) (c : Spot (B × A)) (x : Tree) → Edits z w (last_spot c) x → Edits z w c x
edits-last z w c x e = edits-as z w c.value.1 c.state c.hole c x e

abbrev pub second : {A B : Type 0} → Outcome (B × A) → Outcome A
second o = answered o.value.1 o

pub lawful-last : {A B : Type 0} (z w : Place) (o n : Outcome (B × A)) (c : Spot (B × A)) → Lawful z w o n c → Lawful z w (second o) (second n) (last_spot c)
lawful-last z w o n c l = lawful-by second z w o n c (last_spot c) l (λ b x e. refl) (λ y. refl) refl (record { state = l.fits.state; back = l.fits.back; hints = l.fits.hints; nodes = l.fits.nodes; head = l.fits.head }) l.few l.solid (edits-last z w c)

-- ---- a loop

-- A part with a block in it takes something, before and after.
pub took-same : {A : Type 0} (z w : Place) (o n : Outcome A) (c : Spot A) (x : Tree) → Lawful z w o n c → Edits z w c x → nat_lt 0 n.taken ≡ nat_lt 0 o.taken
took-same z w o n c x l e = grind arith

pub value-same : {A : Type 0} (z w : Place) (o n : Outcome A) (c : Spot A) (x : Tree) → Lawful z w o n c → Edits z w c x → n.value ≡ o.value
value-same z w o n c x l e = ap (λ u. u.value) (l.swaps x e) ∙ sym (ap (λ u. u.value) l.old)

goes-same : {A : Type 0} (z w : Place) (o n : Outcome (Bool × A)) (c : Spot (Bool × A)) (x : Tree) → Lawful z w o n c → Edits z w c x → goes n ≡ goes o
goes-same z w o n c x l e = ap (λ v. v.0 && nat_lt 0 n.taken) (value-same z w o n c x l e) ∙ ap (λ b. o.value.0 && b) (took-same z w o n c x l e)

-- A turn, and what comes after it if it goes on.
turn-inside : {A : Type 0} (z w : Place) (o n : Outcome (Bool × A)) (f : Bool × A → Meaning A) (cs : List (Spot (Bool × A))) (ds : List (Spot A)) → ((b : Bool × A) → Framed (f b)) → ((b : Bool × A) → Backs (f b)) → (SameIn o.asks z w → n ≡ o)
    → Every (Lawful z w o n) cs → Every (Lawful (moved o.taken z) (moved o.taken w) (f o.value (moved o.taken z) o.state) (f o.value (moved o.taken w) o.state)) ds
    → Every (Lawful z w (if goes o then followed o f z else as_last o) (if goes n then followed n f w else as_last n)) (if goes o then joined_spots o cs (f o.value (moved o.taken z) o.state) ds else map last_spot cs)
turn-inside z w o n f cs ds frames tidy same i j =
    let q = f o.value (moved o.taken z) o.state in
    every-if (Lawful z w (if goes o then followed o f z else as_last o) (if goes n then followed n f w else as_last n)) (goes o) _ _
    (λ t. every-append _ _ _
    (every-map (Lawful z w o n) _ (λ c. then_spot c q)
    (λ c l. lawful-same z w (followed o f z) _ (followed n f w) _ (then_spot c q) (if-true (goes o) _ _ t) (lawful-then z w o n f c frames tidy l)
    (λ y e. if-true (goes n) _ _ (goes-same z w o n c y l (edits-then z w c q y e) ∙ t))) cs i)
    (every-map (Lawful (moved o.taken z) (moved o.taken w) q (f o.value (moved o.taken w) o.state)) _ (after_spot o)
    (λ c l. lawful-same z w (followed o f z) _ (followed n f w) _ (after_spot o c) (if-true (goes o) _ _ t) (lawful-after z w o n f c same l)
    (λ y e. if-true (goes n) _ _ (ap goes (same (same_in-first o.asks _ z w e.before)) ∙ t))) ds j))
    (λ t. every-map (Lawful z w o n) _ last_spot
    (λ c l. lawful-same z w (as_last o) _ (as_last n) _ (last_spot c) (if-false (goes o) _ _ t) (lawful-last z w o n c l)
    (λ y e. if-false (goes n) _ _ (goes-same z w o n c y l (edits-last z w c y e) ∙ t))) cs i)

inside-turns : {A : Type 0} (m : A → Meaning (Bool × A)) (sp : A → Spots (Bool × A)) → ((x : A) → Framed (m x)) → ((x : A) → Backs (m x)) → ((x : A) → Inside (m x) (sp x))
    → (n : ℕ) (x : A) → Inside (turns m n x) (turns_spots m sp n x)
inside-turns m sp framed backs inner zero x z w s = tt
inside-turns m sp framed backs inner (suc n) x z w s =
    let o = m x z s in
    turn-inside z w o (m x w s) (λ v. turns m n v.1) (sp x z s) (turns_spots m sp n o.value.1 (moved o.taken z) o.state)
    (λ v. framed-turns m framed n v.1) (λ v. backs-turns m backs n v.1) (λ h. framed x z w s h) (inner x z w s)
    (inside-turns m sp framed backs inner n o.value.1 (moved o.taken z) (moved o.taken w) o.state)

spots-enough : {A : Type 0} (m : A → Meaning (Bool × A)) (sp : A → Spots (Bool × A)) → ((x : A) → Within (m x)) → (n k : ℕ) (x : A) (z : Place) (s : Point)
    → bound z s < n → bound z s < k → turns_spots m sp n x z s ≡ turns_spots m sp k x z s
spots-enough m sp w zero k x z s a b = absurd (omega arith)
spots-enough m sp w (suc n) zero x z s a b = absurd (omega arith)
spots-enough m sp w (suc n) (suc k) x z s a b =
    let o = m x z s in
    if-same (goes o) _ _ _ (λ g.
    let some : 0 < o.taken = ltb-true 0 o.taken (and-second o.value.0 (nat_lt 0 o.taken) g) in
    let most = w x z s in
    let e = turns-enough m w n k o.value.1 (moved o.taken z) o.state (omega arith) (omega arith) in
    let f = spots-enough m sp w n k o.value.1 (moved o.taken z) o.state (omega arith) (omega arith) in
    ap (λ u. joined_spots o (sp x z s) u (turns_spots m sp n o.value.1 (moved o.taken z) o.state)) e ∙ ap (λ u. joined_spots o (sp x z s) (turns m k o.value.1 (moved o.taken z) o.state) u) f)

pub inside-repeated : {A : Type 0} (m : A → Meaning (Bool × A)) (sp : A → Spots (Bool × A)) → ((x : A) → Within (m x)) → ((x : A) → Framed (m x)) → ((x : A) → Backs (m x)) → ((x : A) → Inside (m x) (sp x))
    → (x : A) → Inside (repeated m x) (repeated_spots m sp x)
unfolding repeated repeated_spots
inside-repeated m sp within framed backs inner x z w s =
    let k = suc (max (bound z s) (bound w s)) in
    every-same z w _ _ _ _ _ _ (turns-enough m within (suc (bound z s)) k x z s (omega arith) (omega arith)) (turns-enough m within (suc (bound w s)) k x w s (omega arith) (omega arith))
    (spots-enough m sp within (suc (bound z s)) k x z s (omega arith) (omega arith)) (inside-turns m sp framed backs inner k x z w s)

-- ---- nodes that become something else

pub edits-rehole : {A : Type 0} (z w : Place) (s : Point) (c : Spot A) (g : Hole) (x : Tree) → Edits z w (rehole s c g) x → Edits z w c x
edits-rehole z w s c g x e = edits-as z w c.value s g c x e

-- the state after it
abbrev wrap_state : {A : Type 0} → Shape → ℕ → Spot A → Point
wrap_state shape k c = after_shape shape (drop k (plug c.hole c.node)) c.state

around-rehole : {A : Type 0} (shape : Shape) (n : ℕ) (c : Spot A) (g : Hole) (b : Outcome (Unit {0})) (x : Tree) → x.head ≡ block_head c.name → c.node.head ≡ block_head c.name → Wraps shape (n + c.back) c.hole (block_head c.name) g
    → reshaped shape n (around c b x) ≡ around (rehole (wrap_state shape (n + c.back) c) c g) b x
around-rehole shape n c g b x e f h = same-outcome c.value _ _ _ _ _ _ _ _ _ _ _ _ _ _ refl (h.state x c.node c.state e f) refl refl (h.nodes x e) refl refl

pub lawful-reshaped : {A : Type 0} (shape : Shape) (n : ℕ) (z w : Place) (o p : Outcome A) (c : Spot A) (g : Hole) → Wraps shape (n + c.back) c.hole (block_head c.name) g
    → Lawful z w o p c → Lawful z w (reshaped shape n o) (reshaped shape n p) (rehole (wrap_state shape (n + c.back) c) c g)
lawful-reshaped shape n z w o p c g h l = grind arith

-- By a shape that may be another in the new text, unless the edit is inside.
pub every-reshaped : {A : Type 0} (shape other : Shape) (n : ℕ) (z w : Place) (o p : Outcome A) (c : Spot A) → Lawful z w o p c → ((x : Tree) → Edits z w c x → other ≡ shape)
    → Every (Lawful z w (reshaped shape n o) (reshaped other n p)) (reshaped_spot shape n c)
every-reshaped shape other n z w o p c l f =
    every-map (Wraps shape (n + c.back) c.hole (block_head c.name)) _ (rehole (wrap_state shape (n + c.back) c) c)
    (λ g h. lawful-same z w (reshaped shape n o) _ (reshaped shape n p) _ _ refl (lawful-reshaped shape n z w o p c g h l) (λ x e. ap (λ (q : Shape). reshaped q n p) (f x (edits-rehole z w _ c g x e)))) _
    (wraps-hole shape (block_head c.name) (n + c.back) c.hole l.solid)

-- with what is seen of them
abbrev wrapped_value : {A : Type 0} → ℕ → Spot A → A × List Seen
wrapped_value n c = (c.value, map seen (drop (n + c.back) (plug c.hole c.node)))

around-wrapped : {A : Type 0} (f : A → Shape) (n : ℕ) (c : Spot A) (g : Hole) (b : Outcome (Unit {0})) (x : Tree) → x.head ≡ block_head c.name → c.node.head ≡ block_head c.name → Wraps (f c.value) (n + c.back) c.hole (block_head c.name) g
    → wrapped f n (around c b x) ≡ around (valued (wrapped_value n c) (rehole (wrap_state (f c.value) (n + c.back) c) c g)) b x
around-wrapped f n c g b x e h i =
    ap (λ u. answered (c.value, u) (reshaped (f c.value) n (around c b x))) (sym (drop-map seen (n + c.back) (plug c.hole x)) ∙ ap (drop (n + c.back)) (seen-plug c.hole x c.node (block_head c.name) e h) ∙ drop-map seen (n + c.back) (plug c.hole c.node)) ∙ ap (answered (wrapped_value n c)) (around-rehole (f c.value) n c g b x e h i)

lawful-wrapped : {A : Type 0} (f : A → Shape) (n : ℕ) (z w : Place) (o p : Outcome A) (c : Spot A) (g : Hole) → Wraps (f c.value) (n + c.back) c.hole (block_head c.name) g
    → Lawful z w o p c → Lawful z w (wrapped f n o) (wrapped f n p) (valued (wrapped_value n c) (rehole (wrap_state (f c.value) (n + c.back) c) c g))
lawful-wrapped f n z w o p c g h l = grind (arith, lawful-by, around-wrapped, edits-as)

map-both : {X Y Z : Type 0} (f : Y → Z) (g : X → Y) (xs : List X) → map f (map g xs) ≡ map (λ x. f (g x)) xs
map-both f g [] = refl
map-both f g (x ∷ xs) = ap (λ u. f (g x) ∷ u) (map-both f g xs)

every-wrapped : {A : Type 0} (f : A → Shape) (n : ℕ) (z w : Place) (o p : Outcome A) (c : Spot A) → Lawful z w o p c → Every (Lawful z w (wrapped f n o) (wrapped f n p)) (wrapped_spot f n c)
every-wrapped f n z w o p c l =
    let k = n + c.back in
    let gs = wrap_hole (f c.value) (block_head c.name) k c.hole in
    subst (Every (Lawful z w (wrapped f n o) (wrapped f n p))) (sym (map-both (valued (wrapped_value n c)) (rehole (wrap_state (f c.value) k c) c) gs))
    (every-map (Wraps (f c.value) k c.hole (block_head c.name)) _ (λ g. valued (wrapped_value n c) (rehole (wrap_state (f c.value) k c) c g)) (λ g h. lawful-wrapped f n z w o p c g h l) gs
    (wraps-hole (f c.value) (block_head c.name) k c.hole l.solid))

pub inside-wrapped : {A : Type 0} (f : A → Shape) (n : Point → ℕ) (m : Meaning A) (sp : Spots A) → Inside m sp → (z w : Place) (s : Point)
    → Every (Lawful z w (wrapped f (n s) (m z s)) (wrapped f (n s) (m w s))) (flat_map (wrapped_spot f (n s)) (sp z s))
inside-wrapped f n m sp i z w s =
    every-flat (Lawful z w (m z s) (m w s)) _ (wrapped_spot f (n s)) (λ c l. every-wrapped f (n s) z w (m z s) (m w s) c l) (sp z s) (i z w s)

-- ---- what nests

nest-inside : {A : Type 0} (f : A → Shape) (n : ℕ) (z w : Place) (o p : Outcome A) (cs : List (Spot A)) → Every (Lawful z w o p) cs
    → Every (Lawful z w (nest f n o) (nest f n p)) (flat_map (λ c. reshaped_spot (f c.value) n c) cs)
nest-inside f n z w o p cs i =
    every-flat (Lawful z w o p) _ (λ c. reshaped_spot (f c.value) n c)
    (λ c l.
    let v : f o.value ≡ f c.value = ap (λ u. f u.value) l.old in
    subst (λ (q : Shape). Every (Lawful z w (reshaped q n o) (nest f n p)) (reshaped_spot (f c.value) n c)) (sym v)
    (every-reshaped (f c.value) (f p.value) n z w o p c l (λ x e. ap f (value-same z w o p c x l e) ∙ v))) cs i

inside-nestings : {A : Type 0} (f : A → Shape) (begin : Begin) (m : A → Meaning (Bool × A)) (sp : A → Spots (Bool × A)) → ((x : A) → Framed (m x)) → ((x : A) → Backs (m x)) → ((x : A) → Inside (m x) (sp x))
    → (n : ℕ) (x : A) → Inside (nestings f begin m n x) (nestings_spots f begin m sp n x)
inside-nestings f begin m sp framed backs inner zero x z w s = tt
inside-nestings f begin m sp framed backs inner (suc n) x z w s =
    let o = m x z s in
    nest-inside f (before begin s) z w _ _ _
    (turn-inside z w o (m x w s) (λ v. nestings f begin m n v.1) (sp x z s) (nestings_spots f begin m sp n o.value.1 (moved o.taken z) o.state)
    (λ v. framed-nestings f begin m framed n v.1) (λ v. tidy-nestings f begin m backs n v.1) (λ h. framed x z w s h) (inner x z w s)
    (inside-nestings f begin m sp framed backs inner n o.value.1 (moved o.taken z) (moved o.taken w) o.state))

nestings_spots-enough : {A : Type 0} (f : A → Shape) (begin : Begin) (m : A → Meaning (Bool × A)) (sp : A → Spots (Bool × A)) → ((x : A) → Within (m x)) → (n k : ℕ) (x : A) (z : Place) (s : Point)
    → bound z s < n → bound z s < k → nestings_spots f begin m sp n x z s ≡ nestings_spots f begin m sp k x z s
nestings_spots-enough f begin m sp w zero k x z s a b = absurd (omega arith)
nestings_spots-enough f begin m sp w (suc n) zero x z s a b = absurd (omega arith)
nestings_spots-enough f begin m sp w (suc n) (suc k) x z s a b =
    let o = m x z s in
    ap (flat_map (λ c. reshaped_spot (f c.value) (before begin s) c)) (if-same (goes o) _ _ _ (λ g.
    let some : 0 < o.taken = ltb-true 0 o.taken (and-second o.value.0 (nat_lt 0 o.taken) g) in
    let most = w x z s in
    let e = nestings-enough f begin m w n k o.value.1 (moved o.taken z) o.state (omega arith) (omega arith) in
    let h = nestings_spots-enough f begin m sp w n k o.value.1 (moved o.taken z) o.state (omega arith) (omega arith) in
    ap (λ u. joined_spots o (sp x z s) u (nestings_spots f begin m sp n o.value.1 (moved o.taken z) o.state)) e ∙ ap (λ u. joined_spots o (sp x z s) (nestings f begin m k o.value.1 (moved o.taken z) o.state) u) h))

pub inside-nesting : {A : Type 0} (f : A → Shape) (begin : Begin) (m : A → Meaning (Bool × A)) (sp : A → Spots (Bool × A)) → ((x : A) → Within (m x)) → ((x : A) → Framed (m x)) → ((x : A) → Backs (m x)) → ((x : A) → Inside (m x) (sp x))
    → (x : A) → Inside (nesting f begin m x) (nesting_spots f begin m sp x)
unfolding nesting nesting_spots
inside-nesting f begin m sp within framed backs inner x z w s =
    let k = suc (max (bound z s) (bound w s)) in
    every-same z w _ _ _ _ _ _ (nestings-enough f begin m within (suc (bound z s)) k x z s (omega arith) (omega arith)) (nestings-enough f begin m within (suc (bound w s)) k x w s (omega arith) (omega arith))
    (nestings_spots-enough f begin m sp within (suc (bound z s)) k x z s (omega arith) (omega arith)) (inside-nestings f begin m sp framed backs inner k x z w s)

-- ---- one turn

-- with the shape under which an outcome grew
abbrev grown_by : {A : Type 0} → ℕ → Outcome A → Option Shape → Outcome A
grown_by n p shape = grown n shape p

map-grown : {A : Type 0} (n : ℕ) (shape : Shape) (other : Option Shape) (z w : Place) (o p : Outcome A) (c : Spot A) → ((x : Tree) → Edits z w c x → other ≡ Some shape) → (s : Point) (gs : List Hole)
    → Every (Lawful z w (reshaped shape n o) (reshaped shape n p)) (map (rehole s c) gs) → Every (Lawful z w (reshaped shape n o) (grown n other p)) (map (rehole s c) gs)
map-grown n shape other z w o p c f s [] h = tt
map-grown n shape other z w o p c f s (g ∷ gs) h =
    (lawful-same z w (reshaped shape n o) _ (reshaped shape n p) (grown n other p) (rehole s c g) refl h.0 (λ x e. ap (grown_by n p) (f x (edits-rehole z w s c g x e))), map-grown n shape other z w o p c f s gs h.1)

every-grown : {A : Type 0} (n : ℕ) (shape other : Option Shape) (z w : Place) (o p : Outcome A) (c : Spot A) → Lawful z w o p c → ((x : Tree) → Edits z w c x → other ≡ shape)
    → Every (Lawful z w (grown n shape o) (grown n other p)) (grown_spot n shape c)
every-grown n None other z w o p c l f = (lawful-same z w o o p (grown n other p) c refl l (λ x e. ap (grown_by n p) (f x e)), tt)
every-grown n (Some shape) other z w o p c l f = map-grown n shape other z w o p c f _ _ (every-reshaped shape shape n z w o p c l (λ x e. refl))

-- If an edit is inside one of several blocks, this holds.
abbrev Known : {A : Type 0} → Place → Place → Type 0 → Spot A → Type 0
Known z w Q c = (x : Tree) → Edits z w c x → Q

known-grown : {A : Type 0} (n : ℕ) (shape : Option Shape) (z w : Place) (Q : Type 0) (c : Spot A) → Known z w Q c → Every (Known z w Q) (grown_spot n shape c)
known-grown n None z w Q c k = (k, tt)
known-grown n (Some shape) z w Q c k =
    every-map (λ g. Unit {0}) (Known z w Q) (rehole _ c) (λ g u x e. k x (edits-rehole z w _ c g x e)) _ (every-any (wrap_hole shape (block_head c.name) (n + c.back) c.hole))

known-turn : {A B : Type 0} (n : ℕ) (shape : Option Shape) (z w : Place) (Q : Type 0) (cs : List (Spot (B × A))) → Every (Known z w Q) cs → Every (Known z w Q) (flat_map (λ c. grown_spot n shape (last_spot c)) cs)
known-turn n shape z w Q cs h = every-flat (Known z w Q) (Known z w Q) (λ c. grown_spot n shape (last_spot c)) (λ c k. known-grown n shape z w Q (last_spot c) (λ x e. k x (edits-last z w c x e))) cs h

known-growths : {A : Type 0} (m : A → Meaning (Option Shape × A)) (sp : A → Spots (Option Shape × A)) (n k : ℕ) (o : Outcome A) (cs : List (Spot A)) (z w : Place) (Q : Type 0) → (SameIn o.asks z w → Q) → Every (Known z w Q) cs
    → Every (Known z w Q) (growths_spots m sp n k o cs z)
known-growths m sp n zero o cs z w Q f h = h
known-growths m sp n (suc k) o cs z w Q f h =
    let u = moved o.taken z in
    let p = m o.value u o.state in
    let ds = flat_map (λ c. grown_spot n p.value.0 (last_spot c)) (joined_spots o cs p (sp o.value u o.state)) in
    let all : Every (Known z w Q) ds = known-turn n p.value.0 z w Q _ (every-append (Known z w Q) _ _ (every-map (Known z w Q) (Known z w Q) (λ c. then_spot c p) (λ c k x e. k x (edits-then z w c p x e)) cs h) (every-map (λ c. Unit {0}) (Known z w Q) (after_spot o) (λ c y x e. f (same_in-first o.asks _ z w e.before)) (sp o.value u o.state) (every-any (sp o.value u o.state)))) in
    every-if (Known z w Q) (is_more p.value.0 && nat_lt 0 p.taken) _ _
    (λ t. known-growths m sp n k (grew n o p) ds z w Q (λ e. f (same_in-first o.asks _ z w (grew-asks n o p z w e))) all) (λ t. all)

-- An edit inside what grew so far leaves the turn the same.
goes-then : {A B : Type 0} (z w : Place) (o v : Outcome B) (m : B → Meaning (Option Shape × A)) (cs : List (Spot B)) → ((b : B) → Framed (m b)) → Every (Lawful z w o v) cs
    → (let p = m o.value (moved o.taken z) o.state in let q = m v.value (moved v.taken w) v.state in
    Every (Known z w ((is_more q.value.0 && nat_lt 0 q.taken) ≡ (is_more p.value.0 && nat_lt 0 p.taken))) (map (λ c. then_spot c p) cs))
goes-then z w o v m cs framed h =
    let p = m o.value (moved o.taken z) o.state in
    every-map (Lawful z w o v) _ (λ c. then_spot c p) (λ c l x e. ap (λ q. is_more q.value.0 && nat_lt 0 q.taken) (rest-same z w o v m c x framed l e)) cs h

-- After an edit inside the turn it goes on as it did.
goes-after : {A B : Type 0} (z w : Place) (o v : Outcome B) (m : B → Meaning (Option Shape × A)) (ds : List (Spot (Option Shape × A))) → (SameIn o.asks z w → v ≡ o)
    → Every (Lawful (moved o.taken z) (moved o.taken w) (m o.value (moved o.taken z) o.state) (m o.value (moved o.taken w) o.state)) ds
    → (let p = m o.value (moved o.taken z) o.state in let q = m v.value (moved v.taken w) v.state in
    Every (Known z w ((is_more q.value.0 && nat_lt 0 q.taken) ≡ (is_more p.value.0 && nat_lt 0 p.taken))) (map (after_spot o) ds))
goes-after z w o v m ds same h =
    let p = m o.value (moved o.taken z) o.state in
    let r = m o.value (moved o.taken w) o.state in
    every-map (Lawful (moved o.taken z) (moved o.taken w) p r) _ (after_spot o)
    (λ c l x e.
    (let d = edits-after z w o c x e in
    ap (λ y. let q = m y.value (moved y.taken w) y.state in is_more q.value.0 && nat_lt 0 q.taken) (same (same_in-first o.asks _ z w e.before))
    ∙ ap (λ y. is_more y.0 && nat_lt 0 r.taken) (value-same (moved o.taken z) (moved o.taken w) p r c x l d) ∙ ap (λ b. is_more p.value.0 && b) (took-same (moved o.taken z) (moved o.taken w) p r c x l d))) ds h

-- ---- turn by turn

abbrev goes_on : {A : Type 0} → Outcome (Option Shape × A) → Bool
goes_on p = is_more p.value.0 && nat_lt 0 p.taken

-- both laws of several blocks
both : {A : Type 0} (z w : Place) (o n k : Outcome A) (Q : Type 0) (cs : List (Spot A)) → (Q → k ≡ n) → Every (Lawful z w o n) cs → Every (Known z w Q) cs → Every (Lawful z w o k) cs
both z w o n k Q [] f h i = tt
both z w o n k Q (c ∷ cs) f h i = (lawful-same z w o o n k c refl h.0 (λ x e. f (i.0 x e)), both z w o n k Q cs f h.1 i.1)

inside-growths : {A : Type 0} (m : A → Meaning (Option Shape × A)) (sp : A → Spots (Option Shape × A)) → ((x : A) → Framed (m x)) → ((x : A) → Backs (m x)) → ((x : A) → Inside (m x) (sp x))
    → (n k : ℕ) (o v : Outcome A) (cs : List (Spot A)) (z w : Place) → (SameIn o.asks z w → v ≡ o) → Every (Lawful z w o v) cs
    → Every (Lawful z w (growths m n k o z) (growths m n k v w)) (growths_spots m sp n k o cs z)
inside-growths m sp framed backs inner n zero o v cs z w same h = h
inside-growths m sp framed backs inner n (suc k) o v cs z w same h =
    let u = moved o.taken z in
    let p = m o.value u o.state in
    let q = m v.value (moved v.taken w) v.state in
    let parts = sp o.value u o.state in
    let all : Every (Lawful z w (joined o p) (joined v q)) (joined_spots o cs p parts) = joined-inside z w o v m cs parts framed backs same h (inner o.value u (moved o.taken w) o.state) in
    let ds = flat_map (λ c. grown_spot n p.value.0 (last_spot c)) (joined_spots o cs p parts) in
    let later : SameIn o.asks z w → SameIn p.asks u (moved o.taken w) → q ≡ p = λ a b. (ap (λ (x : Outcome _). m x.value (moved x.taken w) x.state) (same a) ∙ framed o.value u (moved o.taken w) o.state b) in
    let still : Every (Lawful z w (grew n o p) (grew n v q)) ds =
    every-flat (Lawful z w (joined o p) (joined v q)) _ (λ c. grown_spot n p.value.0 (last_spot c))
    (λ c l. every-grown n p.value.0 q.value.0 z w _ _ (last_spot c) (lawful-last z w (joined o p) (joined v q) c l) (λ x e. ap (λ y. y.0) (value-same z w (joined o p) (joined v q) c x l (edits-last z w c x e)))) _ all in
    let go : Every (Known z w (goes_on q ≡ goes_on p)) ds =
    known-turn n p.value.0 z w (goes_on q ≡ goes_on p) (joined_spots o cs p parts)
    (every-append (Known z w (goes_on q ≡ goes_on p)) _ _ (goes-then z w o v m cs framed h) (goes-after z w o v m parts same (inner o.value u (moved o.taken w) o.state))) in
    every-if (Lawful z w (if goes_on p then growths m n k (grew n o p) z else grew n o p) (if goes_on q then growths m n k (grew n v q) w else grew n v q)) (goes_on p) _ _
    (λ t.
    let next = inside-growths m sp framed backs inner n k (grew n o p) (grew n v q) ds z w
    (λ e. (let a = grew-asks n o p z w e in let s = same (same_in-first o.asks _ z w a) in let r = later (same_in-first o.asks _ z w a) (same_in-shift o.taken p.asks z w (same_in-second o.asks _ z w a)) in
    ap (λ x. grew n x q) s ∙ ap (grew n o) r)) still in
    let known = known-growths m sp n k (grew n o p) ds z w (goes_on q ≡ goes_on p)
    (λ e. (let a = grew-asks n o p z w e in ap goes_on (later (same_in-first o.asks _ z w a) (same_in-shift o.taken p.asks z w (same_in-second o.asks _ z w a))))) go in
    subst (λ x. Every (Lawful z w x (if goes_on q then growths m n k (grew n v q) w else grew n v q)) (growths_spots m sp n k (grew n o p) ds z)) (sym (if-true (goes_on p) _ _ t))
    (both z w _ _ _ (goes_on q ≡ goes_on p) _ (λ e. if-true (goes_on q) _ _ (e ∙ t)) next known))
    (λ t. subst (λ x. Every (Lawful z w x (if goes_on q then growths m n k (grew n v q) w else grew n v q)) ds) (sym (if-false (goes_on p) _ _ t))
    (both z w _ _ _ (goes_on q ≡ goes_on p) _ (λ e. if-false (goes_on q) _ _ (e ∙ t)) still go))

-- ---- enough turns

growths_spots-enough : {A : Type 0} (m : A → Meaning (Option Shape × A)) (sp : A → Spots (Option Shape × A)) → ((x : A) → Within (m x)) → (n i j : ℕ) (z : Place) (known : ℕ) (o : Outcome A) (cs : List (Spot A)) → Enough z known o
    → max known (length z.ahead) < i + o.taken → max known (length z.ahead) < j + o.taken → growths_spots m sp n i o cs z ≡ growths_spots m sp n j o cs z
growths_spots-enough m sp w n zero j z known o cs h a b = absurd (omega (arith, h))
growths_spots-enough m sp w n (suc i) zero z known o cs h a b = absurd (omega (arith, h))
growths_spots-enough m sp w n (suc i) (suc j) z known o cs h a b =
    let p = m o.value (moved o.taken z) o.state in
    let t = grown-taken n p.value.0 (answered p.value.1 (joined o p)) in
    if-same (goes_on p) _ _ _ (λ g.
    let some : 0 < p.taken = ltb-true 0 p.taken (and-second (is_more p.value.0) (nat_lt 0 p.taken) g) in
    growths_spots-enough m sp w n i j z known (grew n o p) _ (enough-grew z known n o p h (w o.value (moved o.taken z) o.state)) (omega (arith, t)) (omega (arith, t)))

pub inside-growing : {A : Type 0} (m : A → Meaning (Option Shape × A)) (sp : A → Spots (Option Shape × A)) (first : Meaning A) (firsts : Spots A) (n : Point → ℕ) → ((x : A) → Within (m x)) → ((x : A) → Framed (m x)) → ((x : A) → Backs (m x)) → ((x : A) → Inside (m x) (sp x))
    → Within first → Framed first → Inside first firsts → (z w : Place) (s : Point) → Every (Lawful z w (growing m (n s) first z s) (growing m (n s) first w s)) (growing_spots m sp (n s) first firsts z s)
unfolding growing growing_spots
inside-growing m sp first firsts n within framed backs inner some same inside z w s =
    let k = suc (max (bound z s) (bound w s)) in
    every-same z w _ _ _ _ _ _
    (growths-enough m within (n s) (suc (bound z s)) k z (gap_of s.known) (first z s) (some z s) (omega arith) (omega arith))
    (growths-enough m within (n s) (suc (bound w s)) k w (gap_of s.known) (first w s) (some w s) (omega arith) (omega arith))
    (growths_spots-enough m sp within (n s) (suc (bound z s)) k z (gap_of s.known) (first z s) (firsts z s) (some z s) (omega arith) (omega arith))
    (inside-growths m sp framed backs inner (n s) k (first z s) (first w s) (firsts z s) z w (λ h. same z w s h) (inside z w s))
