-- Which of the mentions of trees holds a byte.
use Rattle.typst_features.proofs.Cited.{◌≡◌, ℕ, ◌+◌, ◌^◌, ◌-◌, ◌≤◌, Bool, false, List, [], ◌∷◌, ◌++◌, length-append, Option, None, Some, option_and_then, option_to_list, refl, ap, sym, ◌∙◌, arith, if◌then◌else◌, Forest, none, more, Tree, Standing, kid_at, inner, behind, range, Head, around, holds}
use Rattle.std.specs.Option.{option_or}
use Rattle.std.specs.declared.ops.Range.{Range}
use Rattle.std.proofs.lemmas.Bool.Decides.{leb_tells, nat_tests}
use Rattle.typst_names.proofs.HoldingNodes.{around-before, around-within, kid-held, kid-passed}
use Rattle.typst_features.specs.Labels.{Mentioned, holding, if_holds, is_markup, own, own_bytes, row}

-- ---- the first of some mentions

or_none : (p : Option Mentioned) → option_or p None ≡ p
or_none p = grind arith

or_either : (p q r : Option Mentioned) → option_or (option_or p q) r ≡ option_or p (option_or q r)
or_either p q r = grind arith

holding-append : (b : ℕ) (xs ys : List Mentioned) → holding b (xs ++ ys) ≡ option_or (holding b xs) (holding b ys)
holding-append b [] ys = refl
holding-append b (x ∷ xs) ys = ap (option_or (if_holds b x)) (holding-append b xs ys) ∙ sym (or_either (if_holds b x) (holding b xs) (holding b ys))

holding_three : (b : ℕ) (xs ys zs : List Mentioned) → holding b (xs ++ (ys ++ zs)) ≡ option_or (holding b xs) (option_or (holding b ys) (holding b zs))
holding_three b xs ys zs = holding-append b xs (ys ++ zs) ∙ ap (option_or (holding b xs)) (holding-append b ys zs)

-- ---- a node's own

holding_own : (b : ℕ) (o : Option Mentioned) → holding b (option_to_list o) ≡ option_and_then (if_holds b) o
holding_own b o = grind arith

own_out : (b a : ℕ) (in_markup : Bool) (h : Head) → holds b (own_bytes a h) ≡ false → holding b (option_to_list (own in_markup a h)) ≡ None
own_out b a in_markup h e = grind arith

-- a node's own text doesn't hold a byte that the node doesn't hold
own_within : (b a : ℕ) (h : Head) (ks : Forest) → holds b (range a h ks) ≡ false → holds b (own_bytes a h) ≡ false
own_within b a h ks fails = grind (arith, length-append, leb_tells, nat_tests)

-- ---- where no node holds the byte no mention does

out_of : (t : Bool) (x : Range ℕ) (ys : List (Range ℕ)) → (if t then x ∷ [] else []) ++ ys ≡ [] → t ≡ false
out_of t x ys e = grind arith

rest_of : (t : Bool) (x : Range ℕ) (ys : List (Range ℕ)) → (if t then x ∷ [] else []) ++ ys ≡ [] → ys ≡ []
rest_of t x ys e = grind arith

left_of : (xs ys : List (Range ℕ)) → xs ++ ys ≡ [] → xs ≡ []
left_of [] ys e = refl
left_of (x ∷ xs) ys e = cc

right_of : (xs ys : List (Range ℕ)) → xs ++ ys ≡ [] → ys ≡ []
right_of [] ys e = e
right_of (x ∷ xs) ys e = cc

none_around : (b a : ℕ) (in_markup : Bool) (f : Forest) → around b a f ≡ [] → holding b (row in_markup a f) ≡ None
none_around b a in_markup none e = refl
none_around b a in_markup (more h ks r) e =
    let below : List (Range ℕ) = around b (inner a h) ks in
    let later : List (Range ℕ) = around b (behind a h ks) r in
    let out : holds b (range a h ks) ≡ false = out_of (holds b (range a h ks)) (range a h ks) (below ++ later) e in
    let rest : below ++ later ≡ [] = rest_of (holds b (range a h ks)) (range a h ks) (below ++ later) e in
    let first : holding b (option_to_list (own in_markup a h)) ≡ None = own_out b a in_markup h (own_within b a h ks out) in
    let second : holding b (row (is_markup h.kind) (inner a h) ks) ≡ None = none_around b (inner a h) (is_markup h.kind) ks (left_of below later rest) in
    let third : holding b (row in_markup (behind a h ks) r) ≡ None = none_around b (behind a h ks) in_markup r (right_of below later rest) in
    holding_three b (option_to_list (own in_markup a h)) (row (is_markup h.kind) (inner a h) ks) (row in_markup (behind a h ks) r) ∙ (λ i. option_or (first i) (option_or (second i) (third i)))

-- ---- otherwise the one does that is in the tree that holds it

abbrev held_in : ℕ → Bool → Option Standing → Option Mentioned
held_in b in_markup None = None
held_in b in_markup (Some s) = holding b (row in_markup s.start (more s.node.head s.node.kids none))

by_first : (b a : ℕ) (in_markup : Bool) (t : Tree) (r : Forest) (v : Bool) → holds b (range a t.head t.kids) ≡ v → holding b (row in_markup (behind a t.head t.kids) r) ≡ held_in b in_markup (kid_at b (behind a t.head t.kids) r)
    → holding b (row in_markup a (more t.head t.kids r)) ≡ held_in b in_markup (kid_at b a (more t.head t.kids r))
by_first b a in_markup t r v held later = grind (arith, nat_tests, none_around, around-before, holding_three, kid-held, own_out, own_within, around-within, kid-passed)

holding-kid : (b a : ℕ) (in_markup : Bool) (f : Forest) → holding b (row in_markup a f) ≡ held_in b in_markup (kid_at b a f)
holding-kid b a in_markup none = refl
holding-kid b a in_markup (more h ks r) =
    let t : Tree = record { head = h; kids = ks } in
    by_first b a in_markup t r (holds b (range a h ks)) refl (holding-kid b (behind a h ks) in_markup r)

-- ---- on the way down

after_by : (b a : ℕ) (t : Tree) (r : Forest) (s : Standing) (v : Bool) → holds b (range a t.head t.kids) ≡ v → a ≤ 2 ^ 64 - 1 → kid_at b a (more t.head t.kids r) ≡ Some s → (kid_at b (behind a t.head t.kids) r ≡ Some s → behind a t.head t.kids ≤ b)
    → a ≤ b
after_by b a t r s v held l e later = grind arith

kid_after : (b a : ℕ) (f : Forest) (s : Standing) → a ≤ 2 ^ 64 - 1 → kid_at b a f ≡ Some s → a ≤ b
kid_after b a none s l e = cc
kid_after b a (more h ks r) s l e =
    let t : Tree = record { head = h; kids = ks } in
    after_by b a t r s (holds b (range a h ks)) refl l e (kid_after b (behind a h ks) r s (omega arith))

-- where a child holds the byte the mention is in that
pub in_kid : (b a : ℕ) (in_markup : Bool) (t : Tree) (s : Standing) → kid_at b (inner a t.head) t.kids ≡ Some s
    → holding b (row in_markup a (more t.head t.kids none)) ≡ holding b (row (is_markup t.head.kind) s.start (more s.node.head s.node.kids none))
in_kid b a in_markup t s e =
    let mine : List Mentioned = option_to_list (own in_markup a t.head) in
    let below : List Mentioned = row (is_markup t.head.kind) (inner a t.head) t.kids in
    let over : inner a t.head ≤ b = kid_after b (inner a t.head) t.kids s (omega arith) e in
    let out : holds b (own_bytes a t.head) ≡ false = grind (arith, nat_tests, over) in
    let first : holding b mine ≡ None = own_out b a in_markup t.head out in
    let second : holding b below ≡ held_in b (is_markup t.head.kind) (Some s) = holding-kid b (inner a t.head) (is_markup t.head.kind) t.kids ∙ ap (held_in b (is_markup t.head.kind)) e in
    holding_three b mine below [] ∙ (λ i. option_or (first i) (option_or (second i) None)) ∙ or_none (held_in b (is_markup t.head.kind) (Some s))

-- otherwise it is the node's own
pub in_itself : (b a : ℕ) (in_markup : Bool) (t : Tree) → kid_at b (inner a t.head) t.kids ≡ None → holding b (row in_markup a (more t.head t.kids none)) ≡ option_and_then (if_holds b) (own in_markup a t.head)
in_itself b a in_markup t e = grind (arith, holding_own, holding-kid, holding_three)
