-- Trees that bind where they have no errors.
use Rattle.typst_grammar.proofs.Cited.{◌≡◌, ℕ, zero, suc, Bool, true, false, ◌&&◌, ◌||◌, if◌then◌else◌, List, [], ◌∷◌, ◌++◌, take, drop, None, refl, ◌⊎◌, inl, inr, arith, and_parts, same, is_error, SyntaxKind, hint_with, Tree, forest, text_of, leaf_of, inner_of, error_of, topped, with_kind, made_error, advised, all_advised, itself, of_kind, surprise, wanted, stays, turns_wrong, is_not, renamed, unparened, keeps, holds, lacks, warns, fails, on_both, on_if, any_errors, has_errors, first_sign, operator_of, node_binds, all_bind, binds, forest_trees}
use Rattle.typst_kinds.specs.Names.{name_of}
use Rattle.typst_kinds.specs.declared.kind.SyntaxKind.TheVariants as kind
use Rattle.typst_tree.specs.Messages.{made_unexpected, made_expected, unexpected_message}
use Rattle.typst_language.specs.Shape.{Making, made, hinted_last, hinted, NodeChange, is_delimited, renamed_last, parens_renamed, without_parens, on_first, first_changed, Shape, shaped}
pub use Rattle.typst_grammar.proofs.Lists.{All, all-append, all-take, all-drop, all-map}
pub use Rattle.std.proofs.lemmas.Bool.{or_from as or-both, and_from as and-both}
pub use Rattle.typst_language.proofs.Alike.{or-first as or-left, or-second as or-right}
pub use Rattle.typst_language.proofs.HintedNodes.{advised-kind}

-- ---- several trees

-- what holds of a tree with hints too
abbrev pub Steady : (Tree → Type 0) → Type 0
Steady P = (hints : List (List ℕ)) (t : Tree) → P t → P (all_advised hints t)

all-last : (P : Tree → Type 0) → Steady P → (hints : List (List ℕ)) (ts : List Tree) → All P ts → All P (hinted_last hints ts)
all-last P f hints [] h = tt
all-last P f hints (t ∷ []) h = (on_both P (is_error t.head.kind) (all_advised hints t) t (f hints t h.0) h.0, tt)
all-last P f hints (t ∷ u ∷ ts) h = (h.0, all-last P f hints (u ∷ ts) h.1)

pub all-hinted : (P : Tree → Type 0) → Steady P → (hints : List (List ℕ)) (ts : List Tree) → All P ts → All P (hinted hints ts)
all-hinted P f hints ts h = grind (arith, all-last)

-- ---- trees that bind where they have no errors

abbrev pub Fine : Tree → Type 0
Fine t = has_errors t ≡ false → binds t ≡ true

pub fine-advised : Steady Fine
fine-advised [] t h = h
fine-advised (hint ∷ hints) t h = fine-advised hints (advised (hint_with None hint) t) h

-- a node that is no binary one has no operator
pub no-operator : (t : Tree) → same kind.Binary t.head.kind ≡ false → operator_of t ≡ None
no-operator t e = rw e refl

pub binds-bare : (t : Tree) → operator_of t ≡ None → node_binds t ≡ true
binds-bare t e = rw (e, node_binds) refl

abbrev all-bind-fine : (ts : List Tree) → All Fine ts → any_errors (forest ts) ≡ false → all_bind (forest ts) ≡ true
all-bind-fine [] h e = refl
all-bind-fine (t ∷ ts) h e =
    let k = is_error t.head.kind in
    let a = any_errors t.kids in
    let r = any_errors (forest ts) in
    let e2 = or-right k (a || r) e in
    let f = h.0 (or-both k a (or-left k (a || r) e) (or-left a r e2)) in
    and-both (node_binds t) (all_bind t.kids && all_bind (forest ts)) (and_parts (node_binds t) (all_bind t.kids) f).0
    (and-both (all_bind t.kids) (all_bind (forest ts)) (and_parts (node_binds t) (all_bind t.kids) f).1 (all-bind-fine ts h.1 (or-right a r e2)))

-- an inner node over them that is no binary one
pub fine-inner : (k : SyntaxKind) (ts : List Tree) → same kind.Binary k ≡ false → All Fine ts → Fine (inner_of k (forest ts))
fine-inner k ts e h n =
    and-both (node_binds (inner_of k (forest ts))) (all_bind (forest ts)) (binds-bare (inner_of k (forest ts)) (no-operator (inner_of k (forest ts)) e))
    (all-bind-fine ts h (or-right (is_error k) (any_errors (forest ts)) n))

-- trees of which each binds, up to the first error among them
abbrev pub Fines : List Tree → Type 0
Fines [] = Unit {0}
Fines (t ∷ ts) = Fine t × ((is_error t.head.kind ≡ true) ⊎ Fines ts)

pub fines-all : (ts : List Tree) → All Fine ts → Fines ts
fines-all [] h = tt
fines-all (t ∷ ts) h = (h.0, inr (fines-all ts h.1))

pub fines-append : (ts us : List Tree) → Fines ts → Fines us → Fines (ts ++ us)
fines-append [] us h k = k
fines-append (t ∷ ts) us (f, inl e) k = (f, inl e)
fines-append (t ∷ ts) us (f, inr h) k = (f, inr (fines-append ts us h k))

pub fines-take : (n : ℕ) (ts : List Tree) → Fines ts → Fines (take n ts)
fines-take zero ts h = tt
fines-take (suc n) [] h = tt
fines-take (suc n) (t ∷ ts) (f, inl e) = (f, inl e)
fines-take (suc n) (t ∷ ts) (f, inr h) = (f, inr (fines-take n ts h))

fines-last : (hints : List (List ℕ)) (ts : List Tree) → Fines ts → Fines (hinted_last hints ts)
fines-last hints [] h = tt
fines-last hints (t ∷ []) h = (on_both Fine (is_error t.head.kind) (all_advised hints t) t (fine-advised hints t h.0) h.0, inr tt)
fines-last hints (t ∷ u ∷ ts) (f, inl e) = (f, inl e)
fines-last hints (t ∷ u ∷ ts) (f, inr h) = (f, inr (fines-last hints (u ∷ ts) h))

pub fines-hinted : (hints : List (List ℕ)) (ts : List Tree) → Fines ts → Fines (hinted hints ts)
fines-hinted hints ts h = grind (arith, fines-last)

-- where there is none they all do
pub fines-sane : (ts : List Tree) → any_errors (forest ts) ≡ false → Fines ts → All Fine ts
fines-sane [] n h = tt
fines-sane (t ∷ ts) n (f, inl e) = let x = or-left (is_error t.head.kind) (any_errors t.kids || any_errors (forest ts)) n in absurd (cc)
fines-sane (t ∷ ts) n (f, inr h) = (f, fines-sane ts (or-right (any_errors t.kids) (any_errors (forest ts)) (or-right (is_error t.head.kind) (any_errors t.kids || any_errors (forest ts)) n)) h)

pub fine-over : (k : SyntaxKind) (ts : List Tree) → same kind.Binary k ≡ false → Fines ts → Fine (inner_of k (forest ts))
fine-over k ts e h n = fine-inner k ts e (fines-sane ts (or-right (is_error k) (any_errors (forest ts)) n) h) n

pub fine-binary : (ts : List Tree) → Fines ts → (any_errors (forest ts) ≡ false → node_binds (inner_of kind.Binary (forest ts)) ≡ true) → Fine (inner_of kind.Binary (forest ts))
fine-binary ts h b n = and-both (node_binds (inner_of kind.Binary (forest ts))) (all_bind (forest ts)) (b n) (all-bind-fine ts (fines-sane ts n h) n)

pub fine-error : (message text : List ℕ) → Fine (error_of message text)
fine-error message text n = absurd (cc)

-- a leaf has no operator
pub leaf-operator : (k : SyntaxKind) (s : List ℕ) → operator_of (leaf_of k s) ≡ None
leaf-operator k s = on_both (λ o. o ≡ None) (same kind.Binary k) (first_sign false []) None refl refl

pub fine-leaf : (k : SyntaxKind) (s : List ℕ) → Fine (leaf_of k s)
fine-leaf k s n = and-both (node_binds (leaf_of k s)) true (binds-bare (leaf_of k s) (leaf-operator k s)) refl

-- ---- what becomes of a node

-- a node becomes one of another kind
module _ (k : SyntaxKind) (e : same kind.Binary k ≡ false) (t : Tree) where
  abbrev renamed-to : Tree
  renamed-to = topped t (record t.head { kind = k })

  binds-renamed : binds t ≡ true → binds renamed-to ≡ true
  binds-renamed b = and-both (node_binds renamed-to) (all_bind t.kids) (binds-bare renamed-to (no-operator renamed-to e)) (and_parts (node_binds t) (all_bind t.kids) b).1

  pub binds-kind : binds t ≡ true → binds (with_kind k t) ≡ true
  binds-kind b = on_both (λ (u : Tree). binds u ≡ true) (is_error t.head.kind) t renamed-to b (binds-renamed b)

  pub fine-kind : Fine t → Fine (with_kind k t)
  fine-kind h =
      on_if Fine (is_error t.head.kind) t renamed-to (λ _. h)
      (λ i n. binds-renamed (h (or-both (is_error t.head.kind) (any_errors t.kids) i (or-right (is_error k) (any_errors t.kids) n))))

  -- it has errors where it had them
  pub errors-kind : has_errors (with_kind k t) ≡ false → has_errors t ≡ false
  errors-kind = grind arith

pub fine-wrong : (message : List ℕ) (t : Tree) → Fine t → Fine (made_error message t)
fine-wrong message t h = on_both Fine (is_error t.head.kind) t (error_of message (text_of t)) h (fine-error message (text_of t))

pub fine-wanted : (thing : List ℕ) (t : Tree) → Fine t → Fine (made_expected thing t)
fine-wanted thing t h = grind arith

-- several of which some have another kind
abbrev Kept : List Tree → List Tree → Type 0
Kept ts us = (any_errors (forest us) ≡ false → any_errors (forest ts) ≡ false) × (all_bind (forest ts) ≡ true → all_bind (forest us) ≡ true)

kept-first : (t u : Tree) (ts us : List Tree) → (has_errors u ≡ false → has_errors t ≡ false) → (binds t ≡ true → binds u ≡ true) → Kept ts us → Kept (t ∷ ts) (u ∷ us)
kept-first t u ts us e b h = grind (arith, or-right, or-both, or-left, and_parts, and-both)

kept-last : (k : SyntaxKind) → same kind.Binary k ≡ false → (ts : List Tree) → Kept ts (renamed_last k ts)
kept-last k e [] = (λ n. n, λ n. n)
kept-last k e (t ∷ []) = kept-first t (with_kind k t) [] [] (errors-kind k e t) (binds-kind k e t) (λ n. n, λ n. n)
kept-last k e (t ∷ u ∷ ts) = kept-first t t (u ∷ ts) (renamed_last k (u ∷ ts)) (λ n. n) (λ n. n) (kept-last k e (u ∷ ts))

kept-parens : (ts : List Tree) → Kept ts (parens_renamed ts)
kept-parens [] = (λ n. n, λ n. n)
kept-parens (t ∷ ts) = kept-first t (with_kind kind.LeftParen t) ts (renamed_last kind.RightParen ts) (errors-kind kind.LeftParen refl t) (binds-kind kind.LeftParen refl t) (kept-last kind.RightParen refl ts)

delimited-sound : (k : SyntaxKind) → is_delimited k ≡ true → is_error k ≡ false
delimited-sound k h = grind arith

fine-parens : (t : Tree) → Fine t → Fine (without_parens t)
fine-parens t h = grind (arith, on_if, kept-parens, forest_trees, or-both, delimited-sound, and_parts)

-- ---- what becomes of several nodes

-- what this allows of the kinds that are made
abbrev pub change_by : (SyntaxKind → Bool) → NodeChange → Bool
change_by allows (renamed k) = allows k
change_by allows _ = true

abbrev pub shape_by : (SyntaxKind → Bool) → Shape → Bool
shape_by allows (keeps change) = change_by allows change
shape_by allows (holds change k) = change_by allows change && allows k
shape_by allows (lacks count message k) = allows k
shape_by allows (warns k message hint) = allows k
shape_by allows (fails message) = true

abbrev pub making_by : (SyntaxKind → Bool) → Making → Bool
making_by allows (of_kind k) = allows k
making_by allows _ = true

-- the kind of no binary node
abbrev pub unbinary : SyntaxKind → Bool
unbinary k = if same kind.Binary k then false else true

-- no error, and no block's node
abbrev pub is_ordinary : SyntaxKind → Bool
is_ordinary kind.Error = false
is_ordinary kind.CodeBlock = false
is_ordinary kind.ContentBlock = false
is_ordinary _ = true

-- an ordinary kind that is not of binary nodes
abbrev pub tame_kind : SyntaxKind → Bool
tame_kind k = is_ordinary k && unbinary k

abbrev pub tame_change : NodeChange → Bool
tame_change change = change_by tame_kind change

abbrev pub tame : Shape → Bool
tame shape = shape_by tame_kind shape

abbrev pub tame_making : Making → Bool
tame_making making = making_by tame_kind making

pub tame-unbinary : (k : SyntaxKind) → tame_kind k ≡ true → unbinary k ≡ true
tame-unbinary k h = (and_parts (is_ordinary k) (unbinary k) h).1

pub tame-ordinary : (k : SyntaxKind) → tame_kind k ≡ true → is_ordinary k ≡ true
tame-ordinary k h = (and_parts (is_ordinary k) (unbinary k) h).0

pub is-unbinary : (k : SyntaxKind) → unbinary k ≡ true → same kind.Binary k ≡ false
is-unbinary k h = grind arith

-- a test that allows more holds too
module _ (f g : SyntaxKind → Bool) (more : (k : SyntaxKind) → f k ≡ true → g k ≡ true) where
  pub shape-weaker : (shape : Shape) → shape_by f shape ≡ true → shape_by g shape ≡ true
  shape-weaker shape h = grind arith

  pub making-weaker : (making : Making) → making_by f making ≡ true → making_by g making ≡ true
  making-weaker making h = grind arith

-- an error stays one
abbrev Wrong : Tree → Type 0
Wrong t = is_error t.head.kind ≡ true

wrong-wrong : (message : List ℕ) (t : Tree) → Wrong t → Wrong (made_error message t)
wrong-wrong message t e = on_both Wrong (is_error t.head.kind) t (error_of message (text_of t)) e refl

wrong-wanted : (thing : List ℕ) (t : Tree) → Wrong t → Wrong (made_expected thing t)
wrong-wanted thing t e = grind arith

wrong-kind : (k : SyntaxKind) (t : Tree) → Wrong t → Wrong (with_kind k t)
wrong-kind k t e = on_if Wrong (is_error t.head.kind) t (topped t (record t.head { kind = k })) (λ _. e) (λ i. absurd (cc))

wrong-parens : (t : Tree) → Wrong t → Wrong (without_parens t)
wrong-parens t e = grind arith

fines-first : (f : Tree → Tree) → ((t : Tree) → Fine t → Fine (f t)) → ((t : Tree) → Wrong t → Wrong (f t)) → (ts : List Tree) → Fines ts → Fines (on_first f ts)
fines-first f g w [] h = tt
fines-first f g w (t ∷ ts) (x, inl e) = (g t x, inl (w t e))
fines-first f g w (t ∷ ts) (x, inr h) = (g t x, inr h)

fines-change : (change : NodeChange) (ts : List Tree) → change_by unbinary change ≡ true → Fines ts → Fines (first_changed change ts)
fines-change stays ts e h = h
fines-change (turns_wrong message) ts e h = fines-first (made_error message) (fine-wrong message) (wrong-wrong message) ts h
fines-change (is_not thing) ts e h = fines-first (made_expected thing) (fine-wanted thing) (wrong-wanted thing) ts h
fines-change (renamed k) ts e h = fines-first (with_kind k) (fine-kind k (is-unbinary k e)) (wrong-kind k) ts h
fines-change unparened ts e h = fines-first without_parens fine-parens wrong-parens ts h

fines-shaped : (shape : Shape) (ts : List Tree) → shape_by unbinary shape ≡ true → Fines ts → Fines (shaped shape ts)
fines-shaped (keeps change) ts e h = fines-change change ts e h
fines-shaped (holds change k) ts e h = grind (arith, fine-over, is-unbinary, and_parts, fines-change)
fines-shaped (lacks count message k) ts e h = grind (arith, fine-over, is-unbinary, fines-append, fines-take, fine-error)
fines-shaped (warns k message hint) ts e h = (fine-over k ts (is-unbinary k e) h, inr tt)
fines-shaped (fails message) ts e h = (λ n. absurd (cc), inl refl)

-- what stands before them stays
pub fines-after : (m : ℕ) (ts us : List Tree) → Fines ts → (Fines (drop m ts) → Fines us) → Fines (take m ts ++ us)
fines-after zero ts us h f = f h
fines-after (suc m) [] us h f = f tt
fines-after (suc m) (t ∷ ts) us (x, inl e) f = (x, inl e)
fines-after (suc m) (t ∷ ts) us (x, inr h) f = (x, inr (fines-after m ts us h f))

pub fines-reshaped : (m : ℕ) (shape : Shape) (ts : List Tree) → shape_by unbinary shape ≡ true → Fines ts → Fines (take m ts ++ shaped shape (drop m ts))
fines-reshaped m shape ts e h = fines-after m ts (shaped shape (drop m ts)) h (fines-shaped shape (drop m ts) e)

-- ---- what becomes of a token

pub fine-made : (m : Making) (t : Tree) → making_by unbinary m ≡ true → Fine t → Fine (made m t)
fine-made itself t e h = h
fine-made (of_kind k) t e h = fine-kind k (is-unbinary k e) t h
fine-made (surprise hints) t e h = fine-advised hints (made_unexpected t) (fine-wrong (unexpected_message (name_of t.head.kind)) t h)
fine-made (wanted thing) t e h = fine-wanted thing t h
