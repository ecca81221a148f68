-- How many steps are allowed makes no difference where they are enough.
use Rattle.typst_highlight.proofs.Cited.{◌≡◌, ℕ, suc, zero, ◌+◌, ◌<◌, ◌≤◌, Option, None, Some, refl, ap, sym, ◌∙◌, arith, option_and_then, nodes, At, kind_of, parent, Tag, Rule, rule_of, first_tag, name_alone, access, from_or, outermost, surroundings, earlier_name, name_tag, expression_leaf, tag_by, tag_within}
use Rattle.typst_highlight.specs.declared.rules.Rule.TheVariants as rule
use Rattle.typst_highlight.specs.declared.context.Surroundings.{Surroundings}
use Rattle.typst_highlight.proofs.Bounds.{access_below, name_below, parent_below, expression_after}
use Rattle.typst_highlight.proofs.Cases.{same_then}

same_from : (a : At) (o : Option At) (f g : At → At) → ((p : At) → o ≡ Some p → f p ≡ g p) → from_or a f o ≡ from_or a g o
same_from a o f g h = grind arith

pub nothing_above : (a : At) (o : Option At) (f : At → At) → ((p : At) → o ≡ Some p → ⊥) → from_or a f o ≡ a
nothing_above a o f h = grind arith

pub same_outer : (n m : ℕ) (a : At) → a.number ≤ n → a.number ≤ m → outermost n a ≡ outermost m a
same_outer zero zero a h k = refl
same_outer zero (suc m) a h k = sym (nothing_above a (access (parent a)) (outermost m) (λ p e. omega (arith, h, access_below a p e)))
same_outer (suc n) zero a h k = nothing_above a (access (parent a)) (outermost n) (λ p e. omega (arith, k, access_below a p e))
same_outer (suc n) (suc m) a h k =
    same_from a (access (parent a)) (outermost n) (outermost m)
    (λ p e. let below = access_below a p e in same_outer n m p (omega (arith, h, below)) (omega (arith, k, below)))

pub same_name : (n m : ℕ) (a : At) → a.number < n → a.number < m → name_tag n a ≡ name_tag m a
same_name zero m a h k = absurd (omega (arith, h))
same_name (suc n) zero a h k = absurd (omega (arith, k))
same_name (suc n) (suc m) a h k =
    ap (first_tag (name_alone (surroundings a)))
    (same_then (earlier_name a) (name_tag n) (name_tag m)
    (λ b e. let below = name_below a b e in same_name n m b (omega (arith, h, below)) (omega (arith, k, below))))

-- a name's tag with one step more
pub name_once : (a : At) → name_tag (a.number + 1) a ≡ first_tag (name_alone (surroundings a)) (option_and_then (name_tag a.number) (earlier_name a))
name_once a = same_name (a.number + 1) (suc a.number) a (omega arith) (omega arith)

-- only a hash asks for the tag of an expression
pub needs_none : (r : Rule) (a : At) (e : Option Tag) → (r ≡ rule.Expression → ⊥) → tag_by r a None ≡ tag_by r a e
needs_none r a e h = grind arith

pub outer_top : (a : At) → access (parent a) ≡ None → outermost a.number a ≡ a
outer_top a e = grind arith

pub outer_up : (a p : At) → parent a ≡ Some p → access (Some p) ≡ Some p → outermost a.number a ≡ outermost p.number p
outer_up a p e f = grind (arith, same_outer, parent_below)

pub name_some : (a : At) (s : Surroundings) (t : Tag) → Some t ≡ name_alone s → s ≡ surroundings a → Some t ≡ name_tag (a.number + 1) a
name_some a s t e f = grind (arith, name_once)

pub name_none : (a : At) (s : Surroundings) → None ≡ name_alone s → s ≡ surroundings a → name_tag (a.number + 1) a ≡ option_and_then (name_tag a.number) (earlier_name a)
name_none a s e f = grind (arith, name_once)

pub name_ends : (a : At) → None ≡ earlier_name a → None ≡ option_and_then (name_tag a.number) (earlier_name a)
name_ends a e = ap (option_and_then (name_tag a.number)) e

pub name_goes : (a b : At) → Some b ≡ earlier_name a → name_tag (b.number + 1) b ≡ option_and_then (name_tag a.number) (earlier_name a)
name_goes a b e =
    same_name (b.number + 1) a.number b (omega arith) (name_below a b (sym e)) ∙ ap (option_and_then (name_tag a.number)) e

-- a hash has the tag of the leaf that it leads to
pub hash_step : (n : ℕ) (a b : At) → a.number < nodes a.root → nodes a.root ≤ n + a.number → rule.Expression ≡ rule_of (kind_of a) → Some b ≡ expression_leaf a → (m : ℕ) × ((tag_within n a ≡ tag_within m b) × (nodes b.root ≤ m + b.number))
hash_step zero a b h l e f = absurd (omega (arith, h, l))
hash_step (suc m) a b h l e f =
    let w = expression_after a b (sym f) in
    let rest : Option Tag = option_and_then (tag_within m) (expression_leaf a) in
    (m, (ap (λ u. tag_by u a rest) (sym e) ∙ ap (option_and_then (tag_within m)) (sym f), omega (arith, l, w.0, ap nodes w.1)))

-- another node has the tag of its rule
pub hash_end : (n : ℕ) (a : At) → a.number < nodes a.root → nodes a.root ≤ n + a.number → (rule_of (kind_of a) ≡ rule.Expression → ⊥) → tag_by (rule_of (kind_of a)) a None ≡ tag_within n a
hash_end zero a h l e = absurd (omega (arith, h, l))
hash_end (suc m) a h l e = needs_none (rule_of (kind_of a)) a (option_and_then (tag_within m) (expression_leaf a)) e
