-- What a level of the walk has is what is round its nodes, also where what is ahead was looked for or wasn't.
use Rattle.typst_highlight.proofs.Cited.{◌≡◌, ℕ, ◌+◌, ap, sym, ◌∙◌, refl, Bool, true, false, ◌||◌, Option, None, Some, Result, length, cond, arith, is_some, SyntaxKind, is_trivia, is_hash_expr, Forest, none, more, Tree, saturated, text_of, is_leaf, Tag, Rule, Ahead, Context, rule_of, Found, end, first_ahead, first_leaf, flat, found, holds_leaf, is_followed, name, next_kind, next_leaf, passed, past, step, tag, tag_here, tag_under, tree_of, within}
use Rattle.std.specs.Result.{IfOk}
use Rattle.std.proofs.lemmas.Result.{IfOk-weaker}
use Rattle.typst_highlight.specs.declared.rules.Rule.TheVariants as rule
use Rattle.typst_highlight.proofs.Cases.{bool_cases}
use Rattle.std.proofs.lemmas.Bool.{or_right}

-- a name whose next leaf is known needs nothing of what follows it
pub name_facing : (c : Context) (t : Tree) (r : Forest) (x : Option Ahead) → x ≡ next_leaf c t r → name (record c { ahead = x }) t none ≡ name c t r
name_facing c t r x e = grind arith

-- with another leaf ahead
abbrev pub facing : Option Ahead → Context → Context
facing x c = record c { ahead = x }

either_some : (x y : Option Ahead) → is_some (first_ahead x y) ≡ (is_some x || is_some y)
either_some x y = grind arith

-- whether there is a first leaf
pub leaf_held : (p : Option SyntaxKind) (a : ℕ) (f : Forest) → is_some (first_leaf p a f) ≡ holds_leaf f
leaf_held p a none = refl
leaf_held p a (more h ks r) =
    let t : Tree = tree_of h ks in
    let inner : Option Ahead = first_leaf (Some h.kind) (saturated (a + length h.text)) ks in
    let later : Option Ahead = first_leaf p (saturated (a + length (text_of t))) r in
    let both : is_some (first_ahead inner later) ≡ (holds_leaf ks || holds_leaf r) =
    either_some inner later ∙ (λ i. leaf_held (Some h.kind) (saturated (a + length h.text)) ks i || leaf_held p (saturated (a + length (text_of t))) r i) in
    elim (is_leaf t) as (λ b. is_some (cond b (Some (record { kind = h.kind; parent = p; offset = a })) (first_ahead inner later)) ≡ (b || (holds_leaf ks || holds_leaf r))) [ true ↦ refl | false ↦ both ]

-- then it doesn't matter what is behind them all
some_first : (l x y : Option Ahead) → is_some l ≡ true → first_ahead l x ≡ first_ahead l y
some_first l x y e = grind arith

next_held : (c : Context) (t : Tree) (r : Forest) (x y : Option Ahead) → holds_leaf r ≡ true → next_leaf (facing x c) t r ≡ next_leaf (facing y c) t r
next_held c t r x y e = some_first (first_leaf c.parent (end c t) r) x y (leaf_held c.parent (end c t) r ∙ e)

within_held : (c : Context) (t : Tree) (r : Forest) (x y : Option Ahead) → holds_leaf r ≡ true → within (facing x c) t r ≡ within (facing y c) t r
within_held c t r x y e = ap (λ n. record (within c t r) { ahead = n }) (next_held c t r x y e)

name_held : (c : Context) (t : Tree) (r : Forest) (x y : Option Ahead) → holds_leaf r ≡ true → name (facing x c) t r ≡ name (facing y c) t r
name_held c t r x y e = grind (arith, next_held)

step_held : (c : Context) (t : Tree) (r : Forest) (x y : Option Ahead) → holds_leaf r ≡ true → step (facing x c) t r ≡ step (facing y c) t r
step_held c t r x y e = grind (arith, cond, name_held)

passed_held : (c : Context) (t : Tree) (r : Forest) (x y : Option Ahead) → holds_leaf r ≡ true → passed (facing x c) t r ≡ passed (facing y c) t r
passed_held c t r x y e = grind (arith, cond, within_held, step_held)

followed_holds : (f : Forest) → is_followed f ≡ true → holds_leaf f ≡ true
followed_holds none e = absurd (cc)
followed_holds (more h ks r) e =
    let later : Bool → Bool = λ b. cond b (is_followed r) (holds_leaf r) in
    let held : holds_leaf r ≡ true = bool_cases (is_trivia h.kind) (λ is_so. followed_holds r (sym (ap later is_so) ∙ e)) (λ not_so. sym (ap later not_so) ∙ e) in
    or_right (is_leaf (tree_of h ks)) (holds_leaf ks || holds_leaf r) (or_right (holds_leaf ks) (holds_leaf r) held)

-- the rule of a hash
abbrev by_hash : Rule → Bool
by_hash rule.Expression = true
by_hash _ = false

no_hash : (k : SyntaxKind) → is_hash_expr k ≡ true → by_hash (rule_of k) ≡ false
no_hash k e = grind arith

tag_held : (u : Rule) (c : Context) (t : Tree) (r : Forest) (x y : Option Ahead) (d e : Option Tag) → name (facing x c) t r ≡ name (facing y c) t r → d ≡ e → tag_here u (facing x c) t r d ≡ tag_here u (facing y c) t r e
tag_held u c t r x y d e n f = grind arith

tag_hashless : (u : Rule) (c : Context) (t : Tree) (r : Forest) (x y : Option Ahead) (d e : Option Tag) → by_hash u ≡ false → name (facing x c) t r ≡ name (facing y c) t r → tag_here u (facing x c) t r d ≡ tag_here u (facing y c) t r e
tag_hashless u c t r x y d e b n = grind arith

-- the tag of the expression that the trees begin with
expression_held : (c : Context) (f : Forest) (x y : Option Ahead) → is_followed f ≡ true → (found (facing x c) f).expression ≡ (found (facing y c) f).expression
expression_held c none x y e = absurd (cc)
expression_held c (more h ks r) x y e =
    let t : Tree = tree_of h ks in
    let later : Option Ahead → Found = λ z. found (past (facing z c) t (passed (facing z c) t r)) r in
    let own : Option Ahead → Option (Option Tag) = λ z. cond (is_leaf t) (Some (tag_here (rule_of h.kind) (facing z c) t r (later z).expression)) (found (within (facing z c) t r) ks).leaf in
    let either : Option Ahead → Bool → Option Tag = λ z b. cond b (later z).expression (cond (is_hash_expr h.kind) (flat (own z)) None) in
    let left : Bool → Bool = λ b. cond b (is_followed r) (holds_leaf r) in
    bool_cases (is_trivia h.kind)
    (λ is_so.
    let rest : is_followed r ≡ true = sym (ap left is_so) ∙ e in
    let same : (later x).expression ≡ (later y).expression =
    ap (λ p. (found (past (facing x c) t p) r).expression) (passed_held c t r x y (followed_holds r rest))
    ∙ expression_held (past c t (passed (facing y c) t r)) r x y rest in
    ap (either x) is_so ∙ (same ∙ sym (ap (either y) is_so)))
    (λ not_so.
    let rest : holds_leaf r ≡ true = sym (ap left not_so) ∙ e in
    let chosen : Option Ahead → Bool → Option Tag = λ z b. cond b (flat (own z)) None in
    let same : chosen x (is_hash_expr h.kind) ≡ chosen y (is_hash_expr h.kind) =
    bool_cases (is_hash_expr h.kind)
    (λ is_expr.
    let mine : tag_here (rule_of h.kind) (facing x c) t r (later x).expression ≡ tag_here (rule_of h.kind) (facing y c) t r (later y).expression =
    tag_hashless (rule_of h.kind) c t r x y (later x).expression (later y).expression (no_hash h.kind is_expr) (name_held c t r x y rest) in
    let inner : (found (within (facing x c) t r) ks).leaf ≡ (found (within (facing y c) t r) ks).leaf = ap (λ w. (found w ks).leaf) (within_held c t r x y rest) in
    λ i. cond (is_hash_expr h.kind) (flat (cond (is_leaf t) (Some (mine i)) (inner i))) None)
    (λ no_expr. ap (chosen x) no_expr ∙ sym (ap (chosen y) no_expr)) in
    ap (either x) not_so ∙ (same ∙ sym (ap (either y) not_so)))

-- the tag of a node that such trees follow
pub tag_followed : (c : Context) (t : Tree) (r : Forest) (x y : Option Ahead) → is_followed r ≡ true → tag (facing x c) t r ≡ tag (facing y c) t r
tag_followed c t r x y e =
    let held : holds_leaf r ≡ true = followed_holds r e in
    tag_held (rule_of t.head.kind) c t r x y _ _ (name_held c t r x y held)
    (ap (λ p. (found (past (facing x c) t p) r).expression) (passed_held c t r x y held) ∙ expression_held (past c t (passed (facing y c) t r)) r x y e)

-- a tag that was found in a context with the same one
pub tag_from : {E : Type 0} (u : Result (Option Tag) E) (c d : Context) (t : Tree) (r : Forest) → tag d t r ≡ tag c t r → IfOk u (λ x. x ≡ tag d t r) → IfOk u (λ x. x ≡ tag c t r)
tag_from u c d t r e h = IfOk-weaker u (λ x. x ≡ tag d t r) (λ x. x ≡ tag c t r) (λ x p. p ∙ e) h

-- a tag that the kinds of the node, its parent and the next one tell
pub under_tag : (u : Rule) (c : Context) (t : Tree) (r : Forest) (e x : Option Tag) → Some x ≡ tag_under u c.parent (next_kind r) → x ≡ tag_here u c t r e
under_tag u c t r e x h = grind arith
