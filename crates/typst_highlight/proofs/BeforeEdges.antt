-- What stands before an edge sees nothing of what follows it.
use Rattle.typst_highlight.proofs.Cited.{◌≡◌, ℕ, ◌+◌, Bool, true, false, ◌||◌, List, [], ◌∷◌, ◌++◌, length, Option, None, Some, ap, sym, ◌∙◌, cond, arith, SyntaxKind, is_trivia, is_hash_expr, Forest, more, Tree, forest, saturated, text_of, is_leaf, Tag, Rule, Ahead, Context, is_name, is_dot, is_field_access, end, first_ahead, first_leaf, found, name, next_kind, next_leaf, passed, past, tag, tag_here, within, is_plain, begins_plain, is_edge}
use Rattle.std.proofs.lemmas.Bool.{and_parts, not-true}

-- ---- what is known of an edge

or_second : (p q : Bool) → (p || q) ≡ true → p ≡ false → q ≡ true
or_second p q e n = grind arith

pub record IsEdge (t : Tree) : Type 0 where
  pub first : (is_plain t || begins_plain t.kids) ≡ true
  pub trivia : is_trivia t.head.kind ≡ false
  pub expression : is_hash_expr t.head.kind ≡ false

pub edge : (t : Tree) → is_edge t ≡ true → IsEdge t
edge t e = grind (arith, and_parts, not-true)

pub record IsPlain (t : Tree) : Type 0 where
  pub leaf : is_leaf t ≡ true
  pub name : is_name t.head.kind ≡ false
  pub dot : is_dot t.head.kind ≡ false

pub plain : (t : Tree) → is_plain t ≡ true → IsPlain t
plain t e = grind arith

-- no field access is an edge
pub no_access : (k : SyntaxKind) → is_hash_expr k ≡ false → is_field_access k ≡ false
no_access k e = grind arith

-- either the edge is a leaf, or its first child is
pub first_plain : (t : Tree) → IsEdge t → is_plain t ≡ false → begins_plain t.kids ≡ true
first_plain t w n = or_second (is_plain t) (begins_plain t.kids) w.first n

-- ---- what is seen behind a tree

-- the first leaf from an edge on
first_edge : (p : Option SyntaxKind) (a : ℕ) (t : Tree) (q r : Forest) → IsEdge t → first_leaf p a (more t.head t.kids q) ≡ first_leaf p a (more t.head t.kids r)
first_edge p a t q r w = grind arith

-- the first leaf of trees with an edge among them
leaf_before : (p : Option SyntaxKind) (a : ℕ) (front : List Tree) (b : Tree) (xs ys : List Tree) → IsEdge b → first_leaf p a (forest (front ++ b ∷ xs)) ≡ first_leaf p a (forest (front ++ b ∷ ys))
leaf_before p a [] b xs ys w = first_edge p a b (forest xs) (forest ys) w
leaf_before p a (t ∷ front) b xs ys w =
    let own : Option Ahead = Some (record { kind = t.head.kind; parent = p; offset = a }) in
    let inner : Option Ahead = first_leaf (Some t.head.kind) (saturated (a + length t.head.text)) t.kids in
    ap (λ l. cond (is_leaf t) own (first_ahead inner l)) (leaf_before p (saturated (a + length (text_of t))) front b xs ys w)

-- the first of them that is no trivia
kind_before : (front : List Tree) (b : Tree) (xs ys : List Tree) → IsEdge b → next_kind (forest (front ++ b ∷ xs)) ≡ next_kind (forest (front ++ b ∷ ys))
kind_before [] b xs ys w = grind arith
kind_before (t ∷ front) b xs ys w = ap (λ k. cond (is_trivia t.head.kind) k (Some t.head.kind)) (kind_before front b xs ys w)

-- a tree sees the same of what follows it
pub record SeesSame (c : Context) (t : Tree) (q r : Forest) : Type 0 where
  pub leaf : next_leaf c t q ≡ next_leaf c t r
  pub kind : next_kind q ≡ next_kind r

sees : (c : Context) (t : Tree) (front : List Tree) (b : Tree) (xs ys : List Tree) → IsEdge b → SeesSame c t (forest (front ++ b ∷ xs)) (forest (front ++ b ∷ ys))
sees c t front b xs ys w = record {
  leaf = ap (λ l. first_ahead l c.ahead) (leaf_before c.parent (end c t) front b xs ys w);
  kind = kind_before front b xs ys w;
}

within_same : (c : Context) (t : Tree) (q r : Forest) → SeesSame c t q r → within c t q ≡ within c t r
within_same c t q r s = ap (λ l. record (within c t q) { ahead = l }) s.leaf

passed_same : (c : Context) (t : Tree) (q r : Forest) → SeesSame c t q r → passed c t q ≡ passed c t r
passed_same c t q r s = grind arith

here_same : (u : Rule) (c : Context) (t : Tree) (q r : Forest) (d e : Option Tag) → SeesSame c t q r → d ≡ e → tag_here u c t q d ≡ tag_here u c t r e
here_same u c t q r d e s f = grind arith

-- ---- the tag of the expression behind a hash

stopped : (c : Context) (b : Tree) (xs : List Tree) → IsEdge b → (found c (forest (b ∷ xs))).expression ≡ None
stopped c b xs w = grind arith

expression_before : (c : Context) (front : List Tree) (b : Tree) (xs ys : List Tree) → IsEdge b → (found c (forest (front ++ b ∷ xs))).expression ≡ (found c (forest (front ++ b ∷ ys))).expression
expression_before c [] b xs ys w = stopped c b xs w ∙ sym (stopped c b ys w)
expression_before c (t ∷ front) b xs ys w =
    let q : Forest = forest (front ++ b ∷ xs) in
    let r : Forest = forest (front ++ b ∷ ys) in
    let s : SeesSame c t q r = sees c t front b xs ys w in
    let later : (found (past c t (passed c t q)) q).expression ≡ (found (past c t (passed c t r)) r).expression =
    expression_before (past c t (passed c t q)) front b xs ys w ∙ ap (λ v. (found (past c t v) r).expression) (passed_same c t q r s) in
    grind arith

-- ---- the law

-- a tree has the same tag, and its children and what follows it have the same round them, whatever stands behind the edge
pub record IsApart (c : Context) (t : Tree) (q r : Forest) : Type 0 where
  pub own : tag c t q ≡ tag c t r
  pub below : within c t q ≡ within c t r
  pub later : past c t (passed c t q) ≡ past c t (passed c t r)

pub before_edge : (c : Context) (t : Tree) (front : List Tree) (b : Tree) (xs ys : List Tree) → IsEdge b → IsApart c t (forest (front ++ b ∷ xs)) (forest (front ++ b ∷ ys))
before_edge c t front b xs ys w =
    let q : Forest = forest (front ++ b ∷ xs) in
    let r : Forest = forest (front ++ b ∷ ys) in
    let s : SeesSame c t q r = sees c t front b xs ys w in
    grind (arith, passed_same, expression_before, here_same, within_same)
