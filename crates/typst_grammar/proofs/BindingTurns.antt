-- A binary node that an operator makes binds.
use Rattle.typst_grammar.proofs.Cited.{◌≡◌, ℕ, suc, Bool, true, false, ◌||◌, if◌then◌else◌, nat_lt, nat_le, List, [], ◌∷◌, ◌++◌, Option, Some, None, refl, subst, arith, nat_tests, same, is_error, is_trivia, binary_of, binary_precedence, SyntaxKind, BinOp, Tree, forest, inner_of, CodeTail, calls_directly, binary_tail, code_tail, any_errors, has_errors, first_sign, operator_of, binds_by, left_binds, right_binds, right_least, node_binds, trees_forest}
use Rattle.typst_kinds.specs.declared.kind.SyntaxKind.TheVariants as kind
use Rattle.typst_kinds.specs.declared.operator.BinOp.TheVariants as binary
use Rattle.typst_code.specs.declared.heads.CodeTail.TheVariants as tail
use Rattle.typst_grammar.proofs.Signs.{sign_of, NoSign}
use Rattle.typst_grammar.proofs.Fine.{All, or-left, or-right, or-both, and-both}
use Rattle.typst_grammar.proofs.Heads.{LastIs}

-- ---- children of a binary node

abbrev pub BindsBy : ℕ → Tree → Type 0
BindsBy n t = binds_by n t ≡ true

module _ (sgn : Tree) (rs : List Tree) where
  left-is : (n : ℕ) (ls : List Tree) → All (BindsBy n) ls → BindsBy n sgn → is_trivia sgn.head.kind ≡ false → left_binds n (ls ++ sgn ∷ rs) ≡ true
  left-is n [] h b e = rw e b
  left-is n (t ∷ ls) h b e = by-trivia (is_trivia t.head.kind) (left-is n ls h.1 b e)
    where
      by-trivia : (x : Bool) → left_binds n (ls ++ sgn ∷ rs) ≡ true → (if x then left_binds n (ls ++ sgn ∷ rs) else binds_by n t) ≡ true
      by-trivia x r = grind arith

-- the last of the nodes on the right binds them
right-of : (n : ℕ) (rs : List Tree) → LastIs (Unit {0}) (BindsBy n) rs → right_binds n rs ≡ true
right-of n [] h = refl
right-of n (r ∷ []) h = h
right-of n (r ∷ v ∷ rs) h = right-of n (v ∷ rs) h

last-after : (n : ℕ) (ls : List Tree) (sgn : Tree) (rs : List Tree) → LastIs (Unit {0}) (BindsBy n) rs → BindsBy n sgn → LastIs (Unit {0}) (BindsBy n) (ls ++ sgn ∷ rs)
last-after n [] sgn [] h b = b
last-after n [] sgn (r ∷ rs) h b = h
last-after n (t ∷ []) sgn rs h b = last-after n [] sgn rs h b
last-after n (t ∷ u ∷ ls) sgn rs h b = last-after n (u ∷ ls) sgn rs h b

pub bare-binds : (n : ℕ) (t : Tree) → operator_of t ≡ None → BindsBy n t
bare-binds n t e = rw (e, binds_by) refl

-- an operator between what binds as it asks for
pub binary-binds : (op : BinOp) (ls : List Tree) (sgn : Tree) (rs : List Tree) → first_sign false (ls ++ sgn ∷ rs) ≡ Some op → is_trivia sgn.head.kind ≡ false → operator_of sgn ≡ None → All NoSign ls → All (BindsBy (binary_precedence op)) ls → LastIs (Unit {0}) (BindsBy (right_least op)) rs
    → (operator_of (inner_of kind.Binary (forest (ls ++ sgn ∷ rs))) ≡ Some op) × (node_binds (inner_of kind.Binary (forest (ls ++ sgn ∷ rs))) ≡ true)
binary-binds op ls sgn rs s e none no_signs left right = grind (arith, trees_forest, bare-binds, and-both, left-is, right-of, last-after)

-- ---- errors

abbrev pub Sane : Tree → Type 0
Sane t = has_errors t ≡ false

pub all-sane : (ts : List Tree) → any_errors (forest ts) ≡ false → All Sane ts
all-sane [] e = tt
all-sane (t ∷ ts) e =
    let k = is_error t.head.kind in
    let a = any_errors t.kids in
    let r = any_errors (forest ts) in
    let e2 = or-right k (a || r) e in
    (or-both k a (or-left k (a || r) e) (or-left a r e2), all-sane ts (or-right a r e2))

-- what holds where there are no errors
pub all-with : (P : Tree → Type 0) (ts : List Tree) → All (λ t. Sane t → P t) ts → All Sane ts → All P ts
all-with P [] h e = tt
all-with P (t ∷ ts) h e = (h.0 e.0, all-with P ts h.1 e.1)

pub last-with : (E : Type 0) (P : Tree → Type 0) (ts : List Tree) → LastIs E (λ t. Sane t → P t) ts → All Sane ts → LastIs E P ts
last-with E P [] h e = h
last-with E P (t ∷ []) h e = h e.0
last-with E P (t ∷ u ∷ ts) h e = last-with E P (u ∷ ts) h e.1

pub all-left : (P : Tree → Type 0) (ts us : List Tree) → All P (ts ++ us) → All P ts
all-left P [] us h = tt
all-left P (t ∷ ts) us h = (h.0, all-left P ts us h.1)

pub all-right : (P : Tree → Type 0) (ts us : List Tree) → All P (ts ++ us) → All P us
all-right P [] us h = h
all-right P (t ∷ ts) us h = all-right P ts us h.1

-- ---- which operator comes

-- what begins with a token of this kind binds less tightly
abbrev pub below : ℕ → SyntaxKind → Bool
below least k = elim (sign_of k) [ None ↦ true | Some op ↦ nat_lt (binary_precedence op) least ]

-- where a node's operator stands to the left of such a token, it binds at least as tightly
abbrev pub Tight : SyntaxKind → Tree → Type 0
Tight k t = elim (operator_of t) [ None ↦ Unit {0} | Some op ↦ below (suc (binary_precedence op)) k ≡ true ]

pub tight-binds : (k : SyntaxKind) (op : BinOp) (t : Tree) → sign_of k ≡ Some op → Tight k t → BindsBy (binary_precedence op) t
tight-binds k op t e h = by-operator (operator_of t) h
  where
    at-least : (a b : ℕ) → nat_lt a (suc b) ≡ true → nat_le a b ≡ true
    at-least a b l = grind (arith, nat_tests)

    by-sign : (b : ℕ) (o : Option BinOp) → o ≡ Some op → (elim o as (λ _. Bool) [ None ↦ true | Some x ↦ nat_lt (binary_precedence x) (suc b) ]) ≡ true → nat_le (binary_precedence op) b ≡ true
    by-sign b o i l = at-least (binary_precedence op) b (subst (λ (x : Option BinOp). (elim x as (λ _. Bool) [ None ↦ true | Some y ↦ nat_lt (binary_precedence y) (suc b) ]) ≡ true) i l)

    by-operator : (o : Option BinOp) → (elim o as (λ _. Type 0) [ None ↦ Unit {0} | Some x ↦ below (suc (binary_precedence x)) k ≡ true ]) → (elim o as (λ _. Bool) [ None ↦ true | Some x ↦ nat_le (binary_precedence op) (binary_precedence x) ]) ≡ true
    by-operator o l = grind arith

-- ---- which tail comes

module _ (least : ℕ) where
  abbrev tail_of : Bool → Bool → Bool → Option BinOp → CodeTail
  tail_of a b c o = if a then tail.Call else (if b then tail.Field else (if c then (if nat_lt (binary_precedence binary.NotIn) least then tail.Nothing else tail.NotIn) else binary_tail least o))

  -- what the tests before a tail gave: whether arguments, a dot or `not` come, and which operator. Where there is no tail, what comes binds less tightly
  abbrev Tests : Bool → Bool → Bool → Option BinOp → CodeTail → Type 0
  Tests a b c o tail.Call = a ≡ true
  Tests a b c o tail.Field = b ≡ true
  Tests a b c o tail.DirectField = ⊥
  Tests a b c o tail.NotIn = (c ≡ true) × (nat_le least (binary_precedence binary.NotIn) ≡ true)
  Tests a b c o (tail.Binary op) = ((if c then Some binary.NotIn else o) ≡ Some op) × ((o ≡ Some op) × (nat_le least (binary_precedence op) ≡ true))
  Tests a b c o tail.Nothing = (elim (if c then Some binary.NotIn else o) as (λ _. Bool) [ None ↦ true | Some op ↦ nat_lt (binary_precedence op) least ]) ≡ true

  enough : (b : ℕ) → nat_lt b least ≡ false → nat_le least b ≡ true
  enough b l = grind (arith, nat_tests)

  tests : (a b c : Bool) (o : Option BinOp) → Tests a b c o (tail_of a b c o)
  tests a b c o = grind arith

  pub tail-comes : (k : SyntaxKind) (has_trivia : Bool) (t : CodeTail) → code_tail false least k has_trivia ≡ t → Tests (calls_directly k has_trivia) (same kind.Dot k) (same kind.Not k) (binary_of k) t
  tail-comes k has_trivia t e = subst (λ (x : CodeTail). Tests (calls_directly k has_trivia) (same kind.Dot k) (same kind.Not k) (binary_of k) x) e (tests (calls_directly k has_trivia) (same kind.Dot k) (same kind.Not k) (binary_of k))
