-- An operator and what is read after it.
use Rattle.typst_grammar.proofs.Cited.{◌≡◌, ℕ, ◌<◌, ◌≤◌, Bool, true, false, if◌then◌else◌, nat_lt, List, [], ◌∷◌, ◌++◌, length, length-append, length-take, append_assoc, append-nil, refl, ap, sym, ◌∙◌, inl, inr, arith, length-le-encodes, is_error, SyntaxKind, Place, moved, Tree, text_of, all_advised, token_node, Ask, Hand, hand_at, len_at, text_ahead, Point, hinted_error, hinted, count_empty, after_node, itself, eat_making, eat, Outcome, Level, plain, joined, hand_of, renewed, taken_node, run, hand-again, hinted-append, less-none, no-end, on_both, lt-ltb}
use Rattle.typst_kinds.specs.declared.kind.SyntaxKind.TheVariants as kind
use Rattle.typst_language.proofs.Leaves.{text-made}
use Rattle.typst_language.proofs.TokenTexts.{text-token}
use Rattle.typst_grammar.proofs.Fine.{advised-kind}
use Rattle.typst_grammar.proofs.Heads.{Leafy, takes-making, back-eat}

-- with hints it is an error, or a leaf, as before
pub leafy-hinted : (hints : List (List ℕ)) (i : SyntaxKind) (text : List ℕ) (t : Tree) → is_error i ≡ false → Leafy i text t → Leafy i text (hinted_error hints t)
leafy-hinted hints i text t e (inl w) = inl (on_both (λ (u : Tree). u.head.kind ≡ kind.Error) (is_error t.head.kind) (all_advised hints t) t (advised-kind hints t ∙ w) w)
leafy-hinted hints i text t e (inr is) = grind arith

-- one node with hints for the last
abbrev pub last_hinted : List (List ℕ) → Tree → Tree
last_hinted [] t = t
last_hinted (hint ∷ hints) t = hinted_error (hint ∷ hints) t

last-is : (hints : List (List ℕ)) (t : Tree) → hinted hints (t ∷ []) ≡ last_hinted hints t ∷ []
last-is hints t = grind arith

pub leafy-last : (hints : List (List ℕ)) (i : SyntaxKind) (text : List ℕ) (t : Tree) → is_error i ≡ false → Leafy i text t → Leafy i text (last_hinted hints t)
leafy-last [] i text t e h = h
leafy-last (hint ∷ hints) i text t e h = leafy-hinted (hint ∷ hints) i text t e h

-- ---- what is given, nothing taken back and no hints before it

pub record Exact {A : Type 0} (o : Outcome A) (ts : List Tree) : Type 0 where
  pub nodes : o.nodes ≡ ts
  pub back : o.back ≡ 0
  pub hints : o.hints ≡ []

pub exact-plain : {A : Type 0} (a : A) (s : Point) (asks : List Ask) → Exact (record (plain a s) { asks = asks }) []
exact-plain a s asks = record { nodes = refl; back = refl; hints = refl }

pub no-hints : (b c : Bool) (hs js : List (List ℕ)) → hs ≡ [] → js ≡ [] → (if b then hs else (if c then js else hs ++ js)) ≡ []
no-hints b c hs js e f = grind arith

-- outcomes with exact nodes, one after the other
pub exact-joined : {A B : Type 0} (o : Outcome B) (q : Outcome A) (xs ys : List Tree) → Exact o xs → Exact q ys → Exact (joined o q) (xs ++ ys)
exact-joined o q xs ys h i = grind (arith, less-none, no-hints)

-- an outcome with exact nodes, and an answer after it
pub exact-gives : {A B : Type 0} (o : Outcome B) (a : A) (xs : List Tree) → Exact o xs → Exact (joined o (plain a o.state)) xs
exact-gives o a xs h = let j = exact-joined o (plain a o.state) xs [] h (exact-plain a o.state []) in record { nodes = j.nodes ∙ append-nil xs; back = j.back; hints = j.hints }

-- ---- the token at hand

node-text : (l : Level) (z : Place) (s : Point) → 0 < (hand_of l z s).len → 0 < length (text_of (taken_node l.classes itself (hand_of l z s) z))
unfolding hand_at
node-text l z s some =
    let h = hand_of l z s in
    let w = moved h.gap z in
    let text = text_ahead h.len w in
    let len : h.len ≡ len_at l.classes s.held.mode w = sym (ap (λ (x : Hand). x.len) (hand-again l.classes s.held s.known z)) in
    let within : h.len ≤ length w.ahead = omega (arith, len) in
    let long : length text ≡ h.len = omega (arith, within, length-take h.len w.ahead) in
    let e = ap length (text-made itself (token_node l.classes h.token text) ∙ text-token l.classes h.token text) in
    let more = length-le-encodes text in
    omega (arith, e, more, long, some)

-- where it has characters no empty error stands after it
module _ (l : Level) (z : Place) (s : Point) where
  abbrev pub taken_sign : Tree
  taken_sign = taken_node l.classes itself (hand_of l z s) z

  pub exact-eat : Exact (run l eat z s) ((hand_of l z s).trivia ++ taken_sign ∷ [])
  unfolding eat
  exact-eat = let t = takes-making l false itself z s in record { nodes = t.nodes; back = back-eat l z s; hints = t.hints }

  some-text : (text : List ℕ) → 0 < length text → count_empty text ≡ 0
  some-text text h = grind arith

  after-empties : (b : Bool) (text : List ℕ) → 0 < length text → (renewed (after_node b text s)).empties ≡ 0
  after-empties b text h = grind arith

  after-error : (b : Bool) (text : List ℕ) → (renewed (after_node b text s)).is_after_error ≡ b
  after-error b text = grind arith

  pub making-empties : (trims : Bool) → 0 < (hand_of l z s).len → (run l (eat_making trims itself) z s).state.empties ≡ 0
  unfolding run eat_making
  making-empties trims h = after-empties (is_error taken_sign.head.kind) (text_of taken_sign) (node-text l z s h)

  pub eat-empties : 0 < (hand_of l z s).len → (run l eat z s).state.empties ≡ 0
  unfolding eat
  eat-empties h = making-empties false h

  pub eat-error : (run l eat z s).state.is_after_error ≡ is_error taken_sign.head.kind
  unfolding run eat eat_making
  eat-error = after-error (is_error taken_sign.head.kind) (text_of taken_sign)

pub last-kind : (hints : List (List ℕ)) (t : Tree) → is_error t.head.kind ≡ true → is_error (last_hinted hints t).head.kind ≡ true
last-kind hints t e = grind (arith, on_both, advised-kind)

-- the token of an operator, what is read after it, and an answer
module _ (l : Level) {A B : Type 0} (z : Place) (s : Point) (d : Outcome A) (b : B) (none : d.back ≡ 0) where
  abbrev sign : Tree
  sign = taken_sign l z s

  abbrev trivia : List Tree
  trivia = (hand_of l z s).trivia

  abbrev e : Outcome (Unit {0})
  e = run l eat z s

  abbrev pub operation : Outcome B
  operation = joined e (joined d (plain b d.state))

  hints-by : (n m : ℕ) (hs js : List (List ℕ)) → n ≡ 0 → 0 < m → (if nat_lt n m then hs else (if nat_lt m n then js else hs ++ js)) ≡ hs
  hints-by n m hs js i j = let lt : nat_lt n m ≡ true = lt-ltb n m (omega (arith, i, j)) in rw lt refl

  hints-none : (n m : ℕ) (hs : List (List ℕ)) → m ≡ 0 → (if nat_lt m n then hs else (if nat_lt n m then [] else hs ++ [])) ≡ hs
  hints-none n m hs i = grind (arith, append-nil)

  back-same : (joined d (plain b d.state)).back ≡ 0
  back-same = omega (arith, none)

  hints-same : (joined d (plain b d.state)).hints ≡ d.hints
  hints-same = hints-none (length d.nodes) 0 d.hints refl

  pub operation-exact : Exact operation (trivia ++ last_hinted d.hints sign ∷ d.nodes)
  operation-exact = grind (arith, exact-eat, length-append, back-same, less-none, hints-same, hinted-append, last-is, no-end, append_assoc, hints-by)
