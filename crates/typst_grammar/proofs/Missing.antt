-- What is said where something is expected.
use Rattle.typst_grammar.proofs.Cited.{◌≡◌, ℕ, Bool, true, false, if◌then◌else◌, List, [], ◌∷◌, ◌++◌, refl, ◌⊎◌, inl, inr, arith, codes, CharClasses, is_error, SyntaxKind, Place, Tree, error_of, token_node, Token, Hand, AtHand, as_at_hand, Point, itself, is_end, eat_making, expected, complains, does, Outcome, Level, plain, joined, hand_of, hand_asks_of, asked, run, hand-again, hand-takes}
use Rattle.typst_kinds.specs.declared.kind.SyntaxKind.TheVariants as kind
use Rattle.typst_grammar.proofs.Heads.{fault-error, hand-kind, takes-making, standing-none}
use Rattle.typst_grammar.proofs.Operands.{Exact, exact-plain, exact-joined, making-empties}

-- the only kind of errors
pub error-kind : (i : SyntaxKind) → is_error i ≡ true → i ≡ kind.Error
error-kind i h = grind arith

-- an erroneous token becomes an error
error-token : (k : CharClasses) (t : Token) (taken : List ℕ) → t.kind ≡ kind.Error → (token_node k t taken).head.kind ≡ kind.Error
error-token k t taken e = grind (arith, fault-error)

-- an erroneous token was taken, and the empty errors before it taken back
pub record TookError (l : Level) (z : Place) (s : Point) (x : Outcome (Unit {0})) : Type 0 where
  pub wrong : is_error (hand_of l z s).kind ≡ true
  pub node : Tree
  pub is_wrong : node.head.kind ≡ kind.Error
  pub nodes : x.nodes ≡ (hand_of l z s).trivia ++ node ∷ []
  pub back : x.back ≡ s.empties
  pub empties : x.state.empties ≡ 0

-- an empty error was given
pub record Complained (l : Level) (z : Place) (s : Point) (x : Outcome (Unit {0})) : Type 0 where
  pub node : Tree
  pub is_wrong : node.head.kind ≡ kind.Error
  pub exact : Exact x (node ∷ [])
  pub taken : x.taken ≡ 0
  pub same : hand_of l z x.state ≡ hand_of l z s

-- an error stands there already, and nothing is said
pub record Stayed (l : Level) (z : Place) (s : Point) (x : Outcome (Unit {0})) : Type 0 where
  pub after : s.is_after_error ≡ true
  pub exact : Exact x []
  pub taken : x.taken ≡ 0
  pub same : hand_of l z x.state ≡ hand_of l z s

abbrev pub Missed : Level → Place → Point → Outcome (Unit {0}) → Type 0
Missed l z s x = TookError l z s x ⊎ (Complained l z s x ⊎ Stayed l z s x)

-- a kind of errors is not the end
error-goes : (i : SyntaxKind) → is_error i ≡ true → is_end i ≡ false
error-goes i h = grind arith

module _ (l : Level) (thing : List ℕ) (z : Place) (s : Point) where
  abbrev h : Hand
  h = hand_of l z s

  abbrev t : Point
  t = asked h s

  abbrev first : Outcome AtHand
  first = record (plain (as_at_hand h) t) { asks = hand_asks_of l z s }

  abbrev asked_error : Outcome Bool
  asked_error = plain s.is_after_error t

  abbrev complaint : Outcome (Unit {0})
  complaint = run l (does (complains (codes "expected " ++ thing))) z t

  again : hand_of l z t ≡ h
  again = hand-again l.classes s.held s.known z

  by-after : (b : Bool) → s.is_after_error ≡ b → Missed l z s (joined first (joined asked_error (if b then plain tt t else complaint)))
  unfolding run
  by-after true e = inr (inr (record {
    after = e;
    exact = exact-joined first (joined asked_error (plain tt t)) [] [] (exact-plain (as_at_hand h) t (hand_asks_of l z s)) (exact-joined asked_error (plain tt t) [] [] (exact-plain s.is_after_error t []) (exact-plain tt t []));
    taken = refl;
    same = again;
  }))
  by-after false e = inr (inl (record {
    node = error_of (codes "expected " ++ thing) [];
    is_wrong = refl;
    exact = exact-joined first (joined asked_error complaint) [] (error_of (codes "expected " ++ thing) [] ∷ []) (exact-plain (as_at_hand h) t (hand_asks_of l z s))
        (exact-joined asked_error complaint [] (error_of (codes "expected " ++ thing) [] ∷ []) (exact-plain s.is_after_error t []) (record { nodes = refl; back = refl; hints = refl }));
    taken = refl;
    same = again;
  }))

  made-back : (run l (eat_making true itself) z t).back ≡ s.empties
  unfolding run eat_making
  made-back = omega arith

  by-kind : (b : Bool) → is_error h.kind ≡ b → Missed l z s (joined first (if b then run l (eat_making true itself) z t else joined asked_error (if s.is_after_error then plain tt t else complaint)))
  by-kind true e = grind (arith, takes-making, again, error-kind, hand-takes, error-goes, made-back, error-token, hand-kind, standing-none, making-empties)
  by-kind false e = by-after s.is_after_error refl

  pub missed : Missed l z s (run l (expected thing) z s)
  unfolding run expected
  missed = by-kind (is_error h.kind) refl
