-- Parsers that take something where something is left: the words of the language.
use Rattle.typst_grammar.proofs.Cited.{◌≡◌, ℕ, ◌+◌, ◌<◌, Bool, true, false, List, ap, arith, SyntaxKind, Place, moved, Reading, Point, Hand, AtHand, Making, Shape, itself, surprise, Begin, Parser, hand, takes, does, next, pick, wraps, scoped, eat, eat_making, unexpected, within, node, Level, entered, hand_of, asked, run, hand-again, on_if}

-- where something is left, trivia or a token, something is taken
abbrev pub Moves : {A : Type 0} → Level → Parser A → Type 0
Moves l p = (z : Place) (s : Point) → 0 < (hand_of l z s).gap + (hand_of l z s).len → 0 < (run l p z s).taken

-- where the token at hand passes a test, and it or its trivia take something, the parser takes something
abbrev pub MovesAt : {A : Type 0} → Level → (SyntaxKind → Bool) → Parser A → Type 0
MovesAt l is p = (z : Place) (s : Point) → is (hand_of l z s).kind ≡ true → 0 < (hand_of l z s).gap + (hand_of l z s).len → 0 < (run l p z s).taken

module _ (l : Level) where
  -- as much is left once it was asked for
  pub left-again : (z : Place) (s : Point) → (hand_of l z (asked (hand_of l z s) s)).gap + (hand_of l z (asked (hand_of l z s) s)).len ≡ (hand_of l z s).gap + (hand_of l z s).len
  left-again z s = ap (λ (h : Hand). h.gap + h.len) (hand-again l.classes s.held s.known z)

  pub moves-next : {A B : Type 0} (p : Parser B) (f : B → Parser A) → Moves l p → Moves l (next p f)
  unfolding run
  moves-next p f e z s h = let first = e z s h in omega arith

  pub moves-peek : {A : Type 0} (f : AtHand → Parser A) → ((h : AtHand) → Moves l (f h)) → Moves l (next (does hand) f)
  unfolding run
  moves-peek f e z s h = grind (arith, left-again)

  -- one parser by the token at hand, or another
  pub moves-or : {A : Type 0} (is : SyntaxKind → Bool) (p q : Parser A) → MovesAt l is p → Moves l q → Moves l (next (does hand) (λ a. pick (is a.kind) p q))
  unfolding run
  moves-or {A = A} is p q e f z s h = grind (arith, hand-again, left-again, on_if)

  pub moves-takes : (trims : Bool) (making : Making) → Moves l (does (takes trims making))
  unfolding run
  moves-takes trims making z s h = h

  pub moves-making : (trims : Bool) (making : Making) → Moves l (eat_making trims making)
  unfolding eat_making
  moves-making trims making = moves-next (does (takes trims making)) _ (moves-takes trims making)

  pub moves-eat : Moves l eat
  unfolding eat
  moves-eat = moves-making false itself

  pub moves-unexpected : (hints : List (List ℕ)) → Moves l (unexpected hints)
  unfolding unexpected
  moves-unexpected hints = moves-making true (surprise hints)

  pub moves-scoped : {A : Type 0} (f : Reading → Reading) (p : Parser A) → Moves l p → Moves l (scoped f p)
  unfolding run
  moves-scoped f p e z s h = e z (entered (f s.reading) s) h

  pub moves-within : {A : Type 0} (f : Reading → Reading) (p : Parser A) → Moves l p → Moves l (within f p)
  unfolding within
  moves-within f p e = moves-next (scoped f p) _ (moves-scoped f p e)

  pub moves-node : {A : Type 0} (shape : A → Shape) (p : Parser A) → Moves l p → Moves l (node shape p)
  unfolding run node
  moves-node shape p e z s h = let t = asked (hand_of l z s) s in let inside : 0 < (run l p (moved 0 z) t).taken = e z t (omega (arith, left-again z s)) in omega arith

  pub moves-wraps : {A : Type 0} (shape : A → Shape) (begin : Begin) (p : Parser A) → Moves l p → Moves l (wraps shape begin p)
  unfolding run
  moves-wraps shape begin p e z s h = e z s h
