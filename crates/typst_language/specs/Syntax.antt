-- The language in which the grammar is written: a parser asks, takes, gives nodes, and calls another.
use Rattle.std.specs.Prelude.{ℕ, Bool, List, Option}
use Rattle.typst_kinds.specs.declared.kind.SyntaxKind.{SyntaxKind}
use Rattle.typst_language.specs.declared.calls.Block.{Block}
use Rattle.typst_language.specs.declared.calls.Mark.{Mark}
use Rattle.typst_language.specs.declared.calls.Way.{Way}
use Rattle.typst_language.specs.declared.reading.Reading.{Reading}
use Rattle.typst_language.specs.Calls.{Call, Answer}
use Rattle.typst_language.specs.Hand.{AtHand}
use Rattle.typst_language.specs.Shape.{Making, Shape, Seen}

-- one thing that a parser does, by its answer
pub data Op : Type 0 → Type 1 where
  -- asks for the current token, and for the trivia before it unless they are known
  hand : Op AtHand
  -- asks which kind the current token has if it is read from its start in another way
  so : Way → Op SyntaxKind
  -- asks which kind the token directly after the current token has
  further : Op SyntaxKind
  -- asks for the column in which the current token is
  column : Op ℕ
  -- asks whether the node before the pending trivia is an error
  erred : Op Bool
  -- passes the trivia and the current token, gives the nodes of the trivia and then what the token
  -- becomes, and may first take back the empty errors that are before the trivia
  takes : Bool → Making → Op (Unit {0})
  -- passes the trivia and the token that is found in another way, and gives their nodes
  takes_so : Way → Making → Op (Unit {0})
  -- passes the pending trivia and gives their nodes; the newlines in them stay known
  flushes : Op (Unit {0})
  -- gives an empty error with this message, before the pending trivia
  complains : List ℕ → Op (Unit {0})
  -- gives a hint to the node before the pending trivia, if it is an error
  advises : List ℕ → Op (Unit {0})
  -- notes that a unit begins or ends at the current token, or here, if nothing is known of the
  -- trivia
  marks : Mark → Op (Unit {0})
  -- asks whether no level is left for a call
  is_deepest : Op Bool

-- where a node begins: at the current token, or at the trivia before it
pub data Begin : Type 0 where
  at_token : Begin
  at_trivia : Begin

-- a parser of the language, by its answer
pub data Parser : Type 0 → Type 1 where
  -- answers, and does nothing
  gives : {A : Type 0} → A → Parser A
  -- does one thing
  does : {A : Type 0} → Op A → Parser A
  -- does the first, and goes on by its answer
  next : {A B : Type 0} → Parser B → (B → Parser A) → Parser A
  -- the first if the test holds, else the second
  pick : {A : Type 0} → Bool → Parser A → Parser A → Parser A
  -- the parser again and again, while it says so and has taken something
  repeat : {A : Type 0} → (A → Parser (Bool × A)) → A → Parser A
  -- what was given becomes one node or changes; answers what is seen of the nodes that were given
  wraps : {A : Type 0} → (A → Shape) → Begin → Parser A → Parser (A × List Seen)
  -- the first, and then the second again and again, while that says a shape and has taken
  -- something; all that was given since the beginning goes into the shape
  grows : {A : Type 0} → Begin → Parser A → (A → Parser (Option Shape × A)) → Parser A
  -- the parser again and again, while it says so and has taken something; each time what it gives
  -- becomes one node with all that comes after it
  nests : {A : Type 0} → (A → Shape) → Begin → (A → Parser (Bool × A)) → A → Parser A
  -- reads the tokens to come in another way, and after it as before
  scoped : {A : Type 0} → (Reading → Reading) → Parser A → Parser A
  -- reads by the first; if it turns out wrong, it is given up, and the second reads from the same
  -- place
  either : {A : Type 0} → Parser A → (A → Bool) → Parser A → Parser A
  -- reads one level deeper
  calls : (c : Call) → Parser (Answer c)
  -- gives the pending trivia, and then reads a block, which is noted as a unit
  block : Block → Parser (Unit {0})

-- the first parser, and then the one that its answer says
infixl 10 ◌>>=◌
abbrev pub ◌>>=◌ : {A B : Type 0} → Parser A → (A → Parser B) → Parser B
p >>= f = next p f

-- the first parser, and then the second
infixl 10 ◌>>◌
abbrev pub ◌>>◌ : {A B : Type 0} → Parser A → Parser B → Parser B
p >> q = next p (λ _. q)
