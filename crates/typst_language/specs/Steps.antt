-- The steps that every production is made of. Each begins and ends with a current token that was
-- looked at, unless it says otherwise.
use Rattle.std.specs.Prelude.{ℕ, Bool, true, false, List, ◌++◌, Option, codes}
use Rattle.typst_kinds.specs.declared.kind.SyntaxKind.{SyntaxKind}
use Rattle.typst_kinds.specs.Kinds.{is_error}
use Rattle.typst_language.specs.declared.calls.Block.{Block}
use Rattle.typst_language.specs.declared.calls.Mark.{Mark}
use Rattle.typst_language.specs.declared.calls.Way.{Way}
use Rattle.typst_language.specs.declared.reading.Reading.{Reading}
use Rattle.typst_language.specs.Hand.{AtHand}
use Rattle.typst_language.specs.Shape.{Making, Shape, Seen, becomes}
use Rattle.typst_language.specs.Shape.Making.{itself, of_kind, surprise}
use Rattle.typst_language.specs.Syntax.{Parser, ◌>>=◌, ◌>>◌}
use Rattle.typst_language.specs.Syntax.Begin.{at_token, at_trivia}
use Rattle.typst_language.specs.Syntax.Op.{hand, erred, takes, takes_so, flushes, complains, marks}
use Rattle.typst_language.specs.Syntax.Parser.{gives, does, pick, wraps, grows, nests, scoped, block}

-- asks for the current token
abbrev pub peek : Parser AtHand
peek = does hand

-- takes the current token, made into something, and looks at the one after it
unfoldable pub eat_making : Bool → Making → Parser (Unit {0})
eat_making trims making = do
  first ← does (takes trims making)
  ahead ← peek
  gives tt

-- takes the current token
unfoldable pub eat : Parser (Unit {0})
eat = eat_making false itself

-- takes the current token as another kind
unfoldable pub convert_and_eat : SyntaxKind → Parser (Unit {0})
convert_and_eat kind = eat_making false (of_kind kind)

-- takes the token that is found in another way, and looks at the one after it
unfoldable pub eat_so : Way → Making → Parser (Unit {0})
eat_so way making = do
  first ← does (takes_so way making)
  ahead ← peek
  gives tt

-- takes the current token if the test holds, and answers whether it did
unfoldable pub eat_if : (SyntaxKind → Bool) → Parser Bool
eat_if is = do
  ahead ← peek
  pick (is ahead.kind) (eat >> gives true) (gives false)

-- takes the current token if the test holds, and answers whether it did; nothing is asked after it
unfoldable pub close_if : (SyntaxKind → Bool) → Parser Bool
close_if is = do
  ahead ← peek
  pick (is ahead.kind) (does (takes false itself) >> gives true) (gives false)

-- takes the current token as an error, with hints, in place of the empty errors before it
unfoldable pub unexpected : List (List ℕ) → Parser (Unit {0})
unexpected hints = eat_making true (surprise hints)

-- says that something was expected: an erroneous token is taken in place of the empty errors before
-- it; else an empty error is given, unless the node before is an error
unfoldable pub expected : List ℕ → Parser (Unit {0})
expected thing = do
  ahead ← peek
  pick (is_error ahead.kind) (eat_making true itself) (do
    is_after_error ← does erred
    pick is_after_error (gives tt) (does (complains (codes "expected " ++ thing))))

-- takes the current token if the test holds, or says that something was expected
unfoldable pub expect : (SyntaxKind → Bool) → List ℕ → Parser (Unit {0})
expect is thing = do
  ahead ← peek
  pick (is ahead.kind) eat (expected thing)

-- the pending trivia become nodes
unfoldable pub flush_trivia : Parser (Unit {0})
flush_trivia = do
  first ← does flushes
  ahead ← peek
  gives tt

-- what the parser gives while the tokens are read in another way; then the current token is looked
-- at as it is read outside
unfoldable pub within : {A : Type 0} → (Reading → Reading) → Parser A → Parser A
within f p = do
  a ← scoped f p
  ahead ← peek
  gives a

-- what the parser gives becomes one node, which begins at the current token
unfoldable pub node : {A : Type 0} → (A → Shape) → Parser A → Parser A
node shape p = do
  ahead ← peek
  a ← wraps shape at_token p
  gives a.0

-- what the parser gives becomes one node, which begins at the pending trivia; answers what is seen of its children
unfoldable pub node_with_trivia : SyntaxKind → Parser (Unit {0}) → Parser (List Seen)
node_with_trivia kind p = do
  a ← wraps (λ _. becomes kind) at_trivia (p >> flush_trivia)
  gives a.1

-- what the parser gives, grown turn by turn: each turn takes what is to its left into its node
unfoldable pub grow : {A : Type 0} → Parser A → (A → Parser (Option Shape × A)) → Parser A
grow p turn = do
  ahead ← peek
  grows at_token p turn

-- what is given turn by turn, nested: each turn becomes one node with all that comes after it
unfoldable pub nest : {A : Type 0} → (A → Shape) → (A → Parser (Bool × A)) → A → Parser A
nest shape turn x = do
  ahead ← peek
  nests shape at_token turn x

-- notes what begins or ends at the current token
unfoldable pub note : Mark → Parser (Unit {0})
note mark = do
  ahead ← peek
  noted ← does (marks mark)
  again ← peek
  gives tt

-- gives the pending trivia, reads a block, and looks at the token after it
unfoldable pub read_block : Block → Parser (Unit {0})
read_block b = do
  read ← block b
  ahead ← peek
  gives tt
