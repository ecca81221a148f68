-- What the words of the language give for short texts.
use Rattle.std.specs.Prelude.{◌≡◌, ℕ, Bool, true, false, not, List, [], ◌∷◌, length, Option, Some, None, codes}
use Rattle.typst_kinds.specs.declared.kind.SyntaxKind.{SyntaxKind}
use Rattle.typst_kinds.specs.declared.kind.SyntaxKind.TheVariants as kind
use Rattle.typst_kinds.specs.declared.mode.SyntaxMode.TheVariants as mode
use Rattle.typst_lexer.specs.Diagnostic.{hint_with}
use Rattle.typst_lexer.specs.Tree.{Tree, forest, leaf_of, inner_of, error_of, advised}
use Rattle.typst_lines.specs.Classes.{CharClasses, by_law}
use Rattle.typst_language.specs.declared.reading.AtNewline.TheVariants as newline
use Rattle.typst_language.specs.declared.reading.Reading.{Reading}
use Rattle.typst_language.specs.Calls.{no_answer}
use Rattle.typst_language.specs.Shape.{Shape, becomes}
use Rattle.typst_language.specs.Shape.NodeChange.{turns_wrong, is_not, renamed}
use Rattle.typst_language.specs.Shape.Shape.{keeps, holds, lacks}
use Rattle.typst_language.specs.Syntax.{Parser, ◌>>=◌, ◌>>◌}
use Rattle.typst_language.specs.Syntax.Begin.{at_token}
use Rattle.typst_language.specs.Syntax.Op.{further, advises}
use Rattle.typst_language.specs.Syntax.Parser.{gives, does, pick, wraps, either}
use Rattle.typst_language.specs.Steps.{peek, eat, close_if, expected, grow, nest}
use Rattle.typst_language.specs.Meaning.{Outcome, Level, plain, blockless, start_point, run}

-- how the start of a text is read here: as markup, where newlines stop nothing
abbrev pub as_markup : Reading
as_markup = record { mode = mode.Markup; at_newline = newline.Continue }

-- where no call and no block is read
abbrev pub bare : CharClasses → Level
bare beyond = blockless (by_law beyond) 1 (λ c z s. plain (no_answer c) s)

-- what a parser gives at the start of a text
abbrev pub of_text : {A : Type 0} → CharClasses → List ℕ → Parser A → Outcome A
of_text beyond text p = run (bare beyond) p (record { before = []; ahead = text }) (start_point as_markup)

-- a star
abbrev pub is_star : SyntaxKind → Bool
is_star kind.Star = true
is_star _ = false

-- an underscore
abbrev pub is_underscore : SyntaxKind → Bool
is_underscore kind.Underscore = true
is_underscore _ = false

-- turns that grow: a sign after what was given takes it into its node
abbrev pub operators : Unit {0} → Parser (Option Shape × Unit {0})
operators x = do
  ahead ← peek
  pick (is_star ahead.kind) (eat >> gives (Some (becomes kind.Strong), tt)) (pick (is_underscore ahead.kind) (eat >> gives (Some (becomes kind.Emph), tt)) (gives (None, tt)))

-- turns that nest: a sign takes what comes after it into its node
abbrev pub openers : Unit {0} → Parser (Bool × Unit {0})
openers x = do
  ahead ← peek
  sign ← eat
  gives (is_star ahead.kind, tt)

-- a leaf of text
abbrev pub text : List ℕ → Tree
text s = leaf_of kind.Text s

-- a leaf of a star
abbrev pub star : Tree
star = leaf_of kind.Star (codes "*")

-- an inner node
abbrev pub branch : SyntaxKind → List Tree → Tree
branch k kids = inner_of k (forest kids)

-- a node with a hint
abbrev pub hinted_with : List ℕ → Tree → Tree
hinted_with hint t = advised (hint_with None hint) t

-- what the words of the language give for these texts
pub record Words (beyond : CharClasses) : Type 0 where
  -- what grows takes all from its beginning on into each node
  pub grows_left : (of_text beyond (codes "a*_") (grow eat operators)).nodes ≡ branch kind.Emph (branch kind.Strong (text (codes "a") ∷ star ∷ []) ∷ leaf_of kind.Underscore (codes "_") ∷ []) ∷ []
  -- what grows leaves trivia before its beginning before the node
  pub grows_after_trivia : (of_text beyond (codes " a*") (grow eat operators)).nodes ≡ leaf_of kind.Space (codes " ") ∷ branch kind.Strong (text (codes "a") ∷ star ∷ []) ∷ []
  -- what nests takes all after it into each node
  pub nests_right : (of_text beyond (codes "**a") (nest (λ _. becomes kind.Strong) openers tt)).nodes ≡ branch kind.Strong (star ∷ branch kind.Strong (star ∷ branch kind.Strong (text (codes "a") ∷ []) ∷ []) ∷ []) ∷ []
  -- a hint reaches an error that was given before
  pub hints_back : (of_text beyond (codes "a") (expected (codes "b") >> does (advises (codes "c")))).nodes ≡ hinted_with (codes "c") (error_of (codes "expected b") []) ∷ []
  -- a hint reaches no other node
  pub hints_nothing : (of_text beyond (codes "a") (eat >> does (advises (codes "c")))).nodes ≡ text (codes "a") ∷ []
  -- a hint goes on to the node before, of which nothing is known here
  pub hints_before : (of_text beyond (codes "a") (does (advises (codes "c")))).hints ≡ codes "c" ∷ []
  -- one node becomes an error that something else was expected
  pub not_wanted : (of_text beyond (codes "a") (wraps (λ _. keeps (is_not (codes "label"))) at_token eat)).nodes ≡ error_of (codes "expected label, found text") (codes "a") ∷ []
  -- and the node before what comes next is an error then
  pub after_not_wanted : (of_text beyond (codes "a") (wraps (λ _. keeps (is_not (codes "label"))) at_token eat)).state.is_after_error ≡ true
  -- the first child becomes an error, or another kind
  pub first_wrong : (of_text beyond (codes "**") (wraps (λ _. holds (turns_wrong (codes "b")) kind.Strong) at_token (eat >> eat))).nodes ≡ branch kind.Strong (error_of (codes "b") (codes "*") ∷ star ∷ []) ∷ []
  pub first_renamed : (of_text beyond (codes "**") (wraps (λ _. keeps (renamed kind.Text)) at_token (eat >> eat))).nodes ≡ text (codes "*") ∷ star ∷ []
  -- an empty error comes after the first child
  pub lacking : (of_text beyond (codes "**") (wraps (λ _. lacks 1 (codes "b") kind.Strong) at_token (eat >> eat))).nodes ≡ branch kind.Strong (star ∷ error_of (codes "b") [] ∷ star ∷ []) ∷ []
  -- the token after the current token is asked for, and stays
  pub further_on : (of_text beyond (codes "*a") (does further)).value ≡ kind.Text
  pub further_stays : (of_text beyond (codes "*a") (does further)).taken ≡ 0
  -- trivia are looked at once
  pub looked_once : length (of_text beyond (codes " a") peek).asks ≡ 2
  pub looked_again : length (of_text beyond (codes " a") (peek >> peek)).asks ≡ 3
  -- after a token taken by `close_if`, nothing is asked
  pub closed_quietly : length (of_text beyond (codes "* a") (close_if is_star)).asks ≡ 2
  -- a reading that is given up leaves its looks, and none of its nodes
  pub given_up : (of_text beyond (codes "*a") (either (eat >> gives false) not (eat >> gives true))).nodes ≡ star ∷ []
  pub looks_stay : length (of_text beyond (codes "*a") (either (eat >> gives false) not (eat >> gives true))).asks ≡ 4
