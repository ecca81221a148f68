-- Trees of short texts, as they follow from the definitions.
use Rattle.std.specs.Prelude.{◌≡◌, ℕ, List, [], ◌∷◌, None, codes}
use Rattle.typst_kinds.specs.declared.kind.SyntaxKind.{SyntaxKind}
use Rattle.typst_kinds.specs.declared.kind.SyntaxKind.TheVariants as kind
use Rattle.typst_tree.specs.Diagnostic.{warning_with, hint_with}
use Rattle.typst_tree.specs.Tree.{Tree, forest, leaf_of, inner_of, error_of, remarked, advised}
use Rattle.typst_lines.specs.Classes.{CharClasses, by_law}
use Rattle.typst_grammar.specs.Grammar.{tree, tree_code, tree_math}

-- an inner node
abbrev pub branch : SyntaxKind → List Tree → Tree
branch k kids = inner_of k (forest kids)

-- the node with a hint on its last error or warning
abbrev pub hinted : List ℕ → Tree → Tree
hinted message t = advised (hint_with None message) t

-- the node with a warning
abbrev pub warned : List ℕ → Tree → Tree
warned message t = remarked (warning_with None message) t

-- a leaf of text
abbrev pub text : List ℕ → Tree
text s = leaf_of kind.Text s

-- a leaf of space
abbrev pub space : List ℕ → Tree
space s = leaf_of kind.Space s

-- an inner node of markup
abbrev pub markup : List Tree → Tree
markup kids = branch kind.Markup kids

-- the error of a bracket that closes none
abbrev pub stray : Tree
stray = hinted (codes "try using a backslash escape: \\]") (error_of (codes "unexpected closing bracket") (codes "]"))

-- the error of an opener without its closer
abbrev pub unclosed : List ℕ → Tree
unclosed s = error_of (codes "unclosed delimiter") s

-- a list item with a space after its marker
abbrev pub list_item : Tree → Tree
list_item body = branch kind.ListItem (leaf_of kind.ListMarker (codes "-") ∷ space (codes " ") ∷ body ∷ [])

-- Trees of short texts, for every class value that keeps the law on ASCII.
pub record Trees (beyond : CharClasses) : Type 0 where
  pub empty : tree (by_law beyond) [] ≡ markup []
  pub plain : tree (by_law beyond) (codes "a b") ≡ markup (text (codes "a b") ∷ [])
  pub paragraphs : tree (by_law beyond) (codes "a\n\nb") ≡ markup (text (codes "a") ∷ leaf_of kind.Parbreak (codes "\n\n") ∷ text (codes "b") ∷ [])
  -- brackets are text in pairs, and a closing one more is an error
  pub brackets : tree (by_law beyond) (codes "[]") ≡ markup (text (codes "[") ∷ text (codes "]") ∷ [])
  pub stray_bracket : tree (by_law beyond) (codes "]") ≡ markup (stray ∷ [])
  -- emphasized content, closed, empty and unclosed
  pub strong : tree (by_law beyond) (codes "*a*") ≡ markup (branch kind.Strong (leaf_of kind.Star (codes "*") ∷ markup (text (codes "a") ∷ []) ∷ leaf_of kind.Star (codes "*") ∷ []) ∷ [])
  pub no_text : tree (by_law beyond) (codes "**") ≡ markup (hinted (codes "using multiple consecutive stars (e.g. **) has no additional effect") (warned (codes "no text within stars") (branch kind.Strong (leaf_of kind.Star (codes "*") ∷ markup [] ∷ leaf_of kind.Star (codes "*") ∷ []))) ∷ [])
  pub unclosed_strong : tree (by_law beyond) (codes "*a") ≡ markup (branch kind.Strong (unclosed (codes "*") ∷ markup (text (codes "a") ∷ []) ∷ []) ∷ [])
  pub emph_at_parbreak : tree (by_law beyond) (codes "_\n\n") ≡ markup (branch kind.Emph (unclosed (codes "_") ∷ markup (leaf_of kind.Parbreak (codes "\n\n") ∷ []) ∷ []) ∷ [])
  -- a heading ends with its line
  pub heading : tree (by_law beyond) (codes "= a\nb") ≡ markup (branch kind.Heading (leaf_of kind.HeadingMarker (codes "=") ∷ space (codes " ") ∷ markup (text (codes "a") ∷ []) ∷ []) ∷ space (codes "\n") ∷ text (codes "b") ∷ [])
  -- an item takes what is in a greater column than its marker
  pub nested_items : tree (by_law beyond) (codes "- a\n  - b") ≡ markup (list_item (markup (text (codes "a") ∷ space (codes "\n  ") ∷ list_item (markup (text (codes "b") ∷ [])) ∷ [])) ∷ [])
  pub items : tree (by_law beyond) (codes "- a\n- b") ≡ markup (list_item (markup (text (codes "a") ∷ [])) ∷ space (codes "\n") ∷ list_item (markup (text (codes "b") ∷ [])) ∷ [])
  -- a term and what it means, and a term without a colon
  pub term : tree (by_law beyond) (codes "/ A: b") ≡ markup (branch kind.TermItem (leaf_of kind.TermMarker (codes "/") ∷ space (codes " ") ∷ markup (text (codes "A") ∷ []) ∷ leaf_of kind.Colon (codes ":") ∷ space (codes " ") ∷ markup (text (codes "b") ∷ []) ∷ []) ∷ [])
  pub no_colon : tree (by_law beyond) (codes "/ A") ≡ markup (branch kind.TermItem (leaf_of kind.TermMarker (codes "/") ∷ space (codes " ") ∷ markup (text (codes "A") ∷ []) ∷ error_of (codes "expected colon") [] ∷ markup [] ∷ []) ∷ [])

-- a delimiter of a raw text
abbrev pub raw_delim : List ℕ → Tree
raw_delim s = leaf_of kind.RawDelim s

-- the marker of a reference
abbrev pub marker : List ℕ → Tree
marker s = leaf_of kind.RefMarker s

-- Trees of short texts with raw texts, links, labels and references.
pub record NamedTrees (beyond : CharClasses) : Type 0 where
  -- a content block directly after a reference belongs to it
  pub reference : tree (by_law beyond) (codes "@a[b]") ≡ markup (branch kind.Ref (marker (codes "@a") ∷ branch kind.ContentBlock (leaf_of kind.LeftBracket (codes "[") ∷ markup (text (codes "b") ∷ []) ∷ leaf_of kind.RightBracket (codes "]") ∷ []) ∷ []) ∷ [])
  -- and one after a space doesn't
  pub apart : tree (by_law beyond) (codes "@a []") ≡ markup (branch kind.Ref (marker (codes "@a") ∷ []) ∷ space (codes " ") ∷ text (codes "[") ∷ text (codes "]") ∷ [])
  pub unclosed_block : tree (by_law beyond) (codes "@a[b") ≡ markup (branch kind.Ref (marker (codes "@a") ∷ branch kind.ContentBlock (unclosed (codes "[") ∷ markup (text (codes "b") ∷ []) ∷ []) ∷ []) ∷ [])
  pub dots : tree (by_law beyond) (codes "@a...") ≡ markup (branch kind.Ref (marker (codes "@a") ∷ []) ∷ leaf_of kind.Shorthand (codes "...") ∷ [])
  pub raw : tree (by_law beyond) (codes "`a\nb`") ≡ markup (branch kind.Raw (raw_delim (codes "`") ∷ text (codes "a") ∷ leaf_of kind.RawTrimmed (codes "\n") ∷ text (codes "b") ∷ raw_delim (codes "`") ∷ []) ∷ [])
  pub unclosed_raw : tree (by_law beyond) (codes "`a") ≡ markup (error_of (codes "unclosed raw text") (codes "`a") ∷ [])
  pub link : tree (by_law beyond) (codes "https://a.b.") ≡ markup (leaf_of kind.Link (codes "https://a.b") ∷ text (codes ".") ∷ [])
  pub unclosed_label : tree (by_law beyond) (codes "<a") ≡ markup (error_of (codes "unclosed label") (codes "<a") ∷ [])
  -- a label ends a heading
  pub labelled : tree (by_law beyond) (codes "= a <b>") ≡ markup (branch kind.Heading (leaf_of kind.HeadingMarker (codes "=") ∷ space (codes " ") ∷ markup (text (codes "a") ∷ []) ∷ []) ∷ space (codes " ") ∷ leaf_of kind.Label (codes "<b>") ∷ [])

-- an identifier
abbrev pub ident : List ℕ → Tree
ident s = leaf_of kind.Ident s

-- an integer
abbrev pub int : List ℕ → Tree
int s = leaf_of kind.Int s

-- a tree of code
abbrev pub code : List Tree → Tree
code kids = branch kind.Code kids

-- two operands with spaces around their operator
abbrev pub binary : Tree → Tree → Tree → Tree
binary left sign right = branch kind.Binary (left ∷ space (codes " ") ∷ sign ∷ space (codes " ") ∷ right ∷ [])

-- a hash
abbrev pub hash : Tree
hash = leaf_of kind.Hash (codes "#")

-- Trees of short texts of code, and of text with code embedded in it.
pub record CodeTrees (beyond : CharClasses) : Type 0 where
  -- operators take their operands by how tightly they bind
  pub products : tree_code (by_law beyond) (codes "a * b + c") ≡ code (binary (binary (ident (codes "a")) (leaf_of kind.Star (codes "*")) (ident (codes "b"))) (leaf_of kind.Plus (codes "+")) (ident (codes "c")) ∷ [])
  pub sums : tree_code (by_law beyond) (codes "a + b * c") ≡ code (binary (ident (codes "a")) (leaf_of kind.Plus (codes "+")) (binary (ident (codes "b")) (leaf_of kind.Star (codes "*")) (ident (codes "c"))) ∷ [])
  pub assignments : tree_code (by_law beyond) (codes "a = b = c") ≡ code (binary (ident (codes "a")) (leaf_of kind.Eq (codes "=")) (binary (ident (codes "b")) (leaf_of kind.Eq (codes "=")) (ident (codes "c"))) ∷ [])
  pub signs : tree_code (by_law beyond) (codes "-a + b") ≡ code (binary (branch kind.Unary (leaf_of kind.Minus (codes "-") ∷ ident (codes "a") ∷ [])) (leaf_of kind.Plus (codes "+")) (ident (codes "b")) ∷ [])
  pub negation : tree_code (by_law beyond) (codes "not a in b") ≡ code (branch kind.Unary (leaf_of kind.Not (codes "not") ∷ space (codes " ") ∷ binary (ident (codes "a")) (leaf_of kind.In (codes "in")) (ident (codes "b")) ∷ []) ∷ [])
  -- one item alone isn't an array
  pub group : tree_code (by_law beyond) (codes "(a)") ≡ code (branch kind.Parenthesized (leaf_of kind.LeftParen (codes "(") ∷ ident (codes "a") ∷ leaf_of kind.RightParen (codes ")") ∷ []) ∷ [])
  pub array : tree_code (by_law beyond) (codes "(a,)") ≡ code (branch kind.Array (leaf_of kind.LeftParen (codes "(") ∷ ident (codes "a") ∷ leaf_of kind.Comma (codes ",") ∷ leaf_of kind.RightParen (codes ")") ∷ []) ∷ [])
  -- a key that was seen is an error
  pub duplicate : tree (by_law beyond) (codes "#(a:1,a:2)") ≡
      markup (hash ∷ branch kind.Dict (leaf_of kind.LeftParen (codes "(")
      ∷ branch kind.Named (ident (codes "a") ∷ leaf_of kind.Colon (codes ":") ∷ int (codes "1") ∷ []) ∷ leaf_of kind.Comma (codes ",")
      ∷ branch kind.Named (error_of (codes "duplicate key: a") (codes "a") ∷ leaf_of kind.Colon (codes ":") ∷ int (codes "2") ∷ []) ∷ leaf_of kind.RightParen (codes ")") ∷ []) ∷ [])
  -- arguments are directly after what is called
  pub call : tree_code (by_law beyond) (codes "f(a)[]") ≡ code (branch kind.FuncCall (ident (codes "f") ∷ branch kind.Args (leaf_of kind.LeftParen (codes "(") ∷ ident (codes "a") ∷ leaf_of kind.RightParen (codes ")") ∷ branch kind.ContentBlock (leaf_of kind.LeftBracket (codes "[") ∷ markup [] ∷ leaf_of kind.RightBracket (codes "]") ∷ []) ∷ []) ∷ []) ∷ [])
  -- an atomic expression takes no operator, and after a block no string begins
  pub atomic : tree (by_law beyond) (codes "#a+b") ≡ markup (hash ∷ ident (codes "a") ∷ text (codes "+b") ∷ [])
  pub quote : tree (by_law beyond) (codes "#{}\"") ≡ markup (hash ∷ branch kind.CodeBlock (leaf_of kind.LeftBrace (codes "{") ∷ code [] ∷ leaf_of kind.RightBrace (codes "}") ∷ []) ∷ leaf_of kind.SmartQuote (codes "\"") ∷ [])
  -- a token on the next line is taken as an error, though the statement ends with its line
  pub context : tree (by_law beyond) (codes "#context\nx") ≡ markup (hash ∷ branch kind.Contextual (leaf_of kind.Context (codes "context") ∷ space (codes "\n") ∷ error_of (codes "unexpected identifier") (codes "x") ∷ []) ∷ [])
  -- a colon has to come right after `show`
  pub show : tree_code (by_law beyond) (codes "show a") ≡ code (branch kind.ShowRule (leaf_of kind.Show (codes "show") ∷ error_of (codes "expected colon") [] ∷ space (codes " ") ∷ ident (codes "a") ∷ []) ∷ [])

-- a tree of a formula
abbrev pub math : List Tree → Tree
math kids = branch kind.Math kids

-- a letter or a sign of a formula
abbrev pub letter : List ℕ → Tree
letter s = leaf_of kind.MathText s

-- a dollar sign
abbrev pub dollar : Tree
dollar = leaf_of kind.Dollar (codes "$")

-- Trees of short formulas, and of text with formulas in it.
pub record MathTrees (beyond : CharClasses) : Type 0 where
  -- delimiters are text, but parens around what is above a slash are parens
  pub delimited : tree_math (by_law beyond) (codes "(a)") ≡ math (branch kind.MathDelimited (letter (codes "(") ∷ math (letter (codes "a") ∷ []) ∷ letter (codes ")") ∷ []) ∷ [])
  pub fraction : tree_math (by_law beyond) (codes "(a)/b") ≡ math (branch kind.MathFrac (math (leaf_of kind.LeftParen (codes "(") ∷ math (letter (codes "a") ∷ []) ∷ leaf_of kind.RightParen (codes ")") ∷ []) ∷ leaf_of kind.Slash (codes "/") ∷ letter (codes "b") ∷ []) ∷ [])
  pub unclosed_paren : tree_math (by_law beyond) (codes "(a") ≡ math (math (letter (codes "(") ∷ letter (codes "a") ∷ []) ∷ [])
  -- one letter isn't called, and a name is
  pub letter_and_paren : tree_math (by_law beyond) (codes "f(x)") ≡ math (math (letter (codes "f") ∷ branch kind.MathDelimited (letter (codes "(") ∷ math (letter (codes "x") ∷ []) ∷ letter (codes ")") ∷ []) ∷ []) ∷ [])
  pub call : tree_math (by_law beyond) (codes "ab(x)") ≡ math (branch kind.MathCall (leaf_of kind.MathIdent (codes "ab") ∷ branch kind.MathArgs (leaf_of kind.LeftParen (codes "(") ∷ letter (codes "x") ∷ leaf_of kind.RightParen (codes ")") ∷ []) ∷ []) ∷ [])
  -- each sign attaches once
  pub attached : tree_math (by_law beyond) (codes "a^2_1") ≡ math (branch kind.MathAttach (letter (codes "a") ∷ leaf_of kind.Hat (codes "^") ∷ letter (codes "2") ∷ leaf_of kind.Underscore (codes "_") ∷ letter (codes "1") ∷ []) ∷ [])
  pub primes : tree_math (by_law beyond) (codes "f''") ≡ math (branch kind.MathAttach (letter (codes "f") ∷ leaf_of kind.MathPrimes (codes "''") ∷ []) ∷ [])
  pub factorial : tree_math (by_law beyond) (codes "a!") ≡ math (math (letter (codes "a") ∷ letter (codes "!") ∷ []) ∷ [])
  -- a formula ends at a dollar
  pub equation : tree (by_law beyond) (codes "$a$b") ≡ markup (branch kind.Equation (dollar ∷ math (letter (codes "a") ∷ []) ∷ dollar ∷ []) ∷ text (codes "b") ∷ [])
  pub unclosed_equation : tree (by_law beyond) (codes "$a") ≡ markup (branch kind.Equation (unclosed (codes "$") ∷ math (letter (codes "a") ∷ []) ∷ []) ∷ [])

-- Trees of short texts of code with patterns.
pub record PatternTrees (beyond : CharClasses) : Type 0 where
  pub binding : tree_code (by_law beyond) (codes "let (a,b)=c") ≡
      code (branch kind.LetBinding (leaf_of kind.Let (codes "let") ∷ space (codes " ")
      ∷ branch kind.Destructuring (leaf_of kind.LeftParen (codes "(") ∷ ident (codes "a") ∷ leaf_of kind.Comma (codes ",") ∷ ident (codes "b") ∷ leaf_of kind.RightParen (codes ")") ∷ [])
      ∷ leaf_of kind.Eq (codes "=") ∷ ident (codes "c") ∷ []) ∷ [])
  -- what is in parens is read again if an arrow or an equals sign comes after it
  pub closure : tree_code (by_law beyond) (codes "(a)=>a") ≡
      code (branch kind.Closure (branch kind.Params (leaf_of kind.LeftParen (codes "(") ∷ ident (codes "a") ∷ leaf_of kind.RightParen (codes ")") ∷ [])
      ∷ leaf_of kind.Arrow (codes "=>") ∷ ident (codes "a") ∷ []) ∷ [])
  pub assignment : tree_code (by_law beyond) (codes "(a,)=b") ≡
      code (branch kind.DestructAssignment (branch kind.Destructuring (leaf_of kind.LeftParen (codes "(") ∷ ident (codes "a") ∷ leaf_of kind.Comma (codes ",") ∷ leaf_of kind.RightParen (codes ")") ∷ [])
      ∷ leaf_of kind.Eq (codes "=") ∷ ident (codes "b") ∷ []) ∷ [])
  pub placeholder : tree_code (by_law beyond) (codes "_=a") ≡ code (branch kind.DestructAssignment (leaf_of kind.Underscore (codes "_") ∷ leaf_of kind.Eq (codes "=") ∷ ident (codes "a") ∷ []) ∷ [])
