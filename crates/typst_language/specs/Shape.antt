-- What a token or several nodes become, and what is seen of a node from above.
use Rattle.std.specs.Prelude.{ℕ, Bool, true, false, ◌&&◌, ◌==◌, if◌then◌else◌, List, [], ◌∷◌, ◌++◌, take, drop, None, codes}
use Rattle.typst_kinds.specs.declared.kind.SyntaxKind.{SyntaxKind}
use Rattle.typst_kinds.specs.declared.kind.SyntaxKind.TheVariants as kind
use Rattle.typst_kinds.specs.Kinds.{is_error}
use Rattle.typst_lexer.specs.Diagnostic.{hint_with, warning_with}
use Rattle.typst_lexer.specs.Messages.{made_unexpected, made_expected}
use Rattle.typst_lexer.specs.Tree.{Tree, forest, trees, joined, text_of, inner_of, error_of, with_kind, made_error, advised, all_advised, remarked}
use Rattle.typst_language.specs.Point.{Point, is_nil}

-- ---- what the current token becomes

-- what the current token becomes
pub data Making : Type 0 where
  -- the node of the token
  itself : Making
  -- the node of the token, as another kind
  of_kind : SyntaxKind → Making
  -- an error that it was not expected, with hints
  surprise : List (List ℕ) → Making
  -- an error that this was expected there
  wanted : List ℕ → Making

-- what a token's node is made into
abbrev pub made : Making → Tree → Tree
made itself t = t
made (of_kind kind) t = with_kind kind t
made (surprise hints) t = all_advised hints (made_unexpected t)
made (wanted thing) t = made_expected thing t

-- ---- hints for an error that was given

-- an error with these hints; another node stays
abbrev pub hinted_error : List (List ℕ) → Tree → Tree
hinted_error hints t = if is_error t.head.kind then all_advised hints t else t

-- several nodes, with these hints for the last of them, if it is an error
abbrev pub hinted_last : List (List ℕ) → List Tree → List Tree
hinted_last hints [] = []
hinted_last hints (t ∷ []) = hinted_error hints t ∷ []
hinted_last hints (t ∷ u ∷ ts) = t ∷ hinted_last hints (u ∷ ts)

-- several nodes, with these hints, if there are any, for the last of them, if it is an error
abbrev pub hinted : List (List ℕ) → List Tree → List Tree
hinted [] ts = ts
hinted (hint ∷ hints) ts = hinted_last (hint ∷ hints) ts

-- ---- what several nodes become

-- what is done to the first of several nodes
pub data NodeChange : Type 0 where
  -- nothing
  stays : NodeChange
  -- it becomes an error leaf of its text
  turns_wrong : List ℕ → NodeChange
  -- it becomes an error leaf of its text that says that this was expected there
  is_not : List ℕ → NodeChange
  -- it becomes a node of another kind
  renamed : SyntaxKind → NodeChange
  -- if it is delimited by parens in math, these become parens, and it becomes math
  unparened : NodeChange

-- what several nodes become
pub data Shape : Type 0 where
  -- the nodes themselves, the first of them changed
  keeps : NodeChange → Shape
  -- an inner node over the nodes, the first of them changed
  holds : NodeChange → SyntaxKind → Shape
  -- an inner node over the nodes, with an empty error after a given number of its children
  lacks : ℕ → List ℕ → SyntaxKind → Shape
  -- an inner node over the nodes, with a warning and its hint
  warns : SyntaxKind → List ℕ → List ℕ → Shape
  -- an error leaf of the nodes' text
  fails : List ℕ → Shape

-- an inner node over several nodes
abbrev pub becomes : SyntaxKind → Shape
becomes kind = holds stays kind

-- an inner node whose first child becomes the error that it was not closed
abbrev pub unclosed : SyntaxKind → Shape
unclosed kind = holds (turns_wrong (codes "unclosed delimiter")) kind

-- what is between two delimiters, of which the second may be missing
abbrev pub encloses : SyntaxKind → Bool → Shape
encloses kind closed = if closed then becomes kind else unclosed kind

-- a node with delimiters in math
abbrev pub is_delimited : SyntaxKind → Bool
is_delimited kind.MathDelimited = true
is_delimited _ = false

-- whether a node is a leaf of this one character
abbrev pub is_sign : ℕ → Tree → Bool
is_sign c t = elim t.head.text [ [] ↦ false | d ∷ ds ↦ d == c && is_nil ds ]

-- the last of several nodes is a leaf of this one character
abbrev pub ends_with : ℕ → List Tree → Bool
ends_with c [] = false
ends_with c (t ∷ []) = is_sign c t
ends_with c (t ∷ u ∷ ts) = ends_with c (u ∷ ts)

-- several nodes, the last of them as another kind
abbrev pub renamed_last : SyntaxKind → List Tree → List Tree
renamed_last k [] = []
renamed_last k (t ∷ []) = with_kind k t ∷ []
renamed_last k (t ∷ u ∷ ts) = t ∷ renamed_last k (u ∷ ts)

-- the children of what is delimited by `(` and `)`
abbrev pub in_parens : List Tree → Bool
in_parens [] = false
in_parens (t ∷ ts) = is_sign 40 t && ends_with 41 ts

-- children whose first and last become parens
abbrev pub parens_renamed : List Tree → List Tree
parens_renamed [] = []
parens_renamed (t ∷ ts) = with_kind kind.LeftParen t ∷ renamed_last kind.RightParen ts

-- what is delimited by `(` and `)` in math, as math with parens; any other node as it is
abbrev pub without_parens : Tree → Tree
without_parens t =
    if is_delimited t.head.kind && in_parens (trees t.kids)
    then record { head = record t.head { kind = kind.Math }; kids = forest (parens_renamed (trees t.kids)) }
    else t

-- a node after what is done to it
abbrev pub changed : NodeChange → Tree → Tree
changed stays t = t
changed (turns_wrong message) t = made_error message t
changed (is_not thing) t = made_expected thing t
changed (renamed kind) t = with_kind kind t
changed unparened t = without_parens t

-- several nodes, the first of them changed by a function
abbrev pub on_first : (Tree → Tree) → List Tree → List Tree
on_first f [] = []
on_first f (t ∷ ts) = f t ∷ ts

-- several nodes, the first of them changed
abbrev pub first_changed : NodeChange → List Tree → List Tree
first_changed stays ts = ts
first_changed (turns_wrong message) ts = on_first (made_error message) ts
first_changed (is_not thing) ts = on_first (made_expected thing) ts
first_changed (renamed kind) ts = on_first (with_kind kind) ts
first_changed unparened ts = on_first without_parens ts

-- several nodes in a shape
abbrev pub shaped : Shape → List Tree → List Tree
shaped (keeps change) ts = first_changed change ts
shaped (holds change kind) ts = inner_of kind (forest (first_changed change ts)) ∷ []
shaped (lacks count message kind) ts = inner_of kind (forest (take count ts ++ error_of message [] ∷ drop count ts)) ∷ []
shaped (warns kind message hint) ts = advised (hint_with None hint) (remarked (warning_with None message) (inner_of kind (forest ts))) ∷ []
shaped (fails message) ts = error_of message (joined (forest ts)) ∷ []

-- how many empty errors a node with this text is, if it is an error
abbrev pub count_empty : List ℕ → ℕ
count_empty text = if is_nil text then 1 else 0

-- the point after a node, which is an error or not and has this text
abbrev pub after_node : Bool → List ℕ → Point → Point
after_node true text s = record s { empties = count_empty text; is_after_error = true }
after_node false text s = record s { empties = 0; is_after_error = false }

-- the point after nodes of which the first was changed: that matters only if it is alone and was
-- not an error
abbrev pub after_change : NodeChange → List Tree → Point → Point
after_change change [] s = s
after_change change (t ∷ []) s = if is_error t.head.kind then s else after_node (is_error (changed change t).head.kind) (text_of t) s
after_change change (t ∷ u ∷ ts) s = s

-- the point after what several nodes became
abbrev pub after_shape : Shape → List Tree → Point → Point
after_shape (keeps change) ts s = after_change change ts s
after_shape (holds change kind) ts s = after_node false [] s
after_shape (lacks count message kind) ts s = after_node false [] s
after_shape (warns kind message hint) ts s = after_node false [] s
after_shape (fails message) ts s = after_node true (joined (forest ts)) s

-- ---- what is seen of a node

-- what is seen of a node: all of a leaf or an error, and of an inner node its kind alone
pub data Seen : Type 0 where
  leaf_seen : SyntaxKind → List ℕ → Seen
  inner_seen : SyntaxKind → Seen

-- what is seen of this node
abbrev pub seen : Tree → Seen
seen t = if t.head.is_inner then inner_seen t.head.kind else leaf_seen t.head.kind t.head.text
