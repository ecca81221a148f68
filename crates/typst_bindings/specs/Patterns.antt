-- Patterns: names, what is assigned to, and parens around several of them.
use Rattle.std.specs.Prelude.{ℕ, Bool, true, false, not, ◌&&◌, if◌then◌else◌, List, [], ◌∷◌, ◌++◌, Option, Some, None, is_some, codes}
use Rattle.typst_kinds.specs.Kinds.{same, among, is_keyword, is_terminator}
use Rattle.typst_kinds.specs.Sets as set
use Rattle.typst_kinds.specs.declared.kind.SyntaxKind.{SyntaxKind}
use Rattle.typst_kinds.specs.declared.kind.SyntaxKind.TheVariants as kind
use Rattle.typst_kinds.specs.SeenNames.{has_name, with_name}
use Rattle.typst_language.specs.Calls.Call.{Pattern}
use Rattle.typst_language.specs.declared.calls.Role.{Role}
use Rattle.typst_language.specs.declared.calls.Role.TheVariants as role
use Rattle.typst_language.specs.Shape.{NodeChange, Shape, Seen, becomes, encloses}
use Rattle.typst_language.specs.Shape.NodeChange.{stays, turns_wrong, is_not}
use Rattle.typst_language.specs.Shape.Making.{wanted}
use Rattle.typst_language.specs.Shape.Seen.{leaf_seen, inner_seen}
use Rattle.typst_language.specs.Shape.Shape.{keeps, holds, fails}
use Rattle.typst_language.specs.Syntax.{Parser, ◌>>=◌, ◌>>◌}
use Rattle.typst_language.specs.Syntax.Parser.{gives, pick, repeat, either}
use Rattle.typst_language.specs.Steps.{peek, eat, eat_if, eat_making, unexpected, expected, within, node}
use Rattle.typst_language.specs.Depth.{deeper}
use Rattle.typst_language.specs.Expected.{seeing}
use Rattle.typst_bindings.specs.declared.parts_listing.Parts.{Parts}
use Rattle.typst_bindings.specs.Parts.{atomic_expression, separator, in_parens}

-- a pattern, one level deeper; what is too deep names nothing
abbrev pub deeper_pattern : Role → List (List ℕ) → Parser (List (List ℕ))
deeper_pattern role names = deeper (Pattern role names) names

-- ---- one name

-- the name that a node is
abbrev pub name_of_one : Seen → Option (List ℕ)
name_of_one (leaf_seen k text) = if same kind.Ident k then Some text else None
name_of_one (inner_seen k) = None

-- the name that the first of several nodes is
abbrev pub name_of : List Seen → Option (List ℕ)
name_of [] = None
name_of (s ∷ ss) = name_of_one s

-- what an error says of a name that was seen before
abbrev pub duplicate : Role → List ℕ
duplicate role.Parameter = codes "duplicate parameter: "
duplicate _ = codes "duplicate binding: "

-- a name that is bound becomes an error if it was seen
abbrev pub when_bound : Role → List (List ℕ) → List ℕ → NodeChange
when_bound role names name = if has_name names name then turns_wrong (duplicate role ++ name) else stays

-- what is done to what is bound: it has to be a name, one that wasn't seen
abbrev pub bound_change : Role → List (List ℕ) → Option (List ℕ) → NodeChange
bound_change role names (Some name) = when_bound role names name
bound_change role names None = is_not (codes "pattern")

-- the names that were seen, with this one, if there is one
abbrev pub with_bound : List (List ℕ) → Option (List ℕ) → List (List ℕ)
with_bound names (Some name) = with_name names name
with_bound names None = names

-- a name that is bound; an expression is read instead, so that all of it becomes one error
unfoldable pub bound_name : Role → List (List ℕ) → Parser (List (List ℕ))
bound_name role names = do
  name ← node (λ name. keeps (bound_change role names name)) (do
    x ← seeing atomic_expression
    gives (name_of x.1))
  gives (with_bound names name)

-- what is assigned to, and not bound
abbrev pub is_target : Role → Bool
is_target role.Target = true
is_target role.Binding = false
is_target role.Parameter = false

-- a token that begins a name, or an expression instead of one
abbrev pub begins_leaf : SyntaxKind → Bool
begins_leaf k = among set.pattern_leaf k

-- a name, or an expression that is assigned to; answers the names that were seen
unfoldable pub pattern_leaf : Role → List (List ℕ) → Parser (List (List ℕ))
pattern_leaf role names = do
  ahead ← peek
  pick (is_keyword ahead.kind) (eat_making false (wanted (codes "pattern")) >> gives names)
      (pick (begins_leaf ahead.kind) (pick (is_target role) (atomic_expression >> gives names) (bound_name role names))
      (expected (codes "pattern") >> gives names))

-- ---- several patterns in parens

-- two dots, and a name if one comes
unfoldable pub sink : Role → List (List ℕ) → Parser (List (List ℕ))
sink role names = do
  dots ← eat
  ahead ← peek
  pick (begins_leaf ahead.kind) (pattern_leaf role names) (gives names)

-- two dots with their name as one node, or as an error if there were two dots before
abbrev pub sink_shape : List ℕ → Bool → Shape
sink_shape message again = if again then fails message else becomes kind.Spread

-- a name; answers whether a colon comes after it
unfoldable pub name_and_colon : Parser Bool
name_and_colon = do
  name ← eat
  after ← peek
  gives (same kind.Colon after.kind)

-- a name before a colon; answers whether it was taken. If no colon comes the name is given up
unfoldable pub key : Parser Bool
key = do
  ahead ← peek
  pick (same kind.Ident ahead.kind) (either name_and_colon not (gives false)) (gives false)

-- a key or a pattern; answers whether it is a key
unfoldable pub key_or_pattern : Role → List (List ℕ) → Parser (Bool × List (List ℕ))
key_or_pattern role names = do
  is_key ← key
  seen ← pick is_key (gives names) (deeper_pattern role names)
  gives (is_key, seen)

-- what a colon is in as one node; before the colon a name has to be
abbrev pub named_shape : Option Bool → Shape
named_shape None = keeps stays
named_shape (Some is_name) = holds (if is_name then stays else is_not (codes "identifier")) kind.Named

-- a pattern, with a key before it or not; answers whether a colon came, and what is before it is a key
unfoldable pub part : Role → List (List ℕ) → Parser (Option Bool × List (List ℕ))
part role names = do
  first ← key_or_pattern role names
  ahead ← peek
  pick (same kind.Colon ahead.kind) (do
    colon ← eat
    seen ← deeper_pattern role first.1
    gives (Some first.0, seen))
      (gives (None, first.1))

-- what was found of several patterns so far, and the names that were seen
abbrev pub Found : Type 0
Found = Parts × List (List ℕ)

-- what is known before the first of several patterns
abbrev pub no_parts : Parts
no_parts = record { any = false; is_plain = true; has_sink = false }

-- what was found of several patterns so far, with one that has two dots
abbrev pub with_sink : Parts → Parts
with_sink parts = record { any = true; is_plain = false; has_sink = true }

-- what was found of several patterns so far, with one more, which has a colon or not
abbrev pub with_part : Bool → Parts → Parts
with_part is_named parts = record { any = true; is_plain = parts.is_plain && not parts.any && not is_named; has_sink = parts.has_sink }

-- what was found of several patterns so far, after a comma or none
abbrev pub with_comma : Bool → Parts → Parts
with_comma comma parts = record parts { is_plain = parts.is_plain && not comma }

-- one of several patterns; answers what was found of them so far
unfoldable pub destructuring_item : Role → Found → Parser Found
destructuring_item role found = do
  ahead ← peek
  pick (same kind.Dots ahead.kind) (do
    names ← node (λ names. sink_shape (codes "only one destructuring sink is allowed") found.0.has_sink) (sink role found.1)
    gives (with_sink found.0, names)) (do
      x ← node (λ x. named_shape x.0) (part role found.1)
      gives (with_part (is_some x.0) found.0, x.1))

-- a token that begins one of several patterns
abbrev pub begins_part : SyntaxKind → Bool
begins_part k = among set.destructuring_item k

-- one of several patterns and what separates it from the next, unless the list ends
unfoldable pub destructuring_turn : Role → Found → Parser (Bool × Found)
destructuring_turn role found = do
  ahead ← peek
  pick (is_terminator ahead.kind) (gives (false, found)) (pick (begins_part ahead.kind) (do
    more ← destructuring_item role found
    comma ← separator
    gives (true, (with_comma comma more.0, more.1)))
      (unexpected [] >> gives (true, found)))

-- what names are within a pattern in parens: those of a parameter are bindings there
abbrev pub role_below : Role → Role
role_below role.Target = role.Target
role_below role.Binding = role.Binding
role_below role.Parameter = role.Binding

-- what several patterns in parens are; one alone is a pattern in parens
abbrev pub parts_kind : Parts → SyntaxKind
parts_kind parts = if parts.any && parts.is_plain then kind.Parenthesized else kind.Destructuring

-- `( .. )`; answers the names that were seen
unfoldable pub destructuring : Role → List (List ℕ) → Parser (List (List ℕ))
destructuring role names = do
  x ← node (λ (x : Bool × Found). encloses (parts_kind x.1.0) x.0) (within in_parens (do
    paren ← eat
    found ← repeat (destructuring_turn (role_below role)) (no_parts, names)
    closed ← eat_if (same kind.RightParen)
    gives (closed, found)))
  gives x.1.1

-- a pattern; answers the names that were seen
unfoldable pub pattern : Role → List (List ℕ) → Parser (List (List ℕ))
pattern role names = do
  ahead ← peek
  pick (same kind.Underscore ahead.kind) (eat >> gives names)
      (pick (same kind.LeftParen ahead.kind) (destructuring role names) (pattern_leaf role names))
