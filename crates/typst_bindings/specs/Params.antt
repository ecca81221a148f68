-- Parameters of closures.
use Rattle.std.specs.Prelude.{ℕ, Bool, true, false, List, [], Option, Some, None, is_some, codes}
use Rattle.typst_kinds.specs.Kinds.{same, among, is_terminator}
use Rattle.typst_kinds.specs.Sets as set
use Rattle.typst_kinds.specs.declared.kind.SyntaxKind.{SyntaxKind}
use Rattle.typst_kinds.specs.declared.kind.SyntaxKind.TheVariants as kind
use Rattle.typst_language.specs.declared.calls.Role.TheVariants as role
use Rattle.typst_language.specs.Shape.{encloses}
use Rattle.typst_language.specs.Syntax.{Parser, ◌>>=◌, ◌>>◌}
use Rattle.typst_language.specs.Syntax.Parser.{gives, pick, repeat}
use Rattle.typst_language.specs.Steps.{peek, eat, eat_if, unexpected, within, node}
use Rattle.typst_language.specs.Expected.{seeing}
use Rattle.typst_bindings.specs.Parts.{code_expression, separator, in_parens}
use Rattle.typst_bindings.specs.Patterns.{deeper_pattern, name_of, named_shape, sink, sink_shape}

-- a pattern, and after a colon its default; answers whether a colon came and a name is before it,
-- and the names that were seen
unfoldable pub defaulted : List (List ℕ) → Parser (Option Bool × List (List ℕ))
defaulted names = do
  x ← seeing (deeper_pattern role.Parameter names)
  ahead ← peek
  pick (same kind.Colon ahead.kind) (eat >> code_expression >> gives (Some (is_some (name_of x.1)), x.0)) (gives (None, x.0))

-- one parameter; answers whether there were two dots so far, and the names that were seen
unfoldable pub param : Bool × List (List ℕ) → Parser (Bool × List (List ℕ))
param so_far = do
  ahead ← peek
  pick (same kind.Dots ahead.kind) (do
    names ← node (λ names. sink_shape (codes "only one argument sink is allowed") so_far.0) (sink role.Parameter so_far.1)
    gives (true, names)) (do
      x ← node (λ x. named_shape x.0) (defaulted so_far.1)
      gives (so_far.0, x.1))

-- a token that begins a parameter
abbrev pub begins_param : SyntaxKind → Bool
begins_param k = among set.param k

-- a parameter and what separates it from the next, unless the list ends
unfoldable pub param_turn : Bool × List (List ℕ) → Parser (Bool × (Bool × List (List ℕ)))
param_turn so_far = do
  ahead ← peek
  pick (is_terminator ahead.kind) (gives (false, so_far)) (pick (begins_param ahead.kind) (do
    more ← param so_far
    comma ← separator
    gives (true, more))
      (unexpected [] >> gives (true, so_far)))

-- `( .. )`: the parameters of a closure
unfoldable pub params : Parser (Unit {0})
params = do
  closed ← node (encloses kind.Params) (within in_parens (do
    paren ← eat
    read ← repeat param_turn (false, [])
    eat_if (same kind.RightParen)))
  gives tt
