-- What begins with a paren: a group, a closure or an assignment.
use Rattle.std.specs.Prelude.{Bool, true, false, not, ◌&&◌, if◌then◌else◌, [], codes}
use Rattle.typst_kinds.specs.Kinds.{same}
use Rattle.typst_kinds.specs.declared.kind.SyntaxKind.{SyntaxKind}
use Rattle.typst_kinds.specs.declared.kind.SyntaxKind.TheVariants as kind
use Rattle.typst_language.specs.declared.calls.Role.TheVariants as role
use Rattle.typst_language.specs.Syntax.{Parser, ◌>>=◌, ◌>>◌}
use Rattle.typst_language.specs.Syntax.Parser.{gives, pick, either}
use Rattle.typst_language.specs.Steps.{peek, node, within}
use Rattle.typst_markup.specs.Markup.{at_newline}
use Rattle.typst_language.specs.Meaning.{Guess, Level, run, start_point}
use Rattle.typst_language.specs.declared.reading.AtNewline.TheVariants as newline
use Rattle.typst_language.specs.declared.reading.Reading.{Reading}
use Rattle.typst_lines.specs.Place.{Place}
use Rattle.typst_language.specs.Expected.{expects}
use Rattle.typst_language.specs.declared.calls.AfterName.{AfterName}
use Rattle.typst_language.specs.declared.calls.AfterName.TheVariants as after
use Rattle.typst_bindings.specs.Closures.{closure_shape}
use Rattle.typst_bindings.specs.Params.{params}
use Rattle.typst_bindings.specs.Parts.{expression_if}
use Rattle.typst_bindings.specs.Patterns.{destructuring}
use Rattle.typst_code.specs.Groups.{group, group_rest}

-- what comes after a group: an arrow makes parameters of it; an equals sign makes it what is
-- assigned to, unless it is one expression in parens
abbrev pub after_group : SyntaxKind → SyntaxKind → AfterName
after_group group k =
    if same kind.Arrow k then after.Arrow
    else (if same kind.Eq k && not (same kind.Parenthesized group) then after.Eq else after.Nothing)

-- the first reading: a group; answers what comes after it
unfoldable pub as_group : Parser AfterName
as_group = do
  read ← group
  ahead ← peek
  gives (after_group read ahead.kind)

-- the first reading from after its paren on; answers what comes after the group
unfoldable pub after_paren : Parser AfterName
after_paren = do
  x ← within (at_newline newline.Continue) (peek >> group_rest)
  ahead ← peek
  gives (after_group x.1 ahead.kind)

-- what a first reading finds, by where it goes on after its paren and how it is read outside
abbrev pub guess_of : Level → Place → Reading → Guess
guess_of l z outer =
    let o = run l after_paren z (record (start_point outer) { held = at_newline newline.Continue outer }) in
    record { after = o.value; asks = o.asks }

-- an arrow comes
abbrev pub is_arrow : AfterName → Bool
is_arrow after.Arrow = true
is_arrow after.Eq = false
is_arrow after.Nothing = false

-- an equals sign comes
abbrev pub is_eq : AfterName → Bool
is_eq after.Arrow = false
is_eq after.Eq = true
is_eq after.Nothing = false

-- a first reading, which is given up if what comes after it asks for a second one
abbrev pub either_reading : Parser AfterName
either_reading = either (either as_group is_arrow (params >> gives after.Arrow)) is_eq (destructuring role.Target [] >> gives after.Eq)

-- the reading of a group, which only with parens may be a second one
unfoldable pub readings : Parser AfterName
readings = do
  ahead ← peek
  pick (same kind.LeftParen ahead.kind) either_reading as_group

-- what came after a group, if its sign did, and else nothing
abbrev pub after_if : Bool → AfterName → AfterName
after_if came b = if came then b else after.Nothing

-- the arrow or the equals sign after a second reading; answers whether it came
abbrev pub sign : AfterName → Parser Bool
sign after.Arrow = expects (same kind.Arrow) (codes "arrow")
sign after.Eq = expects (same kind.Eq) (codes "equals sign")
sign after.Nothing = gives false

-- a group, and after a second reading its sign and an expression, which aren't given up
unfoldable pub parens : Parser (Unit {0})
parens = do
  x ← node closure_shape (do
    follows ← readings
    came ← sign follows
    rest ← expression_if came
    gives (after_if came follows))
  gives tt
