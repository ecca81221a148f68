-- THE KINDS OF NAMES BY CONTEXT: what a name is, by where it stands.
use Rattle.std.specs.Prelude.{Bool, Option, None, Some, if◌then◌else◌}
use Rattle.typst_kinds.specs.Kinds.{same}
use Rattle.typst_kinds.specs.declared.kind.SyntaxKind.{SyntaxKind}
use Rattle.typst_kinds.specs.declared.kind.SyntaxKind.TheVariants as kind
use Rattle.typst_names.specs.declared.contexts.Context.{Context}
use Rattle.typst_names.specs.declared.contexts.Context.TheVariants as context
use Rattle.typst_names.specs.declared.contexts.Role.{Role}
use Rattle.typst_names.specs.declared.contexts.Role.TheVariants as is

-- ---- what a name is

-- the names of an imported path lead to its last one
abbrev pub in_path : Bool → Role → Role
in_path is_last role = if is_last then role else is.Module

-- what a name among the children of a node is, and whether it is the last of them
abbrev pub name_in : Context → Bool → Role
name_in context.Let is_last = is.Variable
name_in context.Loop is_last = is.Variable
name_in context.Pattern is_last = is.Variable
name_in context.PatternPair is_last = is.Key
name_in context.Function is_last = is.Function
name_in context.Parameters is_last = is.Parameter
name_in context.Default is_last = is.Parameter
name_in context.ParameterPattern is_last = is.Parameter
name_in context.ParameterPair is_last = is.Key
name_in context.Argument is_last = is.Argument
name_in context.Entry is_last = is.Key
name_in context.Field is_last = is.Field
name_in context.Source is_last = is.Module
name_in context.Alias is_last = is.Alias
name_in context.Path is_last = in_path is_last is.Variable
name_in context.OldPath is_last = in_path is_last is.Use
name_in _ is_last = is.Use

-- what a node of a kind is: names alone have a role
abbrev pub role_of : Context → SyntaxKind → Bool → Option Role
role_of c kind.Ident is_last = Some (name_in c is_last)
role_of c kind.MathIdent is_last = Some (name_in c is_last)
role_of c _ is_last = None

-- ---- what changes from one child to the next

-- a context, and after a mark another one
abbrev pub up_to : SyntaxKind → Context → Context → SyntaxKind → Context
up_to mark next c k = if same mark k then next else c

-- an import gives its module a new name after `as`, and has items after a colon
abbrev pub after_source : SyntaxKind → Context
after_source k = if same kind.As k then context.Alias else up_to kind.Colon context.Value context.Source k

-- the context after a child of a kind
abbrev pub after : Context → SyntaxKind → Context
after context.Let k = up_to kind.Eq context.Value context.Let k
after context.Loop k = up_to kind.In context.Value context.Loop k
after context.PatternPair k = up_to kind.Colon context.Pattern context.PatternPair k
after context.Function k = up_to kind.Params context.Value context.Function k
after context.Default k = up_to kind.Colon context.Value context.Default k
after context.ParameterPair k = up_to kind.Colon context.ParameterPattern context.ParameterPair k
after context.Argument k = up_to kind.Colon context.Value context.Argument k
after context.Entry k = up_to kind.Colon context.Value context.Entry k
after context.Access k = up_to kind.Dot context.Field context.Access k
after context.Source k = after_source k
after context.Alias k = up_to kind.Colon context.Value context.Alias k
after context.Renamed k = up_to kind.As context.Pattern context.Renamed k
after c k = c

-- ---- what is below a child

-- below a pair with a colon
abbrev pub pair_in : Context → Context
pair_in context.Let = context.PatternPair
pair_in context.Loop = context.PatternPair
pair_in context.Pattern = context.PatternPair
pair_in context.Parameters = context.Default
pair_in context.ParameterPattern = context.ParameterPair
pair_in context.Arguments = context.Argument
pair_in _ = context.Entry

-- below a pattern in parens, and below `..`
abbrev pub pattern_in : Context → Context
pattern_in context.Let = context.Pattern
pattern_in context.Loop = context.Pattern
pattern_in context.Pattern = context.Pattern
pattern_in context.Parameters = context.ParameterPattern
pattern_in context.ParameterPattern = context.ParameterPattern
pattern_in _ = context.Value

-- below the path of an item of an import
abbrev pub path_in : Context → Context
path_in context.Renamed = context.OldPath
path_in _ = context.Path

-- the context of the children of a child of a kind
abbrev pub below : Context → SyntaxKind → Context
below c kind.Named = pair_in c
below c kind.Destructuring = pattern_in c
below c kind.Parenthesized = pattern_in c
below c kind.Spread = pattern_in c
below c kind.ImportItemPath = path_in c
below c kind.RenamedImportItem = context.Renamed
below c kind.ModuleImport = context.Source
below c kind.LetBinding = context.Let
below c kind.ForLoop = context.Loop
below c kind.Closure = context.Function
below c kind.Params = context.Parameters
below c kind.Args = context.Arguments
below c kind.MathArgs = context.Arguments
below c kind.FieldAccess = context.Access
below c kind.MathFieldAccess = context.Access
below c _ = context.Value
