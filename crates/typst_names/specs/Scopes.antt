-- THE TABLE OF SCOPES: what binds names, what uses them, and up to where a binding holds.
use Rattle.std.specs.Prelude.{Bool, true, false, Option, None, Some, if◌then◌else◌}
use Rattle.typst_kinds.specs.Kinds.{is_trivia, same}
use Rattle.typst_kinds.specs.declared.kind.SyntaxKind.{SyntaxKind}
use Rattle.typst_kinds.specs.declared.kind.SyntaxKind.TheVariants as kind
use Rattle.typst_names.specs.declared.parts.NameKind.{NameKind}
use Rattle.typst_names.specs.declared.parts.NameKind.TheVariants as does
use Rattle.typst_names.specs.declared.parts.Part.{Part}
use Rattle.typst_names.specs.declared.parts.Part.TheVariants as part

-- what is bound in a block, in a function's parameters and body, and by a loop holds up to the end
-- of that node; all else up to the end of what it is in
abbrev pub opens : Part → Bool
opens part.Block = true
opens part.Function = true
opens part.Loop = true
opens _ = false

-- the part that what an import is from is taken as: in a bare import, which binds its module, it is
-- the last child
abbrev pub base_of_source : Bool → Part
base_of_source is_last = if is_last then part.Bare else part.Value

-- the part that a child is taken as, wherever the part ends
abbrev pub base : Part → Bool → Part
base part.Block is_last = part.Value
base part.Field is_last = part.Value
base part.BareField is_last = part.Value
base part.Source is_last = base_of_source is_last
base part.Once is_last = part.Value
base part.Bound is_last = part.Pattern
base part.Key is_last = part.Pattern
base part.Loop is_last = part.Pattern
base part.Alias is_last = part.Pattern
base p is_last = p

-- a part in which nothing counts
abbrev pub is_nothing : Part → Bool
is_nothing part.Nothing = true
is_nothing _ = false

-- ---- what names do

-- what a node does: one of the wanted kind this, others nothing
abbrev pub told : SyntaxKind → NameKind → SyntaxKind → Option NameKind
told wanted n k = if same wanted k then Some n else None

-- a name that stands for a value is used, in code and in formulas
abbrev pub used : SyntaxKind → Option NameKind
used k = if same kind.Ident k then Some does.Use else told kind.MathIdent does.Use k

-- an item of an import is bound by the last name of its path
abbrev pub last_name : SyntaxKind → Bool → Option NameKind
last_name k is_last = if is_last then told kind.Ident does.Item k else None

-- what a child of a kind does in a part
abbrev pub says : Part → SyntaxKind → Bool → Option NameKind
says part.Value k is_last = used k
says part.Bare k is_last = used k
says part.Pattern k is_last = told kind.Ident does.Binding k
says part.Parameters k is_last = told kind.Ident does.Binding k
says part.OwnName k is_last = told kind.Ident does.Binding k
says part.Imported k is_last = told kind.Star does.Any k
says part.Path k is_last = last_name k is_last
says _ k is_last = None

-- ---- what changes from one child to the next

-- a part, and after a child of the kind `mark` another one
abbrev pub up_to : SyntaxKind → Part → Part → SyntaxKind → Part
up_to mark next p k = if same mark k then next else p

-- a part, and after a child that isn't trivia another one
abbrev pub up_to_one : Part → Part → SyntaxKind → Part
up_to_one next p k = if is_trivia k then p else next

-- how a function's children are taken: after its arrow or its equals sign comes its body
abbrev pub behind_function : SyntaxKind → Part
behind_function k = if same kind.Arrow k then part.Value else up_to kind.Eq part.Value part.Function k

-- how an import's children are taken: after `as` it binds a new name, and after a colon items
abbrev pub behind_source : SyntaxKind → Part
behind_source k = if same kind.As k then part.Alias else up_to kind.Colon part.Imported part.Source k

-- the part that the children after one of a kind are taken as
abbrev pub behind : Part → SyntaxKind → Part
behind part.Field k = up_to kind.Dot part.Nothing part.Field k
behind part.BareField k = up_to kind.Dot part.BoundField part.BareField k
behind part.Init k = up_to kind.Eq part.Value part.Init k
behind part.Bound k = up_to kind.Eq part.Nothing part.Bound k
behind part.Pair k = up_to kind.Colon part.Value part.Pair k
behind part.PatternPair k = up_to kind.Colon part.Pattern part.PatternPair k
behind part.Key k = up_to kind.Colon part.Nothing part.Key k
behind part.OwnName k = up_to kind.Params part.Nothing part.OwnName k
behind part.Defaults k = up_to kind.Params part.Nothing part.Defaults k
behind part.Iterable k = up_to kind.In part.Once part.Iterable k
behind part.Loop k = up_to kind.In part.Passed part.Loop k
behind part.Alias k = up_to kind.Colon part.Imported part.Alias k
behind part.Renamed k = up_to kind.As part.Pattern part.Renamed k
behind part.Once k = up_to_one part.Nothing part.Once k
behind part.Passed k = up_to_one part.Value part.Passed k
behind part.Function k = behind_function k
behind part.Source k = behind_source k
behind p k = p

-- ---- what is below a child: up to three parts, of which the first comes to hold first

-- a part below a node of the wanted kind, and nothing below others
abbrev pub only : SyntaxKind → Part → SyntaxKind → Part
only wanted p k = if same wanted k then p else part.Nothing

-- the part below a pattern, and below a pair in it
abbrev pub below_pattern : Part → SyntaxKind → Part
below_pattern inner kind.Destructuring = part.Pattern
below_pattern inner kind.Parenthesized = part.Pattern
below_pattern inner kind.Spread = part.Pattern
below_pattern inner kind.Named = inner
below_pattern inner _ = part.Nothing

-- the part below an item of an import
abbrev pub below_items : SyntaxKind → Part
below_items kind.ImportItemPath = part.Path
below_items kind.RenamedImportItem = part.Renamed
below_items _ = part.Nothing

-- the first part below a value: of a `let` its value, of a function its defaults, of a loop what it
-- goes over
abbrev pub first_of_value : SyntaxKind → Part
first_of_value kind.LetBinding = part.Init
first_of_value kind.Closure = part.Defaults
first_of_value kind.ForLoop = part.Iterable
first_of_value kind.ModuleImport = part.Source
first_of_value kind.FieldAccess = part.Field
first_of_value kind.MathFieldAccess = part.Field
first_of_value kind.Named = part.Pair
first_of_value kind.CodeBlock = part.Block
first_of_value kind.ContentBlock = part.Block
first_of_value kind.Contextual = part.Block
first_of_value _ = part.Value

-- the first part below what a bare import is from: that of a field access binds the field
abbrev pub first_of_bare : SyntaxKind → Part
first_of_bare kind.FieldAccess = part.BareField
first_of_bare k = first_of_value k

-- the second part below a value: of a `let` what it binds, of a function its own name, of a loop
-- its pattern and its body
abbrev pub second_of_value : SyntaxKind → Part
second_of_value kind.LetBinding = part.Bound
second_of_value kind.Closure = part.OwnName
second_of_value kind.ForLoop = part.Loop
second_of_value _ = part.Nothing

-- the first part below a child of a kind
abbrev pub first : Part → SyntaxKind → Part
first part.Value k = first_of_value k
first part.Bare k = first_of_bare k
first part.Pattern k = below_pattern part.PatternPair k
first part.Parameters k = below_pattern part.Key k
first part.DefaultValues k = only kind.Named part.Pair k
first part.Defaults k = only kind.Params part.DefaultValues k
first part.Function k = only kind.Params part.Parameters k
first part.Init k = only kind.Closure part.Defaults k
first part.Imported k = only kind.ImportItems part.Items k
first part.Items k = below_items k
first _ k = part.Nothing

-- the second part below a child of a kind
abbrev pub second : Part → SyntaxKind → Part
second part.Value k = second_of_value k
second part.Bare k = second_of_value k
second part.Init k = only kind.Closure part.OwnName k
second _ k = part.Nothing

-- the third part below a child of a kind: of a function its parameters and its body
abbrev pub third : Part → SyntaxKind → Part
third part.Value k = only kind.Closure part.Function k
third part.Bare k = only kind.Closure part.Function k
third part.Init k = only kind.Closure part.Function k
third _ k = part.Nothing
