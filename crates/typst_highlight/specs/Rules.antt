-- What the tag of a node depends on, by its kind.
use Rattle.std.specs.Prelude.{Bool, true, false, Option, None, Some}
use Rattle.typst_kinds.specs.declared.kind.SyntaxKind.{SyntaxKind}
use Rattle.typst_kinds.specs.declared.kind.SyntaxKind.TheVariants as kind
use Rattle.typst_highlight.specs.declared.tags.Tag.{Tag}
use Rattle.typst_highlight.specs.declared.tags.Tag.TheVariants as tag
use Rattle.typst_highlight.specs.declared.rules.Rule.{Rule}
use Rattle.typst_highlight.specs.declared.rules.Rule.TheVariants as rule

-- what the tag of a node of each kind depends on
abbrev pub rule_of : SyntaxKind → Rule
rule_of kind.Error = rule.Fixed (Some tag.Error)
rule_of kind.Shebang = rule.Fixed (Some tag.Comment)
rule_of kind.LineComment = rule.Fixed (Some tag.Comment)
rule_of kind.BlockComment = rule.Fixed (Some tag.Comment)
rule_of kind.Markup = rule.Term
rule_of kind.Linebreak = rule.Fixed (Some tag.Escape)
rule_of kind.Escape = rule.Fixed (Some tag.Escape)
rule_of kind.Shorthand = rule.Fixed (Some tag.Escape)
rule_of kind.Strong = rule.Fixed (Some tag.Strong)
rule_of kind.Emph = rule.Fixed (Some tag.Emph)
rule_of kind.Raw = rule.Fixed (Some tag.Raw)
rule_of kind.Link = rule.Fixed (Some tag.Link)
rule_of kind.Label = rule.Fixed (Some tag.Label)
rule_of kind.Ref = rule.Fixed (Some tag.Ref)
rule_of kind.Heading = rule.Fixed (Some tag.Heading)
rule_of kind.ListMarker = rule.Fixed (Some tag.ListMarker)
rule_of kind.EnumMarker = rule.Fixed (Some tag.ListMarker)
rule_of kind.TermMarker = rule.Fixed (Some tag.ListMarker)
rule_of kind.MathIdent = rule.Name
rule_of kind.MathShorthand = rule.Fixed (Some tag.Escape)
rule_of kind.MathAlignPoint = rule.Fixed (Some tag.MathOperator)
rule_of kind.MathPrimes = rule.Fixed (Some tag.MathOperator)
rule_of kind.Hash = rule.Expression
rule_of kind.LeftBrace = rule.Fixed (Some tag.Punctuation)
rule_of kind.RightBrace = rule.Fixed (Some tag.Punctuation)
rule_of kind.LeftBracket = rule.Fixed (Some tag.Punctuation)
rule_of kind.RightBracket = rule.Fixed (Some tag.Punctuation)
rule_of kind.LeftParen = rule.Paren
rule_of kind.RightParen = rule.Paren
rule_of kind.Comma = rule.Fixed (Some tag.Punctuation)
rule_of kind.Semicolon = rule.Fixed (Some tag.Punctuation)
rule_of kind.Colon = rule.Fixed (Some tag.Punctuation)
rule_of kind.Star = rule.Star
rule_of kind.Underscore = rule.Underscore
rule_of kind.Dollar = rule.Fixed (Some tag.MathDelimiter)
rule_of kind.Plus = rule.Fixed (Some tag.Operator)
rule_of kind.Minus = rule.Fixed (Some tag.Operator)
rule_of kind.Slash = rule.Slash
rule_of kind.Hat = rule.Fixed (Some tag.MathOperator)
rule_of kind.Dot = rule.Fixed (Some tag.Punctuation)
rule_of kind.Eq = rule.Equals
rule_of kind.EqEq = rule.Fixed (Some tag.Operator)
rule_of kind.ExclEq = rule.Fixed (Some tag.Operator)
rule_of kind.Lt = rule.Fixed (Some tag.Operator)
rule_of kind.LtEq = rule.Fixed (Some tag.Operator)
rule_of kind.Gt = rule.Fixed (Some tag.Operator)
rule_of kind.GtEq = rule.Fixed (Some tag.Operator)
rule_of kind.PlusEq = rule.Fixed (Some tag.Operator)
rule_of kind.HyphEq = rule.Fixed (Some tag.Operator)
rule_of kind.StarEq = rule.Fixed (Some tag.Operator)
rule_of kind.SlashEq = rule.Fixed (Some tag.Operator)
rule_of kind.Dots = rule.Fixed (Some tag.Operator)
rule_of kind.Arrow = rule.Fixed (Some tag.Operator)
rule_of kind.Root = rule.Fixed (Some tag.MathOperator)
rule_of kind.Not = rule.Fixed (Some tag.Keyword)
rule_of kind.And = rule.Fixed (Some tag.Keyword)
rule_of kind.Or = rule.Fixed (Some tag.Keyword)
rule_of kind.None = rule.Fixed (Some tag.Keyword)
rule_of kind.Auto = rule.Fixed (Some tag.Keyword)
rule_of kind.Let = rule.Fixed (Some tag.Keyword)
rule_of kind.Set = rule.Fixed (Some tag.Keyword)
rule_of kind.Show = rule.Fixed (Some tag.Keyword)
rule_of kind.Context = rule.Fixed (Some tag.Keyword)
rule_of kind.If = rule.Fixed (Some tag.Keyword)
rule_of kind.Else = rule.Fixed (Some tag.Keyword)
rule_of kind.For = rule.Fixed (Some tag.Keyword)
rule_of kind.In = rule.Fixed (Some tag.Keyword)
rule_of kind.While = rule.Fixed (Some tag.Keyword)
rule_of kind.Break = rule.Fixed (Some tag.Keyword)
rule_of kind.Continue = rule.Fixed (Some tag.Keyword)
rule_of kind.Return = rule.Fixed (Some tag.Keyword)
rule_of kind.Import = rule.Fixed (Some tag.Keyword)
rule_of kind.Include = rule.Fixed (Some tag.Keyword)
rule_of kind.As = rule.Fixed (Some tag.Keyword)
rule_of kind.Ident = rule.Name
rule_of kind.Bool = rule.Fixed (Some tag.Keyword)
rule_of kind.Int = rule.Fixed (Some tag.Number)
rule_of kind.Float = rule.Fixed (Some tag.Number)
rule_of kind.Numeric = rule.Fixed (Some tag.Number)
rule_of kind.Str = rule.Fixed (Some tag.String)
rule_of _ = rule.Fixed None

-- the tag of a parenthesis, by its parent's kind
abbrev pub paren_tag : Option SyntaxKind → Option Tag
paren_tag (Some kind.Math) = Some tag.MathGroupingParens
paren_tag _ = Some tag.Punctuation

-- the tag of a star, by its parent's kind
abbrev pub star_tag : Option SyntaxKind → Option Tag
star_tag (Some kind.Strong) = None
star_tag _ = Some tag.Operator

-- the tag of an underscore, by its parent's kind
abbrev pub underscore_tag : Option SyntaxKind → Option Tag
underscore_tag (Some kind.MathAttach) = Some tag.MathOperator
underscore_tag _ = None

-- the tag of a slash, by its parent's kind
abbrev pub slash_tag : Option SyntaxKind → Option Tag
slash_tag (Some kind.MathFrac) = Some tag.MathOperator
slash_tag _ = Some tag.Operator

-- the tag of an equals sign, by its parent's kind
abbrev pub equals_tag : Option SyntaxKind → Option Tag
equals_tag (Some kind.Heading) = None
equals_tag _ = Some tag.Operator

-- the tag of what stands in an item of a term list, by the kind of its next sibling
abbrev pub colon_tag : Option SyntaxKind → Option Tag
colon_tag (Some kind.Colon) = Some tag.ListTerm
colon_tag _ = None

-- the tag of markup, by the kinds of its parent and of its next sibling
abbrev pub term_tag : Option SyntaxKind → Option SyntaxKind → Option Tag
term_tag (Some kind.TermItem) next = colon_tag next
term_tag _ next = None

-- the kinds of names
abbrev pub is_name : SyntaxKind → Bool
is_name kind.Ident = true
is_name kind.MathIdent = true
is_name _ = false

abbrev pub is_field_access : SyntaxKind → Bool
is_field_access kind.FieldAccess = true
is_field_access _ = false

abbrev pub is_dot : SyntaxKind → Bool
is_dot kind.Dot = true
is_dot _ = false

abbrev pub is_math_name : SyntaxKind → Bool
is_math_name kind.MathIdent = true
is_math_name _ = false

abbrev pub is_show_rule : Option SyntaxKind → Bool
is_show_rule (Some kind.ShowRule) = true
is_show_rule _ = false

abbrev pub is_colon : Option SyntaxKind → Bool
is_colon (Some kind.Colon) = true
is_colon _ = false

abbrev pub is_hash : Option SyntaxKind → Bool
is_hash (Some kind.Hash) = true
is_hash _ = false

-- the parents of a parenthesis after a function's name
abbrev pub is_arguments : Option SyntaxKind → Bool
is_arguments (Some kind.Args) = true
is_arguments (Some kind.MathArgs) = true
is_arguments (Some kind.Params) = true
is_arguments _ = false

-- the parent of a bracket after a function's name
abbrev pub is_content : Option SyntaxKind → Bool
is_content (Some kind.ContentBlock) = true
is_content _ = false

-- a leaf that begins what a function is called with, by its own kind and its parent's
abbrev pub begins_arguments : SyntaxKind → Option SyntaxKind → Bool
begins_arguments kind.LeftParen parent = is_arguments parent
begins_arguments kind.LeftBracket parent = is_content parent
begins_arguments _ parent = false
