-- Classes of kinds.
use Rattle.std.specs.Prelude.{Bool, true, false, List, [], ◌∷◌, ◌||◌}
use Rattle.typst_kinds.specs.contracts.kind.SyntaxKind.{the_type}
use Rattle.typst_kinds.specs.declared.kind.SyntaxKind.{SyntaxKind}
use Rattle.typst_kinds.specs.declared.kind.SyntaxKind.TheVariants as kind
use denote.Enum.Bare.{sameb}

-- whether a kind is the wanted one
abbrev pub same : SyntaxKind → SyntaxKind → Bool
same wanted kind = sameb the_type kind wanted

-- whether a kind is one of some kinds
abbrev pub among : List SyntaxKind → SyntaxKind → Bool
among [] kind = false
among (k ∷ ks) kind = same k kind || among ks kind

-- trivia: spaces, paragraph breaks and comments
abbrev pub is_trivia : SyntaxKind → Bool
is_trivia kind.Space = true
is_trivia kind.Parbreak = true
is_trivia kind.LineComment = true
is_trivia kind.BlockComment = true
is_trivia _ = false

-- the kind of what isn't syntax
abbrev pub is_error : SyntaxKind → Bool
is_error kind.Error = true
is_error _ = false

-- the keywords of code
abbrev pub is_keyword : SyntaxKind → Bool
is_keyword kind.Not = true
is_keyword kind.And = true
is_keyword kind.Or = true
is_keyword kind.None = true
is_keyword kind.Auto = true
is_keyword kind.Let = true
is_keyword kind.Set = true
is_keyword kind.Show = true
is_keyword kind.Context = true
is_keyword kind.If = true
is_keyword kind.Else = true
is_keyword kind.For = true
is_keyword kind.In = true
is_keyword kind.While = true
is_keyword kind.Break = true
is_keyword kind.Continue = true
is_keyword kind.Return = true
is_keyword kind.Import = true
is_keyword kind.Include = true
is_keyword kind.As = true
is_keyword _ = false

-- braces, brackets and parens
abbrev pub is_grouping : SyntaxKind → Bool
is_grouping kind.LeftBrace = true
is_grouping kind.RightBrace = true
is_grouping kind.LeftBracket = true
is_grouping kind.RightBracket = true
is_grouping kind.LeftParen = true
is_grouping kind.RightParen = true
is_grouping _ = false

-- what ends an expression or a list in code
abbrev pub is_terminator : SyntaxKind → Bool
is_terminator kind.End = true
is_terminator kind.Semicolon = true
is_terminator kind.RightBrace = true
is_terminator kind.RightParen = true
is_terminator kind.RightBracket = true
is_terminator _ = false

-- blocks of code and of content
abbrev pub is_block : SyntaxKind → Bool
is_block kind.CodeBlock = true
is_block kind.ContentBlock = true
is_block _ = false

-- the expressions that may follow a hash
abbrev pub is_hash_expr : SyntaxKind → Bool
is_hash_expr kind.Ident = true
is_hash_expr kind.None = true
is_hash_expr kind.Auto = true
is_hash_expr kind.Bool = true
is_hash_expr kind.Int = true
is_hash_expr kind.Float = true
is_hash_expr kind.Numeric = true
is_hash_expr kind.Str = true
is_hash_expr kind.CodeBlock = true
is_hash_expr kind.ContentBlock = true
is_hash_expr kind.Array = true
is_hash_expr kind.Dict = true
is_hash_expr kind.Parenthesized = true
is_hash_expr kind.FieldAccess = true
is_hash_expr kind.FuncCall = true
is_hash_expr kind.LetBinding = true
is_hash_expr kind.SetRule = true
is_hash_expr kind.ShowRule = true
is_hash_expr kind.Contextual = true
is_hash_expr kind.Conditional = true
is_hash_expr kind.WhileLoop = true
is_hash_expr kind.ForLoop = true
is_hash_expr kind.ModuleImport = true
is_hash_expr kind.ModuleInclude = true
is_hash_expr kind.LoopBreak = true
is_hash_expr kind.LoopContinue = true
is_hash_expr kind.FuncReturn = true
is_hash_expr _ = false
