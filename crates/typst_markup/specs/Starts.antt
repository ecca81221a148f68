-- What begins a statement or an expression of code.
use Rattle.std.specs.Prelude.{Bool}
use Rattle.typst_kinds.specs.Kinds.{among}
use Rattle.typst_kinds.specs.Sets.{code_expr, stmt}
use Rattle.typst_kinds.specs.declared.kind.SyntaxKind.{SyntaxKind}

-- a token that begins an expression of code
abbrev pub begins_code : SyntaxKind → Bool
begins_code k = among code_expr k

-- a token that begins a statement
abbrev pub begins_statement : SyntaxKind → Bool
begins_statement k = among stmt k
