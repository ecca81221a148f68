-- Tokens: what is read in one piece.
use Rattle.std.specs.Prelude.{ℕ, false, Some, None}
use Rattle.typst_kinds.specs.declared.kind.SyntaxKind.{SyntaxKind}
use Rattle.typst_kinds.specs.declared.kind.SyntaxKind.TheVariants as kind
use Rattle.typst_tokens.specs.declared.token.Token.{Token}
use Rattle.typst_tokens.specs.declared.token.Base.{Base}
use Rattle.typst_tokens.specs.declared.token.Base.TheVariants.{Binary, Octal, Hexadecimal}
use Rattle.typst_tokens.specs.declared.token.Fault.{Fault}

-- A token without a fault, in which no line ends.
abbrev pub plain : SyntaxKind → Token
plain k = record { fault = None; kind = k; newline = false }

-- An error token with this fault.
abbrev pub faulty : Fault → Token
faulty f = record { fault = Some f; kind = kind.Error; newline = false }

-- The base of a number that is not decimal.
abbrev pub radix_of : Base → ℕ
radix_of Binary = 2
radix_of Octal = 8
radix_of Hexadecimal = 16
