-- Identifiers and keywords.
use Rattle.std.specs.Prelude.{ℕ, if◌then◌else◌, ◌==◌, List, ◌∷◌, length, Option, Some, None, codes, encode_utf8_all}
use Rattle.std.specs.Str.{bytes_eq}
use Rattle.typst_lines.specs.Classes.{CharClasses}
use Rattle.typst_lines.specs.Identifiers.{is_id_continue}
use Rattle.typst_kinds.specs.declared.kind.SyntaxKind.{SyntaxKind}
use Rattle.typst_kinds.specs.declared.kind.SyntaxKind.TheVariants as kind
use Rattle.typst_lines.specs.Place.{passes}
use Rattle.typst_tokens.specs.Reader.{Reader}
use Rattle.typst_tokens.specs.Reader.Reader.{answer, glance, eat, see_run, skip}
use Rattle.typst_tokens.specs.Memory.{Memory}
use Rattle.typst_tokens.specs.Token.{plain}
use Rattle.typst_tokens.specs.declared.token.Token.{Token}

-- The kind of a name that is a keyword of code, `true` or `false`, by the name's bytes; nothing for
-- any other name.
abbrev pub keyword : List ℕ → Option SyntaxKind
keyword name =
    if bytes_eq name (codes "none") then Some kind.None
    else (if bytes_eq name (codes "auto") then Some kind.Auto
    else (if bytes_eq name (codes "true") then Some kind.Bool
    else (if bytes_eq name (codes "false") then Some kind.Bool
    else (if bytes_eq name (codes "not") then Some kind.Not
    else (if bytes_eq name (codes "and") then Some kind.And
    else (if bytes_eq name (codes "or") then Some kind.Or
    else (if bytes_eq name (codes "let") then Some kind.Let
    else (if bytes_eq name (codes "set") then Some kind.Set
    else (if bytes_eq name (codes "show") then Some kind.Show
    else (if bytes_eq name (codes "context") then Some kind.Context
    else (if bytes_eq name (codes "if") then Some kind.If
    else (if bytes_eq name (codes "else") then Some kind.Else
    else (if bytes_eq name (codes "for") then Some kind.For
    else (if bytes_eq name (codes "in") then Some kind.In
    else (if bytes_eq name (codes "while") then Some kind.While
    else (if bytes_eq name (codes "break") then Some kind.Break
    else (if bytes_eq name (codes "continue") then Some kind.Continue
    else (if bytes_eq name (codes "return") then Some kind.Return
    else (if bytes_eq name (codes "import") then Some kind.Import
    else (if bytes_eq name (codes "include") then Some kind.Include
    else (if bytes_eq name (codes "as") then Some kind.As
    else None)))))))))))))))))))))

-- A name that isn't a keyword: `_`, or an identifier.
abbrev pub named : List ℕ → Token
named name = plain (if bytes_eq name (codes "_") then kind.Underscore else kind.Ident)

-- After the first character of a name that is a keyword, with its other characters: directly after
-- `@`, and directly after a single dot, it is an identifier.
unfoldable pub keyword_or_name : List ℕ → SyntaxKind → Reader Memory Token
keyword_or_name rest k = glance 1 (λ before.
    if passes (λ c. c == 64) before then skip (length rest) (answer (plain kind.Ident))
    else (if passes (λ c. c == 46) before then glance 2 (λ first.
    if passes (λ c. c == 46) first then skip (length rest) (answer (plain k)) else skip (length rest) (answer (plain kind.Ident)))
    else skip (length rest) (answer (plain k))))

-- A character comes next that starts a name; the name goes on with what continues identifiers.
unfoldable pub ident : CharClasses → ℕ → Reader Memory Token
ident k c = eat (see_run (is_id_continue k) (λ rest.
    elim (keyword (c ∷ encode_utf8_all rest)) [
      | Some found ↦ keyword_or_name rest found
      | None ↦ skip (length rest) (answer (named (c ∷ encode_utf8_all rest)))
    ]))
