-- Identifiers of formulas, and fields of them.
use Rattle.std.specs.Prelude.{ℕ, Bool, true, false, not, ◌&&◌, if◌then◌else◌, ◌==◌, List, ◌∷◌, length, Option}
use Rattle.typst_lines.specs.Classes.{CharClasses}
use Rattle.typst_kinds.specs.declared.kind.SyntaxKind.TheVariants as kind
use Rattle.typst_lines.specs.Place.{passes}
use Rattle.typst_lexer.specs.Atoms.{text}
use Rattle.typst_tokens.specs.Reader.{Reader, Machine, Step, Turn, eat_span}
use Rattle.typst_tokens.specs.Reader.Reader.{answer, peek, eat, skip, eat_run}
use Rattle.typst_tokens.specs.Reader.Step.{turn, see}
use Rattle.typst_tokens.specs.Reader.Turn.{leave, go}
use Rattle.typst_tokens.specs.Memory.{Memory}
use Rattle.typst_tokens.specs.Memory.Memory.{quoted}
use Rattle.typst_tokens.specs.Token.{plain}
use Rattle.typst_tokens.specs.declared.token.Token.{Token}

-- What continues an identifier of a formula: what continues others, except the underscore.
abbrev pub continues : CharClasses → ℕ → Bool
continues k c = k.xid_continue c && not (c == 95)

-- A dot before what starts an identifier.
abbrev pub is_field : CharClasses → Option ℕ → Option ℕ → Bool
is_field k c d = passes (λ c. c == 46) c && passes k.xid_start d

-- Names after a name: at a character that doesn't continue a name a dot may come, which takes the
-- character that starts the next one with it.
abbrev pub fields_turn : CharClasses → Bool → Option ℕ → Step (Turn Memory)
fields_turn k after_dot c =
    if after_dot then turn (go (quoted false))
    else (if passes (continues k) c then turn (go (quoted false))
    else see 1 (λ d. turn (if is_field k c d then go (quoted true) else leave)))

-- A step through the fields of a name.
abbrev pub fields_step : CharClasses → Memory → Option ℕ → Step (Turn Memory)
fields_step k (quoted after_dot) c = fields_turn k after_dot c
fields_step k _ c = turn leave

-- The machine that takes the fields of a name.
abbrev pub in_fields : CharClasses → Machine Memory
in_fields k memory = see 0 (fields_step k memory)

-- What comes after a name: a dot and the character that starts the next name begin fields, and all
-- that belongs to fields is taken. The second character ahead is looked at whatever the first one
-- is.
unfoldable pub after_name : CharClasses → Reader Memory Token
after_name k = peek 0 (λ c. peek 1 (λ d.
    if is_field k c d then skip 2 (eat_span (in_fields k) (quoted false) (λ _. answer (plain kind.MathFieldAccess)))
    else answer (plain kind.MathIdent)))

-- A name of these characters: if it is one cluster, it stands for one character, and else it may
-- have fields.
unfoldable pub named : CharClasses → List ℕ → Reader Memory Token
named k name = if k.cluster name == length name then answer (plain kind.MathText) else after_name k

-- The character that comes next starts identifiers: if the one after it continues them, it begins a
-- name.
unfoldable pub name : CharClasses → ℕ → Reader Memory Token
name k c = peek 1 (λ d. if passes (continues k) d then eat (eat_run (continues k) (λ rest. named k (c ∷ rest))) else text k c)
