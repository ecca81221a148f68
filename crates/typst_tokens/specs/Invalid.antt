-- Characters that no token of code begins with.
use Rattle.std.specs.Prelude.{ℕ, if◌then◌else◌, ◌==◌}
use Rattle.typst_lines.specs.Place.{passes}
use Rattle.typst_tokens.specs.Reader.{Reader, if_next}
use Rattle.typst_tokens.specs.Reader.Reader.{answer, glance, eat}
use Rattle.typst_tokens.specs.Memory.{Memory}
use Rattle.typst_tokens.specs.Token.{faulty}
use Rattle.typst_tokens.specs.declared.token.Fault.{Fault}
use Rattle.typst_tokens.specs.declared.token.Fault.TheVariants as fault
use Rattle.typst_tokens.specs.declared.token.Token.{Token}

-- The next character is an error with this fault.
abbrev pub wrong : Fault → Reader Memory Token
wrong f = eat (answer (faulty f))

-- The next character is an error: of an operator of other languages, if `second` comes after it.
unfoldable pub foreign : ℕ → Reader Memory Token
foreign second = eat (if_next (λ c. c == second) (answer (faulty fault.InvalidOperator)) (answer (faulty fault.InvalidCharacter)))

-- The character comes next: directly after a hash it is an error alone, and else `&&`, `||` and `~=`
-- are errors in one piece.
unfoldable pub invalid : ℕ → Reader Memory Token
invalid c = glance 0 (λ before.
    if passes (λ d. d == 35) before then wrong fault.HashedCharacter
    else (if c == 38 then foreign 38
    else (if c == 124 then foreign 124
    else (if c == 126 then foreign 61
    else wrong fault.InvalidCharacter))))
