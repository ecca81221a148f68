-- Labels.
use Rattle.std.specs.Prelude.{◌==◌}
use Rattle.typst_lines.specs.Classes.{CharClasses}
use Rattle.typst_kinds.specs.declared.kind.SyntaxKind.TheVariants as kind
use Rattle.typst_lines.specs.Labels.{is_name}
use Rattle.typst_tokens.specs.Reader.{Reader, if_next}
use Rattle.typst_tokens.specs.Reader.Reader.{answer, eat, eat_run}
use Rattle.typst_tokens.specs.Token.{plain, faulty}
use Rattle.typst_tokens.specs.declared.token.Token.{Token}
use Rattle.typst_tokens.specs.declared.token.Fault.TheVariants as fault
use Rattle.typst_tokens.specs.Memory.{Memory}

-- A label: a name between `<` and `>`; without the second it is an error.
unfoldable pub label : CharClasses → Reader Memory Token
label k = eat (eat_run (is_name k) (λ _. if_next (λ c. c == 62) (answer (plain kind.Label)) (answer (faulty fault.UnclosedLabel))))
