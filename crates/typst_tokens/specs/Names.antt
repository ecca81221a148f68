-- Labels and references.
use Rattle.std.specs.Prelude.{if◌then◌else◌, length}
use Rattle.typst_lines.specs.Classes.{CharClasses}
use Rattle.typst_lines.specs.Identifiers.{is_id_continue}
use Rattle.typst_kinds.specs.declared.kind.SyntaxKind.TheVariants as kind
use Rattle.typst_tokens.specs.Text.{text_from}
use Rattle.typst_tokens.specs.Labels.{label}
use Rattle.typst_tokens.specs.Token.{plain}
use Rattle.typst_tokens.specs.declared.token.Token.{Token}
use Rattle.typst_lines.specs.Place.{passes}
use Rattle.typst_lines.specs.Labels.{is_name, ref_name}
use Rattle.typst_tokens.specs.Reader.{Reader}
use Rattle.typst_tokens.specs.Reader.Reader.{answer, peek, eat, see_run, skip}
use Rattle.typst_tokens.specs.Memory.{Memory}

-- `<` comes next: before a character of identifiers it begins a label.
unfoldable pub label_or_text : CharClasses → Reader Memory Token
label_or_text k = peek 1 (λ c. if passes (is_id_continue k) c then label k else text_from k)

-- A reference: `@` and a name.
unfoldable pub ref_marker : CharClasses → Reader Memory Token
ref_marker k = eat (see_run (is_name k) (λ cs. skip (length (ref_name cs)) (answer (plain kind.RefMarker))))

-- `@` comes next: before a character of identifiers it begins a reference.
unfoldable pub ref_or_text : CharClasses → Reader Memory Token
ref_or_text k = peek 1 (λ c. if passes (is_id_continue k) c then ref_marker k else text_from k)
