-- Numbers, and clusters, which stand for one character.
use Rattle.std.specs.Prelude.{ℕ, max, if◌then◌else◌, ◌==◌, List, []}
use Rattle.typst_lines.specs.Classes.{CharClasses, in_line}
use Rattle.typst_kinds.specs.declared.kind.SyntaxKind.TheVariants as kind
use Rattle.typst_lines.specs.Place.{passes}
use Rattle.typst_tokens.specs.Reader.{Reader}
use Rattle.typst_tokens.specs.Reader.Reader.{answer, peek, eat, see_run, skip, eat_run}
use Rattle.typst_tokens.specs.Memory.{Memory}
use Rattle.typst_tokens.specs.Token.{plain}
use Rattle.typst_tokens.specs.declared.token.Token.{Token}

-- How many characters the first cluster of what is left of a line has: one at least, even if
-- nothing is left.
abbrev pub cluster_len : CharClasses → List ℕ → ℕ
cluster_len k [] = 1
cluster_len k line = max 1 (k.cluster line)

-- A cluster of the rest of the line. For it the whole rest is looked at.
unfoldable pub cluster : CharClasses → Reader Memory Token
cluster k = see_run in_line (λ line. skip (cluster_len k line) (answer (plain kind.MathText)))

-- A dot before a numeric character comes next.
abbrev pub before_fraction : CharClasses → Reader Memory Token → Reader Memory Token → Reader Memory Token
before_fraction k found other = peek 0 (λ c. if passes (λ c. c == 46) c then peek 1 (λ d. if passes k.numeric d then found else other) else other)

-- Numeric characters, and a dot with more of them.
unfoldable pub number : CharClasses → Reader Memory Token
number k = eat_run k.numeric (λ _. before_fraction k (eat (eat_run k.numeric (λ _. answer (plain kind.MathText)))) (answer (plain kind.MathText)))

-- A number or a cluster that begins with the character, which comes next.
unfoldable pub text : CharClasses → ℕ → Reader Memory Token
text k c = if k.numeric c then number k else cluster k
