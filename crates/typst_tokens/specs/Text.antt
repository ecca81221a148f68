-- Plain text of markup.
use Rattle.std.specs.Prelude.{ℕ, Bool, true, false, not, ◌||◌, if◌then◌else◌, ◌==◌, Some, None, codes}
use Rattle.std.specs.Char.{is_whitespace}
use Rattle.typst_kinds.specs.declared.kind.SyntaxKind.TheVariants as kind
use Rattle.typst_lines.specs.Place.{passes}
use Rattle.typst_lines.specs.Sets.{among}
use Rattle.typst_lines.specs.Classes.{CharClasses}
use Rattle.typst_lines.specs.Labels.{is_name}
use Rattle.typst_tokens.specs.Reader.{Reader, Machine, Step, Turn, eat_span, see_word}
use Rattle.typst_tokens.specs.Reader.Reader.{answer, eat}
use Rattle.typst_tokens.specs.Reader.Step.{turn, see}
use Rattle.typst_tokens.specs.Reader.Turn.{leave, go}
use Rattle.typst_tokens.specs.Memory.Memory.{blank}
use Rattle.typst_tokens.specs.Token.{plain}
use Rattle.typst_tokens.specs.declared.token.Token.{Token}
use Rattle.typst_tokens.specs.Memory.{Memory}

-- A text may stop at whitespace, and at a sign that other tokens begin with.
abbrev pub may_stop : ℕ → Bool
may_stop c = is_whitespace c || among (codes "\\/[]~<>") c || among (codes "-.'\":`") c || among (codes "*_h$@#") c

-- A text goes on through a character, or leaves it.
abbrev pub on : Bool → Step (Turn Memory)
on goes = turn (if goes then go blank else leave)

-- A space is part of a text before a letter or a number; a sign is where no other token begins
-- with it.
abbrev pub text_step : CharClasses → ℕ → Step (Turn Memory)
text_step k c =
    if c == 32 then see 1 (λ d. on (passes k.alphanumeric d))
    else (if c == 47 then see 1 (λ d. on (not (passes (among (codes "/*")) d)))
    else (if c == 45 then see 1 (λ d. on (not (passes (among (codes "-?")) d)))
    else (if c == 46 then see_word 1 (codes "..") (on false) (on true)
    else (if c == 104 then see_word 1 (codes "ttp://") (on false) (see_word 1 (codes "ttps://") (on false) (on true))
    else (if c == 64 then see 1 (λ d. on (not (passes (is_name k) d)))
    else on (not (may_stop c)))))))

-- The machine that takes a plain text of markup.
abbrev pub in_text : CharClasses → Machine Memory
in_text k memory = see 0 (λ c. elim c [ None ↦ turn leave | Some c ↦ text_step k c ])

-- What is left of a plain text.
unfoldable pub text : CharClasses → Reader Memory Token
text k = eat_span (in_text k) blank (λ _. answer (plain kind.Text))

-- The character that comes next begins a text, whatever it is.
unfoldable pub text_from : CharClasses → Reader Memory Token
text_from k = eat (text k)
