-- The tokens of markup.
use Rattle.std.specs.Prelude.{ℕ, Bool, true, ◌||◌, if◌then◌else◌, ◌==◌, Some, None, codes}
use Rattle.std.specs.Char.{is_ascii_digit, is_whitespace}
use Rattle.typst_kinds.specs.declared.kind.SyntaxKind.{SyntaxKind}
use Rattle.typst_kinds.specs.declared.kind.SyntaxKind.TheVariants as kind
use Rattle.typst_lines.specs.Place.{passes}
use Rattle.typst_lines.specs.Sets.{among}
use Rattle.typst_tokens.specs.Characters.{is_u64}
use Rattle.typst_lines.specs.Classes.{CharClasses}
use Rattle.typst_tokens.specs.Reader.{Reader, if_next, at_word}
use Rattle.typst_tokens.specs.Reader.Reader.{answer, peek, glance, eat, skip, eat_run}
use Rattle.typst_tokens.specs.Link.{link_or_text}
use Rattle.typst_tokens.specs.Names.{label_or_text, ref_or_text}
use Rattle.typst_tokens.specs.Text.{text, text_from}
use Rattle.typst_tokens.specs.Common.{sign}
use Rattle.typst_tokens.specs.Escapes.{backslash}
use Rattle.typst_tokens.specs.Token.{plain}
use Rattle.typst_tokens.specs.declared.token.Token.{Token}
use Rattle.typst_tokens.specs.Memory.{Memory}

-- A dot comes next: three are a shorthand.
unfoldable pub dot : CharClasses → Reader Memory Token
dot k = eat (at_word 0 (codes "..") (skip 2 (answer (plain kind.Shorthand))) (text k))

-- Whether a marker may end here: at the end, at whitespace or at a comment.
abbrev pub marker_end : {M A : Type 0} → (Bool → Reader M A) → Reader M A
marker_end go_on = peek 0 (λ c. elim c [
  | None ↦ go_on true
  | Some c ↦
      if c == 47 then peek 1 (λ d. go_on (passes (among (codes "/*")) d)) else go_on (is_whitespace c)
])

-- A marker if it may end here, else what is left of a text.
unfoldable pub marker_or_text : CharClasses → SyntaxKind → Reader Memory Token
marker_or_text k kind = marker_end (λ ends. if ends then answer (plain kind) else text k)

-- A sign comes next that is a marker if it may end after it, and else begins a text.
unfoldable pub marker : CharClasses → SyntaxKind → Reader Memory Token
marker k kind = eat (marker_or_text k kind)

-- After one hyphen: two more, one more, a question mark and, which stays ahead, a numeric character
-- make it a shorthand; else it is a list marker or begins a text.
unfoldable pub hyphen : CharClasses → Reader Memory Token
hyphen k =
    if_next (λ c. c == 45) (if_next (λ c. c == 45) (answer (plain kind.Shorthand)) (answer (plain kind.Shorthand)))
    (if_next (λ c. c == 63) (answer (plain kind.Shorthand))
    (peek 0 (λ c. if passes k.numeric c then answer (plain kind.Shorthand) else marker_or_text k kind.ListMarker)))

-- A hyphen comes next: a shorthand, a list marker or a text.
unfoldable pub minus : CharClasses → Reader Memory Token
minus k = eat (hyphen k)

-- A star or an underscore comes next: between two characters of words it is text.
unfoldable pub emphasis : CharClasses → SyntaxKind → Reader Memory Token
emphasis k kind = glance 0 (λ before.
    if passes k.word before then peek 1 (λ after. if passes k.word after then text_from k else sign kind)
    else sign kind)

-- Equals signs come next: all of them are a marker if it may end after them.
unfoldable pub heading : CharClasses → Reader Memory Token
heading k = eat_run (λ c. c == 61) (λ _. marker_or_text k kind.HeadingMarker)

-- Digits come next: with a dot they are a marker if they write a number below 2 ^ 64 and it may end
-- there, and else they begin a text, the dot in it.
unfoldable pub numbering : CharClasses → Reader Memory Token
numbering k = eat_run is_ascii_digit (λ digits. if_next (λ c. c == 46)
    (if is_u64 digits then marker_or_text k kind.EnumMarker else text k) (text k))

-- A token of markup that begins with the character, which comes next and begins no token that all
-- modes share.
unfoldable pub markup : CharClasses → ℕ → Reader Memory Token
markup k c =
    if c == 92 then backslash
    else (if c == 104 then link_or_text k
    else (if c == 60 then label_or_text k
    else (if c == 64 then ref_or_text k
    else (if c == 46 then dot k
    else (if c == 45 then minus k
    else (if c == 42 then emphasis k kind.Star
    else (if c == 95 then emphasis k kind.Underscore
    else (if c == 35 then sign kind.Hash
    else (if c == 91 then sign kind.LeftBracket
    else (if c == 93 then sign kind.RightBracket
    else (if c == 39 || c == 34 then sign kind.SmartQuote
    else (if c == 36 then sign kind.Dollar
    else (if c == 126 then sign kind.Shorthand
    else (if c == 58 then sign kind.Colon
    else (if c == 61 then heading k
    else (if c == 43 then marker k kind.EnumMarker
    else (if c == 47 then marker k kind.TermMarker
    else (if is_ascii_digit c then numbering k
    else text_from k))))))))))))))))))
