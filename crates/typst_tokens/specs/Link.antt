-- Links.
use Rattle.std.specs.Prelude.{ℕ, List, [], length, Option, Some, None, codes}
use Rattle.typst_lines.specs.Classes.{CharClasses}
use Rattle.typst_kinds.specs.declared.kind.SyntaxKind.TheVariants as kind
use Rattle.typst_tokens.specs.Text.{text}
use Rattle.typst_tokens.specs.Token.{plain, faulty}
use Rattle.typst_tokens.specs.declared.token.Token.{Token}
use Rattle.typst_tokens.specs.declared.token.Fault.TheVariants as fault
use Rattle.typst_lines.specs.Links.{after, without_last_signs}
use Rattle.typst_tokens.specs.Reader.{Reader, Machine, Turn, at_word, by_character}
use Rattle.typst_tokens.specs.Reader.Reader.{answer, span, eat, skip}
use Rattle.typst_tokens.specs.Reader.Turn.{leave, go}
use Rattle.typst_tokens.specs.Memory.Memory.{brackets}
use Rattle.typst_tokens.specs.Memory.{Memory}

-- A link goes on with the closing brackets that are still to come, if only none, and ends where it
-- can't.
abbrev pub link_turn : Option (List ℕ) → Turn Memory
link_turn None = leave
link_turn (Some awaited) = go (brackets awaited)

-- A step through a link.
abbrev pub link_step : Memory → ℕ → Turn Memory
link_step (brackets awaited) c = link_turn (after awaited c)
link_step _ c = leave

-- The machine that takes the longest front of a link.
abbrev pub in_link : Machine Memory
in_link = by_character link_step

-- The token of a link: an error if a bracket wasn't closed.
abbrev pub link_end : Memory → Token
link_end (brackets []) = plain kind.Link
link_end _ = faulty fault.UnbalancedLink

-- What is left of a link, after `http://` or `https://`: its longest front without the signs at the
-- front's end that a link doesn't end in; all of the front was looked at.
unfoldable pub link : Reader Memory Token
link = span in_link (brackets []) (λ front memory. skip (length (without_last_signs front)) (answer (link_end memory)))

-- `h` comes next: with `http://` or `https://` it begins a link, and else a text.
unfoldable pub link_or_text : CharClasses → Reader Memory Token
link_or_text k = eat (at_word 0 (codes "ttp://") (skip 6 link) (at_word 0 (codes "ttps://") (skip 7 link) (text k)))
