-- What the token of a link and the link of some characters have in common.
use Rattle.std.specs.Prelude.{◌≡◌, length, if◌then◌else◌}
use Rattle.typst_kinds.specs.declared.kind.SyntaxKind.TheVariants as kind
use Rattle.typst_lines.specs.Place.{Place, moved}
use Rattle.typst_lines.specs.Links.{link_prefix}
use Rattle.typst_tokens.specs.Link.{link}
use Rattle.typst_tokens.specs.Reader.{exec}
use Rattle.typst_tokens.specs.Token.{plain, faulty}
use Rattle.typst_tokens.specs.declared.token.Fault.TheVariants as fault

-- What is after the scheme of a link is the link that the characters ahead begin with.
abbrev pub LinkIsPrefix : Type 0
LinkIsPrefix = (p : Place) → exec link p ≡ (let r = link_prefix p.ahead in (if r.1 then plain kind.Link else faulty fault.UnbalancedLink, moved (length r.0) p))
