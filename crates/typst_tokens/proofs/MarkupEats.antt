-- A token of markup takes at least one character.
use Rattle.typst_tokens.proofs.Cited.{◌≡◌, ◌≤◌, ℕ, arith, Some, Place, scout, CharClasses, text_from, eaten, sign, label, SyntaxKind, link_or_text}
use Rattle.typst_tokens.specs.Markup.{dot, minus, emphasis, heading, marker, numbering, markup}
use Rattle.typst_tokens.specs.Names.{label_or_text, ref_marker, ref_or_text}
use Rattle.typst_tokens.proofs.CommonEats.{run-ahead}
use Rattle.typst_tokens.specs.Escapes.{backslash}

emphasis-eats : (k : CharClasses) (s : SyntaxKind) (p : Place) → 1 ≤ eaten (emphasis k s) p
unfolding emphasis sign text_from
emphasis-eats k s p = grind arith

pub markup-eats : (c : ℕ) (p : Place) (e : scout 0 p ≡ Some c) (k : CharClasses) → 1 ≤ eaten (markup k c) p
unfolding markup link_or_text label label_or_text ref_marker ref_or_text backslash dot minus emphasis sign heading marker numbering text_from
markup-eats c p e k = grind (arith, emphasis-eats, run-ahead)
