-- How far some links go.
use Rattle.std.specs.Prelude.{◌≡◌, true, false, codes}
use Rattle.typst_lines.specs.Links.{link_prefix}

-- texts, the link that each begins with, and whether each of its brackets is closed
pub record SomeLinks : Type 0 where
  pub wrong_closer : link_prefix (codes "(]") ≡ (codes "(", false)
  pub lone_closer : link_prefix (codes "a)b") ≡ (codes "a", true)
  pub nested : link_prefix (codes "a([])b c") ≡ (codes "a([])b", true)
  pub unclosed : link_prefix (codes "([a]") ≡ (codes "([a]", false)
  pub last_signs : link_prefix (codes "a.b''!") ≡ (codes "a.b", true)
  pub kept_sign : link_prefix (codes "a.b/.") ≡ (codes "a.b/", true)
  pub signs_alone : link_prefix (codes "...") ≡ (codes "", true)
