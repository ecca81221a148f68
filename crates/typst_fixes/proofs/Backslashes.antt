-- Whether a backslash would stand in markup, by the length of its row.
use Rattle.typst_fixes.proofs.Cited.{◌≡◌, ℕ, Bool, true, false, List, codes, length, Option, Some, ap, sym, ◌∙◌, if◌then◌else◌, nat_lt, not, same, Tree, forest, trees, Standing, takes_backslash, is_kept}
use Rattle.typst_kinds.specs.declared.kind.SyntaxKind.TheVariants as node
use Rattle.typst_fixes.proofs.WayToByte.{children}

by_length : (p : Standing) (b : ℕ) (ts : List Tree) (long : Bool) → forest ts ≡ p.node.kids → same node.Markup p.node.head.kind ≡ true → nat_lt 1024 (length ts) ≡ long
    → takes_backslash (Some p) b ≡ (if long then true else not (is_kept (codes "\\") b p))
by_length p b ts long kids markup is =
    ap (λ (v : Bool). if v then (if nat_lt 1024 (length (trees p.node.kids)) then true else not (is_kept (codes "\\") b p)) else false) markup
    ∙ ap (λ us. if nat_lt 1024 (length us) then true else not (is_kept (codes "\\") b p)) (sym (children ts p.node.kids kids))
    ∙ ap (λ (v : Bool). if v then true else not (is_kept (codes "\\") b p)) is

-- in a long row it would
pub in_long : (p : Standing) (b : ℕ) (ts : List Tree) → forest ts ≡ p.node.kids → same node.Markup p.node.head.kind ≡ true → nat_lt 1024 (length ts) ≡ true → takes_backslash (Some p) b ≡ true
in_long p b ts kids markup is = by_length p b ts true kids markup is

-- in a short one unless a node keeps it
pub in_short : (p : Standing) (b : ℕ) (ts : List Tree) → forest ts ≡ p.node.kids → same node.Markup p.node.head.kind ≡ true → nat_lt 1024 (length ts) ≡ false → takes_backslash (Some p) b ≡ not (is_kept (codes "\\") b p)
in_short p b ts kids markup is = by_length p b ts false kids markup is
