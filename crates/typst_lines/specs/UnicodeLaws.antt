-- The class value by Unicode keeps the law.
use Rattle.std.proofs.Common.{◌≡◌, ◌≤◌, ◌<◌, ℕ, true, false, if◌then◌else◌, List, [], ◌∷◌, ◌++◌, length, refl, ap, arith, length-append}
use Rattle.std.specs.List.{concat}
use Rattle.unicode_segmentation.specs.Grapheme.{is_grapheme_break}
use Rattle.unicode_segmentation.specs.Segments.{Rule, cut, prepend}
use Rattle.typst_lines.specs.ClassLaws.{IsLawful-by_law}
use Rattle.typst_lines.specs.Classes.{IsLawful}
use Rattle.typst_lines.specs.UnicodeTables.{unicode_classes, unicode_cluster, first_len}

-- the pieces of a line that isn't empty: the first has a character, and they make up the line
pub record AreCut (line : List ℕ) (pieces : List (List ℕ)) : Type 0 where
  pub some : 1 ≤ first_len pieces
  pub joins : concat pieces ≡ line

-- a character put before the first of some pieces makes pieces of the longer line
AreCut-prepend : (c : ℕ) (line : List ℕ) (pieces : List (List ℕ)) → concat pieces ≡ line → AreCut (c ∷ line) (prepend (c ∷ []) pieces)
AreCut-prepend c line [] e = record { some = omega arith; joins = ap (λ t. c ∷ t) e }
AreCut-prepend c line (piece ∷ pieces) e = record { some = omega arith; joins = ap (λ t. c ∷ t) e }

-- where the rest of a line is cut into pieces, so is the whole line
AreCut-cut : (rule : Rule) (before : List ℕ) (c : ℕ) (line after : List ℕ) → concat (cut rule (c ∷ before) line after) ≡ line → AreCut (c ∷ line) (cut rule before (c ∷ line) after)
unfolding cut
AreCut-cut rule before c line after e =
    elim (rule (c ∷ before) (line ++ after)) as (λ b. AreCut (c ∷ line) (if b then (c ∷ []) ∷ cut rule (c ∷ before) line after else prepend (c ∷ []) (cut rule (c ∷ before) line after)))
    [ true ↦ record { some = omega arith; joins = ap (λ t. c ∷ t) e } | false ↦ AreCut-prepend c line _ e ]

-- the pieces of a line, joined, are the line
concat-cut : (rule : Rule) (before line after : List ℕ) → concat (cut rule before line after) ≡ line
unfolding cut
concat-cut rule before [] after = refl
concat-cut rule before (c ∷ line) after = (AreCut-cut rule before c line after (concat-cut rule (c ∷ before) line after)).joins

-- the pieces of a line that isn't empty are as `AreCut` says
pub cut-front : (rule : Rule) (before line after : List ℕ) → 0 < length line → AreCut line (cut rule before line after)
cut-front rule before [] after some = absurd (omega arith)
cut-front rule before (c ∷ line) after some = AreCut-cut rule before c line after (concat-cut rule (c ∷ before) line after)

-- the first piece is no longer than all pieces together
first_len-le : (pieces : List (List ℕ)) → 0 < length (concat pieces) → first_len pieces ≤ length (concat pieces)
first_len-le [] some = omega arith
first_len-le (piece ∷ pieces) some = omega (arith, length-append piece (concat pieces))

-- the first piece has at least one character of the line, and at most all
cut-first : (rule : Rule) (before line after : List ℕ) → 0 < length line → (1 ≤ first_len (cut rule before line after)) × (first_len (cut rule before line after) ≤ length line)
cut-first rule before line after some =
    let r = cut-front rule before line after some in
    (r.some, rw r.joins at (first_len-le (cut rule before line after) (rw r.joins some)))

-- the class value by Unicode keeps the law
pub IsLawful-unicode_classes : IsLawful unicode_classes
unfolding unicode_cluster
IsLawful-unicode_classes = IsLawful-by_law _ (λ line some. cut-first (is_grapheme_break true) [] line [] some)
