-- The rows of a table, one after another.
use Rattle.typst_report.proofs.Cited.{◌≡◌, ◌∙◌, ℕ, ◌+◌, ◌++◌, ◌∷◌, List, Some, slice_get, drop, ap, append_assoc, arith, drop_more, slice_get_within, get_or_from_slice_get, Line, row, rows}

pub rows-step : (n : ℕ) (table : List Line) (line : Line) → slice_get table n ≡ Some line
    → rows n (drop n table) ≡ row n line ++ rows (n + 1) (drop (n + 1) table)
rows-step n table line at =
    ap (rows n) (drop_more table n line (slice_get_within table n line at) ∙ ap (λ x. x ∷ drop (n + 1) table) (get_or_from_slice_get table n line line at))

-- what was printed so far and the rows that are left, after one more row
pub rows-printed : (n : ℕ) (table : List Line) (line : Line) (old new whole : List ℕ) → slice_get table n ≡ Some line
    → old ++ rows n (drop n table) ≡ whole → new ≡ old ++ row n line → new ++ rows (n + 1) (drop (n + 1) table) ≡ whole
rows-printed n table line old new whole at so_far more = grind (arith, append_assoc, rows-step)
