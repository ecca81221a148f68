-- What is left of the rows of a tree that is printed.
use Rattle.typst_report.proofs.Cited.{◌≡◌, ℕ, zero, suc, ◌+◌, ◌-◌, ◌*◌, ◌<◌, ◌≤◌, ◌^◌, List, [], ◌∷◌, ◌++◌, length, take, codes, refl, sym, ap, ◌∙◌, arith, append_assoc, append-nil, length-append, get_or_at, length_push, take_at, IsCharBoundary, Tree, forest, count, joined, text_of, Siblings}
use Rattle.typst_report.specs.PrintedTree.{deeper, head_lines, lines}

-- ---- indentations

-- the indentation a given number of levels below one
abbrev pub indented : List ℕ → ℕ → List ℕ
indented indent zero = indent
indented indent (suc n) = indented (deeper indent) n

indented_deeper : (indent : List ℕ) (n : ℕ) → indented (deeper indent) n ≡ deeper (indented indent n)
indented_deeper indent zero = refl
indented_deeper indent (suc n) = indented_deeper (deeper indent) n

-- an indentation ends with that of the last of its levels
pub last_level : (indent bytes : List ℕ) (all rows : List Siblings) (r : Siblings) → bytes ≡ indented indent (length all) → all ≡ rows ++ r ∷ [] → bytes ≡ deeper (indented indent (length rows))
last_level indent bytes all rows r known is = grind (arith, length_push, indented_deeper)

-- the indentation that is a level deeper than that of the last row
pub next_level : (indent bytes : List ℕ) (all new : List Siblings) → bytes ≡ indented indent (length all) → length new ≡ suc (length all) → deeper bytes ≡ indented indent (length new)
next_level indent bytes all new known number = ap deeper known ∙ sym (ap (indented indent) number ∙ indented_deeper indent (length all))

-- an indentation of two spaces more than another
module _ (bytes above : List ℕ) (is : bytes ≡ deeper above) where
  pub level_two : 2 ≤ length bytes
  level_two = omega (arith, ap length is, length-append above (codes "  "))

  module _ (width : ℕ) (counted : width ≡ length bytes - 2) where
    level_width : width ≡ length above
    level_width = omega (arith, counted, ap length is, length-append above (codes "  "))

    pub level_cut : take width bytes ≡ above
    level_cut = ap (take width) is ∙ take_at above (codes "  ") width (sym level_width)

    pub level_boundary : IsCharBoundary bytes width
    level_boundary = grind (arith, get_or_at, level_width, level_two)

-- ---- rows

-- the lines of a row that is left
abbrev pub row_lines : List ℕ → Siblings → List ℕ
row_lines indent r = lines indent r.start (forest r.trees.now)

-- the lines of all rows, each a level below the one before it: the last row's come first
abbrev pub left_lines : List ℕ → List Siblings → List ℕ
left_lines indent [] = []
left_lines indent (r ∷ rs) = left_lines (deeper indent) rs ++ row_lines indent r

left_pushed : (indent : List ℕ) (rs : List Siblings) (r : Siblings) → left_lines indent (rs ++ r ∷ []) ≡ row_lines (indented indent (length rs)) r ++ left_lines indent rs
left_pushed indent [] r = sym (append-nil (row_lines indent r))
left_pushed indent (x ∷ rs) r =
    ap (λ ys. ys ++ row_lines indent x) (left_pushed (deeper indent) rs r)
    ∙ append_assoc (row_lines (indented (deeper indent) (length rs)) r) (left_lines (deeper indent) rs) (row_lines indent x)

row_of_none : (indent : List ℕ) (start : ℕ) (ts : List Tree) → length ts ≡ 0 → lines indent start (forest ts) ≡ []
row_of_none indent start [] e = refl
row_of_none indent start (t ∷ ts) e = absurd (omega (arith, e))

-- nothing is left of a row that is passed
pub left_passed : (indent : List ℕ) (all rows : List Siblings) (r : Siblings) → all ≡ rows ++ r ∷ [] → length r.trees.now ≡ 0 → left_lines indent all ≡ left_lines indent rows
left_passed indent all rows r is passed = grind (arith, left_pushed, row_of_none)

-- the lines of a row's first node, and then of the nodes below it and those after it
pub left_more : (indent : List ℕ) (all rows new : List Siblings) (r behind below : Siblings) (t : Tree) (ts : List Tree) (end : ℕ) → all ≡ rows ++ r ∷ [] → new ≡ (rows ++ behind ∷ []) ++ below ∷ [] → r.trees.now ≡ t ∷ ts
    → behind.trees.now ≡ ts → behind.start ≡ end → forest below.trees.now ≡ t.kids → below.start ≡ r.start → end ≡ r.start + length (text_of t)
    → left_lines indent all ≡ head_lines (indented indent (length rows)) r.start end t.head ++ left_lines indent new
left_more indent all rows new r behind below t ts end is grown trees rest begins kids begins_below ends =
    let I : List ℕ = indented indent (length rows) in
    let number : length (rows ++ behind ∷ []) ≡ suc (length rows) = omega (arith, length_push rows behind) in
    grind (arith, indented_deeper, left_pushed, append_assoc)

-- how many turns printing still takes: one for each node and two for each row
abbrev pub steps : List Siblings → ℕ
steps [] = 0
steps (r ∷ rs) = 1 + 2 * count (forest r.trees.now) + steps rs

pub steps_pushed : (rs : List Siblings) (r : Siblings) → steps (rs ++ r ∷ []) ≡ steps rs + (1 + 2 * count (forest r.trees.now))
steps_pushed [] r = omega arith
steps_pushed (x ∷ rs) r = omega (arith, steps_pushed rs r)

-- a row that is passed takes a turn
pub steps_passed : (all rows : List Siblings) (r : Siblings) → all ≡ rows ++ r ∷ [] → steps rows < steps all
steps_passed all rows r is = omega (arith, ap steps is, steps_pushed rows r)

-- a node takes one
pub steps_more : (all rows new : List Siblings) (r behind below : Siblings) (t : Tree) (ts : List Tree) → all ≡ rows ++ r ∷ [] → new ≡ (rows ++ behind ∷ []) ++ below ∷ [] → r.trees.now ≡ t ∷ ts
    → behind.trees.now ≡ ts → forest below.trees.now ≡ t.kids → steps new < steps all
steps_more all rows new r behind below t ts is grown trees rest kids = grind (arith, steps_pushed)

-- a row's trees end below 2^64
abbrev pub Fits : Siblings → Type 0
Fits r = r.start + length (joined (forest r.trees.now)) < 2 ^ 64

-- so do its first tree, the trees after that and the trees below its root
module _ (r : Siblings) (t : Tree) (ts : List Tree) (fits : Fits r) (trees : r.trees.now ≡ t ∷ ts) where
  first_ends : r.start + (length (text_of t) + length (joined (forest ts))) < 2 ^ 64
  first_ends = omega (arith, fits, ap (λ xs. length (joined (forest xs))) trees, length-append t.head.text (joined t.kids ++ joined (forest ts)), length-append (joined t.kids) (joined (forest ts)), length-append t.head.text (joined t.kids))

  pub first_fits : r.start + length (text_of t) < 2 ^ 64
  first_fits = omega (arith, first_ends)

  pub after_fits : (behind : Siblings) → behind.trees.now ≡ ts → behind.start ≡ r.start + length (text_of t) → Fits behind
  after_fits behind rest begins = omega (arith, first_ends, begins, ap (λ xs. length (joined (forest xs))) rest)

  pub below_fits : (below : Siblings) → forest below.trees.now ≡ t.kids → below.start ≡ r.start → Fits below
  below_fits below kids begins = omega (arith, first_ends, begins, ap (λ f. length (joined f)) kids, length-append t.head.text (joined t.kids))
