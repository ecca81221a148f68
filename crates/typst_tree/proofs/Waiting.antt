-- Rows of trees that wait in a list, the next one last.
use Rattle.typst_tree.proofs.Cited.{common_steps, ◌≡◌, ℕ, ◌+◌, ◌*◌, ◌<◌, List, ◌∷◌, ◌++◌, length, map, Bor, ap, sym, ◌∙◌, arith, append-nil, append_assoc, [], map-append, Tree, forest, joined, count}

-- the rows behind references
abbrev pub rows_of : List (Bor (List Tree)) → List (List Tree)
rows_of rs = map (λ r. r.now) rs

pub rows_more : (rs : List (Bor (List Tree))) (r : Bor (List Tree)) → rows_of (rs ++ r ∷ []) ≡ rows_of rs ++ r.now ∷ []
rows_more rs r = map-append (λ (q : Bor (List Tree)). q.now) rs (r ∷ [])

-- their texts, in the order in which they come
abbrev pub waiting_text : List (List Tree) → List ℕ
waiting_text [] = []
waiting_text (row ∷ rows) = waiting_text rows ++ joined (forest row)

-- how many turns a loop takes that goes on with a tree's children and then with the trees behind it
abbrev pub turns : List (List Tree) → ℕ
turns [] = 0
turns (row ∷ rows) = 2 * count (forest row) + 1 + turns rows

pub waiting_more : (rows : List (List Tree)) (row : List Tree) → waiting_text (rows ++ row ∷ []) ≡ joined (forest row) ++ waiting_text rows
waiting_more [] row = sym (append-nil (joined (forest row)))
waiting_more (r ∷ rows) row =
    ap (λ s. s ++ joined (forest r)) (waiting_more rows row) ∙ append_assoc (joined (forest row)) (waiting_text rows) (joined (forest r))

pub turns_more : (rows : List (List Tree)) (row : List Tree) → turns (rows ++ row ∷ []) ≡ turns rows + (2 * count (forest row) + 1)
turns_more [] row = omega arith
turns_more (r ∷ rows) row = omega (arith, turns_more rows row)

-- a row's first tree gives its own text, and then come its children and the trees behind it
opened_text : (rows : List (List Tree)) (t : Tree) (row kids : List Tree) → forest kids ≡ t.kids → joined (forest (t ∷ row)) ++ waiting_text rows ≡ t.head.text ++ waiting_text ((rows ++ row ∷ []) ++ kids ∷ [])
opened_text rows t row kids e = grind (arith, waiting_more, append_assoc)

pub opened : (rows : List (List Tree)) (t : Tree) (row behind kids : List Tree) (before out text all : List ℕ) → row ≡ t ∷ behind → forest kids ≡ t.kids → out ≡ before ++ text → text ≡ t.head.text → before ++ waiting_text (rows ++ row ∷ []) ≡ all → out ++ waiting_text ((rows ++ behind ∷ []) ++ kids ∷ []) ≡ all
opened rows t row behind kids before out text all first e is own h = grind (arith, append_assoc, opened_text, waiting_more)

pub opened_turns : (rows : List (List Tree)) (t : Tree) (row behind kids : List Tree) → row ≡ t ∷ behind → forest kids ≡ t.kids → turns ((rows ++ behind ∷ []) ++ kids ∷ []) < turns (rows ++ row ∷ [])
opened_turns rows t row behind kids first e = grind (arith, turns_more)

-- a row without a tree is done
pub closed : (rows : List (List Tree)) (row : List Tree) (out all : List ℕ) → length row ≡ 0 → out ++ waiting_text (rows ++ row ∷ []) ≡ all → out ++ waiting_text rows ≡ all
closed rows row out all h e = grind (arith, common_steps, waiting_more)
