-- The numbers of all tokens after an edit begin and end as those before it.
use Rattle.typst_server.proofs.Cited.{◌≡◌, ℕ, ◌+◌, ◌-◌, ◌*◌, List, [], ◌∷◌, ◌++◌, length, map, take, drop, ap, sym, ◌∙◌, arith, append_assoc, take_at, drop_at, Shown, encoded, five, SameEnds}
use Rattle.typst_server.proofs.SameEnds.{ends_less, ends_of}
use Rattle.typst_server.proofs.SplicedNumbers.{AllFrom, down, encoded-append, encoded-down, encoded-length, last_column, last_line}

-- the numbers of tokens in three parts
in_three : (fs ms bs : List Shown) → encoded 0 0 (fs ++ (ms ++ bs)) ≡ encoded 0 0 fs ++ (encoded (last_line 0 fs) (last_column 0 fs) ms ++ encoded (last_line (last_line 0 fs) ms) (last_column (last_column 0 fs) ms) bs)
in_three fs ms bs = encoded-append 0 0 fs (ms ++ bs) ∙ ap (λ ns. encoded 0 0 fs ++ ns) (encoded-append (last_line 0 fs) (last_column 0 fs) ms bs)

-- where those behind the middle moved down, all of their numbers but the first token's stay
pub numbers_stay : (m n : ℕ) (fs ms ws bs : List Shown) → AllFrom m bs → SameEnds (encoded 0 0 (fs ++ (ms ++ bs))) (encoded 0 0 (fs ++ (ws ++ map (down m n) bs))) (5 * length fs) (5 * (length bs - 1))
numbers_stay m n fs ms ws [] low =
    let front : List ℕ = encoded 0 0 fs in
    let old = encoded (last_line 0 fs) (last_column 0 fs) ms in
    let new = encoded (last_line 0 fs) (last_column 0 fs) ws in
    ends_less (encoded 0 0 (fs ++ (ms ++ []))) (encoded 0 0 (fs ++ (ws ++ []))) (length front) 0 (5 * length fs) (5 * (0 - 1)) (omega (arith, encoded-length 0 0 fs)) (omega arith)
    (ends_of (encoded 0 0 (fs ++ (ms ++ []))) (encoded 0 0 (fs ++ (ws ++ []))) front old new [] (in_three fs ms []) (in_three fs ws []))
numbers_stay m n fs ms ws (s ∷ bs) low =
    let front : List ℕ = encoded 0 0 fs in
    let back : List ℕ = encoded s.line s.column bs in
    let old : List ℕ = encoded (last_line 0 fs) (last_column 0 fs) ms in
    let new : List ℕ = encoded (last_line 0 fs) (last_column 0 fs) ws in
    let one : List ℕ = five (last_line (last_line 0 fs) ms) (last_column (last_column 0 fs) ms) s in
    let two : List ℕ = five (last_line (last_line 0 fs) ws) (last_column (last_column 0 fs) ws) (down m n s) in
    let here = low.0 in
    let same : encoded (s.line - m + n) s.column (map (down m n) bs) ≡ back = encoded-down m n s.line (s.line - m + n) s.column bs here (omega (arith, here)) low.1 in
    let was : encoded 0 0 (fs ++ (ms ++ s ∷ bs)) ≡ front ++ ((old ++ one) ++ back) = in_three fs ms (s ∷ bs) ∙ ap (λ ns. front ++ ns) (sym (append_assoc old one back)) in
    let now : encoded 0 0 (fs ++ (ws ++ map (down m n) (s ∷ bs))) ≡ front ++ ((new ++ two) ++ back) =
    in_three fs ws (map (down m n) (s ∷ bs)) ∙ (ap (λ ns. front ++ (new ++ (two ++ ns))) same ∙ ap (λ ns. front ++ ns) (sym (append_assoc new two back))) in
    ends_less (encoded 0 0 (fs ++ (ms ++ s ∷ bs))) (encoded 0 0 (fs ++ (ws ++ map (down m n) (s ∷ bs)))) (length front) (length back) (5 * length fs) (5 * (length (s ∷ bs) - 1)) (omega (arith, encoded-length 0 0 fs))
    (omega (arith, encoded-length s.line s.column bs)) (ends_of (encoded 0 0 (fs ++ (ms ++ s ∷ bs))) (encoded 0 0 (fs ++ (ws ++ map (down m n) (s ∷ bs)))) front (old ++ one) (new ++ two) back was now)

-- the numbers of tokens in the middle, by the one before them
pub numbers_between : (fs ms bs : List Shown) → take (5 * length ms) (drop (5 * length fs) (encoded 0 0 (fs ++ (ms ++ bs)))) ≡ encoded (last_line 0 fs) (last_column 0 fs) ms
numbers_between fs ms bs = grind (arith, in_three, drop_at, encoded-length, take_at)
