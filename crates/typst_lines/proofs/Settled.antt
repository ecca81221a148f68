-- The table of an edited text, once the lines of its stretch and those behind it have changed places.
use Rattle.typst_lines.proofs.Cited.{◌≡◌, ℕ, zero, suc, ◌+◌, ◌-◌, ◌<◌, ◌≤◌, List, [], ◌∷◌, ◌++◌, get_or, refl, length, map, take, drop, take_all, take_at, drop_at, take-append-drop, take-take, append_assoc, length-append, length-drop, length-take-le, ap, sym, ◌∙◌, arith, take-append_seam, drop-append_seam, take-append-le, length-map, moved_line, units_at, settled_lines, lines_behind, Line, set, slice_range}
use lib.Seq.{paste}
use Rattle.std.proofs.lemmas.List.Edits.{map_over_more}
use Rattle.typst_lines.specs.declared.lines.Stretch.{Stretch}

-- behind A stand first D and then P, then P and D, and then P, the rest of D, and what goes
brought : {T : Type 0} (A P D both one two : List T) (at more after count gone : ℕ) → both ≡ A ++ (D ++ P) → at ≡ length A → more ≡ length P → after ≡ at + more → count ≡ length A + (length D + length P) - gone → gone ≤ length D
    → one ≡ (let rest = drop at both in take at both ++ (drop (length rest - more) rest ++ take (length rest - more) rest))
    → two ≡ (let rest = drop after one in take after one ++ (drop gone rest ++ take gone rest))
    → take count two ≡ A ++ (P ++ drop gone D)
brought A P D both one two at more after count gone split a m h n le f g =
    let first : take at both ≡ A = ap (take at) split ∙ ap (λ m. take m (A ++ (D ++ P))) a ∙ take-append_seam A (D ++ P) in
    let second : drop at both ≡ D ++ P = ap (drop at) split ∙ ap (λ m. drop m (A ++ (D ++ P))) a ∙ drop-append_seam A (D ++ P) in
    let long : length (D ++ P) - more ≡ length D = omega (arith, m, length-append D P) in
    let one_is : one ≡ A ++ (P ++ D) =
    f ∙ ap (λ us. us ++ (drop (length (drop at both) - more) (drop at both) ++ take (length (drop at both) - more) (drop at both))) first
    ∙ ap (λ rest. A ++ (drop (length rest - more) rest ++ take (length rest - more) rest)) second
    ∙ ap (λ m. A ++ (drop m (D ++ P) ++ take m (D ++ P))) long
    ∙ ap (λ us. A ++ (us ++ take (length D) (D ++ P))) (drop-append_seam D P) ∙ ap (λ us. A ++ (P ++ us)) (take-append_seam D P) in
    let there : after ≡ length (A ++ P) = omega (arith, a, m, h, length-append A P) in
    let joined : one ≡ (A ++ P) ++ D = one_is ∙ sym (append_assoc A P D) in
    let third : take after one ≡ A ++ P = ap (take after) joined ∙ ap (λ m. take m ((A ++ P) ++ D)) there ∙ take-append_seam (A ++ P) D in
    let fourth : drop after one ≡ D = ap (drop after) joined ∙ ap (λ m. drop m ((A ++ P) ++ D)) there ∙ drop-append_seam (A ++ P) D in
    let two_is : two ≡ ((A ++ P) ++ drop gone D) ++ take gone D =
    g ∙ ap (λ us. us ++ (drop gone (drop after one) ++ take gone (drop after one))) third
    ∙ ap (λ rest. (A ++ P) ++ (drop gone rest ++ take gone rest)) fourth ∙ sym (append_assoc (A ++ P) (drop gone D) (take gone D)) in
    let kept : count ≡ length ((A ++ P) ++ drop gone D) = omega (arith, n, le, length-append (A ++ P) (drop gone D), length-append A P, length-drop gone D) in
    ap (take count) two_is ∙ ap (λ m. take m (((A ++ P) ++ drop gone D) ++ take gone D)) kept ∙ take-append_seam ((A ++ P) ++ drop gone D) (take gone D) ∙ append_assoc A P (drop gone D)

-- a front of a list is a shorter one and what lies between
between : {T : Type 0} (xs : List T) (i j : ℕ) → i ≤ j → j ≤ length xs → take j xs ≡ take i xs ++ drop i (take j xs)
between xs i j le within =
    let long : length (take j xs) ≡ j = length-take-le j xs within in
    let shorter : take i (take j xs) ≡ take i xs = sym (take-append-le i (take j xs) (drop j xs) (omega (arith, le, long))) ∙ ap (take i) (take-append-drop j xs) in
    sym (take-append-drop i (take j xs)) ∙ ap (λ ys. ys ++ drop i (take j xs)) shorter

pub settled-is : (st : Stretch) (old both one two : List Line) (more after count gone : ℕ) → st.kept ≤ st.behind → st.behind ≤ st.known → st.known ≤ length old
    → both ≡ take st.behind old ++ (map (moved_line st.end st.new_end (units_at (lines_behind st old)) st.utf16_idx) (lines_behind st old) ++ drop st.known old)
    → more ≡ length old - st.known → after ≡ st.kept + more → count ≡ length old - (st.behind - st.kept) → gone ≡ st.behind - st.kept
    → one ≡ (let rest = drop st.kept both in take st.kept both ++ (drop (length rest - more) rest ++ take (length rest - more) rest))
    → two ≡ (let rest = drop after one in take after one ++ (drop gone rest ++ take gone rest))
    → take count two ≡ settled_lines st old
settled-is st old both one two more after count gone low high within e m h n k f g =
    let A = take st.kept old in
    let G = drop st.kept (take st.behind old) in
    let M = map (moved_line st.end st.new_end (units_at (lines_behind st old)) st.utf16_idx) (lines_behind st old) in
    let P = drop st.known old in
    let front : ℕ = st.behind in
    let in_front : length (take st.behind old) ≡ st.behind = length-take-le st.behind old (omega (arith, high, within)) in
    let a : length A ≡ st.kept = length-take-le st.kept old (omega (arith, low, high, within)) in
    let d : length G ≡ st.behind - st.kept = length-drop st.kept (take st.behind old) ∙ ap (λ i. i - st.kept) in_front in
    let p : length P ≡ length old - st.known = length-drop st.known old in
    let r : length (drop st.behind old) ≡ length old - st.behind = length-drop st.behind old in
    let b : length (lines_behind st old) ≡ st.known - st.behind = length-take-le (st.known - st.behind) (drop st.behind old) (omega (arith, r, high, within)) in
    let c : length M ≡ st.known - st.behind = length-map (lines_behind st old) _ ∙ b in
    let all : length (G ++ M) ≡ length G + length M = length-append G M in
    let split : both ≡ A ++ ((G ++ M) ++ P) = e ∙ ap (λ xs. xs ++ (M ++ P)) (between old st.kept st.behind low (omega (arith, high, within))) ∙ append_assoc A G (M ++ P) ∙ ap (λ xs. A ++ xs) (sym (append_assoc G M P)) in
    brought A P (G ++ M) both one two st.kept more after count gone split (sym a) (m ∙ sym p) h (omega (arith, n, k, a, all, c, d, p, low, high, within)) (omega (arith, all, d, k)) f g
    ∙ ap (λ xs. A ++ (P ++ xs)) (ap (λ i. drop i (G ++ M)) (k ∙ sym d) ∙ drop-append_seam G M)

-- where as many lines start in the stretch as before, they are written over those
pub written-over : (st : Stretch) (old both over : List Line) → st.kept ≤ st.behind → st.behind ≤ st.known → st.known ≤ length old → length old - st.known ≡ st.behind - st.kept
    → both ≡ take st.behind old ++ (map (moved_line st.end st.new_end (units_at (lines_behind st old)) st.utf16_idx) (lines_behind st old) ++ drop st.known old)
    → over ≡ paste both st.kept (drop st.known both) (length old - st.known)
    → take (length old - (st.behind - st.kept)) over ≡ settled_lines st old
written-over st old both over low high within same e f =
    let A = take st.kept old in
    let F = take st.behind old in
    let M = map (moved_line st.end st.new_end (units_at (lines_behind st old)) st.utf16_idx) (lines_behind st old) in
    let P = drop st.known old in
    let a : length A ≡ st.kept = length-take-le st.kept old (omega (arith, low, high, within)) in
    let in_front : length F ≡ st.behind = length-take-le st.behind old (omega (arith, high, within)) in
    let p : length P ≡ length old - st.known = length-drop st.known old in
    let r : length (drop st.behind old) ≡ length old - st.behind = length-drop st.behind old in
    let b : length (lines_behind st old) ≡ st.known - st.behind = length-take-le (st.known - st.behind) (drop st.behind old) (omega (arith, r, high, within)) in
    let m : length M ≡ st.known - st.behind = length-map (lines_behind st old) _ ∙ b in
    let front : take st.kept both ≡ A = ap (take st.kept) e ∙ take-append-le st.kept F (M ++ P) (omega (arith, low, in_front)) ∙ take-take st.kept st.behind old low in
    let there : st.known ≡ length (F ++ M) = omega (arith, length-append F M, in_front, m, high) in
    let put : drop st.known both ≡ P = ap (drop st.known) (e ∙ sym (append_assoc F M P)) ∙ ap (λ n. drop n ((F ++ M) ++ P)) there ∙ drop-append_seam (F ++ M) P in
    let whole : take (length old - st.known) P ≡ P = take_all (length old - st.known) P (omega (arith, p)) in
    let after : st.kept + (length old - st.known) ≡ length F = omega (arith, same, in_front, low) in
    let rear : drop (st.kept + (length old - st.known)) both ≡ M ++ P = ap (drop (st.kept + (length old - st.known))) e ∙ ap (λ n. drop n (F ++ (M ++ P))) after ∙ drop-append_seam F (M ++ P) in
    let over_is : over ≡ ((A ++ P) ++ M) ++ P =
    f ∙ ap (λ xs. (xs ++ take (length old - st.known) (drop st.known both)) ++ drop (st.kept + (length old - st.known)) both) front
    ∙ ap (λ xs. (A ++ take (length old - st.known) xs) ++ drop (st.kept + (length old - st.known)) both) put
    ∙ ap (λ xs. (A ++ xs) ++ drop (st.kept + (length old - st.known)) both) whole
    ∙ ap (λ xs. (A ++ P) ++ xs) rear ∙ sym (append_assoc (A ++ P) M P) in
    let count : length old - (st.behind - st.kept) ≡ length ((A ++ P) ++ M) = omega (arith, length-append (A ++ P) M, length-append A P, a, p, m, low, high, within) in
    ap (take (length old - (st.behind - st.kept))) over_is ∙ ap (λ n. take n (((A ++ P) ++ M) ++ P)) count ∙ take-append_seam ((A ++ P) ++ M) P ∙ append_assoc A P M

-- ---- a line written over the one that it is made of

same-there : {T : Type 0} (xs : List T) (i : ℕ) (d : T) → i < length xs → get_or xs i d ≡ get_or xs i (get_or xs i d)
same-there [] i d lt = absurd (omega (arith, lt))
same-there (x ∷ xs) zero d lt = refl
same-there (x ∷ xs) (suc i) d lt = same-there xs i d (omega (arith, lt))

pub written : {T : Type 0} (f : T → T) (xs ys : List T) (i : ℕ) (d z : T) → i < length xs → length ys ≡ length xs → ys ≡ map f (take i xs) ++ drop i xs → z ≡ f (get_or ys i d)
    → set ys i z ≡ map f (take (i + 1) xs) ++ drop (i + 1) xs
written f xs ys i d z lt long h e = ap (λ y. set ys i y) e ∙ map_over_more f xs ys i (get_or ys i d) lt h (same-there ys i d (omega (arith, lt, long)))
