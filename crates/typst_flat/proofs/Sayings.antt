-- What is said, one remark after the other.
use Rattle.typst_flat.proofs.Cited.{◌≡◌, ℕ, suc, ◌+◌, ◌^◌, ◌<◌, ◌≤◌, List, [], ◌∷◌, ◌++◌, length, refl, ap, ◌∙◌, arith, set, append_assoc, append-nil, length-append, flat_map-append, saturated, filled, Saying, IsWritten, joined, remark_at, remarks_from, Remark}
use Rattle.typst_flat.specs.declared.said.Said.{Said}
use Rattle.typst_flat.proofs.Filling.{filled_more, filled_full, length_filled}

joined_more : (says : List Saying) (s : Saying) → joined (says ++ s ∷ []) ≡ joined says ++ s.message
joined_more says s = grind (arith, flat_map-append, append-nil)

count_remarks : (m : ℕ) (says : List Saying) → length (remarks_from m says) ≡ length says
count_remarks m [] = refl
count_remarks m (s ∷ says) = ap suc (count_remarks (m + length s.message) says)

remarks_more : (m : ℕ) (says : List Saying) (s : Saying) → remarks_from m (says ++ s ∷ []) ≡ remarks_from m says ++ remark_at (saturated (m + length (joined says))) s ∷ []
remarks_more m [] s = let same : m ≡ m + length (joined []) = omega arith in ap (λ k. remark_at (saturated k) s ∷ []) same
remarks_more m (x ∷ says) s =
    let same : m + length x.message + length (joined says) ≡ m + length (x.message ++ joined says) = omega (arith, length-append x.message (joined says)) in
    ap (λ ys. remark_at (saturated m) x ∷ ys) (remarks_more (m + length x.message) says s ∙ ap (λ k. remarks_from (m + length x.message) says ++ remark_at (saturated k) s ∷ []) same)

-- the counts after one more remark
more_remarks : (says : List Saying) (s : Saying) (n : ℕ) → n ≡ saturated (length says) → saturated (n + 1) ≡ saturated (length (says ++ s ∷ []))
more_remarks says s n e = omega (arith, e, length-append says (s ∷ []))

more_bytes : (says : List Saying) (s : Saying) (n : ℕ) → n ≡ saturated (length (joined says)) → saturated (n + length s.message) ≡ saturated (length (joined (says ++ s ∷ [])))
more_bytes says s n e = grind (arith, joined_more, length-append)

-- the record of one more remark
last_remark : (says : List Saying) (s : Saying) (n : ℕ) → n ≡ saturated (length (joined says)) → remark_at n s ≡ remark_at (saturated (0 + length (joined says))) s
last_remark says s n e = grind arith

-- one remark more, where it fits
pub remark_fits : (says : List Saying) (s : Saying) (said : Said) (rs rs0 : List Remark) (ms ms0 : List ℕ) (r : Remark) → IsWritten says said rs rs0 ms ms0 → r ≡ remark_at said.messages s → said.remarks < length rs → length rs < 2 ^ 64 → set rs said.remarks r ≡ filled (remarks_from 0 (says ++ s ∷ [])) rs0
remark_fits says s said rs rs0 ms ms0 r w e l m =
    let front : List Remark = remarks_from 0 says in
    let count : length front ≡ length says = count_remarks 0 says in
    let all : length rs ≡ length rs0 = ap length w.remarks ∙ length_filled front rs0 in
    let place : said.remarks ≡ length front = omega (arith, w.count, count, l, m) in
    let last : r ≡ remark_at (saturated (0 + length (joined says))) s = e ∙ last_remark says s said.messages w.bytes in
    grind (arith, filled_more, remarks_more)

pub remark_full : (says : List Saying) (s : Saying) (said : Said) (rs rs0 : List Remark) (ms ms0 : List ℕ) → IsWritten says said rs rs0 ms ms0 → length rs ≤ said.remarks → rs ≡ filled (remarks_from 0 (says ++ s ∷ [])) rs0
remark_full says s said rs rs0 ms ms0 w l = grind (arith, count_remarks, length_filled, filled_full, remarks_more)

-- what is written after one remark more
pub one_more : (says : List Saying) (s : Saying) (said next : Said) (rs rs0 rs1 : List Remark) (ms ms0 ms1 : List ℕ) → IsWritten says said rs rs0 ms ms0 → next.remarks ≡ saturated (said.remarks + 1) → next.messages ≡ saturated (said.messages + length s.message) → rs1 ≡ filled (remarks_from 0 (says ++ s ∷ [])) rs0 → ((before old : List ℕ) → said.messages ≡ saturated (length before) → ms ≡ filled before old → ms1 ≡ filled (before ++ s.message) old) → IsWritten (says ++ s ∷ []) next rs1 rs0 ms1 ms0
one_more says s said next rs rs0 rs1 ms ms0 ms1 w e f g h = grind (arith, more_remarks, more_bytes, joined_more)

-- nothing is written at first
pub none_written : (said : Said) (rs : List Remark) (ms : List ℕ) → said.remarks ≡ 0 → said.messages ≡ 0 → IsWritten [] said rs rs ms ms
none_written said rs ms e f = record { count = e; bytes = f; remarks = refl; messages = refl }

pub longer : (says more rest : List Saying) (s : Saying) (said : Said) (rs rs0 : List Remark) (ms ms0 : List ℕ) → more ≡ rest ++ s ∷ [] → IsWritten ((says ++ rest) ++ s ∷ []) said rs rs0 ms ms0 → IsWritten (says ++ more) said rs rs0 ms ms0
longer says more rest s said rs rs0 ms ms0 e w = grind (arith, append_assoc)
