-- The lines of an edit that is not settled yet hold the table before it and the one after it.
use Rattle.typst_lines.proofs.Cited.{◌≡◌, ℕ, suc, ◌+◌, ◌-◌, ◌^◌, ◌<◌, ◌≤◌, Bool, if◌then◌else◌, nat_le, List, [], ◌∷◌, ◌++◌, length, map, filter, take, drop, length-drop, length-append, length-take-le, drop-drop, take-append-drop, append_assoc, slice_get, Some, refl, ap, sym, ◌∙◌, arith, take-append_seam, drop-append_seam, take-append-le, drop-append-le, IsUtf8, IsCharBoundary, line_table, lines_after, line_of, IsEdit, units_at, moved_line, UpTo, IsNext, AddsStarts, IsPending, Line, slice_range}
use Rattle.typst_lines.proofs.LinesFromLaw.{after, earlier-line}
use Rattle.typst_lines.proofs.TableOrder.{many, line_of-many}
use Rattle.typst_lines.proofs.Edited.{kept-front, settled, none-behind}

upto-both : (b : ℕ) (ls ms : List Line) → UpTo b ls → UpTo b ms → UpTo b (ls ++ ms)
upto-both b [] ms h k = k
upto-both b (l ∷ ls) ms h k = (h.0, upto-both b ls ms h.1 k)

none-after : (b : ℕ) (ls : List Line) → UpTo b ls → filter (after b) ls ≡ []
none-after b [] h = refl
none-after b (l ∷ ls) h = rw (earlier-line b l.byte_idx h.0) (none-after b ls h.1)

-- ---- as many lines start up to a later byte

many-by : (x m n b c : ℕ) (t r : Bool) → b ≤ c → nat_le x b ≡ t → nat_le x c ≡ r → m ≤ n → (if t then 1 + m else m) ≤ (if r then 1 + n else n)
many-by x m n b c t r le e f h = grind arith

many-grows : (b c : ℕ) (ls : List Line) → b ≤ c → many b ls ≤ many c ls
many-grows b c [] le = omega arith
many-grows b c (l ∷ ls) le = many-by l.byte_idx (many b ls) (many c ls) b c (nat_le l.byte_idx b) (nat_le l.byte_idx c) le refl refl (many-grows b c ls le)

pub line_of-grows : (s : List ℕ) (b c : ℕ) → b ≤ c → line_of s b ≤ line_of s c
line_of-grows s b c le = let more = many-grows b c (line_table s) le in let one = line_of-many b s in let two = line_of-many c s in omega (arith, more, one, two)

pub edit-of : (s new with old : List ℕ) (start end new_end : ℕ) → IsUtf8 s → IsUtf8 with → IsCharBoundary s start → IsCharBoundary s end → start ≤ end → old ≡ s → new ≡ (take start old ++ with) ++ drop end old → new_end ≡ start + length with
    → IsEdit s new start end new_end
edit-of s new with old start end new_end u v h k le same is e = grind (arith, append_assoc)

-- ---- both tables

module _ (s new : List ℕ) (u : IsUtf8 s) (v : IsUtf8 new) (start end new_end : ℕ) (e : IsEdit s new start end new_end) where
  abbrev behind : List Line
  behind = drop (suc (line_of s end)) (line_table s)

  -- with what the stretch was in its place again, it is the text before
  pub back-is : (removed : List ℕ) → removed ≡ slice_range s start end → (take start new ++ removed) ++ drop new_end new ≡ s
  back-is removed same =
      let A = take start s in
      let R = drop end s in
      let a : length A ≡ start = length-take-le start s e.starts.0 in
      let ab : length (A ++ e.with) ≡ new_end = length-append A e.with ∙ ap (λ n. n + length e.with) a ∙ sym e.new_end_is in
      let first : take start new ≡ A = ap (take start) e.is ∙ ap (λ n. take n (A ++ (e.with ++ R))) (sym a) ∙ take-append_seam A (e.with ++ R) in
      let third : drop new_end new ≡ R = ap (drop new_end) (e.is ∙ sym (append_assoc A e.with R)) ∙ ap (λ n. drop n ((A ++ e.with) ++ R)) (sym ab) ∙ drop-append_seam (A ++ e.with) R in
      let cut : start + (end - start) ≡ end = let le = e.ordered in omega (arith, le) in
      let last : R ≡ drop (end - start) (drop start s) = sym (drop-drop (end - start) start s ∙ ap (λ n. drop n s) cut) in
      grind (arith, append_assoc, take-append-drop)

  pub restored : (text removed back : List ℕ) → new ≡ text → removed ≡ slice_range s start end → back ≡ (take start text ++ removed) ++ drop new_end text → back ≡ s
  restored text removed back same cut is = is ∙ ap (λ t. (take start t ++ removed) ++ drop new_end t) (sym same) ∙ back-is removed cut

  pub sizes : length new + length (slice_range s start end) ≡ length s + length e.with
  sizes = grind (arith, length-append, length-take-le, length-drop)

  -- what stays, what starts in the stretch now, and what starts behind it, moved
  settled-with : length s < 2 ^ 64 → length new < 2 ^ 64 → (lines fresh next : List Line) (w : ℕ) → lines ++ (fresh ++ next) ≡ line_table new → UpTo new_end lines → UpTo new_end fresh → IsNext new_end w next
      → lines ++ (fresh ++ map (moved_line end new_end (units_at behind) w) behind) ≡ line_table new
  unfolding lines_after
  settled-with fits short lines fresh [] w is few more h =
      let nothing : lines_after new new_end ≡ [] = ap (filter (after new_end)) (sym is) ∙ none-after new_end (lines ++ (fresh ++ [])) (upto-both new_end lines (fresh ++ []) few (upto-both new_end fresh [] more tt)) in
      ap (λ ls. lines ++ (fresh ++ map (moved_line end new_end (units_at ls) w) ls)) (none-behind s new u v start end new_end e nothing) ∙ is
  settled-with fits short lines fresh (y ∷ ys) w is few more h =
      ap (λ n. lines ++ (fresh ++ map (moved_line end new_end (units_at behind) n) behind)) h.1
      ∙ sym (append_assoc lines fresh (map (moved_line end new_end (units_at behind) y.utf16_idx) behind))
      ∙ settled s new u v start end new_end e fits short (lines ++ fresh) y ys (append_assoc lines fresh (y ∷ ys) ∙ is) (upto-both new_end lines fresh few more) h.0

  pub pending : (before : List ℕ) → before ≡ s → length s < 2 ^ 64 → length new < 2 ^ 64 → (n : ℕ) (l : Line) → slice_get (line_table s) n ≡ Some l → n ≡ line_of s (start - 1) → l.byte_idx ≤ start - 1 → n < length (line_table s) → line_of s end < length (line_table s)
      → (old lines : List Line) (w k b m : ℕ) → old ≡ line_table s → AddsStarts (lines_after new l.byte_idx) new_end w old lines → k ≡ suc n → b ≡ suc (line_of s end) → m ≡ length (line_table s)
      → IsPending before new lines (record { start = start; end = end; new_end = new_end; kept = k; behind = b; known = m; utf16_idx = w })
  pending before same fits short n l at which le low high old lines w k b m table a ek eb em =
      let t = line_table s in
      let j = suc (line_of s end) in
      let front = kept-front s new u v start end new_end e n l at le in
      grind (arith, length-append, take-append-le, drop-append_seam, length-drop, drop-append-le, take-append_seam, line_of-grows, settled, settled-with)
