-- The starts of a text in which a stretch was replaced: those before it stay, and those behind it move.
use Rattle.typst_positions.proofs.Cited.{◌≡◌, ℕ, suc, ◌+◌, ◌-◌, ◌^◌, ◌<◌, ◌≤◌, nat_le, List, [], ◌∷◌, ◌++◌, length, map, take, drop, get_or, count_by, sym, ap, ◌∙◌, arith, append_assoc, length-append, length-drop, length-take-le, get_or-take, get_or-drop, le-leb, lt-leb, drop_at, take_at, IsEdit, line_starts, replaced, shifted, starts_between, starts_line}
use Rattle.std.specs.declared.ops.Range.{Range}
use Rattle.typst_positions.proofs.Holding.{count-between, passing, passing-is}
use Rattle.typst_positions.proofs.Tables.{between-moved, between-same, between-split}

pub starts-alike : (t u : List ℕ) (a b : ℕ) → get_or t a 0 ≡ get_or u b 0 → get_or t (suc a) 0 ≡ get_or u (suc b) 0 → starts_line t (suc a) ≡ starts_line u (suc b)
starts-alike t u a b e f = grind arith

-- a number moved by a distance that wraps round is as far after `to` as it was after `from`, where 64 bits hold that
shifted-is : (from to at n : ℕ) → from < 2 ^ 64 → from ≤ at → n + from ≡ at + to → n < 2 ^ 64 → shifted from to at ≡ n
shifted-is from to at n small le e short = omega (arith, small, le, e, short)

module _ (old new : List ℕ) (r : Range ℕ) (len : ℕ) (edit : IsEdit old new r len) where
  get-front : (k : ℕ) → k < r.start → get_or old k 0 ≡ get_or new k 0
  get-front k h = sym (get_or-take r.start old k 0 h) ∙ ap (λ xs. get_or xs k 0) (sym edit.front) ∙ get_or-take r.start new k 0 h

  get-back : (a b : ℕ) → r.end ≤ a → b + r.end ≡ a + (r.start + len) → get_or old a 0 ≡ get_or new b 0
  get-back a b h e =
      let i : ℕ = a - r.end in
      let from : a ≡ r.end + i = omega arith in
      let to : r.start + len + i ≡ b = omega arith in
      ap (λ k. get_or old k 0) from ∙ sym (get_or-drop r.end old i 0) ∙ ap (λ xs. get_or xs i 0) (sym edit.back) ∙ get_or-drop (r.start + len) new i 0 ∙ ap (λ k. get_or new k 0) to

  same-front : (before k : ℕ) → before ≡ r.start - 1 → k ≤ before → starts_line old k ≡ starts_line new k
  same-front before k b h = grind (arith, starts-alike, get-front)

  moved-back : (k l : ℕ) → r.end + 1 ≤ k → l + (r.end + 1) ≡ k + (r.start + len + 1) → starts_line old k ≡ starts_line new l
  moved-back k l h e = grind (arith, starts-alike, get-back)

  lengths : length new + r.end ≡ length old + (r.start + len)
  lengths =
      let cut : length new - (r.start + len) ≡ length old - r.end = sym (length-drop (r.start + len) new) ∙ ap length edit.back ∙ length-drop r.end old in
      omega (arith, cut, edit.fits, edit.within)

  edited : (before : ℕ) → before ≡ r.start - 1 → r.end < 2 ^ 64 → length new < 2 ^ 64
      → line_starts new ≡ starts_between old 0 before ++ (starts_between new (before + 1) (r.start + len) ++ map (shifted r.end (r.start + len)) (starts_between old (r.end + 1) (length old)))
  unfolding line_starts
  edited before b small short =
      let to = r.start + len in
      let fits = edit.fits in
      let front = between-same old new 0 before (λ k lo hi. same-front before k b hi) in
      let back = between-moved old new (shifted r.end to) (r.end + 1) (length old) (to + 1) (length new) (omega (arith, lengths)) (λ k m lo hi e. (moved-back k m lo e, shifted-is r.end to k m small (omega (arith, lo)) (omega (arith, e)) (omega (arith, lengths, e, hi, short)))) in
      grind (arith, between-split)

  parts : (before : ℕ) → before ≡ r.start - 1 → line_starts old ≡ starts_between old 0 before ++ (starts_between old (before + 1) r.end ++ starts_between old (r.end + 1) (length old))
  unfolding line_starts
  parts before b = grind (arith, between-split)

  first-count : (before : ℕ) → before ≡ r.start - 1 → count_by (λ k. nat_le k before) (line_starts old) ≡ length (starts_between old 0 before)
  unfolding line_starts
  first-count before b = grind (arith, count-between, le-leb, lt-leb)

  last-count : (before : ℕ) → before ≡ r.start - 1 → count_by (λ k. nat_le k r.end) (line_starts old) ≡ length (starts_between old 0 before) + length (starts_between old (before + 1) r.end)
  unfolding line_starts
  last-count before b =
      let ordered = edit.ordered in
      count-between old (λ k. nat_le k r.end) 0 r.end (length old) (omega arith) edit.within (λ k h. le-leb k r.end h) (λ k h _. lt-leb k r.end h)
      ∙ ap length (between-split old 0 before r.end (omega arith) (omega (arith, b, ordered)))
      ∙ length-append (starts_between old 0 before) (starts_between old (before + 1) r.end)

  -- the table of the old text with what starts in the new stretch in its middle is that of the new one
  pub replaced-is : (before : ℕ) → before ≡ r.start - 1 → r.end < 2 ^ 64 → length new < 2 ^ 64 → replaced before r.end (r.start + len) (starts_between new (before + 1) (r.start + len)) (line_starts old) ≡ line_starts new
  replaced-is before b small short =
      let front = starts_between old 0 before in
      let middle = starts_between old (before + 1) r.end in
      let back = starts_between old (r.end + 1) (length old) in
      let joined : line_starts old ≡ front ++ middle ++ back = parts before b ∙ sym (append_assoc front middle back) in
      let fronts : take (count_by (λ k. nat_le k before) (line_starts old)) (line_starts old) ≡ front =
      ap (take (count_by (λ k. nat_le k before) (line_starts old))) (parts before b) ∙ take_at front (middle ++ back) _ (sym (first-count before b)) in
      let backs : drop (count_by (λ k. nat_le k r.end) (line_starts old)) (line_starts old) ≡ back =
      ap (drop (count_by (λ k. nat_le k r.end) (line_starts old))) joined ∙ drop_at (front ++ middle) back _ (length-append front middle ∙ sym (last-count before b)) in
      let put = starts_between new (before + 1) (r.start + len) in
      let move = shifted r.end (r.start + len) in
      ap (λ xs. xs ++ (put ++ map move (drop (count_by (λ k. nat_le k r.end) (line_starts old)) (line_starts old)))) fronts
      ∙ ap (λ xs. front ++ (put ++ map move xs)) backs
      ∙ sym (edited before b small short)

-- what is put into a list, with all behind it moved
pub put-moved : (f : ℕ → ℕ) (xs ys zs : List ℕ) (i j k : ℕ) → i ≤ length xs → k ≡ i + length ys → zs ≡ take i xs ++ (ys ++ drop j xs) → take k zs ++ map f (drop k zs) ≡ take i xs ++ (ys ++ map f (drop j xs))
put-moved f xs ys zs i j k h behind put =
    let front = take i xs in
    let size : length (front ++ ys) ≡ k = omega (arith, length-append front ys, length-take-le i xs h, behind) in
    let is : zs ≡ front ++ ys ++ drop j xs = put ∙ sym (append_assoc front ys (drop j xs)) in
    grind (arith, take_at, drop_at, append_assoc)

passing-mono : (a b : ℕ) (xs : List ℕ) → a ≤ b → passing (λ x. nat_le x a) xs ≤ passing (λ x. nat_le x b) xs
passing-mono a b [] h = omega arith
passing-mono a b (x ∷ xs) h = grind (arith, passing-mono a b xs h)

-- no fewer numbers are up to a greater one
pub count-mono : (a b : ℕ) (xs : List ℕ) → a ≤ b → count_by (λ x. nat_le x a) xs ≤ count_by (λ x. nat_le x b) xs
count-mono a b xs h = omega (arith, passing-mono a b xs h, passing-is (λ x. nat_le x a) xs, passing-is (λ x. nat_le x b) xs)
