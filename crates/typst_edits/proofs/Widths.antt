-- Places in characters and in bytes.
use Rattle.typst_edits.proofs.Cited.{◌≡◌, ℕ, zero, suc, ◌+◌, ◌<◌, ◌≤◌, List, [], ◌∷◌, ◌++◌, length, take, length-append, append_assoc, refl, sym, ◌∙◌, subst, ap, ◌-◌, drop, length-take, length-drop, lt_of_not-le, arith, take-append_seam, take-append-drop, moved, moved_from, width-positive, width, position, stretch, far, near, take-add, take-append-add}
use Rattle.typst_edits.proofs.Edit.{onto}
use Rattle.typst_edits.proofs.Every.{neither, not-less}

pub width-append : (xs ys : List ℕ) → width (xs ++ ys) ≡ width xs + width ys
unfolding width
width-append [] ys = omega arith
width-append (c ∷ xs) ys = let e = width-append xs ys in omega (arith, e)

pub width-none : width [] ≡ 0
unfolding width
width-none = refl

-- ---- the first characters of a text

width-least : (xs : List ℕ) → length xs ≤ width xs
unfolding width
width-least [] = omega arith
width-least (c ∷ xs) = omega (arith, width-least xs, width-positive c)

taken-both : (a b : ℕ) (xs : List ℕ) → a ≤ b → width (take b xs) ≡ width (take a xs) + width (take (b - a) (drop a xs))
taken-both a b xs e =
    let sum : b ≡ a + (b - a) = omega (arith, e) in
    ap (λ n. width (take n xs)) sum ∙ ap width (take-add a (b - a) xs) ∙ width-append (take a xs) (take (b - a) (drop a xs))

pub take-more : (a b : ℕ) (xs : List ℕ) → a ≤ b → width (take a xs) ≤ width (take b xs)
take-more a b xs e = omega (arith, taken-both a b xs e)

-- Each character takes at least a byte.
pub take-behind : (a b : ℕ) (xs : List ℕ) → a ≤ b → b ≤ length xs → width (take a xs) + (b - a) ≤ width (take b xs)
take-behind a b xs e h =
    omega (arith, e, h, taken-both a b xs e, width-least (take (b - a) (drop a xs)), length-take (b - a) (drop a xs), length-drop a xs)

pub take-longer : (a b : ℕ) (xs : List ℕ) → a < b → b ≤ length xs → width (take a xs) < width (take b xs)
take-longer a b xs l e = let least = take-behind a b xs (omega (arith, l)) e in omega (arith, l, least)

pub take-same : (m n : ℕ) (xs : List ℕ) → m ≤ length xs → n ≤ length xs → width (take m xs) ≡ width (take n xs) → m ≡ n
take-same m n xs h k e = neither m n (λ l. (let less = take-longer m n xs l k in omega (arith, less, e))) (λ l. (let less = take-longer n m xs l h in omega (arith, less, e)))

pub take-width : (d : ℕ) (a : List ℕ) → width (take d a) ≤ width a
take-width d a = omega (arith, width-append (take d a) (drop d a), ap width (take-append-drop d a))

pub width-over : (front : List ℕ) (past : ℕ) (more : List ℕ) → width (take (length front + past) (front ++ more)) ≡ width front + width (take past more)
width-over front past more = ap width (take-append-add front more past) ∙ width-append front (take past more)

-- What ends before a stretch does so in bytes, and in characters where it does in bytes.
pub width-before : (n : ℕ) (front more : List ℕ) → n < length front → width (take n (front ++ more)) < width front
width-before n front more h =
    let less = take-longer n (length front) (front ++ more) h (omega (arith, length-append front more)) in
    omega (arith, less, ap width (take-append_seam front more))

pub early-by : (n : ℕ) (front more : List ℕ) → width (take n (front ++ more)) < width front → n < length front
early-by n front more h = lt_of_not-le (λ l. (let most = take-more (length front) n (front ++ more) l in omega (arith, h, most, ap width (take-append_seam front more))))

pub late-by : (n : ℕ) (front more : List ℕ) → width front < width (take n (front ++ more)) → length front < n
late-by n front more h = lt_of_not-le (λ l. (let most = take-more n (length front) (front ++ more) l in omega (arith, h, most, ap width (take-append_seam front more))))

-- What ends after a stretch in bytes, or with it, does so in characters.
pub as-far : (n : ℕ) (xs ys : List ℕ) → width xs ≤ width (take n (xs ++ ys)) → length xs ≤ n
as-far n xs ys h = not-less (length xs) n (λ l. (let less = width-before n xs ys l in omega (arith, h, less)))

pub short : (n : ℕ) (xs ys : List ℕ) → n ≤ length xs → width (take n (xs ++ ys)) ≤ width xs
short n xs ys l = omega (arith, take-more n (length xs) (xs ++ ys) l, ap width (take-append_seam xs ys))

-- ---- places

-- A stretch that ends before a place in bytes, or at it, does so in characters.
stretch-by : (n : ℕ) (front more : List ℕ) → stretch n (front ++ more) ≤ width front → n ≤ length front
unfolding stretch width
stretch-by zero front more h = omega arith
stretch-by (suc n) [] [] h = absurd (omega (arith, h))
stretch-by (suc n) [] (c ∷ more) h = absurd (omega (arith, h, width-positive c))
stretch-by (suc n) (c ∷ front) more h = let i = stretch-by n front more (omega (arith, h)) in omega (arith, i)

pub moved-width : (n : ℕ) (b a : List ℕ) → width (moved_from n b a).before ≡ width (take n a) + width b
unfolding width
moved-width zero b a = omega arith
moved-width (suc n) b [] = omega arith
moved-width (suc n) b (c ∷ a) = let i = moved-width n (c ∷ b) a in omega (arith, i)

abbrev end_by : ℕ → ℕ → List ℕ → List ℕ → ℕ
end_by at n b a = width (moved_from at b a).before + stretch n (moved_from at b a).ahead

ends-by : (at n : ℕ) (b front more : List ℕ) → at ≤ length (front ++ more) → end_by at n b (front ++ more) ≤ width b + width front → at + n ≤ length front
unfolding width
ends-by zero n b front more l h = omega (arith, stretch-by n front more (omega (arith, h)))
ends-by (suc at) n b [] [] l h = absurd (omega (arith, l))
ends-by (suc at) n b [] (c ∷ more) l h = absurd (omega (arith, h, moved-width at (c ∷ b) more, width-positive c))
ends-by (suc at) n b (c ∷ front) more l h = let i = ends-by at n (c ∷ b) front more (omega (arith, l)) (omega (arith, h)) in omega (arith, i)

-- A look that ends before a place in bytes, or at it, does so in characters.
pub far-by : (at n : ℕ) (front more : List ℕ) → at ≤ length (front ++ more) → far n (moved at (record { before = []; ahead = front ++ more })) ≤ width front → at + n ≤ length front
unfolding far position width
far-by at n front more l h = ends-by at n [] front more l (omega (arith, h))

-- As many characters as stand before a place, or fewer, take no more bytes than all before it.
pub stretch-to : (n : ℕ) (front more : List ℕ) → n ≤ length front → stretch n (front ++ more) ≤ width front
unfolding stretch width
stretch-to zero front more h = omega arith
stretch-to (suc n) [] more h = absurd (omega (arith, h))
stretch-to (suc n) (c ∷ front) more h = let i = stretch-to n front more (omega (arith, h)) in omega (arith, i)

ends-to : (at n : ℕ) (b front more : List ℕ) → at + n ≤ length front → end_by at n b (front ++ more) ≤ width b + width front
unfolding width
ends-to zero n b front more h = let i = stretch-to n front more (omega (arith, h)) in omega (arith, i)
ends-to (suc at) n b [] more h = absurd (omega (arith, h))
ends-to (suc at) n b (c ∷ front) more h = let i = ends-to at n (c ∷ b) front more (omega (arith, h)) in omega (arith, i)

pub far-to : (at n : ℕ) (front more : List ℕ) → at + n ≤ length front → far n (moved at (record { before = []; ahead = front ++ more })) ≤ width front
unfolding far position width
far-to at n front more h = let i = ends-to at n [] front more h in omega (arith, i)

-- ---- after a place

-- what was passed since
record Since (n : ℕ) (b a : List ℕ) : Type 0 where
  late : List ℕ
  is : (moved_from n b a).before ≡ late ++ b
  long : length late ≡ n

since : (n : ℕ) (b a : List ℕ) → n ≤ length a → Since n b a
since zero b a h = record { late = []; is = refl; long = refl }
since (suc n) b [] h = absurd (omega arith)
since (suc n) b (c ∷ a) h =
    let s = since n (c ∷ b) a (omega (arith, h)) in
    record { late = s.late ++ c ∷ []; is = s.is ∙ sym (append_assoc s.late (c ∷ []) b); long = omega (arith, length-append s.late (c ∷ []), s.long) }

begins-by : (n : ℕ) (late early : List ℕ) → stretch n (late ++ early) + width early ≤ width (late ++ early) → n ≤ length late
begins-by n late early h = stretch-by n late early (omega (arith, h, width-append late early))

pub width-onto : (xs b : List ℕ) → width (onto xs b) ≡ width xs + width b
unfolding width
width-onto [] b = omega arith
width-onto (c ∷ xs) b = let i = width-onto xs (c ∷ b) in omega (arith, i)

-- A look from a later place begins after a place in characters if it does in bytes.
pub near-by : (n m : ℕ) (early rest : List ℕ) → m ≤ length rest → width early < near n (moved m (record { before = early; ahead = rest })) → n ≤ m
unfolding near position
near-by n m early rest l h = let s = since m early rest l in omega (arith, s.long, begins-by n s.late early (subst (λ xs. stretch n xs + width early ≤ width xs) s.is (omega (arith, h))))

-- It does so in bytes if it does in characters.
begins-early : (n m : ℕ) (early rest : List ℕ) → n ≤ m → m ≤ length rest → stretch n (moved_from m early rest).before + width early ≤ width (moved_from m early rest).before
begins-early n m early rest h l =
    let s = since m early rest l in
    let both : stretch n (s.late ++ early) + width early ≤ width (s.late ++ early) = omega (arith, stretch-to n s.late early (omega (arith, h, s.long)), width-append s.late early) in
    subst (λ xs. stretch n xs + width early ≤ width xs) (sym s.is) both

pub near-to : (n m : ℕ) (early rest : List ℕ) → n ≤ m → m ≤ length rest → width early < near n (moved m (record { before = early; ahead = rest }))
unfolding near position
near-to n m early rest h l = let i = begins-early n m early rest h l in omega (arith, i)

-- the byte offset of a character of a text
pub width-moved : (n : ℕ) (text : List ℕ) → width (moved n (record { before = []; ahead = text })).before ≡ width (take n text)
unfolding width
width-moved n text = omega (arith, moved-width n [] text)
