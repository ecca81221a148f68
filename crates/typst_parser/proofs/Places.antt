-- Places of a text in characters and in bytes.
use Rattle.typst_parser.proofs.Cited.{◌≡◌, ℕ, zero, suc, ◌+◌, ◌≤◌, ◌<◌, ◌^◌, ◌-◌, List, [], ◌∷◌, ◌++◌, length, take, drop, append_assoc, append-nil, reverse, refl, ap, sym, ◌∙◌, arith, chars, IsUtf8, IsCharBoundary, reverse-append, Place, moved, moved_from, place_at, bytes-text, chars-split, front-ahead, front-boundary, front-chars, position, width, Tree, AllFit, start_of, ReadPart, Log, onto, width-append, width-moved, width-none, width-onto, bytes, part-fits-law}
use Rattle.typst_edits.specs.Ask.{Ask}
use Rattle.typst_edits.specs.Part.{IsPart}

pub bytes-width : (cs : List ℕ) → width cs ≡ bytes cs
unfolding width
bytes-width cs = grind arith

-- a text's bytes are those of its characters
pub width-chars : (s : List ℕ) → IsUtf8 s → width (chars s) ≡ length s
width-chars s u = bytes-width (chars s) ∙ bytes-text s u

moved-is : (n : ℕ) (b cs : List ℕ) → moved_from n b cs ≡ record { before = onto (take n cs) b; ahead = drop n cs }
moved-is zero b cs = refl
moved-is (suc n) b [] = refl
moved-is (suc n) b (c ∷ cs) = moved-is n (c ∷ b) cs

onto-reverse : (xs b : List ℕ) → onto xs b ≡ reverse xs ++ b
onto-reverse [] b = refl
onto-reverse (x ∷ xs) b = onto-reverse xs (x ∷ b) ∙ sym (append_assoc (reverse xs) (x ∷ []) b) ∙ ap (λ ys. ys ++ b) (sym (reverse-append (x ∷ []) xs))

reverse-onto : (xs : List ℕ) → reverse xs ≡ onto xs []
reverse-onto xs = sym (append-nil (reverse xs)) ∙ sym (onto-reverse xs [])

-- all that stands on both sides of a place takes as many bytes as on those of another
both-sides : (n : ℕ) (b a : List ℕ) → width (moved_from n b a).before + width (moved_from n b a).ahead ≡ width b + width a
unfolding width
both-sides zero b a = refl
both-sides (suc n) b [] = refl
both-sides (suc n) b (c ∷ a) = let i = both-sides n (c ∷ b) a in omega (arith, i)

-- a place further on lies within the text
pub position-within : (n : ℕ) (z : Place) → position (moved n z) ≤ width z.before + width z.ahead
unfolding position
position-within n z = let e = both-sides n z.before z.ahead in omega (arith, e)

at-end : (m : ℕ) (b : List ℕ) → moved_from m b [] ≡ record { before = b; ahead = [] }
at-end m b = grind arith

moved-twice : (m n j : ℕ) (b a : List ℕ) → j ≡ n + m → moved m (moved_from n b a) ≡ moved_from j b a
moved-twice m zero j b a e = ap (λ i. moved_from i b a) (omega (arith, e))
moved-twice m (suc n) j b [] e = at-end m b ∙ sym (at-end j b)
moved-twice m (suc n) j b (c ∷ a) e =
    let less : suc (j - 1) ≡ j = omega (arith, e) in
    moved-twice m n (j - 1) (c ∷ b) a (omega (arith, e)) ∙ ap (λ i. moved_from i b (c ∷ a)) less

-- one step after another
pub moved-on : (m n : ℕ) (z : Place) → moved m (moved n z) ≡ moved (n + m) z
moved-on m n z = moved-twice m n (n + m) z.before z.ahead refl

module _ (s : List ℕ) (u : IsUtf8 s) (n b : ℕ) (e : position (moved n (start_of (chars s))) ≡ b) where
  size : b ≡ bytes (take n (chars s))
  unfolding position
  size = sym e ∙ width-moved n (chars s) ∙ bytes-width (take n (chars s))

  -- a given number of characters further on, at a byte, is a place between two characters
  pub place-boundary : IsCharBoundary s b
  place-boundary = front-boundary s u n b size

  -- and the text's place at this byte
  pub place-is : place_at s b ≡ moved n (start_of (chars s))
  unfolding place_at
  place-is =
      ap (λ x. record { before = reverse x; ahead = chars (drop b s) }) (front-chars s u n b size)
      ∙ ap (λ x. record { before = reverse (take n (chars s)); ahead = x }) (front-ahead s u n b size)
      ∙ ap (λ x. record { before = x; ahead = drop n (chars s) }) (reverse-onto (take n (chars s)))
      ∙ sym (moved-is n [] (chars s))

-- on both sides of a place of a text stand all its bytes
pub sides-of : (cs : List ℕ) (n : ℕ) → width (moved n (start_of cs)).before + width (moved n (start_of cs)).ahead ≡ width cs
unfolding width
sides-of cs n = let e = both-sides n [] cs in omega (arith, e)

-- and so on those of one by its byte
pub place-sides : (s : List ℕ) → IsUtf8 s → (b : ℕ) → IsCharBoundary s b → width (place_at s b).before + width (place_at s b).ahead ≡ length s
unfolding place_at
place-sides s u b at =
    grind (arith, ap width (reverse-onto (chars (take b s))), width-onto (chars (take b s)) [], width-none, width-append (chars (take b s)) (chars (drop b s)), ap width (chars-split s u b at), width-chars s u)

-- ---- parts

-- the notes of a part of a text that a machine word counts stand at its bytes
pub part-fits : (levels : ℕ) (z : Place) (nodes : List Tree) (taken : ℕ) (asks : List Ask) (p : ReadPart) → width z.before + width z.ahead < 2 ^ 64 - 1 → IsPart levels z nodes taken asks p → AllFit p.notes.items
part-fits levels z nodes taken asks p few part = part-fits-law levels z asks p.notes.items few (sym (ap (λ (h : Log). h.notes) part.log))
