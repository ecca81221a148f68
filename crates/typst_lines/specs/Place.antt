-- A place in a text.
use Rattle.std.specs.Prelude.{◌≡◌, ◌<◌, ◌≤◌, ℕ, zero, suc, ◌+◌, Bool, true, false, ◌&&◌, List, [], ◌∷◌, length, encode_utf8_all, take, drop, reverse, slice_get, Option, Some, None, ◌==◌, ℤ, pos, negsuc, refl}
use Rattle.std.specs.Coded.{Coded, code_by, coded×, coded_ℕ, coded_list}
use Rattle.std.specs.Char.{IsScalar, len_utf8}
use Rattle.std.specs.Str.{chars, IsCharBoundary}
use Rattle.std.specs.List.{prefix_len}

-- the characters before, nearest first, and those ahead
pub record Place : Type 0 where
  pub before : List ℕ
  pub ahead : List ℕ

-- how a place is stored in ghost fields
abbrev pub place_code : Coded Place
place_code = code_by (List ℕ × List ℕ) (coded× (coded_list coded_ℕ) (coded_list coded_ℕ)) (λ z. (z.before, z.ahead)) (λ p. record { before = p.0; ahead = p.1 }) (λ _. refl)

-- how many bytes a character takes; a word that tactics do not look into
unfoldable pub char_width : ℕ → ℕ
char_width c = len_utf8 c

-- the place at a byte offset of a text
unfoldable pub place_at : List ℕ → ℕ → Place
place_at text at = record { before = reverse (chars (take at text)); ahead = chars (drop at text) }

-- n characters on from the place after some characters, the nearest first, and before others; or
-- the text's end
abbrev pub moved_from : ℕ → List ℕ → List ℕ → Place
moved_from zero before ahead = record { before = before; ahead = ahead }
moved_from (suc n) before [] = record { before = before; ahead = [] }
moved_from (suc n) before (c ∷ ahead) = moved_from n (c ∷ before) ahead

-- the place n characters on, or the text's end
abbrev pub moved : ℕ → Place → Place
moved n p = moved_from n p.before p.ahead

-- one character back from the place after some characters, the nearest first, and before others; or
-- the text's start
abbrev pub back_from : List ℕ → List ℕ → Place
back_from [] ahead = record { before = []; ahead = ahead }
back_from (c ∷ before) ahead = record { before = before; ahead = c ∷ ahead }

-- the place one character back, or the text's start
abbrev pub moved_back : Place → Place
moved_back p = back_from p.before p.ahead

-- a place at or after another
abbrev pub IsAfter : Place → Place → Type 0
IsAfter p q = (n : ℕ) × (q ≡ moved n p)

-- the bytes of the next n characters
unfoldable pub bytes_ahead : ℕ → Place → ℕ
bytes_ahead n p = length (encode_utf8_all (take n p.ahead))

-- the character n places ahead
abbrev pub scout : ℕ → Place → Option ℕ
scout n p = slice_get p.ahead n

-- the character n places ahead; below 0 the places before are counted, and -1 is the nearest
abbrev pub around : ℤ → Place → Option ℕ
around (pos n) p = slice_get p.ahead n
around (negsuc n) p = slice_get p.before n

-- whether the next character passes
abbrev pub passes : (ℕ → Bool) → Option ℕ → Bool
passes test None = false
passes test (Some c) = test c

-- whether the word begins n characters ahead
abbrev pub word_at : ℕ → List ℕ → Place → Bool
word_at n [] p = true
word_at n (c ∷ word) p = passes (λ d. d == c) (scout n p) && word_at (suc n) word p

-- the longest run of characters that pass
abbrev pub run : (ℕ → Bool) → Place → List ℕ
run test p = take (prefix_len test p.ahead) p.ahead

-- the place after the longest run of characters that pass
abbrev pub past : (ℕ → Bool) → Place → Place
past test p = moved (prefix_len test p.ahead) p

-- the character c goes from one byte offset of the text to the other
pub record IsStep (text : List ℕ) (at c end : ℕ) : Type 0 where
  pub grows : at < end
  pub width : end ≡ at + char_width c
  pub boundary : IsCharBoundary text end
  pub scalar : IsScalar c
  pub next : scout 0 (place_at text at) ≡ Some c
  pub moves : place_at text end ≡ moved 1 (place_at text at)

-- the character c goes from one byte offset of the text to the other, and one goes back over it
pub record IsStepBack (text : List ℕ) (start c at : ℕ) : Type 0 where
  pub boundary : IsCharBoundary text start
  pub last : slice_get (place_at text at).before 0 ≡ Some c
  pub moves : place_at text start ≡ moved_back (place_at text at)

-- no character is before the byte offset
pub record IsFirst (text : List ℕ) (at : ℕ) : Type 0 where
  pub last : slice_get (place_at text at).before 0 ≡ None
  pub stays : place_at text at ≡ moved_back (place_at text at)

-- no character is after the byte offset
pub record IsLast (text : List ℕ) (at : ℕ) : Type 0 where
  pub next : scout 0 (place_at text at) ≡ None
  pub stays : place_at text at ≡ moved 1 (place_at text at)

-- the run of characters that pass goes from one byte offset to the other
pub record IsRun (test : ℕ → Bool) (text : List ℕ) (start end : ℕ) : Type 0 where
  pub grows : start ≤ end
  pub boundary : IsCharBoundary text end
  pub moves : place_at text end ≡ past test (place_at text start)
