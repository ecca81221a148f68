-- Bytes and characters that are left.
use Rattle.typst_language.proofs.Cited.{◌≡◌, ℕ, zero, suc, ◌<◌, ◌≤◌, List, [], ◌∷◌, length, drop, encode_utf8_all, length-append, ap, arith, Place, moved, bytes_left, encode_utf8}
use Rattle.typst_lines.proofs.PlaceLemmas.{encode_utf8_nonempty}
use Rattle.typst_language.proofs.Places.{moved-ahead}

abbrev pub size : List ℕ → ℕ
size xs = length (encode_utf8_all xs)

size-more : (x : ℕ) (xs : List ℕ) → size xs < size (x ∷ xs)
size-more x xs = omega (arith, length-append (encode_utf8 x) (encode_utf8_all xs), encode_utf8_nonempty x)

size-drop : (n : ℕ) (xs : List ℕ) → size (drop n xs) ≤ size xs
size-drop zero xs = omega arith
size-drop (suc n) [] = omega arith
size-drop (suc n) (x ∷ xs) = omega (arith, size-drop n xs, size-more x xs)

pub some-bytes : (n : ℕ) (z : Place) → bytes_left (moved n z) < bytes_left z → 0 < n
some-bytes n z h = grind arith

pub falls : (n : ℕ) (xs : List ℕ) → n ≤ length xs → size xs ≤ size (drop n xs) → n ≡ 0
falls n xs l h = grind (arith, size-drop, size-more)

pub none-bytes : (n : ℕ) (z : Place) → n ≤ length z.ahead → bytes_left z ≤ bytes_left (moved n z) → n ≡ 0
none-bytes n z l h = falls n z.ahead l (omega (arith, ap size (moved-ahead n z)))
