-- What stands ahead of a cursor, seen or gone past in one piece.
use Rattle.typst_tokens.proofs.Cited.{◌≡◌, ℕ, zero, suc, ◌+◌, max, List, [], ◌∷◌, length, take, if◌then◌else◌, is_none, sym, ap, ◌∙◌, arith, Option, encodes-chars, encode_utf8_all, chars, IsUtf8, Place, bytes_ahead, moved, moved_from, scout, position, far, Sight, saw, went, moved-moved, scout-moved}
use Rattle.typst_tokens.specs.Reader.{place}
use Rattle.typst_tokens.proofs.Sights.{far-none, far-on, peeked}

-- where n characters ahead end, where there are so many
far-whole : (n : ℕ) (b a : List ℕ) → n ≡ length (take n a) → far n (place b a) ≡ position (moved_from n b a)
far-whole zero b a e = far-none (place b a)
far-whole (suc n) b [] e = absurd (omega arith)
far-whole (suc n) b (c ∷ a) e = far-on n c b a ∙ far-whole n (c ∷ b) a (omega arith)

-- the characters, which come next, were gone past
pub skipped : (cs : List ℕ) (z y : Place) (r l m e : ℕ) → take (length cs) z.ahead ≡ cs → y ≡ moved (length cs) z → e ≡ position y → m ≡ max r e
    → ◌≡◌ {A = Sight} (record { place = y; reach = m; least = l }) (went (length cs) (record { place = z; reach = r; least = l }))
skipped cs z y r l m e t p f g = let end : e ≡ far (length cs) z = f ∙ ap position p ∙ sym (far-whole (length cs) z.before z.ahead (sym (ap length t))) in cc

-- they take as many bytes as the text that they are
pub bytes-of : (text : List ℕ) (z : Place) → IsUtf8 text → take (length (chars text)) z.ahead ≡ chars text → length text ≡ bytes_ahead (length (chars text)) z
unfolding bytes_ahead
bytes-of text z u t = sym (ap (λ x. length (encode_utf8_all x)) t ∙ ap length (encodes-chars text u))

-- all up to a place, and the character that comes next there, were looked at
pub seen-to : (n : ℕ) (z y w : Place) (o : Option ℕ) (r l m e : ℕ) → m ≡ max r e → e ≡ position w + (if is_none o then 1 else 0) → w ≡ moved 1 y → o ≡ scout 0 y → y ≡ moved n z
    → ◌≡◌ {A = Sight} (record { place = z; reach = m; least = l }) (saw (suc n) (record { place = z; reach = r; least = l }))
seen-to n z y w o r l m e g f p h q =
    peeked n z w o r l m e g f (p ∙ ap (moved 1) q ∙ moved-moved n z.before z.ahead) (h ∙ ap (scout 0) q ∙ scout-moved n z.before z.ahead)
