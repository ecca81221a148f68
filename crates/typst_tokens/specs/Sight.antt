-- How far is looked in a text, in bytes from its start. The text has one mark before its first and
-- one after its last character, each as long as a byte.
use Rattle.std.specs.Prelude.{◌≤◌, ℕ, zero, suc, ◌+◌, ◌-◌, max, min, Bool, if◌then◌else◌, ◌==◌, List, [], ◌∷◌, ◌++◌, reverse, slice_get, encode_utf8_all, refl}
use Rattle.std.specs.Coded.{Coded, code_by, coded×, coded_ℕ}
use Rattle.std.specs.List.{prefix_len}
use Rattle.typst_lines.specs.Place.{Place, place_code, char_width, moved, scout, passes, run}
use Rattle.typst_tokens.specs.Reader.{Look, Step, Reader, spanned, span_look}
use Rattle.typst_tokens.specs.Reader.Step.{turn, see, see_back}
use Rattle.typst_tokens.specs.Reader.Reader.{answer, peek, glance, span, eat, see_run, skip, eat_run}
use Rattle.typst_tokens.specs.declared.hull.Hull.{Hull}

-- how many bytes characters take
unfoldable pub width : List ℕ → ℕ
width [] = 0
width (c ∷ cs) = char_width c + width cs

-- the byte offset of a place
unfoldable pub position : Place → ℕ
position z = width z.before

-- how many bytes n places take, the mark at the end one of them
unfoldable pub stretch : ℕ → List ℕ → ℕ
stretch zero cs = 0
stretch (suc n) [] = 1
stretch (suc n) (c ∷ cs) = char_width c + stretch n cs

-- where n places ahead end
unfoldable pub far : ℕ → Place → ℕ
far n z = position z + stretch n z.ahead

-- where n places before begin, counted from the mark before the text
unfoldable pub near : ℕ → Place → ℕ
near n z = suc (position z) - stretch n z.before

-- the text around a place
unfoldable pub text_of : Place → List ℕ
text_of z = encode_utf8_all (reverse z.before ++ z.ahead)

-- the bytes that a look at a place spans
abbrev pub hull_of : Look → Place → Hull
hull_of l z = record { reach = far l.front z; least = near l.back z }

-- ---- reading

-- a place, and the bytes that were looked at on the way to it
pub record Sight : Type 0 where
  pub place : Place
  pub reach : ℕ
  pub least : ℕ

-- what was looked at leads to the place
pub record Covers (v : Sight) : Type 0 where
  pub reach : position v.place ≤ v.reach
  pub least : v.least ≤ suc (position v.place)

-- nothing was looked at yet
abbrev pub fresh : Place → Sight
fresh z = record { place = z; reach = position z; least = suc (position z) }

-- n places ahead were looked at
abbrev pub saw : ℕ → Sight → Sight
saw n v = record v { reach = max v.reach (far n v.place) }

-- n places before were looked at
abbrev pub saw_back : ℕ → Sight → Sight
saw_back n v = record v { least = min v.least (near n v.place) }

-- a look at the place was taken
abbrev pub saw_by : Look → Sight → Sight
saw_by l v = record v { reach = max v.reach (far l.front v.place); least = min v.least (near l.back v.place) }

-- n characters were eaten
abbrev pub went : ℕ → Sight → Sight
went n v = record { place = moved n v.place; reach = max v.reach (far n v.place); least = v.least }

-- a run of characters and what ends it were looked at, and the run was eaten
abbrev pub went_past : (ℕ → Bool) → Sight → Sight
went_past test v = let n = prefix_len test v.place.ahead in went n (saw (suc n) v)

-- where looks end with those at a word n places ahead, up to the first character that differs
abbrev pub word_reach : ℕ → List ℕ → Place → ℕ → ℕ
word_reach n [] z reach = reach
word_reach n (c ∷ word) z reach = if passes (λ d. d == c) (scout n z) then word_reach (suc n) word z (max reach (far (suc n) z)) else max reach (far (suc n) z)

-- a word n places ahead was looked at, up to the first character that differs
abbrev pub saw_word : ℕ → List ℕ → Sight → Sight
saw_word n word v = record v { reach = word_reach n word v.place v.reach }

-- what questions are answered at one place, and what was looked at for it
abbrev pub regard : {A : Type 0} → Step A → Sight → A × Sight
regard (turn a) v = (a, v)
regard (see n k) v = regard (k (scout n v.place)) (saw (suc n) v)
regard (see_back k) v = regard (k (slice_get v.place.before 0)) (saw_back 1 v)

-- what a reader answers, where, and what was looked at for it
abbrev pub sight : {M A : Type 0} → Reader M A → Sight → A × Sight
sight (answer a) v = (a, v)
sight (peek n k) v = sight (k (scout n v.place)) (saw (suc n) v)
sight (glance n k) v = sight (k (slice_get v.place.before n)) (saw_back (suc n) v)
sight (span m state k) v =
    let r = spanned m state v.place.before v.place.ahead in
    sight (k r.0 r.1) (saw_by (span_look m state v.place.before v.place.ahead) v)
sight (eat r) v = sight r (went 1 v)
sight (see_run test k) v = sight (k (run test v.place)) (saw (suc (prefix_len test v.place.ahead)) v)
sight (skip n r) v = sight r (went n v)
sight (eat_run test k) v = sight (k (run test v.place)) (went_past test v)

-- ---- how it is stored

-- how a sight is stored in ghost fields
abbrev pub sight_code : Coded Sight
sight_code = code_by (Place × (ℕ × ℕ)) (coded× place_code (coded× coded_ℕ coded_ℕ)) (λ v. (v.place, (v.reach, v.least))) (λ p. record { place = p.0; reach = p.1.0; least = p.1.1 }) (λ _. refl)
