-- Readers: what is read at a place is a tree of questions about the characters around it. From the
-- questions follow what is answered, how many characters are taken and which places were looked at.
use Rattle.std.specs.Prelude.{◌≡◌, ℕ, zero, suc, ◌+◌, ◌-◌, max, min, Bool, if◌then◌else◌, List, [], ◌∷◌, length, take, slice_get, Option, Some, None, ◌==◌}
use Rattle.typst_lines.specs.Place.{Place, moved, scout, passes, run, past}
use Rattle.std.specs.List.{prefix_len}

-- how many places before and ahead were looked at, of the text with one mark before its first
-- character and one after its last
pub record Look : Type 0 where
  pub back : ℕ
  pub front : ℕ

-- nothing is looked at
abbrev pub no_look : Look
no_look = record { back = 0; front = 0 }

-- all that either look sees
abbrev pub both : Look → Look → Look
both l m = record { back = max l.back m.back; front = max l.front m.front }

-- a look that goes at least so far back and ahead
abbrev pub widened : ℕ → ℕ → Look → Look
widened back front l = both (record { back = back; front = front }) l

-- a look, as seen from one character before: who eats a character looks at it
abbrev pub from_before : List ℕ → Look → Look
from_before [] l = record { back = l.back; front = max 1 l.front }
from_before (c ∷ ahead) l = record { back = l.back - 1; front = suc l.front }

-- a look, as seen from n characters before
abbrev pub from_far : ℕ → Look → Look
from_far n l = record { back = l.back - n; front = n + l.front }

-- the look after n characters are eaten, as seen from before them
abbrev pub skip_look : ℕ → List ℕ → Look → Look
skip_look zero ahead l = l
skip_look (suc n) [] l = from_before [] l
skip_look (suc n) (c ∷ ahead) l = from_before (c ∷ ahead) (skip_look n ahead l)

-- the place after some characters, the nearest first, and before others
abbrev pub place : List ℕ → List ℕ → Place
place before ahead = record { before = before; ahead = ahead }

-- ---- questions at one place

-- questions about the characters around one place
pub data Step (A : Type 0) : Type 0 where
  -- nothing more is asked
  turn : A → Step A
  -- the character n places ahead
  see : ℕ → (Option ℕ → Step A) → Step A
  -- the character before
  see_back : (Option ℕ → Step A) → Step A

-- what the questions are answered at a place
abbrev pub ask : {A : Type 0} → Step A → Place → A
ask (turn a) p = a
ask (see n k) p = ask (k (scout n p)) p
ask (see_back k) p = ask (k (slice_get p.before 0)) p

-- the look of the questions at a place
abbrev pub glimpse : {A : Type 0} → Step A → Place → Look
glimpse (turn a) p = no_look
glimpse (see n k) p = widened 0 (suc n) (glimpse (k (scout n p)) p)
glimpse (see_back k) p = widened 1 0 (glimpse (k (slice_get p.before 0)) p)

-- asks for a word n places ahead, up to the first character that differs
abbrev pub see_word : {A : Type 0} → ℕ → List ℕ → Step A → Step A → Step A
see_word n [] found other = found
see_word n (c ∷ word) found other = see n (λ d. if passes (λ d. d == c) d then see_word (suc n) word found other else other)

-- ---- machines, which take one character after the other

-- what a machine does at a character: it leaves it, takes it as its last, or takes it and goes on, with
-- what it keeps in mind then
pub data Turn (M : Type 0) : Type 0 where
  leave : Turn M
  last : M → Turn M
  go : M → Turn M

-- a machine keeps something in mind from one character to the next
abbrev pub Machine : Type 0 → Type 0
Machine M = M → Step (Turn M)

-- a machine that looks only at the character
abbrev pub by_character : {M : Type 0} → (M → ℕ → Turn M) → Machine M
by_character step memory = see 0 (λ c. turn (elim c [ None ↦ leave | Some c ↦ step memory c ]))

-- the characters that a machine takes, and its memory at the end
abbrev pub spanned : {M : Type 0} → Machine M → M → List ℕ → List ℕ → List ℕ × M
spanned m state before [] = ([], state)
spanned m state before (c ∷ ahead) =
    elim (ask (m state) (place before (c ∷ ahead)))
    [ leave ↦ ([], state) | last after ↦ (c ∷ [], after) | go after ↦ (let r = spanned m after (c ∷ before) ahead in (c ∷ r.0, r.1)) ]

-- the look of a machine at a place
abbrev pub span_look : {M : Type 0} → Machine M → M → List ℕ → List ℕ → Look
span_look m state before [] = record { back = 0; front = 1 }
span_look m state before (c ∷ ahead) =
    widened 0 1 (both (glimpse (m state) (place before (c ∷ ahead)))
    (elim (ask (m state) (place before (c ∷ ahead))) [ leave ↦ no_look | last after ↦ no_look | go after ↦ from_before (c ∷ ahead) (span_look m after (c ∷ before) ahead) ]))

-- ---- readers

-- what a reader asks and eats before it answers. Its machines keep things of one type in mind
pub data Reader (M A : Type 0) : Type 0 where
  -- nothing more is asked
  answer : A → Reader M A
  -- the character n places ahead
  peek : ℕ → (Option ℕ → Reader M A) → Reader M A
  -- the character n places before
  glance : ℕ → (Option ℕ → Reader M A) → Reader M A
  -- the characters that a machine takes, which stay ahead, and its memory at the end
  span : Machine M → M → (List ℕ → M → Reader M A) → Reader M A
  -- goes past a character
  eat : Reader M A → Reader M A
  -- the longest run of characters that pass, which stays ahead
  see_run : (ℕ → Bool) → (List ℕ → Reader M A) → Reader M A
  -- goes past n characters
  skip : ℕ → Reader M A → Reader M A
  -- goes past the longest run of characters that pass
  eat_run : (ℕ → Bool) → (List ℕ → Reader M A) → Reader M A

-- what a reader answers, and the place that it answers at
abbrev pub exec : {M A : Type 0} → Reader M A → Place → A × Place
exec (answer a) p = (a, p)
exec (peek n k) p = exec (k (scout n p)) p
exec (glance n k) p = exec (k (slice_get p.before n)) p
exec (span m state k) p = let r = spanned m state p.before p.ahead in exec (k r.0 r.1) p
exec (eat r) p = exec r (moved 1 p)
exec (see_run test k) p = exec (k (run test p)) p
exec (skip n r) p = exec r (moved n p)
exec (eat_run test k) p = exec (k (run test p)) (past test p)

-- how many characters a reader eats
abbrev pub eaten : {M A : Type 0} → Reader M A → Place → ℕ
eaten (answer a) p = 0
eaten (peek n k) p = eaten (k (scout n p)) p
eaten (glance n k) p = eaten (k (slice_get p.before n)) p
eaten (span m state k) p = let r = spanned m state p.before p.ahead in eaten (k r.0 r.1) p
eaten (eat r) p = suc (eaten r (moved 1 p))
eaten (see_run test k) p = eaten (k (run test p)) p
eaten (skip n r) p = min n (length p.ahead) + eaten r (moved n p)
eaten (eat_run test k) p = prefix_len test p.ahead + eaten (k (run test p)) (past test p)

-- the look of a reader: how far it looks back and ahead of a place before it answers
abbrev pub look : {M A : Type 0} → Reader M A → Place → Look
look (answer a) p = no_look
look (peek n k) p = widened 0 (suc n) (look (k (scout n p)) p)
look (glance n k) p = widened (suc n) 0 (look (k (slice_get p.before n)) p)
look (span m state k) p = let r = spanned m state p.before p.ahead in both (span_look m state p.before p.ahead) (look (k r.0 r.1) p)
look (eat r) p = from_before p.ahead (look r (moved 1 p))
look (see_run test k) p = widened 0 (suc (prefix_len test p.ahead)) (look (k (run test p)) p)
look (skip n r) p = skip_look n p.ahead (look r (moved n p))
look (eat_run test k) p = let n = prefix_len test p.ahead in widened 0 (suc n) (from_far n (look (k (run test p)) (past test p)))

-- ---- common readers

-- goes past what a machine takes
abbrev pub eat_span : {M A : Type 0} → Machine M → M → (M → Reader M A) → Reader M A
eat_span m state k = span m state (λ cs after. skip (length cs) (k after))

-- goes past the next character if it passes
abbrev pub if_next : {M A : Type 0} → (ℕ → Bool) → Reader M A → Reader M A → Reader M A
if_next test found other = peek 0 (λ c. if passes test c then eat found else other)

-- asks whether a word is n places ahead
abbrev pub at_word : {M A : Type 0} → ℕ → List ℕ → Reader M A → Reader M A → Reader M A
at_word n [] found other = found
at_word n (c ∷ word) found other = peek n (λ d. if passes (λ d. d == c) d then at_word (suc n) word found other else other)

-- the characters, and the mark at their end
abbrev pub marked : List ℕ → List (Option ℕ)
marked [] = None ∷ []
marked (c ∷ cs) = Some c ∷ marked cs

-- two places have the same characters and marks in a look
pub record Agree (l : Look) (p q : Place) : Type 0 where
  pub before : take l.back (marked p.before) ≡ take l.back (marked q.before)
  pub ahead : take l.front (marked p.ahead) ≡ take l.front (marked q.ahead)

-- a reader answers the same at two places, eats as many characters, and has the same look
pub record SameReading {M A : Type 0} (r : Reader M A) (p q : Place) : Type 0 where
  pub answers : (exec r p).0 ≡ (exec r q).0
  pub lengths : eaten r p ≡ eaten r q
  pub looks : look r p ≡ look r q
