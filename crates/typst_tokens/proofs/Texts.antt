-- Facts on texts.
use Rattle.typst_tokens.proofs.Cited.{◌≡◌, ◌≤◌, ◌<◌, ℕ, length, Bool, true, false, not, ◌||◌, ◌&&◌, ◌==◌, if◌then◌else◌, List, [], ◌∷◌, refl, sym, ap, subst, ◌∙◌, arith, slice_get, Option, Some, None, nat_tests, Place, moved, moved_from, passes, scout, word_at, CharClasses, blank, answer, leave, go, Sight, Covers, saw, saw_by, went, saw_word, regard, sight, either, past_pairs, pairs_len, went_past_pairs, may_stop, text_step, on, in_text, text, plain, Token, Memory, flows}
use Rattle.typst_kinds.specs.declared.kind.SyntaxKind.TheVariants as kind
use Rattle.typst_tokens.specs.Reader.{place, widened, Reader, Turn, ask, glimpse, eat_span, see_word}
use Rattle.typst_tokens.proofs.Sights.{regard-is, covers-saw, covers-saw_by, saw-ahead, saw-both}
use Rattle.typst_tokens.proofs.Words.{regard-see_word}
use Rattle.typst_tokens.proofs.PairRuns.{moved-less, sight-pairs}
use Rattle.typst_tokens.proofs.Spans.{saw-twice, sight-turn, sight-end, turned_sight}
use Rattle.std.proofs.lemmas.Bool.{not-true}

abbrev pub rest : CharClasses → Reader Memory Token
rest k = eat_span (in_text k) blank (λ _. answer (plain kind.Text))

-- a character that stops no text
plain-is : (k : CharClasses) (c : ℕ) → not (may_stop c) ≡ true → text_step k c ≡ on true
plain-is k c h = grind arith

-- ---- what flows on

abbrev pub flowing : CharClasses → ℕ → Option ℕ → Bool
flowing k = either (λ c. not (may_stop c)) (flows k.alphanumeric)

data Way (k : CharClasses) (c : ℕ) (next : Option ℕ) : Type 0 where
  plainly : not (may_stop c) ≡ true → Way k c next
  by_space : c ≡ 32 → passes k.alphanumeric next ≡ true → Way k c next
  by_letter : c ≡ 104 → passes (λ d. d == 116) next ≡ false → Way k c next

equal : (c d : ℕ) → (c == d) ≡ true → c ≡ d
equal c d e = grind (arith, nat_tests)

way : (k : CharClasses) (c : ℕ) (next : Option ℕ) → flowing k c next ≡ true → Way k c next
way k c next e = by (not (may_stop c)) (c == 32) (passes k.alphanumeric next) (c == 104) (not (passes (λ d. d == 116) next)) refl refl refl refl refl e
  where
    by : (p s q h r : Bool) → not (may_stop c) ≡ p → (c == 32) ≡ s → passes k.alphanumeric next ≡ q → (c == 104) ≡ h → not (passes (λ d. d == 116) next) ≡ r → (p || ((s && q) || (h && r))) ≡ true → Way k c next
    by true s q h r ep es eq eh er e = plainly ep
    by false true true h r ep es eq eh er e = by_space (equal c 32 es) eq
    by false true false true true ep es eq eh er e = by_letter (equal c 104 eh) (not-true _ er)
    by false true false true false ep es eq eh er e = absurd (cc)
    by false true false false r ep es eq eh er e = absurd (cc)
    by false false q true true ep es eq eh er e = by_letter (equal c 104 eh) (not-true _ er)
    by false false q true false ep es eq eh er e = absurd (cc)
    by false false q false r ep es eq eh er e = absurd (cc)

letter-is : (k : CharClasses) (b a : List ℕ) → passes (λ d. d == 116) (slice_get a 0) ≡ false
    → (ask (text_step k 104) (place b (104 ∷ a)) ≡ go blank) × (widened 0 1 (glimpse (text_step k 104) (place b (104 ∷ a))) ≡ record { back = 0; front = 2 })
letter-is k b a e = (rw e (rw e refl), rw e (rw e refl))

flow-goes : (k : CharClasses) (c : ℕ) (b a : List ℕ) → flowing k c (slice_get a 0) ≡ true → ask (text_step k c) (place b (c ∷ a)) ≡ go blank
flow-goes k c b a e = by (way k c (slice_get a 0) e)
  where
    by : Way k c (slice_get a 0) → ask (text_step k c) (place b (c ∷ a)) ≡ go blank
    by (plainly h) = ap (λ s. ask s (place b (c ∷ a))) (plain-is k c h)
    by (by_space h g) = ap (λ x. ask (text_step k x) (place b (x ∷ a))) h ∙ ap (λ t. if t then go blank else leave) g
    by (by_letter h g) = ap (λ x. ask (text_step k x) (place b (x ∷ a))) h ∙ (letter-is k b a g).0

flow-looks : (k : CharClasses) (c : ℕ) (b a : List ℕ) → flowing k c (slice_get a 0) ≡ true → (f : ℕ) × ((widened 0 1 (glimpse (text_step k c) (place b (c ∷ a))) ≡ record { back = 0; front = f }) × (f ≤ 2))
flow-looks k c b a e = by (way k c (slice_get a 0) e)
  where
    by : Way k c (slice_get a 0) → (f : ℕ) × ((widened 0 1 (glimpse (text_step k c) (place b (c ∷ a))) ≡ record { back = 0; front = f }) × (f ≤ 2))
    by (plainly h) = (1, (ap (λ s. widened 0 1 (glimpse s (place b (c ∷ a)))) (plain-is k c h), omega arith))
    by (by_space h g) = (2, (ap (λ x. widened 0 1 (glimpse (text_step k x) (place b (x ∷ a)))) h, omega arith))
    by (by_letter h g) = (2, (ap (λ x. widened 0 1 (glimpse (text_step k x) (place b (x ∷ a)))) h ∙ (letter-is k b a g).1, omega arith))

pub rest-past : (k : CharClasses) (v : Sight) → Covers v → sight (rest k) v ≡ sight (rest k) (went_past_pairs (flowing k) v)
rest-past k v h = sight-pairs (in_text k) blank (flowing k) (λ _. answer (plain kind.Text)) (flow-goes k) (flow-looks k) v.place.before v.place.ahead v.reach v.least h

module _ (k : CharClasses) (c : ℕ) (v w : Sight) (h : Covers v) (s : saw 1 v ≡ v) (t : Turn Memory) (g : regard (text_step k c) v ≡ (t, w)) where
  both-are : ◌≡◌ {A = Turn Memory × Sight} (ask (text_step k c) v.place, saw_by (glimpse (text_step k c) v.place) v) (t, w)
  both-are = sym (regard-is (text_step k c) v h) ∙ g

  turned-is : saw_by (widened 0 1 (glimpse (text_step k c) v.place)) (saw 1 v) ≡ w
  turned-is = grind (arith, saw-both, saw-ahead, covers-saw, saw-twice, both-are)

step-at : (k : CharClasses) (c : ℕ) (b a : List ℕ) (r l : ℕ) (w : Sight) (t : Turn Memory)
    → Covers (record { place = place b a; reach = r; least = l })
    → saw 1 (record { place = place b a; reach = r; least = l }) ≡ record { place = place b a; reach = r; least = l }
    → regard (text_step k c) (record { place = place b a; reach = r; least = l }) ≡ (t, w)
    → Some c ≡ slice_get a 0
    → sight (rest k) (record { place = place b a; reach = r; least = l }) ≡ turned_sight (in_text k) blank (λ _. answer (plain kind.Text)) w t
step-at k c b [] r l w t h s g e = absurd (cc)
step-at k c b (d ∷ a) r l w t h s g e =
    let v : Sight = record { place = place b (d ∷ a); reach = r; least = l } in
    let same : d ≡ c = cc in
    let g' = subst (λ x. regard (text_step k x) v ≡ (t, w)) (sym same) g in
    sight-turn (in_text k) blank (λ _. answer (plain kind.Text)) d b a r l t (ap (λ p. p.0) (both-are k d v w h s t g')) h
    ∙ ap (λ u. turned_sight (in_text k) blank (λ _. answer (plain kind.Text)) u t) (turned-is k d v w h s t g')

-- a text goes on through a character, or leaves it
pub rest-on : (k : CharClasses) (c : ℕ) (v w : Sight) → Covers v → saw 1 v ≡ v → Some c ≡ scout 0 v.place → regard (text_step k c) v ≡ (go blank, w) → sight (rest k) v ≡ sight (rest k) (went 1 w)
rest-on k c v w h s e g = step-at k c v.place.before v.place.ahead v.reach v.least w (go blank) h s g e

pub rest-off : (k : CharClasses) (c : ℕ) (v w : Sight) → Covers v → saw 1 v ≡ v → Some c ≡ scout 0 v.place → regard (text_step k c) v ≡ (leave, w) → sight (rest k) v ≡ (plain kind.Text, w)
rest-off k c v w h s e g = step-at k c v.place.before v.place.ahead v.reach v.least w leave h s g e

pub rest-end : (k : CharClasses) (v : Sight) → Covers v → saw 1 v ≡ v → None ≡ scout 0 v.place → sight (rest k) v ≡ (plain kind.Text, v)
rest-end k v h s e = at-end v.place.before v.place.ahead v.reach v.least h s e
  where
    at-end : (b a : List ℕ) (r l : ℕ) → Covers (record { place = place b a; reach = r; least = l })
        → saw 1 (record { place = place b a; reach = r; least = l }) ≡ record { place = place b a; reach = r; least = l } → None ≡ slice_get a 0
        → sight (rest k) (record { place = place b a; reach = r; least = l }) ≡ (plain kind.Text, record { place = place b a; reach = r; least = l })
    at-end b [] r l h s e = sight-end (in_text k) blank (λ _. answer (plain kind.Text)) b r l h ∙ ap (λ w. (plain kind.Text, w)) s
    at-end b (d ∷ a) r l h s e = absurd (cc)

pub rest-text : (k : CharClasses) (v : Sight) → sight (rest k) v ≡ sight (text k) v
unfolding text
rest-text k v = refl

-- the place stays while its surroundings are looked at
pub rest-place : (k : CharClasses) (c : ℕ) (v w : Sight) (t : Turn Memory) → Covers v → regard (text_step k c) v ≡ (t, w) → w.place ≡ v.place
rest-place k c v w t h g = ap (λ (p : Turn Memory × Sight). p.1.place) (sym g ∙ regard-is (text_step k c) v h)

pub rest-covers : (k : CharClasses) (c : ℕ) (v w : Sight) (t : Turn Memory) → Covers v → regard (text_step k c) v ≡ (t, w) → Covers w
rest-covers k c v w t h g = subst Covers (ap (λ (p : Turn Memory × Sight). p.1) (sym (regard-is (text_step k c) v h) ∙ g)) (covers-saw_by (glimpse (text_step k c) v.place) v h)

-- after a character and a run fewer are ahead
pub rest-shortens : (test : ℕ → Option ℕ → Bool) (c : ℕ) (z y : Place) → y ≡ z → Some c ≡ scout 0 z → length (past_pairs test (moved 1 y)).ahead < length z.ahead
rest-shortens test c z y e s = rw e (shorter z.before z.ahead s)
  where
    shorter : (b a : List ℕ) → Some c ≡ slice_get a 0 → length (past_pairs test (moved_from 1 b a)).ahead < length a
    shorter b [] s = absurd (cc)
    shorter b (d ∷ a) s = omega (arith, moved-less (pairs_len test a) (d ∷ b) a)

-- ---- words at which a text stops

pub two-words : (first second : List ℕ) (v u x : Sight) (b : Bool) → word_at 1 first v.place ≡ false → u ≡ saw_word 1 first v → b ≡ word_at 1 second u.place → x ≡ saw_word 1 second u
    → regard (see_word 1 first (on false) (see_word 1 second (on false) (on true))) v ≡ (if not b then go blank else leave, x)
two-words first second v u x b f e g h = grind (arith, regard-see_word)
