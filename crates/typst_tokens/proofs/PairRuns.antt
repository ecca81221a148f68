-- Runs of characters that pass by the one that follows them.
use Rattle.typst_tokens.proofs.Cited.{◌≡◌, ◌≤◌, ◌<◌, ℕ, zero, suc, ◌+◌, max, Bool, true, false, ◌||◌, get_or, List, [], ◌∷◌, length, slice_get, Option, Some, None, refl, sym, ap, subst, ◌∙◌, arith, nat_tests, is_ascii, IsUtf8, IsCharBoundary, prefix_len, Place, place_at, moved, moved_from, passes, past, scout, IsStep-from_ascii, either, bytes_pass, four_pass, pair_passes, pairs_len, past_pairs, went_past_pairs, go, far, Sight, Covers, saw, saw_by, went, sight, and_parts}
use Rattle.typst_tokens.specs.Reader.{place, ask, glimpse, Machine, Reader, eat_span}
use Rattle.typst_tokens.proofs.Sights.{covers-saw, covers-went, far-le, far-moved, far-none, far-on, same-sight, saw-ahead, two-scout, went-nowhere}
use Rattle.typst_tokens.proofs.Spans.{sight-turn, sight-first, went-on}

-- ---- the run itself

len-on : (test : ℕ → Option ℕ → Bool) (c : ℕ) (a : List ℕ) → test c (slice_get a 0) ≡ true → pairs_len test (c ∷ a) ≡ suc (pairs_len test a)
len-on test c a e = rw e refl

len-off : (test : ℕ → Option ℕ → Bool) (c : ℕ) (a : List ℕ) → test c (slice_get a 0) ≡ false → pairs_len test (c ∷ a) ≡ 0
len-off test c a e = rw e refl

pairs-on : (test : ℕ → Option ℕ → Bool) (c : ℕ) (z : Place) → Some c ≡ scout 0 z → test c (scout 1 z) ≡ true → past_pairs test (moved 1 z) ≡ past_pairs test z
pairs-on test c z e g = grind arith

prefix-on : (test : ℕ → Bool) (c : ℕ) (a : List ℕ) → test c ≡ true → prefix_len test (c ∷ a) ≡ suc (prefix_len test a)
prefix-on test c a e = let one : 1 + prefix_len test a ≡ suc (prefix_len test a) = omega arith in rw (e, one) refl

prefix-off : (test : ℕ → Bool) (c : ℕ) (a : List ℕ) → test c ≡ false → prefix_len test (c ∷ a) ≡ 0
prefix-off test c a e = rw e refl

-- after a run of characters that pass by themselves the run goes on
pub pairs-past : (alone : ℕ → Bool) (pairs : ℕ → Option ℕ → Bool) (z : Place) → past_pairs (either alone pairs) (past alone z) ≡ past_pairs (either alone pairs) z
pairs-past alone pairs z = on z.before z.ahead
  where
    by : (b a : List ℕ) (c : ℕ) (t : Bool) → alone c ≡ t → past_pairs (either alone pairs) (past alone (place (c ∷ b) a)) ≡ past_pairs (either alone pairs) (place (c ∷ b) a)
        → past_pairs (either alone pairs) (past alone (place b (c ∷ a))) ≡ past_pairs (either alone pairs) (place b (c ∷ a))
    by b a c false e rest = ap (λ n. past_pairs (either alone pairs) (moved_from n b (c ∷ a))) (prefix-off alone c a e)
    by b a c true e rest =
        ap (λ n. past_pairs (either alone pairs) (moved_from n b (c ∷ a))) (prefix-on alone c a e)
        ∙ rest
        ∙ sym (ap (λ n. moved_from n b (c ∷ a)) (len-on (either alone pairs) c a (ap (λ t. t || pairs c (slice_get a 0)) e)))

    on : (b a : List ℕ) → past_pairs (either alone pairs) (past alone (place b a)) ≡ past_pairs (either alone pairs) (place b a)
    on b [] = refl
    on b (c ∷ a) = by b a c (alone c) refl (on (c ∷ b) a)

-- what comes next there does not pass by itself
pub past-stops : (alone : ℕ → Bool) (z : Place) → passes alone (scout 0 (past alone z)) ≡ false
past-stops alone z = on z.before z.ahead
  where
    by : (b a : List ℕ) (c : ℕ) (t : Bool) → alone c ≡ t → passes alone (scout 0 (past alone (place (c ∷ b) a))) ≡ false → passes alone (scout 0 (past alone (place b (c ∷ a)))) ≡ false
    by b a c false e rest = ap (λ n. passes alone (scout 0 (moved_from n b (c ∷ a)))) (prefix-off alone c a e) ∙ e
    by b a c true e rest = ap (λ n. passes alone (scout 0 (moved_from n b (c ∷ a)))) (prefix-on alone c a e) ∙ rest

    on : (b a : List ℕ) → passes alone (scout 0 (past alone (place b a))) ≡ false
    on b [] = refl
    on b (c ∷ a) = by b a c (alone c) refl (on (c ∷ b) a)

-- who goes on has no more ahead
pub moved-less : (n : ℕ) (b a : List ℕ) → length (moved_from n b a).ahead ≤ length a
moved-less zero b a = omega arith
moved-less (suc n) b [] = omega arith
moved-less (suc n) b (d ∷ a) = omega (arith, moved-less n (d ∷ b) a)

-- a run ends where what comes next does not pass
pub run-ends : (alone : ℕ → Bool) (pairs : ℕ → Option ℕ → Bool) (o p : Option ℕ) (y w : Place) → o ≡ scout 0 y → w ≡ moved 1 y → p ≡ scout 0 w → passes alone (scout 0 y) ≡ false
    → pair_passes pairs o p ≡ false → past_pairs (either alone pairs) y ≡ y
run-ends alone pairs o p y w h m n s e = grind arith

-- and goes on where it does
pub run-on : (alone : ℕ → Bool) (pairs : ℕ → Option ℕ → Bool) (o p : Option ℕ) (y w : Place) → o ≡ scout 0 y → w ≡ moved 1 y → p ≡ scout 0 w
    → pair_passes pairs o p ≡ true → past_pairs (either alone pairs) w ≡ past_pairs (either alone pairs) y
run-on alone pairs o p y w h m n e = grind arith

-- fewer are ahead then
pub run-shortens : (alone : ℕ → Bool) (pairs : ℕ → Option ℕ → Bool) (o p : Option ℕ) (z y w : Place) → y ≡ past alone z → o ≡ scout 0 y → w ≡ moved 1 y → pair_passes pairs o p ≡ true → length w.ahead < length z.ahead
run-shortens alone pairs None p z y w f o m e = absurd (cc)
run-shortens alone pairs (Some c) p z y w f o m e = grind (arith, moved-less (prefix_len alone z.ahead) z.before z.ahead)

-- a run goes on after what passes by its bytes
pub bytes-on : (test : ℕ → Option ℕ → Bool) (s : List ℕ) → IsUtf8 s → (i c d : ℕ) → IsCharBoundary s i → i + 1 < length s → c ≡ get_or s i 0 → d ≡ get_or s (i + 1) 0 → bytes_pass test c d ≡ true
    → IsCharBoundary s (i + 1) × ((past_pairs test (place_at s (i + 1)) ≡ past_pairs test (place_at s i)) × (length (place_at s (i + 1)).ahead ≤ length (place_at s i).ahead))
bytes-on test s u i c d start lt is next e =
    let first = and_parts (is_ascii c) _ e in
    let second = and_parts (is_ascii d) _ first.1 in
    let z = place_at s i in
    let one = IsStep-from_ascii s u i c start (omega (arith, lt)) is (below-128 c first.0) in
    let two = IsStep-from_ascii s u (i + 1) d one.boundary lt next (below-128 d second.0) in
    let after : scout 1 z ≡ Some d = sym (two-scout z (place_at s (i + 1)) (Some d) one.moves (sym two.next)) in (
      one.boundary,
      (
        ap (past_pairs test) one.moves ∙ pairs-on test c z (sym one.next) (ap (test c) after ∙ second.1),
        subst (λ (y : Place). length y.ahead ≤ length z.ahead) (sym one.moves) (moved-less 1 z.before z.ahead),
      ),
    )
  where
    below-128 : (n : ℕ) → is_ascii n ≡ true → n < 128
    below-128 n t = grind (arith, nat_tests, t)

-- the run from a place goes on at a byte offset of the text
pub record RunsOn (test : ℕ → Option ℕ → Bool) (s : List ℕ) (from : Place) (i : ℕ) : Type 0 where
  pub boundary : IsCharBoundary s i
  pub past : past_pairs test (place_at s i) ≡ past_pairs test from
  pub shorter : length (place_at s i).ahead ≤ length from.ahead

module _ (test : ℕ → Option ℕ → Bool) (s : List ℕ) (u : IsUtf8 s) (from : Place) where
  -- so it does after a byte that passes
  pub runs-on : (i j : ℕ) → j ≡ i + 1 → RunsOn test s from i → j < length s → bytes_pass test (get_or s i 0) (get_or s j 0) ≡ true → RunsOn test s from j
  runs-on i j next r lt e =
      let P : ℕ → Type 0 = λ k. k < length s → bytes_pass test (get_or s i 0) (get_or s k 0) ≡ true → RunsOn test s from k in
      subst P (sym next) (λ lt e.
      let on = bytes-on test s u i _ _ r.boundary lt refl refl e in
      record { boundary = on.0; past = on.1.0 ∙ r.past; shorter = omega (arith, on.1.1, r.shorter) }) lt e

  -- and after four of them
  pub runs-on-four : (i : ℕ) → RunsOn test s from i → i + 4 < length s → four_pass test s i ≡ true → RunsOn test s from (i + 4)
  runs-on-four i r lt e = grind (arith, and_parts, runs-on)

-- ---- what a cursor does

pub covers-pairs : (test : ℕ → Option ℕ → Bool) (v : Sight) → Covers v → Covers (went_past_pairs test v)
covers-pairs test v h = let n = pairs_len test v.place.ahead in covers-went n (saw (suc n) v) (covers-saw (suc n) v h)

-- what was gone past was looked at
pub pairs-seen : (test : ℕ → Option ℕ → Bool) (v : Sight) → saw 1 (went_past_pairs test v) ≡ went_past_pairs test v
pairs-seen test v = grind (arith, same-sight, far-moved)

-- ---- what a machine takes, it takes at once

module _ {A M : Type 0} (m : Machine M) (state : M) (test : ℕ → Option ℕ → Bool) (k : M → Reader M A)
    (goes : (c : ℕ) (b a : List ℕ) → test c (slice_get a 0) ≡ true → ask (m state) (place b (c ∷ a)) ≡ go state)
    (looks : (c : ℕ) (b a : List ℕ) → test c (slice_get a 0) ≡ true → (f : ℕ) × ((glimpse (m state) (place b (c ∷ a)) ≡ record { back = 0; front = f }) × (f ≤ 2))) where
  abbrev ahead_of : List ℕ → List ℕ → ℕ → ℕ → Sight
  ahead_of b a r l = record { place = place b a; reach = r; least = l }

  abbrev read : Sight → A × Sight
  read v = sight (eat_span m state k) v

  stays : (b a : List ℕ) (r l : ℕ) → Covers (ahead_of b a r l) → pairs_len test a ≡ 0 → read (ahead_of b a r l) ≡ read (went_past_pairs test (ahead_of b a r l))
  stays b a r l h e =
      sym (sight-first m state k b a r l h)
      ∙ ap read (sym (went-nowhere (saw 1 (ahead_of b a r l)) (covers-saw 1 (ahead_of b a r l) h)))
      ∙ ap (λ n. read (went n (saw (suc n) (ahead_of b a r l)))) (sym e)

  -- who goes on may have looked at the place that comes next then
  looked : (f c : ℕ) (b a : List ℕ) (r l : ℕ) → f ≤ 2 → Covers (ahead_of b (c ∷ a) r l) → read (went 1 (saw f (saw 1 (ahead_of b (c ∷ a) r l)))) ≡ read (went 1 (saw 1 (ahead_of b (c ∷ a) r l)))
  looked zero c b a r l le h = ap read (same-sight _ _ _ _ _ _ refl (omega (arith, far-none (place b (c ∷ a)), far-le 1 (place b (c ∷ a)))) refl)
  looked (suc zero) c b a r l le h = ap read (same-sight _ _ _ _ _ _ refl (omega arith) refl)
  looked (suc (suc zero)) c b a r l le h =
      let v = ahead_of b (c ∷ a) r l in
      let w = went 1 (saw 1 v) in
      ap read (same-sight _ (place (c ∷ b) a) _ (max w.reach (far 1 (place (c ∷ b) a))) _ l refl (omega (arith, far-on 1 c b a)) refl)
      ∙ sight-first m state k (c ∷ b) a w.reach l (covers-went 1 (saw 1 v) (covers-saw 1 v h))
  looked (suc (suc (suc n))) c b a r l le h = absurd (omega arith)

  abbrev Past : List ℕ → List ℕ → ℕ → ℕ → Type 0
  Past b a r l = Covers (ahead_of b a r l) → read (ahead_of b a r l) ≡ read (went_past_pairs test (ahead_of b a r l))

  by-test : (b a : List ℕ) (r l c : ℕ) (t : Bool) → test c (slice_get a 0) ≡ t → ((r : ℕ) → Past (c ∷ b) a r l) → Past b (c ∷ a) r l
  by-test b a r l c false e rest h = stays b (c ∷ a) r l h (len-off test c a e)
  by-test b a r l c true e rest h =
      let v = ahead_of b (c ∷ a) r l in
      let w = went 1 (saw 1 v) in
      let s = looks c b a e in
      sight-turn m state k c b a r l (go state) (goes c b a e) h
      ∙ ap (λ x. read (went 1 (saw_by x (saw 1 v)))) s.1.0
      ∙ ap (λ x. read (went 1 x)) (saw-ahead s.0 (saw 1 v) (covers-saw 1 v h))
      ∙ looked s.0 c b a r l s.1.1 h
      ∙ rest w.reach (covers-went 1 (saw 1 v) (covers-saw 1 v h))
      ∙ ap read (went-on (pairs_len test a) r l c b a)
      ∙ ap (λ n. read (went n (saw (suc n) v))) (sym (len-on test c a e))

  pub sight-pairs : (b a : List ℕ) (r l : ℕ) → Past b a r l
  sight-pairs b [] r l h = stays b [] r l h refl
  sight-pairs b (c ∷ a) r l h = by-test b a r l c (test c (slice_get a 0)) refl (λ s. sight-pairs (c ∷ b) a s l) h
