-- Machines, taken one character after the other.
use Rattle.typst_tokens.proofs.Cited.{◌≡◌, ℕ, suc, max, List, [], ◌∷◌, length, refl, sym, ap, ◌∙◌, arith, Place, moved_from, leave, last, go, far, Sight, Covers, saw, saw_by, went, sight}
use Rattle.typst_tokens.specs.Reader.{place, both, widened, from_before, Look, ask, glimpse, Machine, Turn, spanned, span_look, Reader, eat_span}
use Rattle.typst_tokens.proofs.Frame.{turned, turn_look}
use Rattle.typst_tokens.proofs.Sights.{far-none, far-le, far-on, same-sight, covers-saw, covers-saw_by, saw-both, saw-nothing, saw-ahead, saw-before, went-nowhere}

-- what is read after the turn at a character
abbrev pub turned_sight : {A M : Type 0} → Machine M → M → (M → Reader M A) → Sight → Turn M → A × Sight
turned_sight m state k w t = elim t [ leave ↦ sight (k state) w | last after ↦ sight (k after) (went 1 w) | go after ↦ sight (eat_span m after k) (went 1 w) ]

-- one place ahead is looked at in any case
one_ahead : (r : ℕ) (z : Place) → max (max r (far 1 z)) (far 1 z) ≡ max r (far 1 z)
one_ahead r z = omega arith

pub saw-twice : (v : Sight) → saw 1 (saw 1 v) ≡ saw 1 v
saw-twice v = same-sight _ _ _ _ _ _ refl (one_ahead v.reach v.place) refl

module _ {A M : Type 0} (m : Machine M) (state : M) (k : M → Reader M A) (c : ℕ) (b a : List ℕ) (r l : ℕ) where
  abbrev at_c : Sight
  at_c = record { place = place b (c ∷ a); reach = r; least = l }

  abbrev looks : Look
  looks = glimpse (m state) (place b (c ∷ a))

  -- after the looks of the turn itself
  abbrev turning : Sight
  turning = saw_by looks (saw 1 at_c)

  abbrev through : Turn M → A × Sight
  through t = let s = turned m state b c a t in sight (k s.1) (went (length s.0) (saw_by (widened 0 1 (both looks (turn_look m b c a t))) at_c))

  same-looks : (t : Turn M) → Covers at_c → saw_by (widened 0 1 (both looks (turn_look m b c a t))) at_c ≡ saw_by (turn_look m b c a t) turning
  same-looks t h =
      saw-both (record { back = 0; front = 1 }) (both looks (turn_look m b c a t)) at_c
      ∙ saw-both looks (turn_look m b c a t) (saw_by (record { back = 0; front = 1 }) at_c)
      ∙ ap (λ v. saw_by (turn_look m b c a t) (saw_by looks v)) (saw-ahead 1 at_c h)

  covered : Covers at_c → Covers turning
  covered h = covers-saw_by looks (saw 1 at_c) (covers-saw 1 at_c h)

  went-more : (n : ℕ) (s : Look) → Covers turning → went (suc n) (saw_by (from_before (c ∷ a) s) turning) ≡ went n (saw_by s (went 1 turning))
  went-more n s h =
      ap (λ e. record { place = moved_from n (c ∷ b) a; reach = max (saw_by (from_before (c ∷ a) s) turning).reach e; least = (saw_by (from_before (c ∷ a) s) turning).least }) (far-on n c b a)
      ∙ ap (went n) (saw-before s turning.reach turning.least b (c ∷ a) h)

  by-turn : (t : Turn M) → Covers at_c → through t ≡ turned_sight m state k turning t
  by-turn leave h = ap (λ v. sight (k state) (went 0 v)) (same-looks leave h ∙ saw-nothing turning (covered h)) ∙ ap (sight (k state)) (went-nowhere turning (covered h))
  by-turn (last after) h = ap (λ v. sight (k after) (went 1 v)) (same-looks (last after) h ∙ saw-nothing turning (covered h))
  by-turn (go after) h =
      let s = spanned m after (c ∷ b) a in
      ap (λ v. sight (k s.1) (went (suc (length s.0)) v)) (same-looks (go after) h)
      ∙ ap (sight (k s.1)) (went-more (length s.0) (span_look m after (c ∷ b) a) (covered h))

  pub sight-turn : (t : Turn M) → ask (m state) (place b (c ∷ a)) ≡ t → Covers at_c → sight (eat_span m state k) at_c ≡ turned_sight m state k turning t
  sight-turn t e h = ap through e ∙ by-turn t h

-- at the end nothing is taken
pub sight-end : {A M : Type 0} (m : Machine M) (state : M) (k : M → Reader M A) (b : List ℕ) (r l : ℕ) → Covers (record { place = place b []; reach = r; least = l })
    → sight (eat_span m state k) (record { place = place b []; reach = r; least = l }) ≡ sight (k state) (saw 1 (record { place = place b []; reach = r; least = l }))
sight-end m state k b r l h =
    let v : Sight = record { place = place b []; reach = r; least = l } in
    ap (λ w. sight (k state) (went 0 w)) (saw-ahead 1 v h) ∙ ap (sight (k state)) (went-nowhere (saw 1 v) (covers-saw 1 v h))

-- the first place ahead may as well be looked at before
pub sight-first : {A M : Type 0} (m : Machine M) (state : M) (k : M → Reader M A) (b a : List ℕ) (r l : ℕ) → Covers (record { place = place b a; reach = r; least = l })
    → sight (eat_span m state k) (saw 1 (record { place = place b a; reach = r; least = l })) ≡ sight (eat_span m state k) (record { place = place b a; reach = r; least = l })
sight-first m state k b [] r l h = grind arith
sight-first m state k b (c ∷ a) r l h =
    let v : Sight = record { place = place b (c ∷ a); reach = r; least = l } in
    let t = ask (m state) (place b (c ∷ a)) in
    sight-turn m state k c b a (max r (far 1 (place b (c ∷ a)))) l t refl (covers-saw 1 v h)
    ∙ ap (λ w. turned_sight m state k (saw_by (glimpse (m state) (place b (c ∷ a))) w) t) (saw-twice v)
    ∙ sym (sight-turn m state k c b a r l t refl h)

-- ---- one character on

pub went-on : (n r l c : ℕ) (b a : List ℕ)
    → went n (saw (suc n) (went 1 (saw 1 (record { place = place b (c ∷ a); reach = r; least = l })))) ≡ went (suc n) (saw (suc (suc n)) (record { place = place b (c ∷ a); reach = r; least = l }))
went-on n r l c b a = grind (arith, same-sight, far-on, far-none, far-le)
