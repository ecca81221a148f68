-- Machines that look at one character after the other.
use Rattle.typst_tokens.proofs.Cited.{◌≡◌, ◌<◌, ℕ, List, [], ◌∷◌, slice_get, refl, sym, ap, ◌∙◌, arith, Some, None, scout, last, go, position, Sight, Covers, saw, went, sight}
use Rattle.typst_tokens.specs.Reader.{place, Turn, Reader, by_character, eat_span}
use Rattle.typst_tokens.proofs.Sights.{covers-saw, position-step, saw-ahead, went-seen}
use Rattle.typst_tokens.proofs.Spans.{saw-twice, sight-turn, sight-end, turned_sight}

module _ {A M : Type 0} (step : M → ℕ → Turn M) (state : M) (k : M → Reader M A) where
  step-at : (c r l : ℕ) (b a : List ℕ) → Some c ≡ slice_get a 0 → Covers (record { place = place b a; reach = r; least = l })
      → sight (eat_span (by_character step) state k) (record { place = place b a; reach = r; least = l }) ≡ turned_sight (by_character step) state k (saw 1 (record { place = place b a; reach = r; least = l })) (step state c)
  step-at c r l b [] e h = absurd (cc)
  step-at c r l b (d ∷ a) e h =
      let v : Sight = record { place = place b (d ∷ a); reach = r; least = l } in
      let same : d ≡ c = cc in
      sight-turn (by_character step) state k d b a r l (step state d) refl h
      ∙ ap (λ w. turned_sight (by_character step) state k w (step state d)) (saw-ahead 1 (saw 1 v) (covers-saw 1 v h) ∙ saw-twice v)
      ∙ ap (λ x. turned_sight (by_character step) state k (saw 1 v) (step state x)) same

  -- it takes the character and goes on
  pub step-go : (after : M) (c : ℕ) (v w : Sight) → Covers v → Some c ≡ scout 0 v.place → w ≡ went 1 v → step state c ≡ go after
      → sight (eat_span (by_character step) state k) v ≡ sight (eat_span (by_character step) after k) w
  step-go after c v w h e f t =
      step-at c v.reach v.least v.place.before v.place.ahead e h
      ∙ ap (turned_sight (by_character step) state k (saw 1 v)) t
      ∙ ap (sight (eat_span (by_character step) after k)) (went-seen v ∙ sym f)

  -- it takes the character as its last
  pub step-last : (after : M) (c : ℕ) (v w : Sight) → Covers v → Some c ≡ scout 0 v.place → w ≡ went 1 v → step state c ≡ last after
      → sight (eat_span (by_character step) state k) v ≡ sight (k after) w
  step-last after c v w h e f t =
      step-at c v.reach v.least v.place.before v.place.ahead e h
      ∙ ap (turned_sight (by_character step) state k (saw 1 v)) t
      ∙ ap (sight (k after)) (went-seen v ∙ sym f)

  -- the text ends
  pub step-end : (v : Sight) → Covers v → None ≡ scout 0 v.place → sight (eat_span (by_character step) state k) v ≡ sight (k state) (saw 1 v)
  step-end v h e = at-end v.place.before v.place.ahead v.reach v.least h e
    where
      at-end : (b a : List ℕ) (r l : ℕ) → Covers (record { place = place b a; reach = r; least = l }) → None ≡ slice_get a 0
          → sight (eat_span (by_character step) state k) (record { place = place b a; reach = r; least = l }) ≡ sight (k state) (saw 1 (record { place = place b a; reach = r; least = l }))
      at-end b [] r l h e = sight-end (by_character step) state k b r l h
      at-end b (d ∷ a) r l h e = absurd (cc)

-- who reaches the end by eating looked at it
pub end-seen : (v : Sight) → None ≡ scout 0 v.place → saw 1 v ≡ went 1 v
end-seen v e = grind arith

-- a step takes a byte at least
pub step-grows : (c : ℕ) (v w : Sight) → Some c ≡ scout 0 v.place → w ≡ went 1 v → position v.place < position w.place
step-grows c v w e f = omega (arith, position-step c v.place e, ap (λ (x : Sight). position x.place) f)
