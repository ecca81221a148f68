-- What two lists have in common at the front and at the end.
use Rattle.typst_styles.proofs.Cited.{◌≡◌, ◌≢◌, ℕ, ◌+◌, ◌-◌, ◌<◌, ◌≤◌, List, ◌++◌, length, take, drop, ap, ◌∙◌, arith, length-drop, inl, inr, slice_get, slice_range, leb_tells, take-append-drop, drop-drop}
use Rattle.std.proofs.lemmas.List.Folds.{drop_split}
use Rattle.std.proofs.lemmas.Option.{slice_get_past, slice_get-get_or}

-- with what is common set aside, what is left of the new list makes it of the old one
pub made_by_ends : (old new os ns : List ℕ) (f e : ℕ) → os ≡ drop f old → ns ≡ drop f new → f ≤ length old → f ≤ length new → take f old ≡ take f new → e ≤ length os → e ≤ length ns → drop (length os - e) os ≡ drop (length ns - e) ns → new ≡ take f old ++ (slice_range new f (length new - e) ++ drop (f + (length old - e - f)) old)
made_by_ends old new os ns f e is_old is_new fo fn front eo en end = grind (arith, length-drop, drop-drop, drop_split, take-append-drop)

-- behind what is common at the front the lists differ
pub front_differs : (old new os : List ℕ) (f e : ℕ) → os ≡ drop f old → f ≤ length old → f ≤ length new → (f < length old → slice_get old f ≢ slice_get new f) → e ≤ length os → (f ≡ length old - e → f ≡ length new - e → ⊥) → slice_get old f ≢ slice_get new f
front_differs old new os f e is_old fo fn differs eo apart =
    let o : length os ≡ length old - f = ap length is_old ∙ length-drop f old in
    elim (leb_tells (length old) f) [
      | inl past ↦
          let here : f ≡ length old - e = omega (arith, o, eo, fo, past.1) in
          elim (leb_tells (length new) f) [
            | inl both ↦ absurd (apart here (omega (arith, o, eo, fo, fn, past.1, both.1)))
            | inr more ↦ λ p. cc (slice_get_past old f past.1, slice_get-get_or new f 0 more.1, p)
          ]
      | inr inside ↦ differs inside.1
    ]
