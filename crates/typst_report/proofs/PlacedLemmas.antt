-- One more finding with its places.
use Rattle.typst_report.proofs.Cited.{◌≡◌, ℕ, ◌+◌, ◌<◌, List, [], ◌∷◌, ◌++◌, length, get_or, take, map, ap, sym, ◌∙◌, refl, map-append, take_more, Located, as_reported, ArePlaced, IsPlaced, Placed, as_placed, IsPlaceOf, Reported, All-push, LineColumn}
use Rattle.typst_report.specs.declared.finding.Finding.{Finding}

placed_push : (text : List ℕ) (all : List Reported) (t : Reported) (ps : List Placed) (p : Placed) → ArePlaced text all ps → p.reported ≡ t → IsPlaced text p → ArePlaced text (all ++ t ∷ []) (ps ++ p ∷ [])
placed_push text all t ps p before same here = record {
  same = map-append (λ (q : Placed). q.reported) ps (p ∷ []) ∙ ap (λ ts. ts ++ p.reported ∷ []) before.same ∙ ap (λ u. all ++ u ∷ []) same;
  places = All-push (IsPlaced text) ps p before.places here;
}

pub placed_more : (text : List ℕ) (found : List Finding) (all : List Located) (n : ℕ) (f : Finding) (start end : LineColumn) → n < length found → f ≡ get_or found n f → IsPlaceOf text f.start start → IsPlaceOf text f.end end
    → ArePlaced text (map as_reported (take n found)) (map as_placed all)
    → ArePlaced text (map as_reported (take (n + 1) found)) (map as_placed (all ++ record { finding = f; start = start; end = end } ∷ []))
placed_more text found all n f start end within is from to before =
    let l : Located = record { finding = f; start = start; end = end } in
    let reported : map as_reported (take (n + 1) found) ≡ map as_reported (take n found) ++ as_reported f ∷ [] =
    ap (map as_reported) (take_more found n f within ∙ ap (λ g. take n found ++ g ∷ []) (sym is)) ∙ map-append as_reported (take n found) (f ∷ []) in
    rw (reported, map-append as_placed all (l ∷ [])) (placed_push text (map as_reported (take n found)) (as_reported f) (map as_placed all) (as_placed l) before refl (record { start = from; end = to }))
