use Rattle.typst_parser.proofs.Cited.{common_steps, ◌≡◌, ℕ, ◌+◌, ◌-◌, ◌<◌, ◌≤◌, ◌^◌, suc, false, List, drop, length, get_or, get_or-drop, take, Some, Ok, refl, sym, ap, ◌∙◌, subst, arith, length-drop, take_rest, slice_get-get_or, slice_get, IsBoundary, Tree, text_of, trees, LeadsBy, Refused, HasTaken, NonePassesOf, TakesPlace, first_changed, ServesOr}
use Rattle.typst_candidates.specs.declared.candidate.Candidate as code
use Rattle.typst_parser.proofs.Answering.{each-fewer, each-next, root-fits, takes-it}
use Rattle.typst_parser.proofs.KeptBoundaries.{boundary-kept, changed-within, leads-fewer}
use Rattle.typst_parser.proofs.Serving.{or-at}
use Rattle.typst_parser.proofs.Turns.{can-take, here-at, here-stands, took}
use Rattle.typst_parser.proofs.edited.take_first.Goals as goal

-- what would stand where there is no candidate
abbrev none_found : code.Candidate
none_found = record { is_block = false; depth = 0; from = 0; to = 0; start = 0; end = 0 }

-- the candidate of a turn, of those from a number on
abbrev rest_from : List code.Candidate → ℕ → List code.Candidate
rest_from all from = take (length all - from) (drop from all)

abbrev turn_of : List code.Candidate → ℕ → ℕ → code.Candidate
turn_of all from n = get_or (rest_from all from) n none_found

rest-is : (all : List code.Candidate) (from : ℕ) (items : List code.Candidate) → all ≡ items → rest_from all from ≡ drop from items
rest-is all from items same = take_rest all from ∙ ap (drop from) same

long-is : (all : List code.Candidate) (from : ℕ) (items : List code.Candidate) → all ≡ items → length (rest_from all from) ≡ length items - from
long-is all from items same = ap (λ (xs : List code.Candidate). length xs) (rest-is all from items same) ∙ length-drop from items

item-at : (all : List code.Candidate) (from n : ℕ) (items : List code.Candidate) → all ≡ items → n < length (rest_from all from) → slice_get items (from + n) ≡ Some (turn_of all from n)
item-at all from n items same less = grind (arith, slice_get-get_or, long-is, rest-is, get_or-drop)

pub loop-candidate-init : goal.loop-candidate-init
loop-candidate-init g c = grind arith

pub place_before-boundary-requires : goal.place_before-boundary-requires
place_before-boundary-requires g c =
    let speaks = c.requires.some.speaks in
    let got = item-at _ _ _ _ c.deref.ensures.value c.loop-candidate-test.true in
    let way_is = c.front_of-path.ensures ∙ ap (take _) c.deref-in-loop-candidate.ensures.value in
    let same = c.loop-candidate.invariant.same in
    let within = changed-within _ _ _ _ (here-stands speaks _ _ c.requires.some.first _ got way_is) c.requires.some.edge in
    record {
      fits = subst (λ (t : Tree). length (text_of t) < 2 ^ 64) (sym same) (root-fits _ _ _ _ speaks.holds _ _ speaks.makes);
      known = c.loop-candidate.invariant.between;
      within = subst (λ (t : Tree). c.first_changed-index.result ≤ length (trees t.kids)) (sym same) (subst (λ (i : ℕ). i ≤ length (trees c.args.root.now.kids)) (sym c.first_changed-index.ensures) within);
    }

pub take_place-requires : goal.take_place-requires
take_place-requires g c =
    let speaks = c.requires.some.speaks in
    let first = c.requires.some.first in
    let got = item-at _ _ _ _ c.deref.ensures.value c.loop-candidate-test.true in
    grind (arith, common_steps, can-take)

pub returns-in-Some-clause-first : goal.returns-in-Some-clause-first
returns-in-Some-clause-first g c = λ ch speaks first before.
    let root = c.args.root.now in
    let got = item-at _ _ _ _ c.deref.ensures.value c.loop-candidate-test.true in
    let way_is = c.front_of-path.ensures ∙ ap (take _) c.deref-in-loop-candidate.ensures.value in
    let inv = c.loop-candidate.invariant in
    let taken = took speaks _ _ first _ got way_is _ _ (inv.serves ch speaks first) c.serving_of-serving.ensures inv.same inv.units _ _ _ _ c.in_ok-end.ensures.taken in
    takes-it _ _ root _ speaks.holds _ refl _ _ _ _ _ (here-at speaks _ _ first _ got way_is) (inv.refused ch speaks first before) (subst (TakesPlace _ ch _ root c.take_place.new.root c.take_place.new.records.units) c.in-Some.is taken.0)

pub returns-in-Some-clause-boundary : goal.returns-in-Some-clause-boundary
returns-in-Some-clause-boundary g c =
    let root = c.args.root.now in
    let speaks = c.requires.some.speaks in
    let first = c.requires.some.first in
    let got = item-at _ _ _ _ c.deref.ensures.value c.loop-candidate-test.true in
    let way_is = c.front_of-path.ensures ∙ ap (take _) c.deref-in-loop-candidate.ensures.value in
    let inv = c.loop-candidate.invariant in
    let step = c.args.found.now.first.index in
    let d = turn_of c.deref.result.now c.args.from c.loop-candidate.candidate-index in
    let taken = took speaks _ _ first _ got way_is _ _ (inv.serves c.requires.some.change speaks first) c.serving_of-serving.ensures inv.same inv.units _ _ _ _ c.in_ok-end.ensures.taken in
    let put : HasTaken _ _ _ root c.take_place.new.root c.take_place.new.records.units c.in-Some.end = subst (TakesPlace _ c.requires.some.change _ root c.take_place.new.root c.take_place.new.records.units) c.in-Some.is taken.0 in
    let leads = subst (LeadsBy step) (sym way_is) (leads-fewer step d.depth c.args.found.now.path.items c.requires.some.way) in
    let b = c.place_before-boundary.result in
    let low : b.index ≤ first_changed c.front_of-path.result.now d step = subst (λ (i : ℕ). b.index ≤ i) c.first_changed-index.ensures c.place_before-boundary.ensures.index in
    boundary-kept root _ _ _ put.nodes step b (here-stands speaks _ _ first _ got way_is) put.put leads low (subst (λ (t : Tree). IsBoundary t b) inv.same c.place_before-boundary.ensures.boundary)

pub loop-candidate-preserved : goal.loop-candidate-preserved
loop-candidate-preserved g c =
    let k = g.C.Classes.classes c.args.asked.now.classes.now in
    let root = c.args.root.now in
    let n = c.args.from + c.loop-candidate.candidate-index in
    let d = turn_of c.deref.result.now c.args.from c.loop-candidate.candidate-index in
    let got = item-at _ _ _ _ c.deref.ensures.value c.loop-candidate-test.true in
    let way_is = c.front_of-path.ensures ∙ ap (take _) c.deref-in-loop-candidate.ensures.value in
    let inv = c.loop-candidate.invariant in
    let undone = c.in_ok-end.ensures.undone (ap (λ o. Ok o) c.in_default.is) in
    let next : suc n ≡ c.args.from + (c.loop-candidate.candidate-index + 1) = omega arith in
    record {
      same = undone.0 ∙ inv.same;
      units = undone.1 ∙ inv.units;
      refused = λ ch speaks first before. (
          let taken = took speaks _ _ first _ got way_is _ _ (inv.serves ch speaks first) c.serving_of-serving.ensures inv.same inv.units _ _ _ _ c.in_ok-end.ensures.taken in
          let here = subst (TakesPlace _ ch _ root c.take_place.new.root c.take_place.new.records.units) c.in_default.is taken.0 in
          subst (NonePassesOf _ ch root) next (each-next (Refused _ ch root) _ n _ (here-at speaks _ _ first _ got way_is) (inv.refused ch speaks first before) here));
      serves = λ ch speaks first. (
          let taken = took speaks _ _ first _ got way_is _ _ (inv.serves ch speaks first) c.serving_of-serving.ensures inv.same inv.units _ _ _ _ c.in_ok-end.ensures.taken in
          or-at k ch root c.args.found.now.path.items d.depth c.take_place.new.serving (subst (λ p. ServesOr k ch root p d.depth c.take_place.new.serving) way_is taken.1));
      between = subst (λ (t : Tree). IsBoundary t c.place_before-boundary.result) (sym undone.0) c.place_before-boundary.ensures.boundary;
    }

pub returns-clause-first : goal.returns-clause-first
returns-clause-first g c = grind (arith, long-is, each-fewer)
