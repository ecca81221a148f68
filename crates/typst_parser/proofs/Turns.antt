-- What is asked of the candidates of an edit, one after the other.
use Rattle.typst_parser.proofs.Cited.{◌≡◌, ℕ, zero, suc, ◌<◌, List, [], ◌∷◌, length, min, take, map, Option, Some, option_map, ap, sym, subst, ◌∙◌, arith, same_Some, slice_get-map, length-map, length-take, take_all, take_min, slice_get, IfSome, IsUtf8, CharClasses, Tree, Candidate, Units, front_of, rear_of, spelled, StandsIn, Among, Speaks, at_path, TextReplacement, Holds, Makes, candidates, CanTake, TakesPlace, GoesOn, ServesFor, ServesOr, Asked, Serving, Note, Written}
use Rattle.typst_candidates.specs.declared.candidate.Candidate as code
use Rattle.typst_candidates.specs.Candidates as candidate
use Rattle.typst_edits.specs.Edit.Among.{this, that}
use Rattle.typst_parser.proofs.Answering.{candidate-stands, candidates-are, entries-are}
use Rattle.typst_parser.proofs.Numbers.{entries-written}
use Rattle.typst_parser.proofs.Serving.{ServesAt, at-for}

pub among-at : {X : Type 0} (xs : List X) (i : ℕ) (x : X) → slice_get xs i ≡ Some x → Among x xs
among-at [] i x h = absurd (cc)
among-at (y ∷ ys) zero x h = subst (λ z. Among x (z ∷ ys)) (sym (same_Some y x h)) (this ys)
among-at (y ∷ ys) (suc i) x h = that y ys (among-at ys i x h)

module _ {C : Type 0} (k : CharClasses) (c : TextReplacement) (root : Tree) (units : Units) (holds : Holds k c root units) (q : Asked C) (makes : Makes c q.new.now q.edit) where
  -- what is asked speaks of the change
  pub asked-speaks : IsUtf8 q.new.now → q.front ≡ front_of q.edit.start 0 units.entries → q.rear ≡ rear_of q.edit.old_end 0 0 units.entries units.back → Speaks k c q root units
  asked-speaks text front rear = grind arith

  -- what is found are the first candidates of the edit
  pub found-first : (most : ℕ) (xs : List Candidate) → ((ns : List Note) → Written units.entries ns → xs ≡ take most (candidate.candidates ns q.edit.start q.edit.old_end root)) → xs ≡ take most (candidates k c root)
  found-first most xs found = grind (arith, entries-are, entries-written, candidates-are)

-- ---- so many of a list

within-first : {X : Type 0} (n : ℕ) (xs : List X) (i : ℕ) (x : X) → slice_get (take n xs) i ≡ Some x → slice_get xs i ≡ Some x
within-first zero xs i x h = absurd (cc)
within-first (suc n) [] i x h = h
within-first (suc n) (y ∷ ys) zero x h = h
within-first (suc n) (y ∷ ys) (suc i) x h = within-first n ys i x h

module _ (path : List ℕ) (items : List code.Candidate) (most : ℕ) (cs : List Candidate) (are : map (spelled path) items ≡ take most cs) where
  pub counted : length items ≡ min most (length cs)
  counted = sym (length-map items (spelled path)) ∙ (ap (λ (xs : List Candidate). length xs) are ∙ length-take most cs)

  -- they are as many of the first as they are
  pub as-many : map (spelled path) items ≡ take (length items) cs
  as-many = are ∙ (sym (take_min most cs) ∙ ap (λ n. take n cs) (sym counted))

  -- with room for more they are all
  pub are-all : length items < most → take (length items) cs ≡ cs
  are-all room = take_all (length items) cs (let n = counted in omega (arith, room, n))

-- ---- one of them

module _ {C : Type 0} {k : CharClasses} {c : TextReplacement} {root : Tree} {units : Units} {q : Asked C} (speaks : Speaks k c q root units)
    (path : List ℕ) (items : List code.Candidate) (first : map (spelled path) items ≡ take (length items) (candidates k c root)) (i : ℕ) {d : code.Candidate} (at : slice_get items i ≡ Some d) {way : List ℕ} (way_is : way ≡ take d.depth path) where
  pub here-at : slice_get (candidates k c root) i ≡ Some (at_path way d)
  here-at =
      within-first (length items) (candidates k c root) i (spelled path d) (ap (λ xs. slice_get xs i) (sym first) ∙ slice_get-map (spelled path) items i ∙ ap (option_map (spelled path)) at)
      ∙ ap (λ p. Some (at_path p d)) (sym way_is)

  here-among : Among (at_path way d) (candidates k c root)
  here-among = among-at (candidates k c root) i (at_path way d) here-at

  pub here-stands : StandsIn root (at_path way d)
  here-stands = candidate-stands k c root units speaks.holds (at_path way d) here-among

  module _ (was s : Option Serving) (so_far : ServesAt k c root path was) (goes : IfSome s (λ x. (was ≡ Some x) × GoesOn d x)) {r : Tree} (r_is : r ≡ root) {u : Units} (u_is : u ≡ units) where
    here-serves : ServesFor k c root way d s
    here-serves = subst (λ p. ServesFor k c root p d s) (sym way_is) (at-for k c root path d was s so_far goes)

    here-speaks : Speaks k c q r u
    here-speaks = subst (λ x. Speaks k c q x u) (sym r_is) (subst (λ v. Speaks k c q root v) (sym u_is) speaks)

    there-among : Among (at_path way d) (candidates k c r)
    there-among = subst (λ x. Among (at_path way d) (candidates k c x)) (sym r_is) here-among

    there-serves : ServesFor k c r way d s
    there-serves = subst (λ x. ServesFor k c x way d s) (sym r_is) here-serves

    -- the next candidate can be taken
    pub can-take : CanTake k q r u way d s
    can-take = record { change = c; speaks = here-speaks; among = there-among; serves = there-serves }

    -- what comes of it
    pub took : (now : Tree) (units_now : Units) (end : Option ℕ) (t : Option Serving)
        → ((c : TextReplacement) → Speaks k c q r u → Among (at_path way d) (candidates k c r) → ServesFor k c r way d s → TakesPlace k c (at_path way d) r now units_now end × ServesOr k c r way d.depth t)
        → TakesPlace k c (at_path way d) root now units_now end × ServesOr k c root way d.depth t
    took now units_now end t taken = subst (λ x. TakesPlace k c (at_path way d) x now units_now end × ServesOr k c x way d.depth t) r_is (taken c here-speaks there-among there-serves)
