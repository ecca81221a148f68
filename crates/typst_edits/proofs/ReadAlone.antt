-- Pieces of a run that are read by themselves on a new text are those that the run has there: for any run.
use Rattle.typst_edits.proofs.Cited.{◌≡◌, ℕ, zero, suc, ◌+◌, ◌<◌, if◌then◌else◌, ne_eqb, Bool, true, List, [], ◌∷◌, ◌++◌, length, drop, Some, refl, ap, sym, ◌∙◌, subst, arith, Place, moved, CharClasses, Tree, Outcome, Trivia, Point, gap_of, pending, hinted, moved-sum, drop-all, together, Run, read_as, opened_by, cut_at, end_by, is_over, nodes_now, Agrees, Before, After, first_place, TakesNone, fresh, read_again, AllGo, End, end_of, Sequence, first_of, first_end, then_of, then_end, GivesPieces, ReadsPieces, end_alone, read_alone, again_end, TextReplacement, text_before, start_before, start_after}
use Rattle.typst_grammar.specs.Pieces.{given}
use Rattle.typst_edits.proofs.Turns.{none-less}
use Rattle.typst_edits.proofs.Children.{given-together}
use Rattle.typst_edits.proofs.Joint.{first-now, is-run, same-start}
use Rattle.typst_edits.proofs.Leading.{place-of}
use Rattle.typst_edits.proofs.OneReading.{gives-again-law, still-clear}
use Rattle.typst_edits.proofs.RunPieces.{cut-some}
use Rattle.typst_edits.proofs.Resumed.{ReadsMarkup, known-after, markup-of, then-known, stand-too, fresh-after}

-- ---- the nodes of pieces

hinted-empty : (hs : List (List ℕ)) → hinted hs [] ≡ []
hinted-empty [] = refl
hinted-empty (h ∷ hs) = refl

pub given-nodes : (s : Point) (os : List (Outcome (Bool × (Bool × ℕ)))) → (together s os).nodes ≡ given os []
given-nodes s os = let o = together s os in sym (given-together s os [] ∙ ap (λ ts. ts ++ o.nodes) (ap (hinted o.hints) (none-less o.back) ∙ hinted-empty o.hints))

-- ---- a run in two texts

module _ (k : CharClasses) (edit : TextReplacement) (r : Run k (text_before edit)) where
  abbrev z : Place
  z = start_before edit

  abbrev w : Place
  w = start_after edit

  abbrev p : Sequence
  p = read_as r z

  abbrev q : Sequence
  q = read_as r w

  abbrev markup : ReadsMarkup q
  markup = markup-of k q (is-run r w)

  -- where the pieces after the first i begin, and what is carried there
  abbrev at_cut : ℕ → Place
  at_cut i = moved (cut_at r i z) w

  abbrev carried : ℕ → Bool × ℕ
  carried i = (first_end i p).value

  -- WHAT A RUN GIVES: its pieces, read by themselves from where it begins, are those that stand there.
  pub record Rereads : Type 0 where
    -- where the run begins, and no errors stand before it
    pub start_known : q.point.known ≡ (fresh q.level q.place).known
    pub start_same : p.point.empties ≡ 0 → Before k edit r 0 → (m : ℕ) → AllGo (then_of 0 m q) → then_of 0 m q ≡ read_alone q (true, 0) m q.place
    pub start_goes : p.point.empties ≡ 0 → Before k edit r 0 → (m : ℕ) → AllGo (read_alone q (true, 0) m q.place) → AllGo (then_of 0 m q)

  module _ (s : Rereads) where
    -- what begins after i pieces, in the new text
    pub record Begun (i : ℕ) : Type 0 where
      pub trivia : Trivia
      pub opened : opened_by r w ≡ opened_by r z
      pub same : first_end i q ≡ first_end i p
      pub known : (first_end i q).state.known ≡ Some trivia
      pub go : AllGo (first_of i q)
      pub none : TakesNone i q
      pub cut : cut_at r i z ≡ opened_by r z + ((first_end i p).taken + gap_of (first_end i p).state.known)
      pub place : moved trivia.gap (first_place i q) ≡ moved (cut_at r i z) w

    pub begun : (j : ℕ) → AllGo (first_of (suc j) p) → TakesNone (suc j) p → Before k edit r (suc j) → Begun (suc j)
    begun j g none looks =
        let i = suc j in
        let at = known-after q markup i (first-now k edit r i looks g) in
        let t = at.trivia in
        let same : first_end i q ≡ first_end i p = ap (end_of (true, 0) p.point) (same-start k edit r i looks).first in
        let opened = (same-start k edit r i looks).opened in
        let e = first_end i q in
        let taken = ap (λ (v : End (Bool × ℕ)). v.taken) same in
        let gap = ap gap_of (sym (ap (λ (v : End (Bool × ℕ)). v.state.known) same) ∙ at.is) in
        let cut : cut_at r i z ≡ opened_by r z + ((first_end i p).taken + gap_of (first_end i p).state.known) = cut-some r i z (omega arith) in
        let count : (opened_by r w + e.taken) + t.gap ≡ opened_by r z + ((first_end i p).taken + gap_of (first_end i p).state.known) = omega (arith, opened, taken, gap) in
        let steps : moved ((opened_by r w + e.taken) + t.gap) w ≡ moved t.gap (first_place i q) = moved-sum (opened_by r w + e.taken) t.gap w ∙ ap (moved t.gap) (moved-sum (opened_by r w) e.taken w ∙ ap (moved e.taken) (sym (place-of r w))) in
        record {
          trivia = t;
          opened = opened;
          same = same;
          known = at.is;
          go = first-now k edit r i looks g;
          none = still-clear k edit r i (omega arith) g looks none;
          cut = cut;
          place = sym steps ∙ ap (λ n. moved n w) (count ∙ sym cut);
        }

    -- where the run itself begins
    start-place : Before k edit r 0 → q.place ≡ at_cut 0
    start-place looks = let opened = (same-start k edit r 0 looks).opened in place-of r w ∙ ap (λ n. moved n w) (omega (arith, opened))

    -- pieces of the new text's run and those that are read from the place on, with what is carried there
    pub record Alike (i m : ℕ) (u : Trivia) : Type 0 where
      pub go : AllGo (read_alone q (carried i) m (at_cut i))
      pub sum : (let e = end_alone q (carried i) m (at_cut i) in end_by r i m u w ≡ cut_at r i z + (e.taken + gap_of e.state.known))
      pub value : (then_end i m q).value ≡ (end_alone q (carried i) m (at_cut i)).value
      pub nodes : nodes_now r i m u w ≡ given (read_alone q (carried i) m (at_cut i)) [] ++ pending (end_alone q (carried i) m (at_cut i)).state.known

    pub alike : (i m : ℕ) (u : Trivia) → AllGo (first_of i p) → p.point.empties ≡ 0 → (0 < i → TakesNone i p) → Before k edit r i → AllGo (then_of i m q) → (then_end i m q).state.known ≡ Some u → Alike i m u
    alike zero zero u g clear none looks go known =
        let behind : (fresh q.level (at_cut 0)).known ≡ Some u = ap (λ y. (fresh q.level y).known) (sym (start-place looks)) ∙ sym s.start_known ∙ known in
        record { go = tt; sum = omega (arith, (same-start k edit r 0 looks).opened, ap gap_of behind); value = refl; nodes = sym (ap pending behind) }
    alike zero (suc n) u g clear none looks go known =
        let m = suc n in
        let x : Bool × ℕ = (true, 0) in
        let place = start-place looks in
        let same = s.start_same clear looks m go in
        let os : then_of 0 m q ≡ read_alone q x m (at_cut 0) = same ∙ ap (read_alone q x m) place in
        let ends : then_end 0 m q ≡ end_alone q x m (at_cut 0) = ap (end_of x q.point) same ∙ ap (end_alone q x m) place in
        let taken = ap (λ (v : End (Bool × ℕ)). v.taken) ends in
        let behind : (end_alone q x m (at_cut 0)).state.known ≡ Some u = ap (λ (v : End (Bool × ℕ)). v.state.known) (sym ends) ∙ known in
        record {
          go = subst (λ us. AllGo us) os go;
          sum = omega (arith, (same-start k edit r 0 looks).opened, taken, ap gap_of behind);
          value = ap (λ (v : End (Bool × ℕ)). v.value) ends;
          nodes = ap (λ ts. ts ++ u.nodes) (given-nodes (then_end 0 m q).state (then_of 0 m q)) ∙ ap (λ us. given us [] ++ u.nodes) os ∙ ap (λ ts. given (read_alone q x m (at_cut 0)) [] ++ ts) (sym (ap pending behind));
        }
    alike (suc j) zero u g clear none looks go known =
        let i = suc j in
        let b = begun j g (none (omega arith)) looks in
        let new = ap (λ y. (fresh q.level y).known) (sym b.place) ∙ fresh-after q markup i b.trivia b.known in
        record {
          go = tt;
          sum = omega (arith, b.opened, b.cut, ap (λ (v : End (Bool × ℕ)). v.taken) b.same, ap (λ (v : End (Bool × ℕ)). gap_of v.state.known) b.same, ap gap_of known, ap gap_of new);
          value = ap (λ (v : End (Bool × ℕ)). v.value) b.same;
          nodes = ap (λ v. drop (if v then 0 else length (pending (first_end i q).state.known)) u.nodes) (ne_eqb i 0 (omega arith)) ∙ ap (λ v. drop (length (pending v)) u.nodes) known ∙ drop-all (length u.nodes) u.nodes (omega arith) ∙ sym (ap pending new);
        }
    alike (suc j) (suc n) u g clear none looks go known =
        let i = suc j in
        let m = suc n in
        let b = begun j g (none (omega arith)) looks in
        let x = carried i in
        let y = moved b.trivia.gap (first_place i q) in
        let ga = gives-again-law k (text_before edit) r w i m b.trivia u (omega arith) (omega arith) b.go go b.known b.none in
        let value : (first_end i q).value ≡ x = ap (λ (v : End (Bool × ℕ)). v.value) b.same in
        let os : read_again i m b.trivia q ≡ read_alone q x m (at_cut i) = ap (λ v. read_alone q v m y) value ∙ ap (read_alone q x m) b.place in
        let ends : again_end i m b.trivia q ≡ end_alone q x m (at_cut i) = ap (λ v. end_alone q v m y) value ∙ ap (end_alone q x m) b.place in
        let taken = ap (λ (v : End (Bool × ℕ)). v.taken) b.same in
        let gap_was = ap (λ (v : End (Bool × ℕ)). gap_of v.state.known) b.same in
        let taken_now = ap (λ (v : End (Bool × ℕ)). v.taken) ends in
        let behind : (end_alone q x m (at_cut i)).state.known ≡ Some u = ap (λ (v : End (Bool × ℕ)). v.state.known) (sym ends) ∙ ap (λ (v : Point). v.known) (sym ga.state) ∙ known in
        record {
          go = subst (λ us. AllGo us) os ga.go;
          sum = omega (arith, b.opened, b.cut, taken, gap_was, ap gap_of b.known, ga.taken, taken_now, ap gap_of behind);
          value = ga.value ∙ ap (λ (v : End (Bool × ℕ)). v.value) ends;
          nodes = ga.nodes ∙ ap (λ ts. ts ++ u.nodes) (given-nodes (again_end i m b.trivia q).state (read_again i m b.trivia q)) ∙ ap (λ us. given us [] ++ u.nodes) os
              ∙ ap (λ ts. given (read_alone q x m (at_cut i)) [] ++ ts) (sym (ap pending behind));
        }

    pub goes-there : (i m : ℕ) → AllGo (first_of i p) → p.point.empties ≡ 0 → (0 < i → TakesNone i p) → Before k edit r i → AllGo (read_alone q (carried i) m (at_cut i)) → AllGo (then_of i m q)
    goes-there zero m g clear none looks go = s.start_goes clear looks m (subst (λ y. AllGo (read_alone q (true, 0) m y)) (sym (start-place looks)) go)
    goes-there (suc j) m g clear none looks go =
        let i = suc j in
        let b = begun j g (none (omega arith)) looks in
        let y = moved b.trivia.gap (first_place i q) in
        let os : read_again i m b.trivia q ≡ read_alone q (carried i) m (at_cut i) = ap (λ v. read_alone q v m y) (ap (λ (v : End (Bool × ℕ)). v.value) b.same) ∙ ap (read_alone q (carried i) m) b.place in
        stand-too q markup i m b.trivia (subst (λ us. AllGo us) (sym os) go) b.known b.none

    -- ---- the reading of a candidate's pieces

    module _ (i n past : ℕ) (t : Trivia) (ts : List Tree) (g : AllGo (first_of i p)) (clear : p.point.empties ≡ 0) (none : 0 < i → TakesNone i p) (looks : Before k edit r i) (m : ℕ) where
      -- If m pieces are read by themselves, end and agree, these are their nodes.
      pub gives-to : AllGo (then_of i n p) → (then_end i n p).state.known ≡ Some t → end_by r i n t z ≡ (length edit.front + length edit.old) + past → After k edit r i n past t → ReadsPieces k edit r i n m past ts → GivesPieces k edit r i n m past t ts
      gives-to h known sum behind reads =
          let go = goes-there i m g clear none looks reads.go in
          let u = then-known q markup i m (first-now k edit r i looks g) go in
          let a = alike i m u.trivia g clear none looks go u.is in
          record {
            behind = u.trivia;
            passes = record {
              first_go = g;
              old_go = h;
              new_go = go;
              before = looks;
              after = behind;
              known = known;
              known_now = u.is;
              ends = sum;
              shifted = a.sum ∙ reads.ends;
              agrees = subst (λ y. Agrees r (is_over i n p) m (then_end i n p).value y) (sym a.value) reads.agrees;
            };
            are = reads.nodes ∙ sym a.nodes;
          }

      pub reads-to : GivesPieces k edit r i n m past t ts → ReadsPieces k edit r i n m past ts
      reads-to gives =
          let a = alike i m gives.behind g clear none looks gives.passes.new_go gives.passes.known_now in
          record {
            go = a.go;
            ends = sym a.sum ∙ gives.passes.shifted;
            agrees = subst (λ y. Agrees r (is_over i n p) m (then_end i n p).value y) a.value gives.passes.agrees;
            nodes = gives.are ∙ a.nodes;
          }
