-- One reading of the new text, from one candidate of a run to the next.
use Rattle.typst_parser.proofs.Cited.{◌≡◌, ◌↔◌, ◌⊎◌, ℕ, ◌+◌, ◌-◌, ◌≤◌, ◌<◌, ◌^◌, Bool, true, false, List, take, Option, Some, None, refl, ap, sym, subst, ◌∙◌, arith, IfSome, CharClasses, moved, width, Tree, bare, Entry, RunKind, tree, ArePieces, entries_in, rear_in, Among, start_after, FoundRun, MeetsOn, PassesOn, RunOf, Served, reading_of, Fails, at_path, TextReplacement, candidates, text_after, text_before, Begins, BeginsThere, Fit, GoesOn, Grows, HasReadSome, HasReadTo, IsPassing, Serves, ServesFor, ServesNow, ServesOr, ServesRun, place_before, Bounds, Run, Serving, Passing, served-law}
use Rattle.typst_candidates.specs.declared.candidate.Candidate as code
use Rattle.typst_candidates.specs.Cursors as cursors
use Rattle.typst_parser.proofs.PieceReading.{fitting, unfit}
use Rattle.typst_parser.proofs.Runs.{grows-there}

-- ---- the run of a path

-- so is one read, and so is its first entry
pub record SameRun (w w' : RunKind) (l l' e e' : ℕ) : Type 0 where
  pub kind : w ≡ w'
  pub levels : l ≡ l'
  pub entry : e ≡ e'

pub one-run : (es : List Entry) (root : Tree) (path : List ℕ) (w w' : RunKind) (l l' e e' : ℕ) → RunOf es root path w l e → RunOf es root path w' l' e' → SameRun w w' l l' e e'
one-run es root path w w' l l' e e' h g = grind arith

module _ (k : CharClasses) (c : TextReplacement) (root : Tree) (path : List ℕ) (depth : ℕ) (s : Serving) where
  same-serves : (w w' : RunKind) (l l' e e' : ℕ) → SameRun w w' l l' e e' → Serves k c root path depth w l e s → Serves k c root path depth w' l' e' s
  same-serves w w' l l' e e' same sv = grind arith

  -- what serves the run of a path serves this one
  pub serves-here : (w : RunKind) (l e : ℕ) → RunOf (entries_in k (text_before c)) root path w l e → ServesRun k c root path depth s → Serves k c root path depth w l e s
  serves-here w l e run h = same-serves h.which w h.levels l h.entry e (one-run (entries_in k (text_before c)) root path h.which w h.levels l h.entry e h.run run) h.serves

  pub serves-run : (w : RunKind) (l e : ℕ) → RunOf (entries_in k (text_before c)) root path w l e → Serves k c root path depth w l e s → ServesRun k c root path depth s
  serves-run w l e run sv = record { which = w; levels = l; entry = e; run = run; serves = sv }

-- a reading that can go on for a candidate serves its run
pub for-or : (k : CharClasses) (c : TextReplacement) (root : Tree) (path : List ℕ) (d : code.Candidate) (o : Option Serving) → ServesFor k c root path d o → ServesOr k c root path d.depth o
for-or k c root path d o h = grind arith

-- ---- a reading

-- one that is taken up for a candidate
pub for-now : (k : CharClasses) (c : TextReplacement) (root : Tree) (path : List ℕ) (d : code.Candidate) (run : Run) → RunOf (entries_in k (text_before c)) root path run.kind run.levels run.first_entry
    → (o : Option Serving) (s : Serving) → o ≡ Some s → ServesFor k c root path d o → ServesNow k c root path d run (Some s)
for-now k c root path d run is o s e h =
    let g : ServesFor k c root path d (Some s) = subst (ServesFor k c root path d) e h in
    (serves-here k c root path d.depth s run.kind run.levels run.first_entry is g.0, g.1)

module _ (k : CharClasses) (c : TextReplacement) (root : Tree) (path : List ℕ) (d : code.Candidate) (run : Run) (g : FoundRun k c (at_path path d) run.kind run.levels run.first_entry) where
  -- it begins
  pub begun-serves : Among (at_path path d) (candidates k c root) → d.is_block ≡ false → (at : cursors.EntryPlace) → BeginsThere k c path d run g at
      → (o : Option Serving) → Begins k (reading_of g) d at.number o → ServesNow k c root path d run o
  begun-serves among pieces at there None h = absurd h
  begun-serves among pieces at there (Some s) h = (subst (λ x. Serves k c root path d.depth run.kind run.levels run.first_entry (record { reader = s.reader; any = s.any; first_candidate = x; first_entry = s.first_entry; last = s.last })) (sym h.2) at-it, goes)
    where
      at-it : Serves k c root path d.depth run.kind run.levels run.first_entry (record { reader = s.reader; any = s.any; first_candidate = d; first_entry = s.first_entry; last = s.last })
      at-it = record {
        depth_is = refl;
        pieces = pieces;
        among = among;
        found = g;
        from = h.3 ∙ ap (λ (p : cursors.EntryPlace). p.number) there.is;
        before = there.before;
        count = 0;
        read = h.0;
        some = let e = h.1 in ((λ t. absurd (cc)), (λ l. absurd (none l)));
        less = λ j l. absurd (none-below j l);
      }
        where
          none : 0 < 0 → ⊥
          none l = omega (arith, l)

          none-below : (j : ℕ) → j < 0 → ⊥
          none-below j l = omega (arith, l)

      goes : GoesOn d s
      goes = record { depth = ap (λ (x : code.Candidate). x.depth) h.2; start = let e = ap (λ (x : code.Candidate). x.start) h.2 in omega (arith, e); end = let e = h.4 in omega (arith, e) }

  module _ (s : Serving) (sv : Serves k c root path d.depth run.kind run.levels run.first_entry s) (goes : GoesOn d s) (target : ℕ) (shift : target + width c.old ≡ d.end + width c.new) where
    -- it goes on for a candidate
    pub serves-some : HasReadSome k (reading_of sv.found) target s.any s.reader
    serves-some = grind arith

    module _ (t : Serving) (h : HasReadTo k (reading_of sv.found) target t.any t.reader) (kept : (t.first_candidate ≡ s.first_candidate) × (t.first_entry ≡ s.first_entry) × (t.last ≡ d.end)) where
      again : Serves k c root path d.depth run.kind run.levels run.first_entry (record { reader = t.reader; any = t.any; first_candidate = s.first_candidate; first_entry = s.first_entry; last = d.end })
      again = record {
        depth_is = sv.depth_is;
        pieces = sv.pieces;
        among = sv.among;
        found = sv.found;
        from = sv.from;
        before = sv.before;
        count = h.has.count;
        read = h.has.read;
        some = h.has.some;
        less = λ j l. (let a = h.has.before j l in omega (arith, a, shift));
      }

      -- and serves the next one
      pub serves-again : Serves k c root path d.depth run.kind run.levels run.first_entry t
      serves-again =
          subst (λ x. Serves k c root path d.depth run.kind run.levels run.first_entry (record { reader = t.reader; any = t.any; first_candidate = x; first_entry = t.first_entry; last = t.last })) (sym kept.0)
          (subst (λ x. Serves k c root path d.depth run.kind run.levels run.first_entry (record { reader = t.reader; any = t.any; first_candidate = s.first_candidate; first_entry = x; last = t.last })) (sym kept.1)
          (subst (λ x. Serves k c root path d.depth run.kind run.levels run.first_entry (record { reader = t.reader; any = t.any; first_candidate = s.first_candidate; first_entry = s.first_entry; last = x })) (sym kept.2) again))

      module _ (tree_is : bare root ≡ bare (tree k (text_before c))) (fits : width (text_before c) < 2 ^ 64 - 1) (fits_now : width (text_after c) < 2 ^ 64 - 1)
          (among : Among (at_path path d) (candidates k c root)) (pieces : d.is_block ≡ false) (run_is : RunOf (entries_in k (text_before c)) root path run.kind run.levels run.first_entry) where
        serving : Served k c root run.kind run.levels run.first_entry (at_path path s.first_candidate) (at_path path d) sv.found g
        serving =
            served-law k c root run.kind run.levels run.first_entry (at_path path s.first_candidate) (at_path path d) tree_is sv.among among sv.pieces pieces refl goes.start fits fits_now run_is sv.found g sv.before

        grows : Grows k (reading_of sv.found)
        grows = grows-there k c (at_path path s.first_candidate) run.kind run.levels run.first_entry sv.found sv.before fits_now

        fit-there : (m : ℕ) → PassesOn k c (at_path path s.first_candidate) (at_path path d) (reading_of sv.found) g.to g.looks g.carried_end m
            → Fit k (entries_in k (text_before c)) (reading_of sv.found) (width c.old) (width c.new) d.end g.to (d.start < s.first_candidate.start) g.carried_end m
        fit-there m p = record { go = p.go; shifted = p.shifted; meets = p.meets }

        led-here : (x : Bool × ℕ) → MeetsOn (entries_in k (text_before c)) run.kind g.to (d.start < s.first_candidate.start) h.has.count g.carried_end x
            → MeetsOn (entries_in k (text_before c)) run.kind g.to (d.start < t.first_candidate.start) h.has.count g.carried_end x
        led-here x = subst (λ (y : code.Candidate). MeetsOn (entries_in k (text_before c)) run.kind g.to (d.start < y.start) h.has.count g.carried_end x) (sym kept.0)

        led-there : (x : Bool × ℕ) → MeetsOn (entries_in k (text_before c)) run.kind g.to (d.start < t.first_candidate.start) h.has.count g.carried_end x
            → MeetsOn (entries_in k (text_before c)) run.kind g.to (d.start < s.first_candidate.start) h.has.count g.carried_end x
        led-there x = subst (λ (y : code.Candidate). MeetsOn (entries_in k (text_before c)) run.kind g.to (d.start < y.start) h.has.count g.carried_end x) kept.0

        -- where its pieces do not fit, the candidate fails
        pub serves-fail : ((t.reader.end ≡ target) × MeetsOn (entries_in k (text_before c)) run.kind g.to (d.start < t.first_candidate.start) h.has.count g.carried_end t.reader.carried → ⊥) → Fails k c (at_path path d)
        serves-fail never = λ ts gives. (let p = serving.gives ts gives in
            unfit k (reading_of sv.found) grows target t.any t.reader h (entries_in k (text_before c)) (width c.old) (width c.new) d.end g.to (d.start < s.first_candidate.start) g.carried_end shift
            (λ q. never (q.0, led-here t.reader.carried q.1)) p.0 (fit-there p.0 p.1))

        -- where they do, it passes
        pub serves-pass : rear_in k c ≤ g.looks → t.reader.end ≡ target → MeetsOn (entries_in k (text_before c)) run.kind g.to (d.start < t.first_candidate.start) h.has.count g.carried_end t.reader.carried
            → (b : Bounds) → b.from ≡ place_before (entries_in k (text_before c)) g.from → b.to ≡ place_before (entries_in k (text_before c)) g.to → (p : Passing) → p.bounds ≡ b → p.first_candidate ≡ t.first_candidate → p.first_entry ≡ t.first_entry → (p.any ≡ true ↔ ((d.start < t.first_candidate.start) ⊎ (0 < h.has.count)))
            → ArePieces k run.levels run.kind sv.found.carried (moved sv.found.at (start_after c)) h.has.count p.pieces
            → IsPassing k c root path d run g p
        serves-pass after at meets b from_is to_is p bounds first from any read =
            subst (λ x. IsPassing k c root path d run g (record { bounds = p.bounds; pieces = p.pieces; any = p.any; first_candidate = x; first_entry = p.first_entry })) (sym (first ∙ kept.0)) here
          where
            fit : Fit k (entries_in k (text_before c)) (reading_of sv.found) (width c.old) (width c.new) d.end g.to (d.start < s.first_candidate.start) g.carried_end h.has.count
            fit =
                fitting k (reading_of sv.found) grows target t.any t.reader h (entries_in k (text_before c)) (width c.old) (width c.new) d.end g.to (d.start < s.first_candidate.start) g.carried_end shift at
                (led-there t.reader.carried meets)

            here : IsPassing k c root path d run g (record { bounds = p.bounds; pieces = p.pieces; any = p.any; first_candidate = s.first_candidate; first_entry = p.first_entry })
            here = record {
              from = ap (λ (x : Bounds). x.from) bounds ∙ from_is;
              to = ap (λ (x : Bounds). x.to) bounds ∙ to_is;
              begun = sv.found;
              entry = from ∙ kept.1 ∙ sv.from;
              before = sv.before;
              served = serving;
              count = h.has.count;
              passes = record { behind = after; go = fit.go; shifted = fit.shifted; meets = fit.meets };
              some = subst (λ (y : code.Candidate). p.any ≡ true ↔ ((d.start < y.start) ⊎ (0 < h.has.count))) kept.0 any;
              read = read;
            }

-- ---- from candidate to candidate

-- it serves the run at the front of a path that is as long as it is deep
abbrev pub ServesAt : CharClasses → TextReplacement → Tree → List ℕ → Option Serving → Type 0
ServesAt k c root path None = Unit {0}
ServesAt k c root path (Some s) = ServesRun k c root (take s.first_candidate.depth path) s.first_candidate.depth s

pub at-for : (k : CharClasses) (c : TextReplacement) (root : Tree) (path : List ℕ) (d : code.Candidate) (was now : Option Serving) → ServesAt k c root path was → IfSome now (λ s. (was ≡ Some s) × GoesOn d s) → ServesFor k c root (take d.depth path) d now
at-for k c root path d was now h goes = grind arith

pub or-at : (k : CharClasses) (c : TextReplacement) (root : Tree) (path : List ℕ) (depth : ℕ) (o : Option Serving) → ServesOr k c root (take depth path) depth o → ServesAt k c root path o
or-at k c root path depth o h = grind arith
