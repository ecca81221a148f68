-- The steps of reading pieces of a run again.
use Rattle.typst_parser.proofs.Cited.{◌≡◌, ◌↔◌, ◌⊎◌, ℕ, ◌+◌, ◌-◌, ◌≤◌, ◌<◌, ◌^◌, Bool, true, List, length, Option, Some, None, ap, sym, subst, ◌∙◌, arith, Result, IfOk, IsCharBoundary, CharClasses, Place, moved, place_at, width, Tree, replaced_at, Log, Units, end_of, entries_by, spliced, units_of, AllFit, RunKind, log, ArePieces, HasRead, SaysBlock, entries_in, front_in, rear_in, start_after, Gives, listed, Ends, FoundInner, FoundRun, IsLast, LooksFrom, Reading, SaysPiece, nodes_by, notes_by, reading_on, MeetsOn, reading_of, Decides, Fails, IsPart, Speaks, at_path, TextReplacement, text_before, AreBounds, Begins, BeginsThere, HasBlock, HasReadSome, HasReadTo, IsPassing, IsRunOf, Reads, ServesNow, ServesRun, place_before, Asked, Bounds, ReparsedPart, Run, Serving, Vec, Attempt, Passing}
use Rattle.typst_edits.specs.Block.TheVariants as block
use Rattle.typst_candidates.specs.declared.candidate.Candidate as code
use Rattle.typst_candidates.specs.Cursors as cursors
use Rattle.typst_edits.specs.RunKind.TheVariants as of
use Rattle.typst_parser.proofs.Answering.{entries-are, places-fit}
use Rattle.typst_parser.proofs.BlockSteps.{now-boundary, now-few, now-place}
use Rattle.typst_parser.proofs.Inner.{inner-first, inner-here, inner-says, with-block-part}
use Rattle.typst_parser.proofs.Places.{part-fits, width-chars}
use Rattle.typst_parser.proofs.Runs.{end-fails, ends-here, first-within, found-starts, found-within, looks-fail, looks-here, looks-taken, says-here, says-there, shift-in, to-within}
use Rattle.typst_parser.proofs.Serving.{begun-serves, serves-again, serves-fail, serves-pass, serves-run, serves-some}

pub if-ok : {A E : Type 0} (r : Result A E) (P Q : A → Type 0) → ((a : A) → P a → Q a) → IfOk r P → IfOk r Q
if-ok r P Q f h = grind arith

module _ {C : Type 0} (k : CharClasses) (a : Attempt C) (ch : TextReplacement) (path : List ℕ) (d : code.Candidate) (run : Run) (o : Option Serving) (h : Reads k ch a path d run o) where
  is : a.records.now.units.entries ≡ entries_in k (text_before ch)
  is = entries-are k ch a.root.now a.records.now.units h.ready.holds

  pub step-ends : Ends a.records.now.units.entries run.first_entry (at_path path d) h.found.from h.found.to
  step-ends = ends-here k ch (at_path path d) run.kind run.levels run.first_entry h.found a.records.now.units.entries is

  pub step-looks : LooksFrom a.records.now.units.entries run.kind h.found.from h.found.to h.found.looks
  step-looks = looks-here k ch (at_path path d) run.kind run.levels run.first_entry h.found a.records.now.units.entries is

  pub step-first : run.first_entry ≤ length a.records.now.units.entries
  step-first = first-within k ch (at_path path d) run.kind run.levels run.first_entry h.found a.records.now.units.entries is

  pub step-places : end_of 0 a.records.now.units.entries < 2 ^ 64
  step-places = places-fit k ch a.root.now a.records.now.units h.ready.holds a.asked.now.new.now a.asked.now.edit h.ready.makes

  pub step-end-no : ((end : ℕ) → end < 2 ^ 64 → end + a.asked.now.edit.old_end ≡ d.end + a.asked.now.edit.new_end → ⊥) → Fails k ch (at_path path d)
  step-end-no = end-fails k ch (at_path path d) run.kind run.levels run.first_entry h.found h.ready.makes.fits_now a.asked.now.new.now a.asked.now.edit h.ready.makes

  -- it begins at a place
  module _ (at : cursors.EntryPlace) (there : BeginsThere k ch path d run h.found at) where
    pub step-boundary : IsCharBoundary a.asked.now.new.now d.start
    step-boundary = now-boundary k ch a.asked.now a.root.now a.records.now.units h.ready h.found.at d.start (h.found.start_now there.before)

    begins-now : (s : Option Serving) → Begins k (reading_on run.kind run.levels h.found.carried (place_at a.asked.now.new.now d.start)) d at.number s → ServesNow k ch a.root.now path d run s
    begins-now s begins = grind (arith, begun-serves, now-place)

    pub step-begins : {E : Type 0} (r : Result (Option Serving) E)
        → ((x : Bool × ℕ) → SaysPiece at.entries at.number x → IfOk r (λ s. Begins k (reading_on run.kind run.levels x (place_at a.asked.now.new.now d.start)) d at.number s)) → IfOk r (ServesNow k ch a.root.now path d run)
    step-begins r begins =
        if-ok r (λ s. Begins k (reading_on run.kind run.levels h.found.carried (place_at a.asked.now.new.now d.start)) d at.number s) (ServesNow k ch a.root.now path d run) begins-now
        (begins h.found.carried (says-here k ch (at_path path d) run.kind run.levels run.first_entry h.found at there.is))

  module _ (b : Bounds) (finds : (path : List ℕ) (from to looks : ℕ) → Ends a.records.now.units.entries run.first_entry (at_path path d) from to → LooksFrom a.records.now.units.entries run.kind from to looks
      → AreBounds a.records.now.units.entries from to looks (Some b)) where
    bounds : AreBounds a.records.now.units.entries h.found.from h.found.to h.found.looks (Some b)
    bounds = finds path h.found.from h.found.to h.found.looks step-ends step-looks

    from-there : b.from ≡ place_before (entries_in k (text_before ch)) h.found.from
    from-there = bounds.0 ∙ ap (λ es. place_before es h.found.from) is

    to-there : b.to ≡ place_before (entries_in k (text_before ch)) h.found.to
    to-there = bounds.1 ∙ ap (λ es. place_before es h.found.to) is

    pub step-looks-no : ((b.from.number < a.asked.now.front) × (a.asked.now.rear ≤ b.looks) → ⊥) → Fails k ch (at_path path d)
    step-looks-no = looks-fail k ch (at_path path d) run.kind run.levels run.first_entry h.found a.records.now.units.entries is b bounds a.asked.now.front a.asked.now.rear h.ready.front h.ready.rear

    pub step-to : b.to.number < length b.to.entries
    step-to = to-within k ch (at_path path d) run.kind run.levels run.first_entry h.found b.to to-there

    module _ (test : (b.from.number < a.asked.now.front) × (a.asked.now.rear ≤ b.looks)) where
      looks : (h.found.from < front_in k ch) × (rear_in k ch ≤ h.found.looks)
      looks = looks-taken k ch (at_path path d) run.kind run.levels run.first_entry h.found a.records.now.units.entries is b bounds a.asked.now.front a.asked.now.rear h.ready.front h.ready.rear test.0 test.1

      pub step-there : BeginsThere k ch path d run h.found b.from
      step-there = record { is = from-there; before = looks.0 }

      module _ (s : Serving) (now : ServesNow k ch a.root.now path d run (Some s)) (target : ℕ) (is_target : target + a.asked.now.edit.old_end ≡ d.end + a.asked.now.edit.new_end) where
        shift : target + width ch.old ≡ d.end + width ch.new
        shift = shift-in ch a.asked.now.new.now a.asked.now.edit target d.end h.ready.makes is_target

        pub step-some : HasReadSome k (reading_of now.0.found) target s.any s.reader
        step-some = serves-some k ch a.root.now path d run h.found s now.0 now.1 target shift

        module _ (t : Serving) (reads : (r : Reading) → HasReadSome k r target s.any s.reader → HasReadTo k r target t.any t.reader) (kept : (t.first_candidate ≡ s.first_candidate) × (t.first_entry ≡ s.first_entry) × (t.last ≡ d.end)) where
          so_far : HasReadTo k (reading_of now.0.found) target t.any t.reader
          so_far = reads (reading_of now.0.found) step-some

          pub step-again : ServesRun k ch a.root.now path d.depth t
          step-again = serves-run k ch a.root.now path d.depth t run.kind run.levels run.first_entry h.run (serves-again k ch a.root.now path d run h.found s now.0 now.1 target shift t so_far kept)

          module _ (fit : Bool) (fits : (y : Bool × ℕ) (m : ℕ) → SaysPiece b.to.entries b.to.number y → (t.any ≡ true ↔ 0 < m)
              → (fit ≡ true ↔ ((t.reader.end ≡ target) × MeetsOn b.to.entries run.kind b.to.number (d.start < t.first_candidate.start) m y t.reader.carried))) where
            fits-so : fit ≡ true ↔ ((t.reader.end ≡ target) × MeetsOn b.to.entries run.kind b.to.number (d.start < t.first_candidate.start) so_far.has.count h.found.carried_end t.reader.carried)
            fits-so = fits h.found.carried_end so_far.has.count (says-there k ch (at_path path d) run.kind run.levels run.first_entry h.found b.to to-there) so_far.has.some

            meets-there : MeetsOn b.to.entries run.kind b.to.number (d.start < t.first_candidate.start) so_far.has.count h.found.carried_end t.reader.carried
                → MeetsOn (entries_in k (text_before ch)) run.kind h.found.to (d.start < t.first_candidate.start) so_far.has.count h.found.carried_end t.reader.carried
            meets-there = subst (λ (p : cursors.EntryPlace). MeetsOn p.entries run.kind p.number (d.start < t.first_candidate.start) so_far.has.count h.found.carried_end t.reader.carried) to-there

            meets-here : MeetsOn (entries_in k (text_before ch)) run.kind h.found.to (d.start < t.first_candidate.start) so_far.has.count h.found.carried_end t.reader.carried
                → MeetsOn b.to.entries run.kind b.to.number (d.start < t.first_candidate.start) so_far.has.count h.found.carried_end t.reader.carried
            meets-here = subst (λ (p : cursors.EntryPlace). MeetsOn p.entries run.kind p.number (d.start < t.first_candidate.start) so_far.has.count h.found.carried_end t.reader.carried) (sym to-there)

            pub step-fail : (fit ≡ true → ⊥) → Fails k ch (at_path path d)
            step-fail never =
                serves-fail k ch a.root.now path d run h.found s now.0 now.1 target shift t so_far kept h.ready.holds.tree_is h.ready.makes.fits h.ready.makes.fits_now h.among h.pieces h.run
                (λ m. never (fits-so.1 (m.0, meets-here m.1)))

            pub step-pass : fit ≡ true → (p : Passing) → ((k : CharClasses) (levels : ℕ) (kind : RunKind) (x : Bool × ℕ) (z : Place) (m : ℕ) → HasRead k levels kind x z m t.reader → ArePieces k levels kind x z m p.pieces)
                → ((m : ℕ) → (t.any ≡ true ↔ 0 < m) → (p.any ≡ true ↔ ((d.start < t.first_candidate.start) ⊎ (0 < m)))) → (p.bounds ≡ b) × (p.first_candidate ≡ t.first_candidate) × (p.first_entry ≡ t.first_entry) → IsPassing k ch a.root.now path d run h.found p
            step-pass holds p pieces any rest =
                let m = fits-so.0 holds in
                serves-pass k ch a.root.now path d run h.found s now.0 now.1 target shift t so_far kept h.ready.holds.tree_is h.ready.makes.fits h.ready.makes.fits_now h.among h.pieces h.run looks.1 m.0 (meets-there m.1)
                b from-there to-there p rest.0 rest.1 rest.2 (any so_far.has.count so_far.has.some)
                (pieces k run.levels run.kind now.0.found.carried (moved now.0.found.at (start_after ch)) so_far.has.count so_far.has.read)

-- ---- what takes its place

module _ {C : Type 0} (k : CharClasses) (ch : TextReplacement) (q : Asked C) (root : Tree) (units : Units) (ready : Speaks k ch q root units) (path : List ℕ) (d : code.Candidate) (run : Run)
    (f : FoundRun k ch (at_path path d) run.kind run.levels run.first_entry) (p : Passing) (h : IsPassing k ch root path d run f p) where
  abbrev at_hand : Place
  at_hand = moved h.begun.at (start_after ch)

  pub passing-start : p.first_candidate.start < 2 ^ 64 - 1
  passing-start = let s = found-starts k ch (at_path path p.first_candidate) run.kind run.levels run.first_entry h.begun in let w = ready.makes.fits in omega (arith, s, w)

  pub passing-few : AllFit p.pieces.notes.items
  passing-few = part-fits run.levels at_hand _ _ _ p.pieces (now-few k ch q root units ready h.begun.at p.first_candidate.start (h.begun.start_now h.before)) h.read

  passing-nodes : p.pieces.nodes.items ≡ nodes_by k (reading_of h.begun) h.count
  passing-nodes = h.read.nodes_are

  passing-notes : p.pieces.notes.items ≡ notes_by k (reading_of h.begun) h.count
  passing-notes = ap (λ (n : Log). listed n.notes) h.read.log

  pub passing-end : p.pieces.end + width ch.old ≡ d.end + width ch.new
  passing-end = let e = h.read.end in let s = h.passes.shifted in omega (arith, e, s)

  -- nodes that it gives, which do what those that were read do
  pub record IsGiven : Type 0 where
    pub nodes : List Tree
    pub gives : Gives k ch (at_path path d) nodes
    pub puts : replaced_at path d.from d.to nodes root ≡ replaced_at path p.first_candidate.from d.to p.pieces.nodes.items root

  pub passing-gives : IsGiven
  passing-gives =
      let g = h.served.gives_too h.count h.passes in
      record { nodes = g.0; gives = g.1; puts = g.2 ∙ ap (λ ts. replaced_at path p.first_candidate.from d.to ts root) (sym passing-nodes) }

  -- pieces with their own entries
  pub passing-part : (part : ReparsedPart) → part.nodes ≡ p.pieces.nodes → part.first_child ≡ p.first_candidate.from → part.end ≡ p.pieces.end → (part.from_entry ≡ p.first_entry) × (part.to_entry ≡ p.bounds.to.number) → part.entries.units.entries ≡ entries_by p.first_candidate.start p.pieces.notes.items
      → (run.kind ≡ of.Block → (IsLast (entries_in k (text_before ch)) f.from → ⊥) × ((d.start < p.first_candidate.start) ⊎ (0 < h.count))) → IsPart k ch root (at_path path d) part
  passing-part part nodes first end at entries more =
      let u = h.served.units h.count h.passes more in
      let es = entries ∙ ap (entries_by p.first_candidate.start) passing-notes in
      let from = at.0 ∙ h.entry in
      let to = at.1 ∙ ap (λ (q : cursors.EntryPlace). q.number) h.to in
      let g = passing-gives in
      record {
        nodes = g.nodes;
        gives = g.gives;
        puts = g.puts ∙ ap (λ n. replaced_at path n d.to p.pieces.nodes.items root) (sym first) ∙ puts-by nodes;
        first = let l = h.served.order in omega (arith, l, first);
        end = let e = passing-end in omega (arith, e, end);
        order = let l = h.served.until in omega (arith, l, from, to);
        within = let w = found-within k ch (at_path path d) run.kind run.levels run.first_entry f in omega (arith, w, to);
        units = u ∙ ap (λ n. spliced n f.to (entries_by p.first_candidate.start (notes_by k (reading_of h.begun) h.count)) (units_of (log k (text_before ch)))) (sym from)
            ∙ ap (λ n. spliced part.from_entry n (entries_by p.first_candidate.start (notes_by k (reading_of h.begun) h.count)) (units_of (log k (text_before ch)))) (sym to)
            ∙ ap (λ xs. spliced part.from_entry part.to_entry xs (units_of (log k (text_before ch)))) (sym es);
      }
    where
      puts-by : part.nodes ≡ p.pieces.nodes → replaced_at path part.first_child d.to p.pieces.nodes.items root ≡ replaced_at path part.first_child d.to part.nodes.items root
      puts-by e = ap (λ (v : Vec Tree). replaced_at path part.first_child d.to v.items root) (sym e)

  -- in a block there are pieces in both texts
  pub passing-more : p.any ≡ true → (IsLast p.bounds.from.entries p.bounds.from.number → ⊥) → (IsLast (entries_in k (text_before ch)) f.from → ⊥) × ((d.start < p.first_candidate.start) ⊎ (0 < h.count))
  passing-more any more = ((λ last. more (subst (λ (q : cursors.EntryPlace). IsLast q.entries q.number) (sym h.from) last)), h.some.0 any)

-- ---- a block's run

module _ {C : Type 0} (k : CharClasses) (ch : TextReplacement) (q : Asked C) (root : Tree) (units : Units) (ready : Speaks k ch q root units) (path : List ℕ) (d : code.Candidate) (i : FoundInner k ch root (at_path path d)) (run : Run)
    (of_it : IsRunOf k ch root (at_path path d) i run) where
  pub new-few : length q.new.now < 2 ^ 64 - 1
  new-few = grind (arith, width-chars)

  pub inner-boundary : IsCharBoundary q.new.now run.at
  inner-boundary = now-boundary k ch q root units ready i.at run.at (inner-here k ch root (at_path path d) i run of_it)

  pub inner-bounds : (0 < run.first_entry) × (run.first_entry ≤ length units.entries)
  inner-bounds = inner-first k ch root (at_path path d) i run of_it units.entries (entries-are k ch root units ready.holds)

  pub says-inner : SaysBlock units.entries (run.first_entry - 1) i.to i.levels block.Content i.mode
  says-inner = inner-says k ch root (at_path path d) i run of_it units.entries (entries-are k ch root units ready.holds)

  module _ (f : FoundRun k ch (at_path path d) run.kind run.levels run.first_entry) (p : Passing) (h : IsPassing k ch root path d run f p) where
    -- with the whole block's entries
    pub block-decides : (o : Option ReparsedPart) → HasBlock k (place_at q.new.now run.at) run.at i.levels i.mode (run.first_entry - 1) i.to p.first_candidate.from p.pieces o → Decides k ch root (at_path path d) o
    block-decides None w = absurd w
    block-decides (Some part) w =
        let g = passing-gives k ch q root units ready path d run f p h in
        with-block-part k ch root (at_path path d) i run of_it p.pieces part p.first_candidate.from g.nodes g.gives g.puts h.served.order
        (passing-end k ch q root units ready path d run f p h)
        (place_at q.new.now run.at) (now-place k ch q root units ready i.at run.at (inner-here k ch root (at_path path d) i run of_it)) w
