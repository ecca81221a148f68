-- The run that a candidate is pieces of.
use Rattle.typst_parser.proofs.Cited.{◌≡◌, ℕ, zero, suc, ◌-◌, ◌<◌, ◌^◌, false, List, [], ◌∷◌, length, take, Option, Some, None, refl, ap, sym, subst, ◌∙◌, arith, same_Some, slice_get, CharClasses, Tree, text_of, AtPath, start_at, At, Reaches, kids_of, Entry, opening_of, entries_in, Among, FoundInner, RunOf, IsReady, at_path, TextReplacement, candidates, text_before, Reads, ReadsInner, ServesFor, Run, Serving, Attempt, inner-run-test-law, run-test-law}
use Rattle.typst_candidates.specs.declared.candidate.Candidate as code
use Rattle.typst_edits.specs.RunKind.TheVariants as of
use Rattle.typst_edits.specs.Served.RunOf.{inner, own}
use Rattle.typst_parser.proofs.Answering.{candidate-stands, entries-are, root-fits}
use Rattle.typst_parser.proofs.Inner.{run-found, run-some}

abbrev pub top_run : Run
top_run = record { kind = of.Text; at = 0; levels = 256; first_entry = 0 }

module _ {C : Type 0} (k : CharClasses) (a : Attempt C) (ch : TextReplacement) where
  -- of the text's own
  pub top-reads : (d : code.Candidate) (o : Option Serving) → IsReady k ch a → Among (at_path [] d) (candidates k ch a.root.now) → d.is_block ≡ false → ServesFor k ch a.root.now [] d o → Reads k ch a [] d top_run o
  top-reads d o ready among pieces serves = record {
    ready = ready;
    among = among;
    pieces = pieces;
    run = own refl;
    some = omega arith;
    found = run-test-law k ch a.root.now (at_path [] d) ready.holds.tree_is among pieces refl ready.makes.fits ready.makes.fits_now;
    serves = serves;
  }

  -- of a content block
  pub inner-reads : (path : List ℕ) (d : code.Candidate) (run : Run) (o : Option Serving) → ReadsInner k ch a path d run o → Reads k ch a path d run o
  inner-reads path d run o h = record {
    ready = h.ready;
    among = h.among;
    pieces = h.pieces;
    run = subst (λ n. RunOf (entries_in k (text_before ch)) a.root.now path run.kind run.levels n) (sym h.is.first)
        (subst (λ n. RunOf (entries_in k (text_before ch)) a.root.now path run.kind n (suc h.found.opens)) (sym h.is.levels)
        (subst (λ w. RunOf (entries_in k (text_before ch)) a.root.now path w h.found.levels (suc h.found.opens)) (sym h.is.kind) (inner h.found.opens h.found.to h.found.levels h.found.mode h.below h.found.is_opens h.found.says)));
    some = run-some k ch a.root.now (at_path path d) h.found run h.is;
    found = run-found k ch a.root.now (at_path path d) h.found run h.is;
    serves = h.serves;
  }

-- ---- the content block above a candidate

-- a front of a path that leads to children leads to a node
pub leads-front : (path : List ℕ) (m from to : ℕ) (t : Tree) → Reaches path from to t → AtPath (λ _. Unit {0}) (take m path) t
leads-front path zero from to t h = tt
leads-front [] (suc m) from to t h = tt
leads-front (i ∷ path) (suc m) from to t h = by-kid (slice_get (kids_of t) i) (leads-front path m from to) h
  where
    by-kid : (o : Option Tree) → ((k : Tree) → Reaches path from to k → AtPath (λ _. Unit {0}) (take m path) k) → At (Reaches path from to) o → At (AtPath (λ _. Unit {0}) (take m path)) o
    by-kid o on h = grind arith

module _ {C : Type 0} (k : CharClasses) (a : Attempt C) (ch : TextReplacement) (path : List ℕ) (d : code.Candidate) (ready : IsReady k ch a) (among : Among (at_path path d) (candidates k ch a.root.now))
    (above : List ℕ) (is_above : above ≡ take (length path - 1) path) (some : 0 < length path) where
  pub above-leads : AtPath (λ _. Unit {0}) above a.root.now
  above-leads =
      subst (λ p. AtPath (λ _. Unit {0}) p a.root.now) (sym is_above)
      (leads-front path (length path - 1) d.from d.to a.root.now (candidate-stands k ch a.root.now a.records.now.units ready.holds (at_path path d) among).reaches)

  pub above-fits : length (text_of a.root.now) < 2 ^ 64
  above-fits = root-fits k ch a.root.now a.records.now.units ready.holds a.asked.now.new.now a.asked.now.edit ready.makes

  below : path ≡ [] → ⊥
  below e = let l = ap (λ (p : List ℕ). length p) e in omega (arith, l, some)

  module _ (pieces : d.is_block ≡ false) (r : Option Run) (finds : (opens : ℕ) (e : Entry) → opening_of (start_at above 0 a.root.now) 0 0 a.records.now.units.entries ≡ Some opens → slice_get a.records.now.units.entries opens ≡ Some e
      → r ≡ Some (record { kind = of.Block; at = start_at above 0 a.root.now; levels = e.count; first_entry = suc opens })) where
    f : FoundInner k ch a.root.now (at_path path d)
    f = inner-run-test-law k ch a.root.now (at_path path d) ready.holds.tree_is among pieces below ready.makes.fits ready.makes.fits_now

    is : a.records.now.units.entries ≡ entries_in k (text_before ch)
    is = entries-are k ch a.root.now a.records.now.units ready.holds

    found-there : r ≡ Some (record { kind = of.Block; at = start_at above 0 a.root.now; levels = f.says.entry.count; first_entry = suc f.opens })
    found-there =
        finds f.opens f.says.entry (ap (λ es. opening_of (start_at above 0 a.root.now) 0 0 es) is ∙ ap (λ p. opening_of (start_at p 0 a.root.now) 0 0 (entries_in k (text_before ch))) is_above ∙ f.is_opens)
        (ap (λ es. slice_get es f.opens) is ∙ f.says.is)

    -- its run is found
    pub above-never : r ≡ None → ⊥
    above-never e = let x = found-there in absurd (cc)

    pub above-reads : (run : Run) → r ≡ Some run → (o : Option Serving) → ServesFor k ch a.root.now path d o → ReadsInner k ch a path d run o
    above-reads run e o serves =
        let same : run ≡ record { kind = of.Block; at = start_at above 0 a.root.now; levels = f.says.entry.count; first_entry = suc f.opens } = same_Some run (record { kind = of.Block; at = start_at above 0 a.root.now; levels = f.says.entry.count; first_entry = suc f.opens }) (sym e ∙ found-there) in
        record {
          ready = ready;
          among = among;
          pieces = pieces;
          below = below;
          found = f;
          is = record {
            kind = ap (λ (x : Run). x.kind) same;
            at = ap (λ (x : Run). x.at) same ∙ ap (λ p. start_at p 0 a.root.now) is_above;
            levels = ap (λ (x : Run). x.levels) same ∙ f.says.count;
            first = ap (λ (x : Run). x.first_entry) same;
          };
          serves = serves;
        }
