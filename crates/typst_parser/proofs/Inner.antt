-- Pieces of a content block's run.
use Rattle.typst_parser.proofs.Cited.{◌≡◌, ℕ, ◌+◌, ◌-◌, ◌≤◌, ◌<◌, List, length, ap, sym, subst, ◌∙◌, arith, CharClasses, Place, moved, position, width, Tree, replaced_at, Entry, Candidate, spliced, units_of, ReadPart, log, IsBlock, SaysBlock, entries_in, start_after, Gives, FoundInner, FoundRun, IsPart, TextReplacement, text_before, IsRunOf, IsWithBlock, ReparsedPart, Run, Vec}
use Rattle.typst_edits.specs.Block.TheVariants as block
use Rattle.typst_parser.proofs.Blocks.{alone-entries, says-after, says-within}

module _ (k : CharClasses) (c : TextReplacement) (root : Tree) (d : Candidate) (f : FoundInner k c root d) (run : Run) (is : IsRunOf k c root d f run) where
  -- what is found of its run
  pub run-found : FoundRun k c d run.kind run.levels run.first_entry
  run-found = grind arith

  pub run-some : 0 < run.levels
  run-some = let s = f.some in let e = is.levels in omega (arith, s, e)

  -- where its block begins
  abbrev pub inner_place : Place
  inner_place = moved f.at (start_after c)

  pub inner-here : position inner_place ≡ run.at
  inner-here = f.start_now ∙ sym is.at

  opens-is : run.first_entry - 1 ≡ f.opens
  opens-is = let e = is.first in omega (arith, e)

  pub inner-says : (es : List Entry) → es ≡ entries_in k (text_before c) → SaysBlock es (run.first_entry - 1) f.to f.levels block.Content f.mode
  inner-says es e = subst (λ xs. SaysBlock xs (run.first_entry - 1) f.to f.levels block.Content f.mode) (sym e) (subst (λ n. SaysBlock (entries_in k (text_before c)) n f.to f.levels block.Content f.mode) (sym opens-is) f.says)

  pub inner-first : (es : List Entry) → es ≡ entries_in k (text_before c) → (0 < run.first_entry) × (run.first_entry ≤ length es)
  inner-first es e = let w = says-within (entries_in k (text_before c)) f.opens f.to f.levels block.Content f.mode f.says in grind arith

  -- its nodes with the whole block's entries take its place
  pub with-block-part : (p : ReadPart) (part : ReparsedPart) (first : ℕ) (ts : List Tree) → Gives k c d ts → replaced_at d.path d.from d.to ts root ≡ replaced_at d.path first d.to p.nodes.items root → first ≤ d.to
      → p.end + width c.old ≡ d.end + width c.new → (z : Place) → z ≡ inner_place
      → IsWithBlock k z run.at f.levels f.mode (run.first_entry - 1) f.to first p part → IsPart k c root d part
  with-block-part p part first ts gives puts order end z place w =
      let read : IsBlock k f.levels block.Content f.mode inner_place w.read = subst (λ y. IsBlock k f.levels block.Content f.mode y w.read) place w.is_read in
      let same = alone-entries k f.levels block.Content f.mode inner_place w.read run.at read inner-here in
      let b = says-after (entries_in k (text_before c)) f.opens f.to f.levels block.Content f.mode f.says in
      let n = w.from_is ∙ opens-is in
      record {
        nodes = ts;
        gives = gives;
        puts = puts ∙ ap (λ (v : Vec Tree). replaced_at d.path first d.to v.items root) (sym w.nodes) ∙ ap (λ j. replaced_at d.path j d.to part.nodes.items root) (sym w.first_is);
        first = let i = w.first_is in omega (arith, order, i);
        end = let e = w.end in omega (arith, e, end);
        order = let l = b.least in let t = w.to_is in omega (arith, l, n, t);
        within = let m = b.most in let t = w.to_is in omega (arith, m, t);
        units = f.units ts gives ∙ ap (λ xs. spliced f.opens f.to xs (units_of (log k (text_before c)))) (same ∙ sym w.entries)
            ∙ ap (λ j. spliced j f.to part.entries.units.entries (units_of (log k (text_before c)))) (sym n)
            ∙ ap (λ j. spliced part.from_entry j part.entries.units.entries (units_of (log k (text_before c)))) (sym w.to_is);
      }
