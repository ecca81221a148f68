-- Blocks that are read by themselves.
use Rattle.typst_parser.proofs.Cited.{◌≡◌, ℕ, suc, ◌+◌, ◌-◌, ◌≤◌, ◌<◌, true, List, length, drop, Some, None, ap, sym, subst, ◌∙◌, arith, slice_get_within, CharClasses, Place, moved, position, width, Tree, replaced_at, Entry, Candidate, closing_of, Units, spliced, units_of, opening_of, ReadPart, log, IsBlock, FoundBlock, PassesAlone, SaysBlock, entries_alone, entries_in, front_in, rear_in, Among, start_after, Gives, Fails, IsPart, TextReplacement, Holds, Makes, candidates, text_before, entries_of, ReparsedPart, Replacement, SyntaxMode, Block, block-test-law}
use Rattle.typst_parser.proofs.Numbers.{After, closing-after}
use Rattle.typst_parser.proofs.Runs.{shift-in, shift-out, width-take}

-- a block that was read by itself has these entries
pub alone-entries : (k : CharClasses) (levels : ℕ) (b : Block) (mode : SyntaxMode) (z : Place) (p : ReadPart) (at : ℕ) → IsBlock k levels b mode z p → position z ≡ at → entries_alone k levels b mode z ≡ entries_of at p
alone-entries k levels b mode z p at read here = grind arith

says-in : (es fs : List Entry) (from to levels : ℕ) (b : Block) (mode : SyntaxMode) → es ≡ fs → SaysBlock fs from to levels b mode → SaysBlock es from to levels b mode
says-in es fs from to levels b mode e s = subst (λ xs. SaysBlock xs from to levels b mode) (sym e) s

-- where a block ends
pub says-after : (es : List Entry) (from to levels : ℕ) (b : Block) (mode : SyntaxMode) → SaysBlock es from to levels b mode → After (suc from) es to
says-after es from to levels b read_as s = closing-after (suc from) es to s.closes

pub says-within : (es : List Entry) (from to levels : ℕ) (b : Block) (mode : SyntaxMode) → SaysBlock es from to levels b mode → from < length es
says-within es from to levels b read_as s = slice_get_within es from s.entry s.is

-- the number after the one where a block begins
pub says-closes : (es : List Entry) (first to levels : ℕ) (b : Block) (mode : SyntaxMode) → 0 < first → SaysBlock es (first - 1) to levels b mode → closing_of 0 first (drop first es) ≡ Some to
says-closes es first to levels b read_as some s = grind arith

-- ---- a candidate

module _ (k : CharClasses) (c : TextReplacement) (d : Candidate) (from : ℕ) (f : FoundBlock k c d from) where
  abbrev pub block_place : Place
  block_place = moved f.at (start_after c)

  pub block-starts : d.start ≤ width (text_before c)
  block-starts = let s = f.start in let w = width-take f.at (text_before c) in omega (arith, s, w)

  module _ (es : List Entry) (is : es ≡ entries_in k (text_before c)) where
    pub block-says : SaysBlock es from f.to f.levels f.block f.mode
    block-says = says-in es (entries_in k (text_before c)) from f.to f.levels f.block f.mode is f.says

    pub block-closes : (number : ℕ) → number ≡ suc from → closing_of 0 number (drop number es) ≡ Some f.to
    block-closes number e = subst (λ n. closing_of 0 n (drop n es) ≡ Some f.to) (sym e) block-says.closes

  module _ (front rear : ℕ) (front_is : front ≡ front_in k c) (rear_is : rear ≡ rear_in k c) (to : ℕ) (to_is : to ≡ f.to) where
    pub block-looks-fail : ((from < front) × (rear ≤ to) → ⊥) → Fails k c d
    block-looks-fail never = λ ts g. (let p = ((f.gives ts).0 g).0 in let a = p.before in let b = p.behind in never (omega (arith, a, front_is), omega (arith, b, rear_is, to_is)))

    module _ (new : List ℕ) (e : Replacement) (makes : Makes c new e) (z : Place) (place : z ≡ block_place) (p : ReadPart) (read : IsBlock k f.levels f.block f.mode z p) where
      read-here : IsBlock k f.levels f.block f.mode block_place p
      read-here = subst (λ y. IsBlock k f.levels f.block f.mode y p) place read

      pub block-end-fails : (p.end + e.old_end ≡ d.end + e.new_end → ⊥) → Fails k c d
      block-end-fails never = λ ts g. (let s = ((f.gives ts).0 g).0.shifted in let t = read-here.end in
          never (shift-out c new e p.end d.end makes (ap (λ n. n + width c.old) t ∙ s)))

      pub block-part : from < front → rear ≤ to → p.end + e.old_end ≡ d.end + e.new_end → (part : ReparsedPart) → part.nodes ≡ p.nodes → part.end ≡ p.end → part.from_entry ≡ from → part.to_entry ≡ to
          → part.entries.units.entries ≡ entries_of d.start p → (root : Tree) → part.first_child ≡ d.from → d.from ≤ d.to → IsPart k c root d part
      block-part before after shifted part nodes end from_is at entries root first some =
          let t = read-here.end in
          let s = shift-in c new e p.end d.end makes shifted in
          let passes : PassesAlone k c d from f.to f.levels f.block f.mode f.at =
          record { before = omega (arith, before, front_is); behind = omega (arith, after, rear_is, to_is); shifted = ap (λ n. n + width c.old) (sym t) ∙ s } in
          let one = f.alone passes in
          let gives = (f.gives p.nodes.items).1 (passes, read-here.nodes_are ∙ one) in
          let same = alone-entries k f.levels f.block f.mode block_place p d.start read-here f.start_now in
          let b = says-after (entries_in k (text_before c)) from f.to f.levels f.block f.mode f.says in
          record {
            nodes = part.nodes.items;
            gives = subst (λ v. Gives k c d v.items) (sym nodes) gives;
            puts = ap (λ n. replaced_at d.path n d.to part.nodes.items root) (sym first);
            first = omega (arith, first, some);
            end = omega (arith, s, end);
            order = let l = b.least in omega (arith, l, from_is, at, to_is);
            within = let m = b.most in omega (arith, m, at, to_is);
            units = f.units passes ∙ ap (λ xs. spliced from f.to xs (units_of (log k (text_before c)))) (same ∙ sym entries)
                ∙ ap (λ n. spliced n f.to part.entries.units.entries (units_of (log k (text_before c)))) (sym from_is)
                ∙ ap (λ n. spliced part.from_entry n part.entries.units.entries (units_of (log k (text_before c)))) (sym (at ∙ to_is));
          }

-- ---- the law

module _ (k : CharClasses) (c : TextReplacement) (root : Tree) (units : Units) (d : Candidate) (h : Holds k c root units) (new : List ℕ) (e : Replacement) (m : Makes c new e) (chosen : Among d (candidates k c root)) (block : d.is_block ≡ true) where
  same-entries : units.entries ≡ entries_in k (text_before c)
  same-entries = ap (λ (u : Units). u.entries) h.units_are

  found : (opening_of d.start 0 0 (entries_in k (text_before c)) ≡ None → Fails k c d) × ((from : ℕ) → opening_of d.start 0 0 (entries_in k (text_before c)) ≡ Some from → FoundBlock k c d from)
  found = block-test-law k c root d h.tree_is chosen block m.fits m.fits_now

  -- where no entry begins a block there, the candidate fails
  pub unopened : opening_of d.start 0 0 units.entries ≡ None → Fails k c d
  unopened none = found.0 (ap (opening_of d.start 0 0) (sym same-entries) ∙ none)

  pub block-found : (from : ℕ) → opening_of d.start 0 0 units.entries ≡ Some from → FoundBlock k c d from
  block-found from opens = found.1 from (ap (opening_of d.start 0 0) (sym same-entries) ∙ opens)
