-- The steps of reading a block again.
use Rattle.typst_parser.proofs.Cited.{◌≡◌, ℕ, suc, ◌+◌, ◌-◌, ◌≤◌, ◌<◌, ◌^◌, true, drop, Option, Some, None, ap, sym, subst, ◌∙◌, arith, same_Some, IsCharBoundary, chars, CharClasses, moved, place_at, position, width, Tree, Candidate, closing_of, Units, AllFit, opening_of, ReadPart, start_of, IsBlock, block_alone, FoundBlock, SaysBlock, Among, start_after, Fails, IsPart, Speaks, TextReplacement, candidates, text_after, IsReadBlock, entries_of, Asked, ReparsedPart, SyntaxMode, Block}
use Rattle.typst_parser.proofs.Blocks.{block-closes, block-end-fails, block-found, block-looks-fail, block-part, block-says, block-starts}
use Rattle.typst_parser.proofs.Answering.{candidate-order, entries-are}
use Rattle.typst_parser.proofs.Places.{part-fits, place-boundary, place-is, position-within, sides-of}

-- a place of the new text, by its byte
module _ {C : Type 0} (k : CharClasses) (ch : TextReplacement) (q : Asked C) (root : Tree) (units : Units) (ready : Speaks k ch q root units) (n b : ℕ) (e : position (moved n (start_after ch)) ≡ b) where
  at-byte : position (moved n (start_of (chars q.new.now))) ≡ b
  at-byte = ap (λ cs. position (moved n (start_of cs))) ready.makes.is ∙ e

  pub now-boundary : IsCharBoundary q.new.now b
  now-boundary = place-boundary q.new.now ready.text n b at-byte

  pub now-place : place_at q.new.now b ≡ moved n (start_after ch)
  now-place = place-is q.new.now ready.text n b at-byte ∙ ap (λ cs. moved n (start_of cs)) ready.makes.is

  pub now-few : width (moved n (start_after ch)).before + width (moved n (start_after ch)).ahead < 2 ^ 64 - 1
  now-few = let s = sides-of (text_after ch) n in let f = ready.makes.fits_now in omega (arith, s, f)

module _ {C : Type 0} (k : CharClasses) (ch : TextReplacement) (q : Asked C) (root : Tree) (units : Units) (ready : Speaks k ch q root units) (d : Candidate) (chosen : Among d (candidates k ch root)) (block : d.is_block ≡ true)
    (from : ℕ) (opens : Some from ≡ opening_of d.start 0 0 units.entries) where
  f : FoundBlock k ch d from
  f = block-found k ch root units d ready.holds q.new.now q.edit ready.makes chosen block from (sym opens)

  says : SaysBlock units.entries from f.to f.levels f.block f.mode
  says = block-says k ch d from f units.entries (entries-are k ch root units ready.holds)

  pub starts-few : d.start < 2 ^ 64 - 1
  starts-few = let s = block-starts k ch d from f in let w = ready.makes.fits in omega (arith, s, w)

  pub start-boundary : IsCharBoundary q.new.now d.start
  start-boundary = now-boundary k ch q root units ready f.at d.start f.start_now

  place : place_at q.new.now d.start ≡ moved f.at (start_after ch)
  place = now-place k ch q root units ready f.at d.start f.start_now

  module _ (number : ℕ) (number_is : number ≡ suc from) where
    closes : closing_of 0 number (drop number units.entries) ≡ Some f.to
    closes = block-closes k ch d from f units.entries (entries-are k ch root units ready.holds) number number_is

    pub no-end : None ≡ closing_of 0 number (drop number units.entries) → ⊥
    no-end none = let e = closes in cc

    module _ (to : ℕ) (ends : Some to ≡ closing_of 0 number (drop number units.entries)) where
      to-is : to ≡ f.to
      to-is = same_Some to f.to (ends ∙ closes)

      pub looks-no : ((from < q.front) × (q.rear ≤ to) → ⊥) → Fails k ch d
      looks-no = block-looks-fail k ch d from f q.front q.rear ready.front ready.rear to to-is

      module _ (o : Option ReadPart) (reads : (to levels : ℕ) (b : Block) (mode : SyntaxMode) → SaysBlock units.entries from to levels b mode → IsReadBlock k levels b mode (place_at q.new.now d.start) o) where
        is-read : IsReadBlock k f.levels f.block f.mode (place_at q.new.now d.start) o
        is-read = reads f.to f.levels f.block f.mode says

        pub none-read : o ≡ None → ⊥
        none-read e = subst (IsReadBlock k f.levels f.block f.mode (place_at q.new.now d.start)) e is-read

        module _ (p : ReadPart) (some : o ≡ Some p) where
          there : IsBlock k f.levels f.block f.mode (place_at q.new.now d.start) p
          there = subst (IsReadBlock k f.levels f.block f.mode (place_at q.new.now d.start)) some is-read

          here : IsBlock k f.levels f.block f.mode (moved f.at (start_after ch)) p
          here = subst (λ z. IsBlock k f.levels f.block f.mode z p) place there

          pub read-fits : AllFit p.notes.items
          read-fits =
              let z = moved f.at (start_after ch) in
              let b = block_alone k f.levels f.block f.mode z in
              part-fits f.levels z b.nodes b.taken b.asks p (now-few k ch q root units ready f.at d.start f.start_now) here

          pub read-few : p.end < 2 ^ 64
          read-few =
              let z = moved f.at (start_after ch) in
              let e = here.end in
              grind (arith, position-within, now-few)

          pub end-no : (p.end + q.edit.old_end ≡ d.end + q.edit.new_end → ⊥) → Fails k ch d
          end-no = block-end-fails k ch d from f q.front q.rear ready.front ready.rear to to-is q.new.now q.edit ready.makes (place_at q.new.now d.start) place p there

          pub part-of : from < q.front → q.rear ≤ to → p.end + q.edit.old_end ≡ d.end + q.edit.new_end → (part : ReparsedPart) → part.nodes ≡ p.nodes → part.end ≡ p.end → part.from_entry ≡ from → part.to_entry ≡ to
              → part.entries.units.entries ≡ entries_of d.start p → part.first_child ≡ d.from → IsPart k ch root d part
          part-of before after shifted part nodes end from_is at entries first =
              block-part k ch d from f q.front q.rear ready.front ready.rear to to-is q.new.now q.edit ready.makes (place_at q.new.now d.start) place p there before after shifted part nodes end from_is at entries root first
              (candidate-order k ch root units ready.holds d chosen)
