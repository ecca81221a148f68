-- What is noted of a block: a note where it begins, what is noted in it, and a note where it ends.
use Rattle.typst_edits.proofs.Cited.{◌≡◌, ℕ, suc, ◌+◌, ◌-◌, List, ◌∷◌, ◌++◌, take, Some, refl, ap, sym, ◌∙◌, subst, arith, Place, moved, CharClasses, width, position, Nested, shift, no_log, logged, Outcome, start_point, point_of, state_of, markup_reading, rules, max_depth, start_of, whole, parsed, log, Among, blocks_of_text, block_at, Named, Noting, noting, notes_in, Spot, unit_at, ended, lowered, NestedBlock, NestedBlockLaw}
use Rattle.typst_language.specs.declared.calls.Mark.TheVariants as mark
use Rattle.typst_edits.proofs.Blocks.{ends as block-ends}
use Rattle.typst_edits.proofs.Bytes.{asks-are, notes-one, none_yet, fresh_notes, next_note, noted-length, logged-notes, notes-around, notes-lowered}
use Rattle.typst_edits.proofs.Edit.{among}
use Rattle.typst_edits.proofs.Spots.{Lawful}
use Rattle.typst_edits.proofs.Law.{inside-level}
use Rattle.typst_edits.proofs.Names.{named-level}
use Rattle.typst_edits.proofs.Nested.{Nests, unit-nests, notes-nested}
use Rattle.typst_edits.proofs.Widths.{width-moved}

module _ (k : CharClasses) (text : List ℕ) (c : Spot (Unit {0})) where
  abbrev z0 : Place
  z0 = start_of text

  -- Between its two notes stand those of what is asked in it.
  pub record BlockLog : Type 0 where
    pub notes : NestedBlock k text c
    pub inner_is : notes.inner ≡ fresh_notes (max_depth - c.fewer) (moved c.at z0) (unit_at c z0).asks
    pub state : notes.opens.state ≡ c.start

  pub block-log : Among c (blocks_of_text k text) → BlockLog
  unfolding blocks_of_text log position
  block-log chosen =
      let o = parsed k max_depth text in
      let l = among (Lawful z0 z0 o o) c _ chosen (inside-level (rules k) k (block-ends k) max_depth whole z0 z0 (start_point markup_reading)) in
      let named = among (Named (block_at k) max_depth) c _ chosen (named-level (rules k) k max_depth whole z0 (start_point markup_reading)) in
      let f = c.fewer in
      let lv = max_depth - f in
      let y = moved c.at z0 in
      let u = unit_at c z0 in
      let end = c.at + u.taken in
      let own = shift c.at (lowered f u.asks) in
      let late = shift end named.later in
      let opening : Noting = record { at = c.at; gap = 0; fewer = f; mark = mark.Opens c.name; state = c.start } in
      let closing : Noting = record { at = end + 0; gap = 0; fewer = f; mark = mark.Closes; state = state_of c.reached } in
      let asks = asks-are o.asks c.before named.earlier own (shift end c.after) late (noting opening) (noting closing) (ap (λ (v : Outcome (Unit {0})). v.asks) l.old) named.opened (ap (shift end) named.closed) in
      let behind = own ++ noting closing ∷ late in
      let front = fresh_notes max_depth z0 named.earlier in
      let first = next_note max_depth z0 named.earlier opening in
      let last = next_note max_depth z0 own closing in
      let rest = fresh_notes max_depth z0 late in
      let all_left : lv - 0 ≡ lv = omega arith in
      let reads : u ≡ ended (block_at k lv c.name y (point_of c.start)) = ap (λ m. m y (point_of c.start)) named.reads in
      record {
        notes = record {
          earlier = front;
          opens = first;
          inner = fresh_notes lv y u.asks;
          closes = last;
          later = rest;
          notes = ap (λ ls. (logged max_depth z0 no_log ls).notes) asks ∙ logged-notes max_depth z0 (named.earlier ++ noting opening ∷ behind)
              ∙ ap Some (notes-around max_depth z0 named.earlier opening behind ∙ ap (λ ns. front ++ first ∷ ns) (notes-around max_depth z0 own closing late))
              ∙ ap (λ ns. Some (front ++ first ∷ (ns ++ last ∷ rest))) (notes-lowered max_depth f c.at z0 u.asks);
          name = refl;
          start = width-moved c.at text;
          levels_there = refl;
          name_end = refl;
          end = width-moved (end + 0) text ∙ ap (λ a. width (take a text)) (omega arith);
          levels_end = refl;
          nested = subst (λ v. Nested v (fresh_notes lv y u.asks)) all_left (notes-nested lv 0 y u.asks 0 none_yet (omega arith)
              (subst (λ (v : Outcome (Unit {0})). Nests (suc lv) 1 v.asks) (sym reads) (unit-nests k lv c.name y (point_of c.start))));
          number = ap notes_in named.opened ∙ notes-one named.earlier c.at 0 f (mark.Opens c.name) c.start ∙ ap suc (sym (noted-length max_depth z0 named.earlier 0 none_yet));
          long = noted-length lv y u.asks 0 none_yet;
        };
        inner_is = refl;
        state = refl;
      }

pub nested-block-law : NestedBlockLaw
nested-block-law k text c chosen = (block-log k text c chosen).notes
