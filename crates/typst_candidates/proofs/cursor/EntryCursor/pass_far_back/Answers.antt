use Rattle.typst_candidates.proofs.Cited.{◌≡◌, ◌+◌, ◌∙◌, ℕ, ap, sym, subst, refl, arith, PassesBlock, EntryPlace, entry_after, start_at, end_of}
use Rattle.typst_candidates.proofs.Blocks.{end-block}
use Rattle.typst_candidates.proofs.cursor.EntryCursor.pass_far_back.Goals as goal

-- where a block begins that ends at a place
begun : (old new : EntryPlace) (span : ℕ) → PassesBlock new old span → start_at old ≡ start_at new + span
begun old new span p = ap start_at p.new_is ∙ end-block new.entries new.number 16 ∙ p.span_is (start_at new)

pub invariant_of-self-2 : goal.invariant_of-self-2
invariant_of-self-2 c =
    let passes = c.in-Some.ensures.some.0 in
    let at = begun c.self.inside.word_cursor c.pass_block_back.new.self c.in-Some.span passes in
    (omega (arith, at), omega (arith, ap (λ (p : EntryPlace). end_of 0 p.entries) passes.new_is))

pub returns : goal.returns
returns c =
    let passes = c.in-Some.ensures.some.0 in
    record {
      span = c.in-Some.span;
      passes = subst (λ (p : EntryPlace). PassesBlock c.pass_block_back.new.self p c.in-Some.span) c.self.view_is passes;
      after = omega (arith, begun c.self.inside.word_cursor c.pass_block_back.new.self c.in-Some.span passes, c.in-Some.ensures.some.1);
      first = c.in_ok-first.first;
      first_is = sym (c.in_ok-first.ensures.entry ∙ ap entry_after c.copy.ensures.place);
      back_is = refl;
    }
