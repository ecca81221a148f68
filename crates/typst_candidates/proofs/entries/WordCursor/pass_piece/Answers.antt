use Rattle.typst_candidates.proofs.Cited.{◌≡◌, ℕ, suc, ◌+◌, ◌<◌, true, List, length, get_or, take, Some, ap, sym, ◌∙◌, arith, slice_get, Entry, Packed, is_piece, beside, entry_in, holds_piece, span, unpacked, wides}
use Rattle.typst_candidates.proofs.Words.{at-word, found-at, one-more, piece-held}
use Rattle.typst_candidates.proofs.entries.WordCursor.pass_piece.Goals as goal

-- a word by which a piece begins
record Passed (ps : List Packed) (ws : List Entry) (n : ℕ) (p : Packed) : Type 0 where
  entry : Entry
  found : slice_get (unpacked ps ws) n ≡ Some entry
  leads : is_piece entry.kind ≡ true
  same : wides (take (n + 1) ps) ≡ wides (take n ps)
  long : span (entry_in p) ≡ entry.step + entry.gap

passed : (ps : List Packed) (ws : List Entry) (n : ℕ) (p : Packed) → n < length ps → p ≡ get_or ps n p → wides ps ≡ length ws → holds_piece (entry_in p) ≡ true → Passed ps ws n p
passed ps ws n p lt is h piece =
    let x = piece-held (entry_in p) piece in
    let held : entry_in (get_or ps n p) ≡ Some x.0 = ap entry_in (sym is) ∙ x.1 in
    let next : n + 1 ≡ suc n = omega arith in
    record {
      entry = x.0;
      found = found-at ps ws n p lt (omega arith) ∙ ap (λ o. at-word o (slice_get ws (wides (take n ps)))) held;
      leads = x.2;
      same = omega (arith, ap (λ m. wides (take m ps)) next, one-more ps n p lt, ap beside held);
      long = ap span x.1;
    }

pub invariant_of-self : goal.invariant_of-self
invariant_of-self c =
    let s = passed c.self.inside.words.now c.self.inside.wide.now c.self.inside.number c.in_ok-word.field-0.now c.in_ok-word.ensures.lookup.3.0 c.in_ok-word.ensures.lookup.1 c.self.invariant.2 (sym c.is_piece.ensures ∙ c.if-not-is_piece.false) in
    (omega (arith, c.in_ok-word.ensures.lookup.3.0), c.self.invariant.1 ∙ sym s.same, c.self.invariant.2)

pub returns : goal.returns
returns c =
    let s = passed c.self.inside.words.now c.self.inside.wide.now c.self.inside.number c.in_ok-word.field-0.now c.in_ok-word.ensures.lookup.3.0 c.in_ok-word.ensures.lookup.1 c.self.invariant.2 (sym c.is_piece.ensures ∙ c.if-not-is_piece.false) in
    (record { entry = s.entry; entry_is = grind (arith, s.found); leads = s.leads; new_is = grind arith }, c.span.ensures.value ∙ s.long)
