-- Where no byte stands at a column of a line.
use Rattle.typst_c.proofs.Cited.{◌≡◌, ℕ, ◌+◌, ◌<◌, ◌≤◌, ◌^◌, List, length, take, Option, None, Some, IfNone, ap, sym, ◌∙◌, arith, same_Some, IsUtf8, IsCharBoundary, chars, byte_at_utf16, line_range, utf16_before, units_before, IsAtUnits}
use Rattle.std.specs.declared.ops.Range.{Range}
use Rattle.typst_lines.proofs.LineTable.{units-le, bytes-front}
use Rattle.typst_lines.proofs.RoundTrip.{back-from_utf16}

-- a byte that begins a character has no more units before it than a number can say
units_small : (text : List ℕ) (byte : ℕ) → IsUtf8 text → length text < 2 ^ 64 → IsCharBoundary text byte → utf16_before text byte < 2 ^ 64
units_small text byte u l at = omega (arith, units-le (chars (take byte text)), bytes-front text u byte at, at.0, l)

module _ (text : List ℕ) (line column byte : ℕ) (h : IsAtUnits text line column byte) where
  pub units_within : (range : Range ℕ) → Some range ≡ line_range text line → byte ≤ range.end
  units_within range e = omega (arith, h.to, ap (λ (r : Range ℕ). r.end) (same_Some range h.range (e ∙ h.is)))

  -- the number of units is one
  pub units_fit : IsUtf8 text → length text < 2 ^ 64 → units_before text line + column < 2 ^ 64
  units_fit u l = omega (arith, h.at, units_small text byte u l h.boundary)

  -- the byte is found by it
  pub units_found : (n : ℕ) → IsUtf8 text → n ≡ units_before text line + column → byte_at_utf16 text n ≡ Some byte
  units_found n u e = ap (byte_at_utf16 text) (e ∙ sym h.at) ∙ back-from_utf16 text u byte h.boundary

pub none_at : (text : List ℕ) (line column : ℕ) (r : Option ℕ) → ((b : ℕ) → IsAtUnits text line column b → ⊥) → IfNone r ((b : ℕ) → IsAtUnits text line column b → ⊥)
none_at text line column None h = h
none_at text line column (Some b) h = tt
