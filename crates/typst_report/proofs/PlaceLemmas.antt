-- Columns that are counted from another place of the line.
use Rattle.typst_report.proofs.Cited.{◌≡◌, ℕ, ◌+◌, ◌-◌, ◌≤◌, ◌<◌, List, [], ◌∷◌, length, take, drop, get_or, slice_get, nat_le, None, Some, ap, sym, ◌∙◌, refl, arith, length-append, at_drop_more, unwrap_or, IsCharBoundary, IsUtf8, chars, IsLineOf, column_of, line_of, line_table, units, utf16_len, bytes, IsBase, IsPlace, line_begin, units_in_line, Line, LineColumn}
use Rattle.std.proofs.lemmas.List.Sums.{count_by-le-length}
use Rattle.std.specs.List.{slice_range}
use Rattle.typst_lines.proofs.LineTable.{chars-range, bytes-front, units-front, units-le, bytes-text, width-positive}
use Rattle.typst_lines.proofs.RoundTrip.{column-is, start-is, units-range, line-boundary}
use Rattle.typst_lines.proofs.TableOrder.{get-some, line_of-before, table-some}

-- ---- counting characters and units

pub units_at : (cs : List ℕ) (n c : ℕ) → (n < length cs) × (c ≡ get_or cs n c) → units (drop n cs) ≡ utf16_len c + units (drop (n + 1) cs)
units_at cs n c h = at_drop_more units cs n c h.0 ∙ ap (λ x. utf16_len x + units (drop (n + 1) cs)) (sym h.1)

pub units_text : (s : List ℕ) → IsUtf8 s → units (chars s) ≤ length s
units_text s v = omega (arith, units-le (chars s), bytes-text s v)

length_bytes : (cs : List ℕ) → length cs ≤ bytes cs
length_bytes [] = omega arith
length_bytes (c ∷ cs) = omega (arith, length_bytes cs, width-positive c)

-- ---- the line of a byte

line_of-within : (s : List ℕ) (b : ℕ) → line_of s b < length (line_table s)
unfolding line_of
line_of-within s b = omega (arith, count_by-le-length (λ (line : Line). nat_le line.byte_idx b) (line_table s), table-some s)

no_line : Line
no_line = record { byte_idx = 0; utf16_idx = 0 }

pub line_found : (s : List ℕ) (b n : ℕ) (l : Line) → n ≡ line_of s b → slice_get (line_table s) n ≡ Some l → IsLineOf s b l
line_found s b n l is e = let at = ap (slice_get (line_table s)) (sym is) ∙ e in record { at = at; before = line_of-before b s l at }

some_line : (s : List ℕ) (b : ℕ) → (l : Line) × IsLineOf s b l
some_line s b = grind (arith, get_or (line_table s) (line_of s b) no_line, get-some (line_table s) (line_of s b) no_line (line_of-within s b), line_of-before)

pub line_is_found : (s : List ℕ) (b n : ℕ) → n ≡ line_of s b → ¬ (None ≡ slice_get (line_table s) n)
line_is_found s b n is e = let at = get-some (line_table s) (line_of s b) no_line (line_of-within s b) in let there = ap (slice_get (line_table s)) is in cc

begin-is : (s : List ℕ) (b : ℕ) (v : IsUtf8 s) (end : IsCharBoundary s b) (l : Line) (of : IsLineOf s b l) → line_begin s b ≡ l.byte_idx
begin-is s b v end l of = ap (λ o. unwrap_or o 0) (start-is s v b end l of)

-- ---- places from which columns are counted

-- the start of the line
pub base_line : (s : List ℕ) (v : IsUtf8 s) (b : ℕ) (end : IsCharBoundary s b) (l : Line) (of : IsLineOf s b l) (start line : ℕ) → start ≡ l.byte_idx → line ≡ line_of s b + 1 → IsBase s b (record { byte = start; line = line; column = 1; utf16_column = 1 })
base_line s v b end l of start line e n = grind (arith, line-boundary, units-range, column-is, begin-is)

base_of : (s : List ℕ) (v : IsUtf8 s) (b : ℕ) (end : IsCharBoundary s b) (l : Line) (of : IsLineOf s b l) (p : LineColumn) → IsPlace s p → line_of s p.byte ≡ line_of s b → p.byte ≤ b → IsBase s b p
base_of s v b end l of p known same before =
    let start : IsCharBoundary s l.byte_idx = line-boundary s s v refl b end l of in
    let there : slice_get (line_table s) (line_of s p.byte) ≡ Some l = ap (slice_get (line_table s)) same ∙ of.at in
    let own : IsLineOf s p.byte l = record { at = there; before = line_of-before p.byte s l there } in
    let to_end = ap length (chars-range s v l.byte_idx b of.before start end) in
    let to_here = ap length (chars-range s v l.byte_idx p.byte own.before start known.boundary) in
    let between = ap length (chars-range s v p.byte b before known.boundary end) in
    let count_end = length-append (chars (take l.byte_idx s)) (chars (slice_range s l.byte_idx b)) in
    let count_here = length-append (chars (take l.byte_idx s)) (chars (slice_range s l.byte_idx p.byte)) in
    let count_between = length-append (chars (take p.byte s)) (chars (slice_range s p.byte b)) in
    let line : p.line ≡ line_of s p.byte + 1 = ap (λ q. q.line) known.at in
    let column : p.column ≡ column_of s p.byte + 1 = ap (λ q. q.column) known.at in
    let utf16 : p.utf16_column ≡ units_in_line s p.byte + 1 = ap (λ q. q.utf16_column) known.at in
    let units_end = units-range s v l.byte_idx b of.before start end in
    let units_here = units-range s v l.byte_idx p.byte own.before start known.boundary in
    let units_between = units-range s v p.byte b before known.boundary end in
    grind (arith, column-is, begin-is)

-- a place of the same line
pub base_self : (s : List ℕ) (v : IsUtf8 s) (b : ℕ) (end : IsCharBoundary s b) (p : LineColumn) → IsPlace s p → (n : ℕ) → p.line - 1 ≡ n → n ≡ line_of s b → p.byte ≤ b → IsBase s b p
base_self s v b end p known n here is before = let line : p.line ≡ line_of s p.byte + 1 = ap (λ q. q.line) known.at in grind (arith, some_line s b, base_of)

-- ---- how large columns are

module _ (s : List ℕ) (v : IsUtf8 s) (b : ℕ) (end : IsCharBoundary s b) where
  pub column_of-le : column_of s b ≤ b
  column_of-le =
      let found = some_line s b in
      let start : IsCharBoundary s found.0.byte_idx = line-boundary s s v refl b end found.0 found.1 in
      omega (arith, column-is s v b end found.0 found.1, ap length (chars-range s v found.0.byte_idx b found.1.before start end), length-append (chars (take found.0.byte_idx s)) (chars (slice_range s found.0.byte_idx b)), length_bytes (chars (take b s)), bytes-front s v b end)

  pub units_in_line-le : units_in_line s b ≤ b
  units_in_line-le = omega (arith, units-front s v b end)
