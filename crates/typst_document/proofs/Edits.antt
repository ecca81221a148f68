-- Edits of texts, as tables of lines see them.
use Rattle.typst_document.proofs.Cited.{◌≡◌, ℕ, ◌≤◌, List, length, take, drop, arith, Range, edited, IsEdited, line_starts}
use Rattle.std.proofs.Math.Seq.{take-append_seam, drop-append_seam}
use Rattle.std.proofs.lemmas.List.{length-append, length-take-le, take-append-le}

-- the edited text was made by putting as many bytes as the new part has in the place of the range
pub is_edited : (text new : List ℕ) (range : Range ℕ) → range.start ≤ range.end → range.end ≤ length text → IsEdited (line_starts text) (edited text range new) range (length new)
is_edited text new range ordered within =
    let front : List ℕ = take range.start text in
    let back : List ℕ = drop range.end text in
    let front_len : length front ≡ range.start = length-take-le range.start text (omega (arith, ordered, within)) in
    grind (arith, length-append, take-append-le, take-append_seam, drop-append_seam)
