-- What an edit of a document read again.
use Rattle.typst_document.proofs.Cited.{◌≡◌, ℕ, ◌≤◌, true, List, arith, IsCharBoundary, IsUtf8, Range, unicode_classes, UnicodeClasses, Headline, edited, Held, Opened}
use Rattle.typst_parser.specs.Answers.{Answers}
use Rattle.typst_parser.specs.RootEdits.{IsRootEdit}
use Rattle.typst_parser.proofs.RootEdits.{held_edit}

-- by what a source answers, some of the root's children gave way to others there
pub read_again : (document : Opened) (old new : Held UnicodeClasses) (replace : Range ℕ) (with : List ℕ) (read : Range ℕ) → document.source ≡ old → Headline unicode_classes old → Headline unicode_classes new → IsUtf8 old.text → IsUtf8 with
    → IsCharBoundary document.source.text replace.start → IsCharBoundary document.source.text replace.end → replace.start ≤ replace.end → new.text ≡ edited old.text replace with → Answers unicode_classes old new replace with read
    → old.has_records ≡ true → read.start ≤ read.end → IsRootEdit document.source.root new.root read
read_again document old new replace with read same was now utf8_old utf8 start end ordered made answer records order = grind (arith, held_edit)
