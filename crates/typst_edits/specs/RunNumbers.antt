-- The entries of a run's pieces, by their numbers.
use Rattle.std.specs.Prelude.{◌≡◌, ℕ, suc, ◌+◌, ◌-◌, ◌<◌, ◌≤◌, ◌==◌, List, take, drop, Some}
use Rattle.typst_lines.specs.Classes.{CharClasses}
use Rattle.typst_tokens.specs.Sight.{width}
use Rattle.typst_language.specs.declared.calls.Block.TheVariants as block
use Rattle.typst_kinds.specs.declared.mode.SyntaxMode.{SyntaxMode}
use Rattle.typst_candidates.specs.Cursors.{closing_of}
use Rattle.typst_candidates.specs.Records.{opening_of}
use Rattle.typst_grammar.specs.Grammar.{max_depth, start_of}
use Rattle.typst_edits.specs.BlockRuns.{run_at}
use Rattle.typst_edits.specs.BlockTest.{SaysBlock, entries_in}
use Rattle.typst_edits.specs.Edit.{Among}
use Rattle.typst_edits.specs.Frame.{is_over}
use Rattle.typst_edits.specs.InnerBytes.{inner_end}
use Rattle.typst_edits.specs.Laws.{blocks_of_text}
use Rattle.typst_edits.specs.NumberedNotes.{cut_after}
use Rattle.typst_edits.specs.RunTest.{SaysPiece, IsLast, BeginsAt}
use Rattle.typst_edits.specs.Runs.{text_run}
use Rattle.typst_edits.specs.Sequence.{first_of, AllGo, asks_of, first_end}
use Rattle.typst_edits.specs.Splice.{notes_in}
use Rattle.typst_edits.specs.Spot.{Spot}

-- ---- a text's own run

-- the byte at which the token after the first i pieces begins; before the first piece it is where the run begins
abbrev pub cut_of : CharClasses → List ℕ → ℕ → ℕ
cut_of k text i = let z = start_of text in width (take (cut_after i (first_end i (text_run k z))) text)

-- the number of the entry where i pieces end
abbrev pub number_of : CharClasses → List ℕ → ℕ → ℕ
number_of k text i = notes_in (asks_of (first_of i (text_run k (start_of text))))

-- A text's run has a given number of pieces, and its entries are found by where the pieces begin.
pub record RunNumbers (k : CharClasses) (text : List ℕ) : Type 0 where
  pub count : ℕ
  pub go : AllGo (first_of count (text_run k (start_of text)))
  pub most : (i : ℕ) → AllGo (first_of i (text_run k (start_of text))) → i ≤ count
  pub over : (i n : ℕ) → i + n ≤ count → is_over i n (text_run k (start_of text)) ≡ (i + n == count)
  pub begins : (i : ℕ) → i ≤ count → BeginsAt (entries_in k text) 0 (cut_of k text i) (number_of k text i)
  pub goes_on : (i j : ℕ) → i ≤ j → j ≤ count → BeginsAt (entries_in k text) (number_of k text i) (cut_of k text j) (number_of k text j)
  pub rises : (i j : ℕ) → i < j → j ≤ count → number_of k text i < number_of k text j
  pub last : IsLast (entries_in k text) (number_of k text count)
  pub not_last : (i : ℕ) → i < count → IsLast (entries_in k text) (number_of k text i) → ⊥
  pub says : (i : ℕ) → i ≤ count → SaysPiece (entries_in k text) (number_of k text i) (first_end i (text_run k (start_of text))).value

-- The law of the entries of a text's run.
abbrev pub RunNumbersLaw : Type 0
RunNumbersLaw = (k : CharClasses) (text : List ℕ) → RunNumbers k text

-- ---- a content block's run

-- the byte at which the token after the first i pieces of it begins; before the first piece it is where the run begins
abbrev pub cut_in : CharClasses → ℕ → List ℕ → Spot (Unit {0}) → ℕ → ℕ
cut_in k levels text s i = width (take (cut_after i (inner_end k levels i s (start_of text))) text)

-- the number of the entry where i pieces of it end
abbrev pub number_in : CharClasses → ℕ → List ℕ → Spot (Unit {0}) → ℕ → ℕ
number_in k levels text s i = notes_in s.before + notes_in (asks_of (first_of i (run_at k levels s (start_of text))))

-- A content block's entries are found by where it begins; its run has a given number of pieces, and their entries are found by where the pieces begin.
pub record InnerNumbers (k : CharClasses) (levels : ℕ) (text : List ℕ) (s : Spot (Unit {0})) : Type 0 where
  pub opens : ℕ
  pub closes : ℕ
  pub mode : SyntaxMode
  pub before : notes_in s.before ≡ suc opens
  pub opening : opening_of (width (take s.at text)) 0 0 (entries_in k text) ≡ Some opens
  pub says_block : SaysBlock (entries_in k text) opens closes (suc levels) block.Content mode
  pub mode_is : s.start.held.mode ≡ mode
  pub count : ℕ
  pub go : AllGo (first_of count (run_at k levels s (start_of text)))
  pub most : (i : ℕ) → AllGo (first_of i (run_at k levels s (start_of text))) → i ≤ count
  pub over : (i n : ℕ) → i + n ≤ count → is_over i n (run_at k levels s (start_of text)) ≡ (i + n == count)
  pub begins : (i : ℕ) → i ≤ count → BeginsAt (entries_in k text) (suc opens) (cut_in k levels text s i) (number_in k levels text s i)
  pub goes_on : (i j : ℕ) → i ≤ j → j ≤ count → BeginsAt (entries_in k text) (number_in k levels text s i) (cut_in k levels text s j) (number_in k levels text s j)
  pub rises : (i j : ℕ) → i < j → j ≤ count → number_in k levels text s i < number_in k levels text s j
  pub last : IsLast (entries_in k text) (number_in k levels text s count)
  pub not_last : (i : ℕ) → i < count → IsLast (entries_in k text) (number_in k levels text s i) → ⊥
  pub closing : closing_of 0 (suc (number_in k levels text s count)) (drop (suc (number_in k levels text s count)) (entries_in k text)) ≡ Some closes
  pub says : (i : ℕ) → i ≤ count → SaysPiece (entries_in k text) (number_in k levels text s i) (inner_end k levels i s (start_of text)).value

-- The law of the entries of a content block's run.
abbrev pub InnerNumbersLaw : Type 0
InnerNumbersLaw = (k : CharClasses) (levels : ℕ) (text : List ℕ) (s : Spot (Unit {0})) → Among s (blocks_of_text k text) → s.name ≡ block.Content → max_depth - s.fewer ≡ suc levels → InnerNumbers k levels text s
