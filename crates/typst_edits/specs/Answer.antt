-- What an edit answers.
use Rattle.std.specs.Prelude.{◌≡◌, ℕ, ◌+◌, ◌-◌, ◌<◌, ◌^◌, List, ◌∷◌, ◌++◌, Option, Some, None, option_map}
use Rattle.std.specs.declared.ops.Range.{Range}
use Rattle.typst_lines.specs.Classes.{CharClasses}
use Rattle.typst_tree.specs.Tree.{Tree, bare, synthesized}
use Rattle.typst_tree.specs.Laws.{put_at}
use Rattle.typst_tree.specs.Numbers.{numberized}
use Rattle.typst_tree.specs.Replace.{replaced_at}
use Rattle.typst_tokens.specs.Sight.{width}
use Rattle.typst_candidates.specs.Candidates as candidate
use Rattle.typst_candidates.specs.Candidates.{Candidate}
use Rattle.typst_candidates.specs.Entries.{units_of, spliced}
use Rattle.typst_candidates.specs.declared.entry.Entry.{Entry}
use Rattle.typst_grammar.specs.Grammar.{log, tree}
use Rattle.typst_edits.specs.Edit.{Among}
use Rattle.typst_edits.specs.Every.{Every}
use Rattle.typst_edits.specs.Frame.{Gives}
use Rattle.typst_edits.specs.PieceNotes.{listed}
use Rattle.typst_edits.specs.TextReplacement.{TextReplacement, text_before, text_after}

-- The candidates of replacing the bytes rs..re of a text are those of its tree at hand and of its reading's notes.
abbrev pub candidates_between : CharClasses → List ℕ → ℕ → ℕ → Tree → List Candidate
candidates_between k text rs re root = candidate.candidates (listed (log k text).notes) rs re root

-- The candidates of an edit, by the tree of the text before it.
abbrev pub candidates : CharClasses → TextReplacement → Tree → List Candidate
candidates k edit root = candidates_between k (text_before edit) (width edit.front) (width (edit.front ++ edit.old)) root

-- A tree stands in the file that its root's span names.
abbrev pub file_of : Tree → Option ℕ
file_of t = option_map (λ place. place.0) t.head.span

-- A fresh tree is numbered over all numbers of a file, or has none.
abbrev pub numbered_in : Option ℕ → Tree → Option Tree
numbered_in None t = Some (synthesized None t)
numbered_in (Some file) t = numberized file 2 (2 ^ 47) t

-- A candidate is refused where it doesn't pass or its nodes find no numbers.
abbrev pub Refused : CharClasses → TextReplacement → Tree → Candidate → Type 0
Refused k edit was c = (ts : List Tree) → Gives k edit c ts → replaced_at c.path c.from c.to ts was ≡ None

-- THE ANSWER is the first candidate that passes and whose nodes find numbers, as its range in the new text; where there is none it is the whole new text, numbered again.
pub data IsAnswer (k : CharClasses) (edit : TextReplacement) (cs : List Candidate) (was now : Tree) (range : Range ℕ) : Type 0 where
  part : (earlier : List Candidate) (c : Candidate) (later : List Candidate) (ts : List Tree) → cs ≡ earlier ++ c ∷ later → Every (Refused k edit was) earlier
      → Gives k edit c ts → replaced_at c.path c.from c.to ts was ≡ Some now → range.start ≡ c.start → range.end + width edit.old ≡ c.end + width edit.new → IsAnswer k edit cs was now range
  whole : Every (Refused k edit was) cs → numbered_in (file_of was) (tree k (text_after edit)) ≡ Some now
      → range ≡ record { start = 0; end = width (text_after edit) } → IsAnswer k edit cs was now range

-- A passing candidate is worth this: the new text's tree is the old one with its nodes in place, and its units are the old ones with its part's in place.
pub record Worth (k : CharClasses) (edit : TextReplacement) (c : Candidate) (ts : List Tree) : Type 0 where
  pub is_tree : tree k (text_after edit) ≡ put_at c.path c.from c.to ts (tree k (text_before edit))
  pub from : ℕ
  pub to : ℕ
  pub part : List Entry
  pub units : units_of (log k (text_after edit)) ≡ spliced from to part (units_of (log k (text_before edit)))

-- The law of candidates: in texts that a machine word counts, each that passes is worth that.
abbrev pub CandidateLaw : Type 0
CandidateLaw = (k : CharClasses) (edit : TextReplacement) (root : Tree) (c : Candidate) (ts : List Tree) → bare root ≡ bare (tree k (text_before edit))
    → width (text_before edit) < 2 ^ 64 - 1 → width (text_after edit) < 2 ^ 64 - 1
    → Among c (candidates k edit root) → Gives k edit c ts → Worth k edit c ts
