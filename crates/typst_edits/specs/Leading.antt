-- Where the pieces of a run begin among the nodes that it gives.
use Rattle.std.specs.Prelude.{◌≡◌, ℕ, suc, ◌+◌, ◌-◌, ◌<◌, Bool, true, false, List, [], ◌∷◌, ◌++◌, length, take, Some, if◌then◌else◌, codes}
use Rattle.typst_lines.specs.Classes.{CharClasses}
use Rattle.typst_tree.specs.Tree.{Tree, forest, joined, text_of, made_error}
use Rattle.typst_tokens.specs.Sight.{width}
use Rattle.typst_language.specs.declared.calls.Block.TheVariants as block
use Rattle.typst_language.specs.Point.{Trivia, gap_of}
use Rattle.typst_grammar.specs.Grammar.{max_depth, start_of}
use Rattle.typst_edits.specs.BlockRuns.{opened_at}
use Rattle.typst_edits.specs.Children.{Settles, block_with, kids_in, kids_of_run}
use Rattle.typst_edits.specs.Edit.{Among}
use Rattle.typst_edits.specs.Frame.{Run, top, inner, read_as, opened_by, is_over}
use Rattle.typst_edits.specs.Laws.{blocks_of_text}
use Rattle.typst_edits.specs.Sequence.{first_of, first_end, then_of, then_end, onwards_at, standing_by, nodes_after, trivia_before, AllGo, End}
use Rattle.typst_edits.specs.Spot.{Spot, unit_at}

-- how many bytes several nodes hold
abbrev pub bytes_of : List Tree → ℕ
bytes_of ts = length (joined (forest ts))

-- Of several nodes, the first of which begins at a byte, the one of an index leads at another byte: it begins there and isn't empty, as no other does.
pub record LeadsAt (from : ℕ) (ts : List Tree) (at index : ℕ) : Type 0 where
  pub left : List Tree
  pub node : Tree
  pub right : List Tree
  pub is : ts ≡ left ++ node ∷ right
  pub here : length left ≡ index
  pub begins : from + bytes_of left ≡ at
  pub full : 0 < length (text_of node)
  pub alone : (before : List Tree) (x : Tree) (behind : List Tree) → ts ≡ before ++ x ∷ behind → from + bytes_of before ≡ at → 0 < length (text_of x) → length before ≡ index

-- where the token after pieces that end so begins, in bytes
abbrev pub token_byte : List ℕ → End (Bool × ℕ) → ℕ
token_byte text e = width (take (e.taken + gap_of e.state.known) text)

-- where a content block's markup begins, in bytes
abbrev pub markup_from : CharClasses → ℕ → List ℕ → Spot (Unit {0}) → ℕ
markup_from k levels text s = width (take (opened_at k levels s (start_of text)) text)

-- where the first of a run's nodes begins, in bytes
abbrev pub run_from : {k : CharClasses} {text : List ℕ} → Run k text → ℕ
run_from {k} {text} top = 0
run_from {k} {text} (inner c levels a n l) = markup_from k levels text c

-- where the token after the first i pieces of a run begins, in bytes
abbrev pub token_after : {k : CharClasses} {text : List ℕ} → Run k text → ℕ → ℕ
token_after {k} {text} r i = let z = start_of text in let e = first_end i (read_as r z) in width (take (opened_by r z + (e.taken + gap_of e.state.known)) text)

-- where the one after the n pieces that follow them begins
abbrev pub token_past : {k : CharClasses} {text : List ℕ} → Run k text → ℕ → ℕ → ℕ
token_past {k} {text} r i n = let z = start_of text in let q = read_as r z in let f = then_end i n q in width (take (opened_by r z + (((first_end i q).taken + f.taken) + gap_of f.state.known)) text)

-- Where the n pieces after the first i of a run begin and end among its nodes, with the trivia after them: the one that leads at the cut where they begin stands after the nodes of the i pieces and the trivia after these, and so where they end.
pub record Leading (k : CharClasses) (text : List ℕ) (r : Run k text) (i n : ℕ) (t : Trivia) : Type 0 where
  pub behind : List Tree
  pub children : (let q = read_as r (start_of text) in kids_of_run r ≡ standing_by i n q ++ (nodes_after i n t q ++ behind))
  -- what is read after them gives their trivia and what stands after these
  pub onwards : (onwards_at i n (read_as r (start_of text))).nodes ≡ t.nodes ++ behind
  -- with the trivia after them they end where the token after them begins
  pub ends : (let q = read_as r (start_of text) in run_from r + bytes_of (standing_by i n q ++ nodes_after i n t q) ≡ token_past r i n)
  pub first : 0 < n → (let q = read_as r (start_of text) in LeadsAt (run_from r) (kids_of_run r) (token_after r i) (length (standing_by i n q) + trivia_before i q))
  pub next : (let q = read_as r (start_of text) in is_over i n q ≡ false → LeadsAt (run_from r) (kids_of_run r) (token_past r i n) (length (standing_by i n q) + length (nodes_after i n t q)))
  -- after the last piece stands nothing
  pub last : is_over i n (read_as r (start_of text)) ≡ true → behind ≡ []

-- A content block takes something.
abbrev pub TakesSome : {k : CharClasses} {text : List ℕ} → Run k text → Type 0
TakesSome {k} {text} top = Unit {0}
TakesSome {k} {text} (inner c levels a n l) = 0 < (unit_at c (start_of text)).taken

-- The law of the children that lead, at the top of a text's tree and in a content block that takes something.
abbrev pub LeadingLaw : Type 0
LeadingLaw = (k : CharClasses) (text : List ℕ) (r : Run k text) (i n : ℕ) (t : Trivia) → TakesSome r → AllGo (first_of i (read_as r (start_of text))) → AllGo (then_of i n (read_as r (start_of text)))
    → (then_end i n (read_as r (start_of text))).state.known ≡ Some t → Settles n (onwards_at i n (read_as r (start_of text))) → Leading k text r i n t

-- the first child of a content block, which is an error where its second bracket is missing
abbrev pub opening_child : Bool → Tree → Tree
opening_child closed bracket = if closed then bracket else made_error (codes "unclosed delimiter") bracket

-- The node of a content block that takes something is its bracket, its markup, which begins after that, and what stands after the markup.
pub record LeadingInner (k : CharClasses) (levels : ℕ) (text : List ℕ) (c : Spot (Unit {0})) : Type 0 where
  pub closed : Bool
  pub bracket : Tree
  pub closing : List Tree
  pub node : c.node ≡ block_with closed bracket (kids_in c.node) closing
  -- where its first child ends
  pub opening : width (take c.at text) + length (text_of (opening_child closed bracket)) ≡ markup_from k levels text c

abbrev pub LeadingInnerLaw : Type 0
LeadingInnerLaw = (k : CharClasses) (levels : ℕ) (text : List ℕ) (c : Spot (Unit {0})) → Among c (blocks_of_text k text) → c.name ≡ block.Content → max_depth - c.fewer ≡ suc levels
    → 0 < (unit_at c (start_of text)).taken → LeadingInner k levels text c
