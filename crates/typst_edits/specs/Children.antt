-- A tree where some pieces of a run are read again: one stretch of the children of the run's node exchanged, of a text's root or of a content block's markup.
use Rattle.std.specs.Prelude.{◌≡◌, ◌⊎◌, ℕ, suc, ◌+◌, ◌-◌, ◌<◌, ◌≤◌, Bool, List, [], ◌∷◌, ◌++◌, length, take, drop, slice_get, Some, None, if◌then◌else◌, codes}
use Rattle.typst_kinds.specs.declared.kind.SyntaxKind.TheVariants as kind
use Rattle.typst_tree.specs.Tree.{Tree, forest, trees, inner_of, made_error}
use Rattle.typst_lines.specs.Classes.{CharClasses}
use Rattle.typst_language.specs.declared.calls.Block.TheVariants as block
use Rattle.typst_language.specs.Point.{Trivia}
use Rattle.typst_language.specs.Meaning.{Outcome}
use Rattle.typst_grammar.specs.Grammar.{max_depth, tree}
use Rattle.typst_edits.specs.BlockRuns.{run_at}
use Rattle.typst_edits.specs.Edit.{Among, alter}
use Rattle.typst_edits.specs.Frame.{Run, top, inner, read_as, path_to}
use Rattle.typst_edits.specs.InnerJoint.{IsRun}
use Rattle.typst_edits.specs.Joins.{PassesJoint}
use Rattle.typst_edits.specs.Laws.{blocks_of_text}
use Rattle.typst_edits.specs.Sequence.{Sequence, first_end, then_end, onwards_at, read_by, standing_by, nodes_after, trivia_before}
use Rattle.typst_edits.specs.Spot.{Spot, last_node, unit_at}
use Rattle.typst_edits.specs.TextReplacement.{TextReplacement, text_before, text_after, start_before, start_after}

-- the nodes from one index up to another exchanged for others
abbrev pub exchanged : ℕ → ℕ → List Tree → List Tree → List Tree
exchanged i j news ts = take i ts ++ (news ++ drop j ts)

-- so with the children of the node at the end of a path of child indices, as `put_at` of Laws.antt of `typst_tree`
abbrev pub with_children : List ℕ → ℕ → ℕ → List Tree → Tree → Tree
with_children [] i j news t = record { head = t.head; kids = forest (exchanged i j news (trees t.kids)) }
with_children (n ∷ path) i j news t = record { head = t.head; kids = forest (alter n (with_children path i j news) (trees t.kids)) }

-- so many pieces keep what comes after them from what is before them: there are some, or it takes back nothing
abbrev pub Settles : ℕ → Outcome (Unit {0}) → Type 0
Settles n behind = (0 < n) ⊎ (behind.back ≡ 0)

-- a content block, by its bracket, which is an error where the second is missing, by what stands in it, and what stands after that
abbrev pub block_with : Bool → Tree → List Tree → List Tree → Tree
block_with closed bracket kids behind =
    inner_of kind.ContentBlock (forest ((if closed then bracket else made_error (codes "unclosed delimiter") bracket) ∷ inner_of kind.Markup (forest kids) ∷ behind))

-- the children of a content block's markup, which is its second child
abbrev pub kids_in : Tree → List Tree
kids_in block = elim (slice_get (trees block.kids) 1) as (λ _. List Tree) [ None ↦ [] | Some markup ↦ trees markup.kids ]

-- the nodes among which those of a run stand: the children of the root, or of its block's markup
abbrev pub kids_of_run : {k : CharClasses} {text : List ℕ} → Run k text → List Tree
kids_of_run {k} {text} top = trees (tree k text).kids
kids_of_run {k} {text} (inner c levels a n l) = kids_in c.node

-- What the trees of both texts are, where pieces of a run are read again that take back as many errors as the old ones: the new nodes stand in place of the old ones.
pub record KeptChildren (k : CharClasses) (edit : TextReplacement) (r : Run k (text_before edit)) (i n m : ℕ) (t u : Trivia) : Type 0 where
  pub behind : List Tree
  pub children : (let q = read_as r (start_before edit) in kids_of_run r ≡ standing_by i n q ++ (nodes_after i n t q ++ behind))
  pub tree_now : (let q = read_as r (start_before edit) in
      let first = length (standing_by i n q) in
      tree k (text_after edit) ≡ with_children (path_to r) first (first + length (nodes_after i n t q)) (nodes_after i m u (read_as r (start_after edit))) (tree k (text_before edit)))
  -- after at least one piece as many trivia lead in both texts, and the exchange is the same without these, which belong to the piece before
  pub trivia_same : 0 < i → trivia_before i (read_as r (start_after edit)) ≡ trivia_before i (read_as r (start_before edit))
  pub after_trivia : 0 < i → (let q = read_as r (start_before edit) in
      let first = length (standing_by i n q) in
      tree k (text_after edit)
      ≡ with_children (path_to r) (first + trivia_before i q) (first + length (nodes_after i n t q)) (drop (trivia_before i q) (nodes_after i m u (read_as r (start_after edit)))) (tree k (text_before edit)))

-- The law of a run's children: where an edit inside some pieces passes the test of the joint, and the new pieces take back as many errors as the old ones, one stretch of the children of the run's node is exchanged for the new pieces' nodes and the trivia after them.
abbrev pub ChildrenLaw : Type 0
ChildrenLaw = (k : CharClasses) (edit : TextReplacement) (r : Run k (text_before edit)) (i n m past : ℕ) (t u : Trivia) → PassesJoint k edit r i n m past t u
    → Settles n (onwards_at i n (read_as r (start_before edit))) → Settles m (onwards_at i m (read_as r (start_after edit)))
    → (read_by i m (read_as r (start_after edit))).back ≡ (read_by i n (read_as r (start_before edit))).back → KeptChildren k edit r i n m t u

-- What a block is in both texts then.
pub record KeptNode (k : CharClasses) (levels : ℕ) (edit : TextReplacement) (c : Spot (Unit {0})) (i n m : ℕ) (t u : Trivia) : Type 0 where
  pub closed : Bool
  pub bracket : Tree
  pub behind : List Tree
  pub ends : List Tree
  -- the block's markup is its second child
  pub node : (let q = run_at k levels c (start_before edit) in c.node ≡ block_with closed bracket (standing_by i n q ++ (nodes_after i n t q ++ behind)) ends)
  pub node_now : (let q = run_at k levels c (start_before edit) in let w = start_after edit in
      last_node (unit_at c w).nodes ≡ block_with closed bracket (standing_by i n q ++ (nodes_after i m u (run_at k levels c w) ++ behind)) ends)

abbrev pub NodeLaw : Type 0
NodeLaw = (k : CharClasses) (levels : ℕ) (edit : TextReplacement) (c : Spot (Unit {0})) (among : Among c (blocks_of_text k (text_before edit))) (name : c.name ≡ block.Content) (level : max_depth - c.fewer ≡ suc levels) (i n m past : ℕ) (t u : Trivia)
    → PassesJoint k edit (inner c levels among name level) i n m past t u
    → Settles n (onwards_at i n (run_at k levels c (start_before edit))) → Settles m (onwards_at i m (run_at k levels c (start_after edit)))
    → (read_by i m (run_at k levels c (start_after edit))).back ≡ (read_by i n (run_at k levels c (start_before edit))).back → KeptNode k levels edit c i n m t u

-- Pieces take back no more errors than stand before them, and what comes after them no more than stand at their end; the states of the notes there say how many.
pub record TakesBack (q : Sequence) (i n : ℕ) : Type 0 where
  pub pieces_back : (read_by i n q).back ≤ (first_end i q).state.empties
  pub after_back : (onwards_at i n q).back ≤ (then_end i n q).state.empties

abbrev pub BackLaw : Type 0
BackLaw = (k : CharClasses) (q : Sequence) → IsRun k q → (i n : ℕ) → TakesBack q i n
