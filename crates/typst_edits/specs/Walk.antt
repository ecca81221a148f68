-- The way down a tree by places.
use Rattle.std.specs.Prelude.{◌≡◌, ℕ, zero, suc, ◌+◌, ◌<◌, ◌&&◌, if◌then◌else◌, nat_lt, List, [], ◌∷◌, ◌++◌, length, take, map, Option, Some, None, option_map}
use Rattle.typst_tree.specs.Tree.{Tree, trees, text_of}
use Rattle.typst_lines.specs.Classes.{CharClasses}
use Rattle.typst_tokens.specs.Sight.{width}
use Rattle.typst_grammar.specs.Grammar.{max_depth, parsed}
use Rattle.typst_edits.specs.Edit.{Among}
use Rattle.typst_edits.specs.Hole.{path_of}
use Rattle.typst_edits.specs.Laws.{blocks_of_text}
use Rattle.typst_edits.specs.Spot.{Spot, unit_at, block_head}
use Rattle.typst_edits.specs.TextReplacement.{TextReplacement, text_before, start_before}

-- a step from a node to a child: which child, the byte at which it begins, and the child
pub record Step : Type 0 where
  pub index : ℕ
  pub start : ℕ
  pub node : Tree

-- of several nodes, the first of which begins at a byte, the one that begins before a stretch and ends after it
abbrev pub over : ℕ → ℕ → ℕ → List Tree → Option Step
over from to at [] = None
over from to at (t ∷ ts) =
    let end = at + length (text_of t) in
    if nat_lt at from && nat_lt to end then Some (record { index = 0; start = at; node = t }) else option_map (λ (s : Step). record s { index = suc s.index }) (over from to end ts)

-- so many steps down, each to the child that begins before the stretch and ends after it
abbrev pub walk : ℕ → ℕ → ℕ → ℕ → List Tree → List Step
walk zero from to at ts = []
walk (suc n) from to at ts = elim (over from to at ts) as (λ _. List Step) [ None ↦ [] | Some s ↦ s ∷ walk n from to (s.start + length s.node.head.text) (trees s.node.kids) ]

-- a given number of steps from the top of a text's tree, by a stretch in characters
abbrev pub walk_to : ℕ → CharClasses → TextReplacement → List Step
walk_to n k edit = walk n (width edit.front) (width (edit.front ++ edit.old)) 0 (parsed k max_depth (text_before edit)).nodes

-- What a block that covers a stretch of a text strictly is on this way.
pub record Found (k : CharClasses) (edit : TextReplacement) (c : Spot (Unit {0})) : Type 0 where
  -- the steps to it are the path of its hole
  pub path : map (λ (s : Step). s.index) (walk_to (length (path_of c.hole)) k edit) ≡ path_of c.hole
  -- the last of them leads to its node, which is of its kind, and begins and ends where it does
  pub earlier : List Step
  pub last : Step
  pub steps : walk_to (length (path_of c.hole)) k edit ≡ earlier ++ last ∷ []
  pub node : last.node ≡ c.node
  pub kind : last.node.head ≡ block_head c.name
  pub start : last.start ≡ width (take c.at (text_before edit))
  pub end : last.start + length (text_of last.node) ≡ width (take (c.at + (unit_at c (start_before edit)).taken) (text_before edit))

-- The law of the path: a block that covers a stretch of a text strictly stands where the steps by places lead.
abbrev pub WalkLaw : Type 0
WalkLaw = (k : CharClasses) (edit : TextReplacement) (c : Spot (Unit {0})) (past : ℕ) → Among c (blocks_of_text k (text_before edit))
    → c.at < length edit.front → (unit_at c (start_before edit)).taken + c.at ≡ (length edit.front + length edit.old) + past → 0 < past → Found k edit c
