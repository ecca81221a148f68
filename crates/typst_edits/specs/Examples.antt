-- Where the blocks of short texts stand, as it follows from the definitions.
use Rattle.std.specs.Prelude.{◌≡◌, ℕ, ◌+◌, ◌-◌, max, List, [], ◌∷◌, codes, map}
use Rattle.typst_lines.specs.Classes.{CharClasses, by_law}
use Rattle.typst_tree.specs.Tree.{text_of}
use Rattle.typst_language.specs.declared.calls.Block.TheVariants as block
use Rattle.typst_language.specs.Ask.{Ask}
use Rattle.typst_language.specs.Ask.Ask.{looked, marked}
use Rattle.typst_edits.specs.Hole.{path_of}
use Rattle.typst_edits.specs.Laws.{blocks_of_text}

-- where looks end
abbrev pub most : List Ask → ℕ
most [] = 0
most (looked at look ∷ asks) = max (at + look.front) (most asks)
most (marked at gap fewer mark s ∷ asks) = most asks

-- how far before the place that they are counted from looks begin
abbrev pub least : List Ask → ℕ
least [] = 0
least (looked at look ∷ asks) = max (look.back - at) (least asks)
least (marked at gap fewer mark s ∷ asks) = least asks

-- what is computed
pub record Blocks (beyond : CharClasses) : Type 0 where
  -- a block within a block: where they begin, and their paths
  pub places : map (λ c. c.at) (blocks_of_text (by_law beyond) (codes "@a[@b[c]]")) ≡ 2 ∷ 5 ∷ []
  pub paths : map (λ c. path_of c.hole) (blocks_of_text (by_law beyond) (codes "@a[@b[c]]")) ≡ (0 ∷ 1 ∷ []) ∷ (0 ∷ 1 ∷ 1 ∷ 0 ∷ 1 ∷ []) ∷ []
  -- what is taken after a block, what it is, its bytes, and the nodes taken back, by it and by the whole
  pub rests : map (λ c. c.rest) (blocks_of_text (by_law beyond) (codes "@a[b] c")) ≡ 2 ∷ []
  pub names : map (λ c. c.name) (blocks_of_text (by_law beyond) (codes "@a[b] #{c}")) ≡ block.Content ∷ block.Code ∷ []
  pub bytes : map (λ c. text_of c.node) (blocks_of_text (by_law beyond) (codes "@a[b] c")) ≡ codes "[b]" ∷ []
  pub takes_back : map (λ c. c.takes_back) (blocks_of_text (by_law beyond) (codes "@a[b] c")) ≡ 0 ∷ []
  pub back : map (λ c. c.back) (blocks_of_text (by_law beyond) (codes "@a[b] c")) ≡ 0 ∷ []
  -- each call leaves one level fewer
  pub levels : map (λ c. c.fewer) (blocks_of_text (by_law beyond) (codes "@a[@b[c]]")) ≡ 1 ∷ 2 ∷ []
  -- what is looked at before a block ends at its bracket, and after it nothing before its end is looked at
  pub looked_before : map (λ c. most c.before) (blocks_of_text (by_law beyond) (codes "@a[@b[c]]")) ≡ 3 ∷ 6 ∷ []
  pub looked_after : map (λ c. least c.after) (blocks_of_text (by_law beyond) (codes "@a[@b[c]]")) ≡ 0 ∷ 0 ∷ []
  -- a star after a block looks at its last character
  pub star_behind : map (λ c. least c.after) (blocks_of_text (by_law beyond) (codes "@a[b]*c*")) ≡ 1 ∷ []
  -- a block in what is delimited by parens, which it loses above a fraction's slash: where the block begins, and its path
  pub paren_places : map (λ c. c.at) (blocks_of_text (by_law beyond) (codes "$(#[a])/b$")) ≡ 3 ∷ []
  pub paren_paths : map (λ c. path_of c.hole) (blocks_of_text (by_law beyond) (codes "$(#[a])/b$")) ≡ (0 ∷ 1 ∷ 0 ∷ 0 ∷ 1 ∷ 1 ∷ []) ∷ []
  -- Three calls grow one block, turn after turn: its hole is the first child of the first call, which is that of the second, and so on. With a turn's spots put into the shape once too often or not at all the path would be longer or shorter.
  pub call_paths : map (λ c. path_of c.hole) (blocks_of_text (by_law beyond) (codes "#[a](b)(c)(d)")) ≡ (1 ∷ 0 ∷ 0 ∷ 0 ∷ []) ∷ []
  -- where a bracket is text there is no block
  pub none : map (λ c. c.at) (blocks_of_text (by_law beyond) (codes "@a [b]")) ≡ []
