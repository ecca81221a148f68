-- The numbers of a tree's nodes. A stretch a..e of numbers has those from a on that are below e.
use Rattle.std.specs.Prelude.{ℕ, ◌+◌, ◌-◌, ◌*◌, ◌/◌, ◌<◌, ◌≤◌, ◌^◌, ◌==◌, nat_le, List, [], ◌∷◌, Option, Some, None, if◌then◌else◌}
use Rattle.typst_kinds.specs.Head.{Head}
use Rattle.typst_tree.specs.Tree.{Forest, none, more, Tree, count, nodes}

-- a stretch that is empty or has only numbers that nodes can have
abbrev pub IsStretch : ℕ → ℕ → Type 0
IsStretch a e = a < e → (2 ≤ a) × (e ≤ 2 ^ 47)

-- the stride at which n nodes share p numbers: half of each one's share, or all of it if half is 0
abbrev pub stride : ℕ → ℕ → ℕ
stride p n = if p / (2 * n) == 0 then p / n else p / (2 * n)

-- a node's own number and upper end in the stretch a..e, at the stride s
abbrev pub placed : ℕ → ℕ → ℕ → ℕ → Head → Head
placed file s a e h =
    if h.is_inner then record h { span = Some (file, a + s / 2); upper = e } else record h { span = Some (file, (a + e) / 2); upper = 0 }

-- trees one after another from a on, each in a stretch of s numbers for each of its nodes. A node's
-- children come after the first share of its stretch, at the stride of that stretch
abbrev pub numbered_forest : ℕ → ℕ → ℕ → Forest → Forest
numbered_forest file s a none = none
numbered_forest file s a (more h ks r) =
    let n = 1 + count ks in
    let inner = stride (n * s) n in
    more (placed file inner a (a + n * s) h) (numbered_forest file inner (a + inner) ks) (numbered_forest file s (a + n * s) r)

-- a tree in the stretch of p numbers from a on
abbrev pub numbered : ℕ → ℕ → ℕ → Tree → Tree
numbered file a p t =
    let s = stride p (nodes t) in record { head = placed file s a (a + p) t.head; kids = numbered_forest file s (a + s) t.kids }

-- the tree with its nodes numbered in a..e, if they are no more than that
abbrev pub numberized : ℕ → ℕ → ℕ → Tree → Option Tree
numberized file a e t = if nat_le (nodes t) (e - a) then Some (numbered file a (e - a) t) else None

-- `numbered_forest` of a list of trees
abbrev pub numbered_list : ℕ → ℕ → ℕ → List Tree → List Tree
numbered_list file s a [] = []
numbered_list file s a (t ∷ ts) = numbered file a (nodes t * s) t ∷ numbered_list file s (a + nodes t * s) ts
