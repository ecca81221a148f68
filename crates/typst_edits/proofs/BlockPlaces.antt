-- Where a block of a text stands, by the bytes of a candidate, also within a reading that was given up.
use Rattle.typst_edits.proofs.Cited.{◌≡◌, ℕ, zero, suc, ◌+◌, ◌<◌, ◌≤◌, true, List, [], ◌∷◌, ◌++◌, length, take, refl, ap, sym, ◌∙◌, subst, arith, drop, false, append-nil, length-append, None, CharClasses, Tree, forest, trees, text_of, bare, trees_forest, width, texts, texts-append, texts-one, Candidate, top_cuts, max_depth, start_of, parsed, log, tree, rules, whole, Among, Deep, fill, Hole, plug, path_in, path_of, under, listed, Spot, unit_at, last_node, after_spot, here_spot, nil_from_length, Place, moved, Block, utf8_ahead, at_trivia, Point, Stands, Parser, flushes, meaning_of, level_of, Meaning, Level, blockless, less, start_point, done, sane-block, markup_reading, block_at, level_seconds, seconds_of_text, candidates_between}
use Rattle.typst_edits.specs.Hole.Deep.{bare as alone}
use Rattle.typst_edits.proofs.CandidatePlaces.{bare-candidates-law}
use Rattle.typst_edits.proofs.MarkupCandidates.{BlockAt, all-find}
use Rattle.typst_edits.proofs.Edit.{among}
use Rattle.typst_edits.proofs.Walk.{deep_text, left_text, SpotPlace, Placed, placed-seconds, width-encodes}
use Rattle.typst_edits.proofs.Every.{first_or, Every}
use Rattle.typst_edits.proofs.Content.{Reaching, reaching-grew, left-by}
use Rattle.typst_edits.proofs.Known.{Reached, reached-run, reached-meaning, hand-stops, flushed-held}
use Rattle.typst_edits.proofs.Names.{Walks, in-any-shape, each-second-level}
use Rattle.typst_candidates.specs.Candidates as candidate

-- ---- two holes by the same path

pub split-same : {X : Type 0} (xs ys us vs : List X) (a b : X) → length xs ≡ length us → xs ++ a ∷ ys ≡ us ++ b ∷ vs → (xs ≡ us) × (a ≡ b)
split-same [] ys [] vs a b l e = (refl, ap (first_or a) e)
split-same [] ys (u ∷ us) vs a b l e = absurd (omega (arith, l))
split-same (x ∷ xs) ys [] vs a b l e = absurd (omega (arith, l))
split-same (x ∷ xs) ys (u ∷ us) vs a b l e = grind (arith, split-same xs ys us vs a b (omega (arith, l)) (ap (drop 1) e))

pub deep-same : (d f : Deep) (x y : Tree) → path_in d ≡ path_in f → fill d x ≡ fill f y → (deep_text d ≡ deep_text f) × (x ≡ y)
deep-same alone alone x y p e = (refl, e)
deep-same alone (under head left f right) x y p e = absurd (cc)
deep-same (under head left d right) alone x y p e = absurd (cc)
deep-same (under head left d right) (under above before f after) x y p e =
    let kids = sym (trees_forest (left ++ fill d x ∷ right)) ∙ ap (λ (t : Tree). trees t.kids) e ∙ trees_forest (before ++ fill f y ∷ after) in
    let here = split-same left right before after (fill d x) (fill f y) (ap (first_or 0) p) kids in
    let i = deep-same d f x y (ap (drop 1) p) here.1 in
    let head_is : head.text ≡ above.text = ap (λ (t : Tree). t.head.text) e in
    ((λ j. head_is j ++ (texts (here.0 j) ++ i.0 j)), i.1)

pub hole-same : (h g : Hole) (x y : Tree) → path_of h ≡ path_of g → plug h x ≡ plug g y → (left_text h ≡ left_text g) × (x ≡ y)
hole-same h g x y p e =
    let here = split-same h.left h.right g.left g.right (fill h.deep x) (fill g.deep y) (ap (first_or 0) p) e in
    let i = deep-same h.deep g.deep x y (ap (drop 1) p) here.1 in
    ((λ j. texts (here.0 j) ++ i.0 j), i.1)

-- ---- a block candidate

pub candidate-at : (k : CharClasses) (text : List ℕ) (from to : ℕ) (root : Tree) (c : Candidate) → bare root ≡ bare (tree k text) → Among c (candidates_between k text from to root) → c.is_block ≡ true
    → BlockAt [] 0 from to (parsed k max_depth text).nodes c
unfolding tree
candidate-at k text from to root c same chosen is =
    let was = tree k text in
    let ns = listed (log k text).notes in
    let there : Among c (candidate.candidates ns from to was) = subst (λ cs. Among c cs) (bare-candidates-law ns from to root was same) chosen in
    let found = among _ c _ there (all-find ns from to [] (top_cuts ns) 0 0 (forest (was ∷ []))) is in
    subst (λ ts. BlockAt [] 0 from to ts c) (trees_forest (parsed k max_depth text).nodes) found

-- a spot by its path
pub record Meets (text : List ℕ) (c : Candidate) (at taken : ℕ) : Type 0 where
  pub start : c.start ≡ width (take at text)
  pub end : c.end ≡ width (take (at + taken) text)

pub some-node : (from to : ℕ) (ts : List Tree) (c : Candidate) (b : BlockAt [] 0 from to ts c) → from ≤ to → 0 < length (text_of b.node)
some-node from to ts c b order = omega arith

pub meets : (k : CharClasses) (text : List ℕ) (from to : ℕ) (c : Candidate) → from ≤ to → BlockAt [] 0 from to (parsed k max_depth text).nodes c
    → (s : Spot (Unit {0})) → SpotPlace k text s → path_of s.hole ≡ c.path ++ c.from ∷ [] → Meets text c s.at (unit_at s (start_of text)).taken × (0 < length (text_of s.node))
meets k text from to c order b s p path = let same = hole-same s.hole b.hole s.node b.node (path ∙ b.path_is) (sym p.nodes ∙ b.is) in grind arith

-- ---- where a block within a reading that was given up stands: the nodes before its own hold the characters before it

-- ---- a block that isn't empty gives only its node

abbrev Lone : {A : Type 0} → Spot A → Type 0
Lone c = 0 < length (text_of c.node) → c.front ≡ []

abbrev LoneAt : (A : Type 0) → ℕ → Place → Point → Spot A → Type 0
LoneAt A n z s c = Lone c

lone-walks : (k : CharClasses) → Walks (Reached k) (Reaching k) LoneAt
lone-walks k = search (rules, reaching-grew, in-any-shape)

-- what a block gives that begins at no trivia, with nothing known of them
abbrev GivesOne : CharClasses → Meaning (Unit {0}) → Type 0
GivesOne k m = (z : Place) (s : Point) → s.known ≡ None → at_trivia k s.held.mode z ≡ false → (0 < length (text_of (last_node (m z s).nodes)) → less 1 (m z s).nodes ≡ [])

lone-here : (l : Level) (b : Block) → GivesOne l.classes (l.blocks b) → (z : Place) (s : Point) → Reached l.classes z s → (let o = done l flushes z s in Lone (after_spot o (here_spot b (l.blocks b) (moved o.taken z) o.state)))
lone-here l b one z s r = grind (arith, flushed-held, hand-stops)

-- ---- by the grammar's rules, at every level

last-empty : (ts : List Tree) → texts ts ≡ [] → length (text_of (last_node ts)) ≡ 0
last-empty [] e = refl
last-empty (t ∷ []) e = ap length (sym (texts-one t) ∙ e)
last-empty (t ∷ u ∷ ts) e =
    let nothing : List ℕ = [] in
    let g : length nothing ≡ 0 = omega arith in
    last-empty (u ∷ ts) (nil_from_length (texts (u ∷ ts)) (omega (arith, ap length (texts-append (t ∷ []) (u ∷ ts)), length-append (texts (t ∷ [])) (texts (u ∷ ts)), ap length e, g)))

module _ (k : CharClasses) where
  one-block : (levels : ℕ) (b : Block) → GivesOne k (block_at k levels b)
  unfolding less
  one-block levels b z s e clear some = by-taken (block_at k levels b z s).taken refl
    where
      text-is : texts (block_at k levels b z s).nodes ≡ utf8_ahead (block_at k levels b z s).taken z
      text-is = ((sane-block (rules k) k levels b).kept z s (subst (λ n. Stands z n) (sym e) tt)).text

      by-taken : (n : ℕ) → (block_at k levels b z s).taken ≡ n → less 1 (block_at k levels b z s).nodes ≡ []
      by-taken zero f = (let h = last-empty (block_at k levels b z s).nodes (text-is ∙ ap (λ m. utf8_ahead m z) f) in absurd (omega (arith, h, some)))
      by-taken (suc n) f = (let a = (left-by k levels b z s e clear (omega (arith, f))).alone in ap (λ ts. less 1 ts) a.nodes)

  lone-level : {A : Type 0} (levels : ℕ) (p : Parser A) (z : Place) (s : Point) → Reached k z s → Every Lone (level_seconds (rules k) k levels p z s)
  lone-level levels p z s h =
      each-second-level (Reached k) (Reaching k) LoneAt (lone-walks k) (rules k) k
      (λ n. record { reads = λ A q. reached-run (level_of (rules k) k n) (reached-meaning (rules k) k n) q; here = λ b t. lone-here (level_of (rules k) k n) b (one-block n b) })
      (λ n. record { reads = λ A q. reached-run (blockless k n (meaning_of (rules k) k n)) (reached-meaning (rules k) k n) q; here = λ b t. absurd (cc) }) levels p z s h

-- ---- of a text

pub second-place : (k : CharClasses) (text : List ℕ) (c : Spot (Unit {0})) → Among c (seconds_of_text k text) → 0 < length (text_of c.node) → length (left_text c.hole) ≡ width (take c.at text)
unfolding seconds_of_text
second-place k text c there some =
    let z = start_of text in
    let s = start_point markup_reading in
    let placed = among (Placed z s) c _ there (placed-seconds (rules k) k max_depth whole z s tt) in
    let lone = among Lone c _ there (lone-level k max_depth whole z s tt) in
    ap length (placed.left ∙ ap (λ ts. utf8_ahead c.at z ++ texts ts) (lone some) ∙ append-nil (utf8_ahead c.at z)) ∙ width-encodes (take c.at text)
