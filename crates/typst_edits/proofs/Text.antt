-- The block law of a whole text.
use Rattle.typst_edits.proofs.Cited.{◌≡◌, ℕ, suc, ◌-◌, ◌<◌, List, ◌++◌, ap, ◌∙◌, arith, Place, moved, CharClasses, forest, inner_of, start_point, point_of, markup_reading, rules, max_depth, start_of, whole, parsed, tree, Among, blocks_of_text, block_at, Named, Spot, ended, unit_at, text_before, text_after, start_before, start_after}
use Rattle.typst_edits.specs.Laws.{BlockLaw, NamesLaw}
use Rattle.typst_kinds.specs.declared.kind.SyntaxKind.TheVariants as kind
use Rattle.typst_language.specs.declared.calls.Block.TheVariants as block
use Rattle.typst_edits.proofs.Blocks.{ends}
use Rattle.typst_edits.proofs.Law.{inside-level}
use Rattle.typst_edits.proofs.Content.{Clear, clear-level, fitting}
use Rattle.typst_edits.proofs.Edit.{among, before-same, edited}
use Rattle.typst_edits.proofs.Spots.{Lawful}
use Rattle.typst_edits.proofs.Names.{named-level}

pub block-law : BlockLaw
unfolding blocks_of_text tree
block-law k edit c past i h =
    let o = parsed k max_depth (text_before edit) in
    let n = parsed k max_depth (text_after edit) in
    let z = start_before edit in
    let w = start_after edit in
    let s = start_point markup_reading in
    let laws = inside-level (rules k) k (ends k) max_depth whole z w s in
    let a = among (Lawful z w o n) c _ i laws in
    let named = among (Named (block_at k) max_depth) c _ i (named-level (rules k) k max_depth whole z s) in
    let some : 0 < (unit_at c z).taken = omega (arith, h.starts, h.ends) in
    let more : 0 < (unit_at c w).taken = omega (arith, h.starts, h.shifted) in
    let f = fitting k max_depth c z w named (among (Clear k z) c _ i (clear-level (rules k) k max_depth whole z s tt)) a.fits (before-same c.before edit h.before) some more in
    let e = edited edit o n _ laws c past _ i h f in
    record { fits = f; reading = e; tree = ap (λ ts. inner_of kind.Markup (forest ts)) e.nodes }

pub names-law : NamesLaw
unfolding blocks_of_text
names-law k text c i = among (Named (block_at k) max_depth) c _ i (named-level (rules k) k max_depth whole (start_of text) (start_point markup_reading))

-- a content block is read as one, with a given number of levels left
pub content-reads : (k : CharClasses) (text : List ℕ) (c : Spot (Unit {0})) → Among c (blocks_of_text k text) → (levels : ℕ) → c.name ≡ block.Content → max_depth - c.fewer ≡ suc levels → (z : Place)
    → unit_at c z ≡ ended (block_at k (suc levels) block.Content (moved c.at z) (point_of c.start))
content-reads k text c chosen levels name left z =
    let p = point_of c.start in
    let y = moved c.at z in
    ap (λ r. r y p) (names-law k text c chosen).reads ∙ ap (λ v. ended (block_at k v c.name y p)) left ∙ ap (λ x. ended (block_at k (suc levels) x y p)) name
