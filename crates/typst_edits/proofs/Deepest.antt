-- A content block in which no level is left notes nothing; so if notes say that pieces stand in a block, a level is left there.
use Rattle.typst_edits.proofs.Cited.{◌≡◌, subst, ℕ, ◌-◌, ◌==◌, eq-eqb, true, false, ◌&&◌, List, [], ◌∷◌, ◌++◌, take, Some, None, refl, ap, sym, ◌∙◌, arith, is_deepest, ◌>>=◌, close_if, encloses, same, itself, flush_trivia, nil_from_length, Place, moved, CharClasses, width, Mark, too_deep, meaning_of, Outcome, Level, blockless, start_point, run, Point, point_of, peek, node, node_with_trivia, Parser, ◌>>◌, takes, gives, does, scoped, opens_content, starts, up_to_end, after_first, cuts_in, is_closing, ends_block, markup_is_empty, markup_run, content_block, markup_reading, rules, max_depth, start_of, whole, log, Guarded, guarded-deep, Among, blocks_of_text, block_at, Named, listed, notes_in, Spot, ended, unit_at, none-some, if-true, guarded-close, guarded-node}
use Rattle.typst_kinds.specs.declared.kind.SyntaxKind.TheVariants as kind
use Rattle.typst_language.specs.declared.calls.Block.TheVariants as block
use Rattle.typst_language.specs.declared.calls.Mark.TheVariants as mark
use Rattle.typst_edits.proofs.Edit.{among}
use Rattle.typst_edits.proofs.EmptyRuns.{Never}
use Rattle.typst_edits.proofs.Cuts.{opens_at, cuts-past, opens-before, both-on}
use Rattle.typst_edits.proofs.Bytes.{AllMarks}
use Rattle.typst_edits.proofs.Names.{named-level}
use Rattle.typst_edits.proofs.BlockLog.{nested-block-law}
use Rattle.typst_edits.proofs.Splice.{count-none}
use Rattle.typst_edits.proofs.Rising.{Unmarked, unmarked, from-run}

-- ---- where no level is left

module _ (k : CharClasses) where
  abbrev last : Level
  last = blockless k 0 (meaning_of (rules k) k 0)

  -- no deeper call notes anything
  silent : {A : Type 0} (p : Parser A) → Guarded (λ (m : Mark). false) false p → (z : Place) (s : Point) → AllMarks Never (run last p z s).asks
  unfolding meaning_of
  silent p q z s =
      from-run (λ lo hi ls. Unmarked ls) unmarked last (λ m. false) (λ m gap s e. absurd (cc)) (λ z s. Unit {0}) (λ B p z s e. tt) (λ call z s. tt) (λ b has z s t. (let no : false ≡ true = has in absurd (cc))) false p q z s (λ e. tt)

  -- a content block whose run is too deep
  abbrev deep_run : Parser (Unit {0})
  deep_run = does is_deepest >>= λ _. (peek >> too_deep ends_block)

  abbrev deep_block : Parser (Unit {0})
  deep_block = node (encloses kind.ContentBlock) (scoped (λ _. markup_reading) (does (takes false itself) >>= λ _. (markup_is_empty deep_run >>= λ _. close_if (same kind.RightBracket)))) >>= λ _. gives (tt {0})

  deep-is : (z : Place) (s : Point) → run last (peek >> content_block) z s ≡ run last (peek >> deep_block) z s
  unfolding run content_block markup_is_empty markup_run node node_with_trivia
  deep-is z s = refl

  deep-guarded : Guarded (λ (m : Mark). false) false (peek >> deep_block)
  unfolding markup_is_empty node_with_trivia flush_trivia
  deep-guarded = grind (arith, guarded-node, guarded-deep, guarded-close)

  silent-block : (z : Place) (s : Point) → AllMarks Never (run last (peek >> content_block) z s).asks
  silent-block z s = subst (λ (o : Outcome (Unit {0})). AllMarks Never o.asks) (sym (deep-is z s)) (silent (peek >> deep_block) deep-guarded z s)

-- ---- a block in which pieces stand

none-in : (k : CharClasses) (text : List ℕ) (s : Spot (Unit {0})) → Among s (blocks_of_text k text) → s.name ≡ block.Content → max_depth - s.fewer ≡ 0 → notes_in (unit_at s (start_of text)).asks ≡ 0
unfolding blocks_of_text
none-in k text s there name none =
    let z = start_of text in
    let y = moved s.at z in
    let p = point_of s.start in
    let named = among (Named (block_at k) max_depth) s _ there (named-level (rules k) k max_depth whole z (start_point markup_reading)) in
    let reads : unit_at s z ≡ ended (block_at k 0 block.Content y p) =
    ap (λ m. m y p) named.reads ∙ ap (λ v. ended (block_at k v s.name y p)) none ∙ ap (λ x. ended (block_at k 0 x y p)) name in
    ap (λ (o : Outcome (Unit {0})). notes_in o.asks) reads ∙ count-none (block_at k 0 block.Content y p).asks (silent-block k y p)

pub some-level : (k : CharClasses) (text : List ℕ) (s : Spot (Unit {0})) (cuts : List ℕ) → Among s (blocks_of_text k text) → s.name ≡ block.Content → cuts_in (width (take s.at text)) (listed (log k text).notes) ≡ Some cuts → max_depth - s.fewer ≡ 0 → ⊥
some-level k text s cuts there name have none =
    let n = nested-block-law k text s there in
    let empty : n.inner ≡ [] = nil_from_length n.inner (omega (arith, none-in k text s there name none, n.long)) in
    let rest = n.inner ++ n.closes ∷ n.later in
    let notes : listed (log k text).notes ≡ n.earlier ++ n.opens ∷ rest = ap listed n.notes in
    let at = n.opens.start in
    let lv = n.opens.levels in
    let before = opens-before k text n.opens s.name n.name rest [] n.earlier notes in
    let here : opens_at at n.opens ≡ true = both-on (opens_content n.opens.mark) (at == at) (ap opens_content (n.name ∙ ap mark.Opens name)) (eq-eqb at at refl) in
    let own : cuts_in at (n.opens ∷ rest) ≡ after_first (starts lv (up_to_end lv rest)) = if-true (opens_at at n.opens) _ _ here in
    let same_level : n.closes.levels ≡ lv = n.levels_end ∙ sym n.levels_there in
    let ends : up_to_end lv (n.closes ∷ n.later) ≡ [] = if-true (is_closing n.closes.mark && n.closes.levels == lv) _ _ (both-on (is_closing n.closes.mark) (n.closes.levels == lv) (ap is_closing n.name_end) (eq-eqb n.closes.levels lv same_level)) in
    let nothing_in : after_first (starts lv (up_to_end lv rest)) ≡ None = ap (λ xs. after_first (starts lv (up_to_end lv (xs ++ n.closes ∷ n.later)))) empty ∙ ap (λ xs. after_first (starts lv xs)) ends in
    let all : cuts_in (width (take s.at text)) (listed (log k text).notes) ≡ None =
    ap (λ x. cuts_in x (listed (log k text).notes)) (sym n.start) ∙ ap (cuts_in at) notes ∙ cuts-past at n.earlier (n.opens ∷ rest) before ∙ own ∙ nothing_in in
    none-some cuts (sym all ∙ have)
