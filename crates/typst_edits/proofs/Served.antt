-- A reading that begins with one candidate serves another one, at the top of a text's tree and in a content block; and the law for both.
use Rattle.typst_edits.proofs.Cited.{◌≡◌, ℕ, ◌<◌, ◌≤◌, ◌^◌, ◌-◌, false, List, [], ◌++◌, Some, ap, sym, ◌∙◌, arith, suc, length, length-append, take, subst, refl, CharClasses, Tree, bare, width, Trivia, Candidate, max_depth, tree, candidates, front_in, SaysBlock, entries_in, IsPieces, Among, Run, PassesPieces, Gives, nodes_now, root_run, FoundRun, start_at, SyntaxMode, opening_of, RunKind, block_run, Served, path_to, run_from, kids_of_run, TextReplacement, text_before, text_after, start_after, candidates_between}
use Rattle.typst_edits.specs.Served.{RunOf, own as of_text, inner as of_block, ServedLaw}
use Rattle.typst_grammar.specs.declared.part.RunKind.TheVariants as of
use Rattle.typst_edits.proofs.AnyRun.{seated, Chosen, served, Entered}
use Rattle.typst_edits.proofs.RunCandidates.{begins-well-law, run-of}
use Rattle.typst_edits.proofs.RunPieces.{joins-of}
use Rattle.typst_edits.proofs.BlockTest.{Key, says-same}
use Rattle.typst_edits.proofs.RunTest.{entered, own-pieces, pieces-too, inner-entered, inner-own-pieces, home_of, same-byte, same-home}
use Rattle.typst_language.specs.declared.calls.Block.TheVariants as block
use Rattle.typst_edits.proofs.EntryNumbers.{some-number}
use Rattle.typst_edits.proofs.RunNumbers.{run-numbers-law, inner-numbers-law}
use Rattle.typst_edits.proofs.RootRuns.{root-pieces-of-law}
use Rattle.typst_edits.proofs.InnerRuns.{inner-pieces-of-law}

-- What is known of a candidate that is pieces of a run.
chosen-of : (k : CharClasses) (edit : TextReplacement) (r : Run k (text_before edit)) (which : RunKind) (levels entry : ℕ) (e : Entered k edit r which levels entry) (root : Tree) (c : Candidate) → bare root ≡ bare (tree k (text_before edit))
    → Among c (candidates k edit root) → c.is_block ≡ false → c.path ≡ path_to r → (i n past : ℕ) (t : Trivia) → IsPieces k edit r c i n past t
    → ((ts : List Tree) → Gives k edit c ts → ((m : ℕ) × (u : Trivia) × PassesPieces k edit r i n m past t u × (ts ≡ nodes_now r i m u (start_after edit)))) → Chosen k edit r which levels entry e c i n past t
chosen-of k edit r which levels entry e root c same chosen whole path i n past t p passes =
    let o = run-of k edit root r c same chosen whole path in
    record {
      is = p;
      whole = whole;
      path = sym path;
      seat = seated edit.front edit.old (path_to r) (run_from r) (kids_of_run r) o.cuts.cuts c o.stretch o.all;
      passes = passes;
      joint = λ m u h.
          (let well = begins-well-law k edit root r c i n m past t u same chosen whole path p.start p.led p.end h in
          joins-of k edit r i n m past t u well.0 h well.1.goes_on);
    }

-- At the root a reading serves.
pub root-served : (k : CharClasses) (edit : TextReplacement) (root : Tree) (first c : Candidate) → bare root ≡ bare (tree k (text_before edit))
    → Among first (candidates k edit root) → Among c (candidates k edit root)
    → first.is_block ≡ false → c.is_block ≡ false → first.path ≡ [] → c.path ≡ [] → c.start ≤ first.start
    → width (text_before edit) < 2 ^ 64 - 1 → width (text_after edit) < 2 ^ 64 - 1
    → (f : FoundRun k edit first of.Text max_depth 0) (g : FoundRun k edit c of.Text max_depth 0)
    → f.from < front_in k edit → Served k edit root of.Text max_depth 0 first c f g
root-served k edit root first c same among_first among whole_first whole at_first at l big big_new f g begun =
    let r = run-numbers-law k (text_before edit) in
    let p = root-pieces-of-law k edit root c same among whole at in
    let p0 = root-pieces-of-law k edit root first same among_first whole_first at_first in
    let own = root_run k (text_before edit) in
    let e = entered k edit r big in
    let chosen = λ (d : Candidate). chosen-of k edit own of.Text max_depth 0 e root d same in
    let passes = own-pieces k edit r big root in
    served k edit own of.Text max_depth 0 e root same first c p.i p.n p.past p0.n p0.past p.t p0.t
    (chosen c among whole at p.i p.n p.past p.t p.is (passes c same among whole at p.i p.n p.past p.t p.is)) f g begun big_new p0.i
    (chosen first among_first whole_first at_first p0.i p0.n p0.past p0.t p0.is (passes first same among_first whole_first at_first p0.i p0.n p0.past p0.t p0.is)) l

-- ---- the block of both

inner-served : (k : CharClasses) (edit : TextReplacement) (root : Tree) (first c : Candidate) → bare root ≡ bare (tree k (text_before edit))
    → Among first (candidates k edit root) → Among c (candidates k edit root)
    → first.is_block ≡ false → c.is_block ≡ false → first.path ≡ c.path → (c.path ≡ [] → ⊥) → c.start ≤ first.start
    → width (text_before edit) < 2 ^ 64 - 1 → width (text_after edit) < 2 ^ 64 - 1
    → (opens to levels : ℕ) (m : SyntaxMode) → opening_of (start_at (take (length c.path - 1) c.path) 0 root) 0 0 (entries_in k (text_before edit)) ≡ Some opens → SaysBlock (entries_in k (text_before edit)) opens to levels block.Content m
    → (f : FoundRun k edit first of.Block levels (suc opens)) (g : FoundRun k edit c of.Block levels (suc opens))
    → f.from < front_in k edit → Served k edit root of.Block levels (suc opens) first c f g
inner-served k edit root first c same among_first among whole_first whole at other l big big_new opens to levels m opening says =
    let text = text_before edit in
    let one = inner-pieces-of-law k edit root c same among whole other in
    let two = inner-pieces-of-law k edit root first same among_first whole_first (λ e. other (sym at ∙ e)) in
    let v = inner-numbers-law k one.levels text one.s one.among one.name one.level in
    let u = inner-numbers-law k two.levels text two.s two.among two.name two.level in
    let starts = one.around.starts in
    let starts_too = two.around.starts in
    let long = length-append edit.front (edit.old ++ edit.rest) in
    let byte = same-byte k text two.s one.s two.among one.among (omega (arith, starts_too, two.around.ends)) (omega (arith, starts, one.around.ends)) (sym two.path ∙ at ∙ one.path) in
    let home : home_of two.levels two.s ≡ home_of one.levels one.s = same-home k text two.s one.s two.levels one.levels two.among one.among two.level one.level (omega (arith, starts_too, long)) (omega (arith, starts, long)) u v byte in
    let is = pieces-too k two.levels one.levels edit two.s one.s two.among two.name two.level one.among one.name one.level first two.i two.n two.past two.t home two.is in
    let own_opens : opens ≡ v.opens = some-number opens v.opens (sym opening ∙ ap (λ b. opening_of b 0 0 (entries_in k text)) one.byte ∙ v.opening) in
    let own_levels : levels ≡ suc one.levels = ap (λ (x : Key). x.levels) (says-same (entries_in k text) 0 0 opens to levels _ _ v.opens v.closes (suc one.levels) _ _ says v.says_block own_opens refl) in
    let own = block_run one.s one.levels one.among one.name one.level in
    let e = inner-entered k one.levels edit one.s one.among one.name one.level one.around v big in
    let chosen = λ (d : Candidate). chosen-of k edit own of.Block (suc one.levels) (suc v.opens) e root d same in
    let passes = λ (d : Candidate) (among : Among d (candidates_between k text (width edit.front) (width (edit.front ++ edit.old)) root)) (whole : d.is_block ≡ false). inner-own-pieces k edit root d same among whole big one.levels one.s one.among one.name one.level in
    subst (λ a. (f : FoundRun k edit first of.Block a (suc opens)) (g : FoundRun k edit c of.Block a (suc opens)) → f.from < front_in k edit → Served k edit root of.Block a (suc opens) first c f g) (sym own_levels)
    (subst (λ a. (f : FoundRun k edit first of.Block (suc one.levels) (suc a)) (g : FoundRun k edit c of.Block (suc one.levels) (suc a)) → f.from < front_in k edit → Served k edit root of.Block (suc one.levels) (suc a) first c f g) (sym own_opens)
    (λ f g begun. served k edit own of.Block (suc one.levels) (suc v.opens) e root same first c one.i one.n one.past two.n two.past one.t two.t
    (chosen c among whole one.path one.i one.n one.past one.t one.is (passes c among whole one.path one.around one.i one.n one.past one.t one.is)) f g begun big_new two.i
    (chosen first among_first whole_first (at ∙ one.path) two.i two.n two.past two.t is (passes first among_first whole_first (at ∙ one.path) one.around two.i two.n two.past two.t is)) l))

-- ---- the law

pub served-law : ServedLaw
served-law k edit root which levels entry first c same among_first among whole_first whole at l big big_new run = by which levels entry run
  where
    by : (which : RunKind) (levels entry : ℕ) → RunOf (entries_in k (text_before edit)) root c.path which levels entry
        → (f : FoundRun k edit first which levels entry) (g : FoundRun k edit c which levels entry)
        → f.from < front_in k edit → Served k edit root which levels entry first c f g
    by kind left number (of_text at_root) f g begun = root-served k edit root first c same among_first among whole_first whole (at ∙ at_root) at_root l big big_new f g begun
    by kind left number (of_block opens to levels m other opening says) f g begun =
        inner-served k edit root first c same among_first among whole_first whole at other l big big_new opens to levels m opening says f g begun
