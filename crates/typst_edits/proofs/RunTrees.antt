-- A text's tree and log, where pieces of its run are exchanged.
use Rattle.typst_edits.proofs.Cited.{◌≡◌, ℕ, ◌+◌, Bool, true, false, List, [], ◌∷◌, ◌++◌, append_assoc, append-nil, refl, ap, sym, ◌∙◌, arith, map-append, Tree, forest, inner_of, Place, CharClasses, Ask, shift, no_log, logged, Outcome, plain, standing, joined, run, Level, Point, gap_of, state_of, less-none, max_depth, start_of, parsed, tree, log, level_at, onwards_at, text_run, given, run_mark, start, AllGo, End, end_of, asks_of, chain, lead, tail, whole_of, peek, marked, run_of, standing-joined, text_before, text_after, start_before, start_after, first_of, first_end, then_of, then_end, rest_of}
use Rattle.typst_edits.specs.RunTrees.{tree_by, RunTreeLaw}
use Rattle.typst_kinds.specs.declared.kind.SyntaxKind.TheVariants as kind
pub use Rattle.typst_grammar.proofs.Heads.{standing-none}
use Rattle.typst_edits.proofs.Outcomes.{shift-zero, shift-twice}
use Rattle.typst_edits.proofs.BlockRuns.{run-law, whole-is, within}
use Rattle.typst_edits.proofs.Boundary.{chain-asks}
use Rattle.typst_edits.proofs.Runs.{chain-state, chain-taken, split, split-taken}
use Rattle.typst_language.specs.declared.calls.Mark.TheVariants as mark

-- ---- nodes

-- what gives nothing and takes nothing back
pub standing-still : {A : Type 0} (o : Outcome A) (ts : List Tree) → o.hints ≡ [] → o.back ≡ 0 → o.nodes ≡ [] → standing o ts ≡ ts
standing-still o ts e f g = grind (arith, append-nil, less-none)

pub standing-chain : {A B : Type 0} (os : List (Outcome (Bool × A))) (q : Outcome B) (ts : List Tree) → standing (chain os q) ts ≡ standing q (given os ts)
standing-chain [] q ts = refl
standing-chain (o ∷ os) q ts = standing-joined o (chain os q) ts ∙ standing-chain os q (standing o ts)

-- ---- a text's reading

-- the nodes of a run with the trivia after it, by its pieces
pub run-nodes : (l : Level) (s : Point) (y : Place) (r : Outcome (Bool × ℕ)) (t : Outcome (Unit {0})) → (run_of s (run l peek y s) r t).nodes ≡ standing t (standing r [])
unfolding run
run-nodes l s y r t =
    let none : List Tree = [] in
    let one = plain false s in
    let two = record (plain (tt {0}) s) { asks = marked 0 (gap_of s.known) 0 (mark.Piece true 0) (state_of s) ∷ [] } in
    let first = run l peek y s in
    let four = joined r (plain (tt {0}) r.state) in
    let three = joined first four in
    sym (standing-none (run_of s first r t))
    ∙ standing-joined (joined one (joined two three)) t none
    ∙ ap (standing t) (standing-joined one (joined two three) none ∙ ap (standing (joined two three)) (standing-still one none refl refl refl)
    ∙ standing-joined two three none ∙ ap (standing three) (standing-still two none refl refl refl)
    ∙ standing-joined first four none ∙ ap (standing four) (standing-still first none refl refl refl)
    ∙ standing-joined r (plain (tt {0}) r.state) none ∙ standing-still (plain (tt {0}) r.state) (standing r none) refl refl refl)

module _ (k : CharClasses) (y : Place) (c : Outcome (Bool × ℕ)) (t : Outcome (Unit {0})) where
  pub whole-asks : (whole_of (lead k y) c t).asks ≡ run_mark ∷ (((lead k y).asks ++ c.asks) ++ shift c.taken t.asks)
  unfolding run
  whole-asks =
      let ls = (lead k y).asks in
      let sum : 0 + (0 + (0 + (c.taken + 0))) ≡ c.taken = omega arith in
      let inner : shift 0 (run_mark ∷ shift 0 (ls ++ shift 0 (c.asks ++ []))) ≡ run_mark ∷ (ls ++ c.asks) =
      shift-zero (run_mark ∷ shift 0 (ls ++ shift 0 (c.asks ++ []))) ∙ ap (λ u. run_mark ∷ u) (shift-zero (ls ++ shift 0 (c.asks ++ [])) ∙ ap (λ u. ls ++ u) (shift-zero (c.asks ++ []) ∙ append-nil c.asks)) in
      ap (λ u. u ++ shift (0 + (0 + (0 + (c.taken + 0)))) t.asks) inner ∙ ap (λ n. (run_mark ∷ (ls ++ c.asks)) ++ shift n t.asks) sum

-- what is asked in pieces, those after them, all after these, and the trivia at the end
pub chained-asks : (ls : List Ask) (x v : Bool × ℕ) (s r : Point) (os ps : List (Outcome (Bool × (Bool × ℕ)))) (q : Outcome (Bool × ℕ)) (t : Outcome (Unit {0})) → (let c = chain os (chain ps q) in
    (ls ++ c.asks) ++ shift c.taken t.asks ≡ (ls ++ asks_of os) ++ shift (end_of x s os).taken (asks_of ps ++ shift (end_of v r ps).taken (q.asks ++ shift q.taken t.asks)))
chained-asks ls x v s r os ps q t =
    let c = chain os (chain ps q) in
    let a = (end_of x s os).taken in
    let b = (end_of v r ps).taken in
    let first = asks_of os in
    let asks : c.asks ≡ first ++ shift a (asks_of ps ++ shift b q.asks) = chain-asks x s os (chain ps q) ∙ ap (λ u. first ++ shift a u) (chain-asks v r ps q) in
    let taken : c.taken ≡ a + (b + q.taken) = chain-taken x s os (chain ps q) ∙ ap (λ n. a + n) (chain-taken v r ps q) in
    simp (asks, taken, map-append, shift-twice, append_assoc)

-- the same with no pieces between
pub chain-last : (ls : List Ask) (x : Bool × ℕ) (s : Point) (os : List (Outcome (Bool × (Bool × ℕ)))) (q : Outcome (Bool × ℕ)) (t : Outcome (Unit {0})) → (let c = chain os q in
    (ls ++ c.asks) ++ shift c.taken t.asks ≡ (ls ++ asks_of os) ++ shift (end_of x s os).taken (q.asks ++ shift q.taken t.asks))
chain-last ls x s os q t = chained-asks ls x x s s os [] q t ∙ ap (λ u. (ls ++ asks_of os) ++ shift (end_of x s os).taken u) (shift-zero (q.asks ++ shift q.taken t.asks))

-- a text's tree, by its pieces and all after them
pub tree-is : (k : CharClasses) (text : List ℕ) (i n : ℕ) → (let z = start_of text in AllGo (first_of i (text_run k z)) → AllGo (then_of i n (text_run k z)) → tree k text ≡ tree_by (first_of i (text_run k z)) (then_of i n (text_run k z)) (onwards_at i n (text_run k z)))
unfolding tree
tree-is k text i n g h =
    let z = start_of text in
    let os = first_of i (text_run k z) in
    let ps = then_of i n (text_run k z) in
    let q = rest_of i n (text_run k z) in
    let r = chain os (chain ps q) in
    let u = tail k (((first_end i (text_run k z)).taken + (then_end i n (text_run k z)).taken) + q.taken) q.state z in
    let tail_is : tail k r.taken r.state z ≡ u =
    ap (λ a. tail k a r.state z) (split-taken (text_run k z) i n) ∙ ap (λ s. tail k (((first_end i (text_run k z)).taken + (then_end i n (text_run k z)).taken) + q.taken) s z) (chain-state os (chain ps q) ∙ chain-state ps q) in
    let is : parsed k max_depth text ≡ whole_of (lead k z) r u =
    whole-is k text ∙ ap (λ o. whole_of (lead k z) o (tail k o.taken o.state z)) (split (text_run k z) (within k) i n g h) ∙ ap (whole_of (lead k z) r) tail_is in
    grind (arith, run-nodes, standing-chain, standing-joined)

pub run-tree-law : RunTreeLaw
unfolding tree log
run-tree-law k edit i n m past h =
    let z = start_before edit in
    let w = start_after edit in
    let kept = run-law k edit i n m past h in
    let os = first_of i (text_run k z) in
    let ps = then_of i n (text_run k z) in
    let qs = then_of i m (text_run k w) in
    let e = first_end i (text_run k z) in
    let f = then_end i n (text_run k z) in
    let g = first_end i (text_run k w) in
    let j = then_end i m (text_run k w) in
    let q = rest_of i n (text_run k z) in
    let r = chain os (chain ps q) in
    let u = tail k ((e.taken + f.taken) + q.taken) q.state z in
    -- the trivia at the end
    let taken : r.taken ≡ (e.taken + f.taken) + q.taken = split-taken (text_run k z) i n in
    let state : r.state ≡ q.state = chain-state os (chain ps q) ∙ chain-state ps q in
    let tail_is : tail k r.taken r.state z ≡ u = ap (λ a. tail k a r.state z) taken ∙ ap (λ s. tail k ((e.taken + f.taken) + q.taken) s z) state in
    let was : parsed k max_depth (text_before edit) ≡ whole_of (lead k z) r u = kept.was ∙ ap (whole_of (lead k z) r) tail_is in
    let now : parsed k max_depth (text_after edit) ≡ whole_of (lead k w) (chain os (chain qs q)) u = kept.now ∙ ap (whole_of (lead k w) (chain os (chain qs q))) tail_is in
    let nodes : (y : Place) (xs : List (Outcome (Bool × (Bool × ℕ)))) → (whole_of (lead k y) (chain os (chain xs q)) u).nodes ≡ standing (joined q u) (given xs (given os [])) = λ y xs.
    run-nodes (level_at k max_depth) start y (chain os (chain xs q)) u ∙ ap (standing u) (standing-chain os (chain xs q) [] ∙ standing-chain xs q (given os [])) ∙ sym (standing-joined q u (given xs (given os []))) in
    let made_tree = λ (ts : List Tree). inner_of kind.Markup (forest ts) in
    let same_end : end_of (true, 0) (lead k w).state os ≡ end_of (true, 0) (lead k w).state (first_of i (text_run k w)) = ap (end_of (true, 0) (lead k w).state) (sym kept.first) in
    record {
      tree_was = ap (λ (o : Outcome (Unit {0})). made_tree o.nodes) was ∙ ap made_tree (nodes z ps);
      tree_now = ap (λ (o : Outcome (Unit {0})). made_tree o.nodes) now ∙ ap made_tree (nodes w qs);
      log_was = ap (λ (o : Outcome (Unit {0})). logged max_depth z no_log o.asks) was
          ∙ ap (logged max_depth z no_log) (whole-asks k z r u ∙ ap (λ ls. run_mark ∷ ls) (chained-asks (lead k z).asks (true, 0) e.value (lead k z).state e.state os ps q u));
      log_now = ap (λ (o : Outcome (Unit {0})). logged max_depth w no_log o.asks) now
          ∙ ap (logged max_depth w no_log) (whole-asks k w (chain os (chain qs q)) u ∙ ap (λ ls. run_mark ∷ ls) (chained-asks (lead k w).asks (true, 0) g.value (lead k w).state g.state os qs q u)
          ∙ ap (λ (v : End (Bool × ℕ)). run_mark ∷ (((lead k w).asks ++ asks_of os) ++ shift v.taken (asks_of qs ++ shift j.taken (q.asks ++ shift q.taken u.asks)))) same_end);
    }
