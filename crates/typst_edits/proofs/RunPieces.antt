-- Pieces that pass the test, at the root or in a content block: a candidate's place is that of their nodes.
use Rattle.typst_edits.proofs.Cited.{inl, eq-zero-or-pos, eq-eqb, ◌≡◌, inr, ℕ, suc, ◌+◌, ◌<◌, ne_eqb, if◌then◌else◌, Bool, true, false, List, [], ◌++◌, length, take, drop, length-append, ap, sym, ◌∙◌, subst, arith, ◌-◌, Some, take-append-add, CharClasses, Tree, put_at, width, Outcome, less, Trivia, gap_of, point_of, less-none, Candidate, tree, max_depth, with_children, read_by, standing_by, nodes_after, Among, is_over, PassesPieces, Run, end_by, GoesOnWell, PassesJoint, LeadsAt, StandsAt, AllGo, chain, Place, moved, run_at, tail_at, close_at, left_past, block_run, blocks_of_text, first_of, first_end, then_of, then_end, rest_of, Spot, unit_at, read_as, cut_at, opened_by, trivia_before, top, path_to, Encloses, TakesSome, token_after, token_past, run_from, kids_of_run, given, then_place, Meets, TextReplacement, text_before, start_before, start_after}
use Rattle.typst_edits.specs.Frame.{inner}
use Rattle.typst_edits.specs.RunPieces.{PiecesLaw}
use Rattle.typst_edits.proofs.Children.{children-law}
use Rattle.typst_edits.proofs.Heads.{meets-law, none-back-law, none-behind-law}
use Rattle.typst_edits.proofs.Leading.{leading-law}
use Rattle.typst_edits.proofs.Replaced.{put-law}
use Rattle.typst_language.specs.declared.calls.Block.TheVariants as block
use Rattle.typst_edits.proofs.BlockRuns.{content-split, content-taken}
use Rattle.typst_edits.proofs.Text.{content-reads}
use Rattle.typst_edits.proofs.Joint.{onwards-fronted, block-taking}
use Rattle.typst_edits.proofs.Runs.{split-taken}

-- ---- counts and stretches

pub take-past : (front old rest : List ℕ) (past n : ℕ) → n ≡ (length front + length old) + past → take n (front ++ (old ++ rest)) ≡ front ++ (old ++ take past rest)
take-past front old rest past n e = let sum : n ≡ length front + (length old + past) = omega (arith, e) in grind (arith, take-append-add)

pub behind-zero : (a g x : ℕ) → (0 + a) + g ≡ x → a + g ≡ x
behind-zero a g x e = omega (arith, e)

pub cut-is : (b : Bool) (a : ℕ) → b ≡ false → 0 + (if b then 0 else a) ≡ a
cut-is b a e = grind arith

-- After some pieces of a run the next begins at its first token.
pub cut-some : {k : CharClasses} {text : List ℕ} (r : Run k text) (i : ℕ) (z : Place) → 0 < i → (let e = first_end i (read_as r z) in cut_at r i z ≡ opened_by r z + (e.taken + gap_of e.state.known))
cut-some {k} {text} r i z l = grind arith

-- Where an expression follows, the same is carried there.
pub same-place : (from : ℕ) (ts : List Tree) (index at other : ℕ) → StandsAt from ts index at → LeadsAt from ts at other → index ≡ other
same-place from ts index at other s l = sym s.here ∙ l.alone s.left s.node s.right s.is s.begins s.full

-- Its children end where those of the pieces do.
pub end-place : (from : ℕ) (kids before own behind : List Tree) (to end byte : ℕ) (b : Bool) → kids ≡ before ++ (own ++ behind) → end ≡ byte → (b ≡ false → StandsAt from kids to end) → (b ≡ false → LeadsAt from kids byte (length before + length own))
    → (b ≡ true → to ≡ length kids) → (b ≡ true → behind ≡ []) → to ≡ length before + length own
end-place from kids before own behind to end byte b is e stands leads all h = grind (arith, same-place, length-append)

pub nothing-left : (b : ℕ) (ts : List Tree) → ts ≡ [] → b ≡ 0 → length (less b ts) ≡ 0
nothing-left b ts e h = ap (λ j. length (less j ts)) h ∙ ap length (less-none ts) ∙ ap length e

pub first-is : (a b : ℕ) → (0 < a → 0 < 0) → b ≡ 0 → a ≡ b
first-is a b h e = grind arith

-- A candidate's children are exchanged where they stand.
pub put-there : (c : Candidate) (path : List ℕ) (from to : ℕ) (ts us : List Tree) (was : Tree) {now : Tree} → now ≡ with_children path from to ts was → ts ≡ us → c.from ≡ from → c.to ≡ to → c.path ≡ path → now ≡ put_at c.path c.from c.to us was
put-there c path from to ts us was kept news first last there = grind (arith, put-law)

-- ---- what the test gives

-- how many characters a block takes
pub block-taken : (k : CharClasses) (levels : ℕ) (edit : TextReplacement) (s : Spot (Unit {0})) (among : Among s (blocks_of_text k (text_before edit))) (name : s.name ≡ block.Content) (level : max_depth - s.fewer ≡ suc levels) (i n past : ℕ) (t : Trivia)
    → AllGo (first_of i (run_at k levels s (start_before edit))) → AllGo (then_of i n (run_at k levels s (start_before edit)))
    → (then_end i n (run_at k levels s (start_before edit))).state.known ≡ Some t → end_by (block_run s levels among name level) i n t (start_before edit) ≡ (length edit.front + length edit.old) + past
    → s.at + (unit_at s (start_before edit)).taken ≡ ((length edit.front + length edit.old) + past) + left_past k levels i n t s (start_before edit)
block-taken k levels edit s among name level i n past t g h known ends =
    let z0 = start_before edit in
    let z = moved s.at z0 in
    let p = point_of s.start in
    let r = run_at k levels s z0 in
    let reads = content-reads k (text_before edit) s among levels name level z0 in
    let split = ap (λ (o : Outcome (Unit {0})). o.taken) (content-split k levels z p i n g h) in
    let all = content-taken k levels z p (chain (first_of i r) (chain (then_of i n r) (rest_of i n r))) (tail_at k levels i n s z0) (close_at k levels i n s z0) in
    omega (arith, ap (λ (o : Outcome (Unit {0})). o.taken) reads, split, all, split-taken r i n, (onwards-fronted r (block-taking k levels) i n t known).taken, ends)

-- what has to agree after them
meets-of : (k : CharClasses) (edit : TextReplacement) (r : Run k (text_before edit)) (i n m past : ℕ) (t u : Trivia) → PassesPieces k edit r i n m past t u → (let q = read_as r (start_before edit) in GoesOnWell i n q → Meets q (then_place i n q) (then_end i n q) (then_end i m (read_as r (start_after edit))) t u)
meets-of k edit r i n m past t u h well =
    meets-law k (text_before edit) r (start_before edit) i n m (then_end i m (read_as r (start_after edit))) t u h.first_go h.old_go well h.known h.known_now h.agrees

pub joins-of : (k : CharClasses) (edit : TextReplacement) (r : Run k (text_before edit)) (i n m past : ℕ) (t u : Trivia) → Encloses k edit r → PassesPieces k edit r i n m past t u → GoesOnWell i n (read_as r (start_before edit)) → PassesJoint k edit r i n m past t u
joins-of k edit r i n m past t u around h well =
    record { encloses = around; first_go = h.first_go; old_go = h.old_go; new_go = h.new_go; before = h.before; after = h.after; ends = h.ends; shifted = h.shifted; meets = meets-of k edit r i n m past t u h well }

pub takes-of : (k : CharClasses) (edit : TextReplacement) (r : Run k (text_before edit)) → Encloses k edit r → TakesSome r
takes-of k edit top around = tt
takes-of k edit (inner s levels a n l) around = omega (arith, around.starts, around.ends)

-- ---- the law

pub pieces-law : PiecesLaw
pieces-law k edit r c i n m past t u around path start led end h well =
    let text = text_before edit in
    let z = start_before edit in
    let w = start_after edit in
    let q = read_as r z in
    let v = read_as r w in
    let was = tree k text in
    let joint = joins-of k edit r i n m past t u around h well.goes_on in
    let back = none-back-law k edit r i n m past t u joint well.starts in
    let behind = none-behind-law k edit r i n m past t u joint well.goes_on in
    let kept = children-law k edit r i n m past t u joint (inr behind.back) (inr behind.back_now) (back.back_now ∙ sym back.back) in
    let leads = leading-law k text r i n t (takes-of k edit r around) h.first_go h.old_go h.known (inr behind.back) in
    let first = length (standing_by i n q) in
    let olds = nodes_after i n t q in
    let all = (read_by i m v).nodes ++ u.nodes in
    let news : nodes_after i m u v ≡ all = ap (λ b. less b (read_by i m v).nodes ++ u.nodes) behind.back_now ∙ ap (λ us. us ++ u.nodes) (less-none (read_by i m v).nodes) in
    let stop = opened_by r z + (((first_end i q).taken + (then_end i n q).taken) + gap_of (then_end i n q).state.known) in
    let byte : c.end ≡ token_past r i n = end ∙ sym (ap width (take-past edit.front edit.old edit.rest past stop (omega (arith, ap gap_of h.known, h.ends)))) in
    let to : c.to ≡ first + length olds = end-place (run_from r) (kids_of_run r) (standing_by i n q) olds leads.behind c.to c.end (token_past r i n) (is_over i n q) leads.children byte well.next leads.next well.last leads.last in
    elim (eq-zero-or-pos i) [
      | inl none ↦ put-there c (path_to r) first (first + length olds) _ _ was kept.tree_now (news ∙ sym (ap (λ b. drop (if b then 0 else trivia_before i v) all) (eq-eqb i 0 none)))
          (first-is c.from first (λ l. subst (λ j. 0 < j) none (led.1 l)) (nothing-left (read_by i n q).back (given (first_of i q) []) (ap (λ j. given (first_of j q) []) none) back.back)) to path
      | inr some ↦ (let there = subst (λ b. StandsAt (run_from r) (kids_of_run r) c.from b) (start ∙ ap (λ l. width (take l text)) (cut-some r i z some)) (well.first some) in
          put-there c (path_to r) (first + trivia_before i q) (first + length olds) _ _ was (kept.after_trivia some)
          (ap (λ l. drop l (nodes_after i m u v)) (sym (kept.trivia_same some)) ∙ ap (drop (trivia_before i v)) news ∙ sym (ap (λ b. drop (if b then 0 else trivia_before i v) all) (ne_eqb i 0 (omega (arith, some)))))
          (same-place (run_from r) (kids_of_run r) c.from (token_after r i) (first + trivia_before i q) there (leads.first (well.starts some).0)) to path)
    ]
