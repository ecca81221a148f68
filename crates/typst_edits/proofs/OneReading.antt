-- One reading of a new text serves every candidate of a run.
use Rattle.typst_edits.proofs.Cited.{◌≡◌, ℕ, zero, suc, ◌+◌, ◌-◌, ◌<◌, ◌≤◌, ◌==◌, ne_eqb, if◌then◌else◌, Bool, true, false, ◌&&◌, nat_lt, List, [], ◌∷◌, ◌++◌, length, drop, length-append, append_assoc, Some, refl, ap, sym, ◌∙◌, subst, arith, map, take, slice_get, inl, lt-ltb, Place, moved, CharClasses, Ask, shift, is_end, Trivia, Point, gap_of, pending, point_of, peek, Parser, Outcome, Meaning, Level, plain, less, joined, hand_of, run, sane-run, moved-sum, less-none, ends, ends_block, markup_turn, rules, max_depth, start_of, tree, bracket, inner_lead, run_at, opened_at, tail_at, close_at, together, standing_by, nodes_after, read_by, AllEndBy, Run, top, read_as, opened_by, end_by, is_over, nodes_now, Before, Agrees, PassesPieces, cut_at, path_to, first_place, minds_at, onwards_by, text_run, onwards_at, goes, TakesNone, ServesMore, fresh, made, AllGo, End, end_of, asks_of, chain, lead, start, Sequence, turn_of, first_of, first_end, then_of, then_end, then_place, rest_of, Spot, made-sum, map-append, drop-map, drop-append-le, take-map, length-map, take-append-drop, Tree, bare, trees, replaced_at, At, kids_of, width, kids_in, given, AtPath, kids_of_run, run_from, StandsBetween, Begins, IsRun, is_block_run, TakesSome, StandsAt, Leading, length-take-le, EndsOld, EndsNew, OneReadingLaw, GivesAgain, GivesAgainLaw, Resumes, asks-append, TextReplacement, text_before, start_before, start_after}
use Rattle.typst_edits.specs.BlockRuns.{inner as block_level}
use Rattle.typst_edits.specs.Frame.{inner}
use Rattle.typst_edits.specs.KeptNodes.{KeptNodes, KeptNodesLaw, PutAfterLaw}
use Rattle.typst_edits.proofs.Boundary.{KnownAt, first-of, made-add, looks_in, each-ends, going-on, known-made}
use Rattle.typst_edits.proofs.Children.{tidy-together, gives-pieces, StartsWith, leads-run, back-law, behind-back, block-at}
use Rattle.typst_edits.proofs.Heads.{head-law, run-minds}
use Rattle.typst_edits.proofs.Joint.{Leads, SameStart, is-run, leads-of, onwards-is, same-start}
use Rattle.typst_edits.proofs.Turns.{drop-front, standing-led, none-less, take-front}
use Rattle.typst_edits.proofs.NumberedNotes.{go-next, go-fewer, least-taken}
use Rattle.typst_edits.proofs.Outcomes.{shift-zero}
use Rattle.typst_edits.proofs.Resumed.{takes-more, resume-law}
use Rattle.typst_edits.proofs.RunTrees.{standing-still}
use Rattle.typst_edits.proofs.BlockRuns.{content-split, content-taken}
use Rattle.typst_edits.proofs.Seen.{Sees, end-shift, sees-plain, sees-run, sees-meaning, sees-level}
use Rattle.typst_edits.proofs.Every.{not-less}
pub use Rattle.typst_grammar.proofs.Pieces.{go-append as go-both}
use Rattle.typst_edits.proofs.RunCandidates.{more-ends, more-goes}
use Rattle.typst_edits.proofs.RunPieces.{cut-some, same-place}
use Rattle.typst_edits.proofs.Leading.{leading-law, node-shape}
use Rattle.typst_edits.proofs.Replaced.{front-law, trees-bare}
use Rattle.typst_edits.proofs.Text.{content-reads}
use Rattle.typst_candidates.proofs.Tallies.{fewer}
use Rattle.typst_edits.proofs.Runs.{split-taken, end-by-pieces}
use Rattle.typst_edits.proofs.Looks.{ending, looks-first, looks-second, looks-shifted, looks-split}

-- ---- pieces in two parts

module _ (m : Bool × ℕ → Meaning (Bool × (Bool × ℕ))) where
  -- Pieces, with their trivia, end where their looks do, or before.
  made-seen : ((x : Bool × ℕ) → Sees (m x)) → (n : ℕ) (x : Bool × ℕ) (z : Place) (s : Point) (most : ℕ) → gap_of s.known ≤ most → AllEndBy most (asks_of (made m n x z s))
      → (let e = end_of x s (made m n x z s) in e.taken + gap_of e.state.known ≤ most)
  made-seen sees zero x z s most g h = omega (arith, g)
  made-seen sees (suc n) x z s most g h =
      let o = m x z s in
      let later = asks_of (made m n o.value.1 (moved o.taken z) o.state) in
      let one = (sees x z s most g).ends (looks-first (ending most) o.asks (shift o.taken later) h) in
      let two = made-seen sees n o.value.1 (moved o.taken z) o.state (most - o.taken) (omega (arith, one)) (end-shift o.taken (most - o.taken) most later (omega arith) (looks-second (ending most) o.asks (shift o.taken later) h)) in
      omega (arith, one, two)

module _ {A : Type 0} where
  pub go-first : (os ps : List (Outcome (Bool × A))) → AllGo (os ++ ps) → AllGo os
  go-first [] ps g = tt
  go-first (o ∷ os) ps g = (g.0, go-first os ps g.1)

  pub go-second : (os ps : List (Outcome (Bool × A))) → AllGo (os ++ ps) → AllGo ps
  go-second [] ps g = g
  go-second (o ∷ os) ps g = go-second os ps g.1

  chain-append : (os ps : List (Outcome (Bool × A))) (q : Outcome (Unit {0})) → chain (os ++ ps) q ≡ chain os (chain ps q)
  chain-append [] ps q = refl
  chain-append (o ∷ os) ps q = ap (joined o) (chain-append os ps q)

  -- They are followed by what takes back nothing and gives no hint.
  record Followed (os : List (Outcome (Bool × A))) (s : Point) (p : Outcome (Unit {0})) : Type 0 where
    nodes : (chain os p).nodes ≡ (together s os).nodes ++ p.nodes
    hints : (chain os p).hints ≡ (together s os).hints
    back : (chain os p).back ≡ (together s os).back

  followed-by : (os : List (Outcome (Bool × A))) (s : Point) (p : Outcome (Unit {0})) → p.back ≡ 0 → p.hints ≡ [] → Followed os s p
  followed-by [] s p b h = record { nodes = refl; hints = h; back = b }
  followed-by (o ∷ os) s p b h = let later = followed-by os s p b h in grind (arith, append_assoc)

-- ---- any run

module _ (q : Sequence) where
  pub first-split : (a d : ℕ) → first_of (a + d) q ≡ first_of a q ++ then_of a d q
  first-split a d = made-sum (turn_of q) a d (true, 0) q.place q.point

  pub end-split-at : (a d : ℕ) → first_end (a + d) q ≡ record (then_end a d q) { taken = (first_end a q).taken + (then_end a d q).taken }
  end-split-at a d = made-add (turn_of q) (looks_in q) (each-ends q) a d (true, 0) q.place q.point

  pub later-place : (a d : ℕ) → moved ((first_end a q).taken + (then_end a d q).taken) q.place ≡ moved (then_end a d q).taken (first_place a q)
  later-place a d = moved-sum (first_end a q).taken (then_end a d q).taken q.place

  then-split : (a d m : ℕ) → then_of a (d + m) q ≡ then_of a d q ++ then_of (a + d) m q
  then-split a d m = grind (arith, made-sum, end-split-at, later-place)

  then-end-split : (a d m : ℕ) → then_end a (d + m) q ≡ record (then_end (a + d) m q) { taken = (then_end a d q).taken + (then_end (a + d) m q).taken }
  then-end-split a d m =
      let e = first_end a q in
      made-add (turn_of q) (looks_in q) (each-ends q) d m e.value (first_place a q) e.state ∙ ap (λ (f : End (Bool × ℕ)). record f { taken = (then_end a d q).taken + f.taken }) (sym (ap (λ (e : End (Bool × ℕ)). end_of e.value e.state (made (turn_of q) m e.value (moved e.taken q.place) e.state)) (end-split-at a d) ∙ ap (λ w. let f = then_end a d q in end_of f.value f.state (made (turn_of q) m f.value w f.state)) (later-place a d)))

-- what holds of a run's pieces
pub record Facts (q : Sequence) : Type 0 where
  pub leads : (i n : ℕ) (t : Trivia) → AllGo (first_of i q) → AllGo (then_of i n q) → (then_end i n q).state.known ≡ Some t → StartsWith (pending (first_end i q).state.known) ((read_by i n q).nodes ++ t.nodes)
  pub hints : (i n : ℕ) → AllGo (first_of i q) → AllGo (then_of i n q) → (read_by i n q).hints ≡ []
  pub back : (i n : ℕ) → AllGo (first_of i q) → AllGo (then_of i n q) → TakesNone i q → (read_by i n q).back ≡ 0
  pub further : (i : ℕ) → AllGo (first_of (suc i) q) → (first_end i q).taken + gap_of (first_end i q).state.known < (first_end (suc i) q).taken
  pub few : (x : Bool × ℕ) (w : Place) → goes (turn_of q x w (fresh q.level w)) ≡ true → (turn_of q x w (fresh q.level w)).state.empties < length (turn_of q x w (fresh q.level w)).nodes
  pub tidy : (n : ℕ) (x : Bool × ℕ) (w : Place) (p : Point) → (let os = made (turn_of q) n x w p in (together (end_of x p os).state os).back ≤ p.empties)
  -- Where another goes on, the run doesn't end.
  pub not_over : (i : ℕ) → AllGo (first_of (suc i) q) → ends q.stops (first_end i q).value.1 (hand_of q.level (first_place i q) (first_end i q).state).kind ≡ false
  -- All after them takes no errors back, if the next doesn't mind them.
  pub behind : (i n : ℕ) → AllGo (first_of i q) → AllGo (then_of i n q) → minds_at q (then_place i n q) (then_end i n q) ≡ false → (onwards_by i n q).back ≡ 0

fresh-known : (l : Level) (w : Place) → KnownAt (fresh l w)
unfolding run
fresh-known l w = record { trivia = _; is = refl }

module _ (k : CharClasses) (q : Sequence) (is : IsRun k q) where
  abbrev leads : Leads q
  leads = leads-of k q is

  there : (i : ℕ) → AllGo (first_of i q) → KnownAt (first_end i q).state
  there i g = known-made q.level q.stops i (true, 0) q.place q.point leads.known g

  none-hinted : (i n : ℕ) → AllGo (first_of i q) → AllGo (then_of i n q) → (read_by i n q).hints ≡ []
  none-hinted i zero g h = refl
  none-hinted i (suc n) g h = let e = first_end i q in (gives-pieces q.level q.stops leads.taking (suc n) e.value (first_place i q) e.state (omega arith) (there i g) h).hints

  none-back : (i n : ℕ) → AllGo (first_of i q) → AllGo (then_of i n q) → (b : Bool) → minds_at q (first_place i q) (first_end i q) ≡ b → TakesNone i q → (read_by i n q).back ≡ 0
  none-back i n g h b m p = grind (arith, head-law, back-law)

  goes-further : (i : ℕ) → AllGo (first_of (suc i) q) → (first_end i q).taken + gap_of (first_end i q).state.known < (first_end (suc i) q).taken
  goes-further i g =
      let e = first_end i q in
      let w = moved e.taken q.place in
      let go = go-next (turn_of q) i (true, 0) q.place q.point g in
      let at = there i (go-fewer (turn_of q) i (suc i) (true, 0) q.place q.point (omega arith) g) in
      omega (arith, takes-more q.level q.stops leads.taking e.value w e.state at (first-of _ _ go), ap (λ (u : End (Bool × ℕ)). u.taken) (more-ends q i))

  pub facts : Facts q
  facts = record {
    leads = λ i n t g h k.
        subst (λ us. StartsWith (pending (first_end i q).state.known) (us ++ t.nodes)) (less-none (read_by i n q).nodes) (leads-run q leads.taking leads.known i n 0 t (omega arith) g h k);
    hints = none-hinted;
    back = λ i n g h none. none-back i n g h (minds_at q (first_place i q) (first_end i q)) refl none;
    further = goes-further;
    few = λ x w g.
        (let c = turn_of q x w (fresh q.level w) in
        let gives = (gives-pieces q.level q.stops leads.taking 1 x w (fresh q.level w) (omega arith) (fresh-known q.level w) (g, tt)).few in
        omega (arith, gives, ap length (standing-still (plain (tt {0}) c.state) c.nodes refl refl refl)));
    not_over = λ i g.
        (let e = first_end i q in
        going-on q.level q.stops e.value (first_place i q) e.state (first-of _ _ (go-next (turn_of q) i (true, 0) q.place q.point g)));
    behind = λ i n g h mild. (head-law k q is i n g h).after_back (λ over. mild);
    tidy = λ n x w p. (tidy-together (turn_of q) (λ v. (sane-run q.level leads.taking.calls_sane leads.taking.blocks_sane (markup_turn true q.stops v)).backs) n x w p).back;
  }

-- ---- counts and stretches

-- How many nodes of trivia, which belong to the piece before, stand before the pieces after the first a.
abbrev pub leading : ℕ → End (Bool × ℕ) → ℕ
leading a e = if a == 0 then 0 else length (pending e.state.known)

pub leading-some : (a : ℕ) (e : End (Bool × ℕ)) → leading (suc a) e ≡ length (pending e.state.known)
leading-some a e = ap (λ b. if b then 0 else length (pending e.state.known)) (ne_eqb (suc a) 0 (omega arith))

pub leading-same : (a : ℕ) (e f : End (Bool × ℕ)) → (0 < a → e ≡ f) → leading a e ≡ leading a f
leading-same a e f h = grind arith

pub leading-most : (a : ℕ) (e : End (Bool × ℕ)) → leading a e ≤ length (pending e.state.known)
leading-most a e = grind arith

pub leading-is : (a : ℕ) (e : End (Bool × ℕ)) (t : Trivia) → 0 < a → e.state.known ≡ Some t → leading a e ≡ length t.nodes
leading-is a e t some h = grind arith

-- ---- before the stretch

-- the looks of fewer pieces of any run
fewer-looks : (q : Sequence) (a d most at : ℕ) (ls : List Ask) → AllEndBy most (shift at (ls ++ asks_of (first_of (a + d) q))) → AllEndBy most (shift at (ls ++ asks_of (first_of a q)))
fewer-looks q a d most at ls h =
    let first = asks_of (first_of a q) in
    let later = shift (first_end a q).taken (asks_of (then_of a d q)) in
    let is : ls ++ asks_of (first_of (a + d) q) ≡ (ls ++ first) ++ later = ap (λ ks. ls ++ ks) (ap (λ os. asks_of os) (first-split q a d) ∙ asks-append (true, 0) q.point (first_of a q) (then_of a d q)) ∙ sym (append_assoc ls first later) in
    (looks-split (looks-shifted (ending most) at) (ls ++ first) later (subst (λ ks. AllEndBy most (shift at ks)) is h)).0

module _ (k : CharClasses) (z : Place) where
  -- Pieces, with their trivia, end where their looks and the look at the first token do, or before.
  pub text-seen : (i most : ℕ) → AllEndBy most ((lead k z).asks ++ asks_of (first_of i (text_run k z))) → (first_end i (text_run k z)).taken + gap_of (first_end i (text_run k z)).state.known ≤ most
  text-seen i most h =
      let o = lead k z in
      let gap : gap_of o.state.known ≤ most = omega (arith, (sees-level (rules k) k max_depth peek z start most (omega arith)).ends (looks-first (ending most) o.asks (asks_of (first_of i (text_run k z))) h)) in
      made-seen (turn_of (text_run k z)) (λ x. sees-level (rules k) k max_depth (markup_turn true is_end x)) i (true, 0) z o.state most gap (looks-second (ending most) o.asks (asks_of (first_of i (text_run k z))) h)

module _ (k : CharClasses) (levels : ℕ) (c : Spot (Unit {0})) (z : Place) where
  pub block-sees : {A : Type 0} (p : Parser A) → Sees (run (block_level k levels) p)
  block-sees p = sees-run (block_level k levels) (sees-meaning (rules k) k (suc levels)) (λ b. sees-plain tt) p

  bracket-gap : gap_of (bracket k levels (moved c.at z) (point_of c.start)).state.known ≡ 0
  unfolding run
  bracket-gap = refl

  pub block-seen : (i most : ℕ) → AllEndBy most ((inner_lead k levels (moved c.at z) (point_of c.start)).asks ++ asks_of (first_of i (run_at k levels c z))) → (let e = first_end i (run_at k levels c z) in e.taken + gap_of e.state.known ≤ most)
  block-seen i most h =
      let r = run_at k levels c z in
      let o = inner_lead k levels (moved c.at z) (point_of c.start) in
      let first = (block-sees peek r.place (bracket k levels (moved c.at z) (point_of c.start)).state most (omega (arith, bracket-gap))).ends (looks-first (ending most) o.asks (asks_of (first_of i r)) h) in
      let gap : gap_of o.state.known ≤ most = omega (arith, first) in
      let end = made-seen (turn_of r) (λ x. block-sees (markup_turn true ends_block x)) i (true, 0) r.place o.state most gap (looks-second (ending most) o.asks (asks_of (first_of i r)) h) in
      omega (arith, end)

pub takes-some : (k : CharClasses) (q : Sequence) → IsRun k q → (i : ℕ) → 0 < i → AllGo (first_of i q) → 0 < (first_end i q).taken
takes-some k q is i some go = grind arith

-- The looks before fewer pieces end before the stretch, too.
fewer-before : (k : CharClasses) (edit : TextReplacement) (r : Run k (text_before edit)) (a d : ℕ) → Before k edit r (a + d) → Before k edit r a
fewer-before k edit top a d before =
    let z = start_before edit in
    let all = λ (i : ℕ). (lead k z).asks ++ asks_of (first_of i (text_run k z)) in
    λ l. subst (AllEndBy (length edit.front)) (shift-zero (all a)) (fewer-looks (text_run k z) a d (length edit.front) 0 (lead k z).asks (subst (AllEndBy (length edit.front)) (sym (shift-zero (all (a + d)))) (before (omega (arith, l)))))
fewer-before k edit (inner c levels chosen name left) a d before =
    let z = start_before edit in
    record {
      before = before.before;
      opens = before.opens;
      before_run = λ l. fewer-looks (run_at k levels c z) a d (length edit.front) (opened_at k levels c z) (inner_lead k levels (moved c.at z) (point_of c.start)).asks (before.before_run (omega (arith, l)));
    }

-- So these pieces end there.
room-before : (k : CharClasses) (edit : TextReplacement) (r : Run k (text_before edit)) (i : ℕ) → 0 < i → AllGo (first_of i (read_as r (start_before edit))) → Before k edit r i → opened_by r (start_before edit) + (first_end i (read_as r (start_before edit))).taken ≤ length edit.front
room-before k edit top i some go before = omega (arith, text-seen k (start_before edit) i (length edit.front) (before some))
room-before k edit (inner c levels chosen name left) i some go before =
    let z = start_before edit in
    let opened = opened_at k levels c z in
    let q = run_at k levels c z in
    let asks = (inner_lead k levels (moved c.at z) (point_of c.start)).asks ++ asks_of (first_of i q) in
    omega (arith, block-seen k levels c z i (length edit.front - opened) (end-shift opened (length edit.front - opened) (length edit.front) asks (omega arith) (before.before_run some)), takes-some k q (is_block_run levels (moved c.at z) (point_of c.start)) i some go)

-- An expression there takes no errors back in the new text if it doesn't in the old one.
pub still-clear : (k : CharClasses) (edit : TextReplacement) (r : Run k (text_before edit)) (i : ℕ) → 0 < i → AllGo (first_of i (read_as r (start_before edit))) → Before k edit r i → TakesNone i (read_as r (start_before edit)) → TakesNone i (read_as r (start_after edit))
still-clear k edit r i some go looks none h = let m = run-minds k edit r i some go looks in ap (λ (x : End (Bool × ℕ)). x.state.empties) m.ends ∙ none (sym m.minds ∙ h)

-- ---- the law

module _ (k : CharClasses) (edit : TextReplacement) (r : Run k (text_before edit)) (a d : ℕ) (go : AllGo (first_of (a + d) (read_as r (start_before edit)))) (looks : Before k edit r (a + d)) where
  abbrev w : Place
  w = start_after edit

  abbrev was : Sequence
  was = read_as r (start_before edit)

  abbrev now : Sequence
  now = read_as r w

  was_facts : Facts was
  was_facts = facts k was (is-run r (start_before edit))

  now_facts : Facts now
  now_facts = facts k now (is-run r w)

  sooner : Before k edit r a
  sooner = fewer-before k edit r a d looks

  alike : SameStart k edit r (a + d)
  alike = same-start k edit r (a + d) looks

  same_fewer : first_of a now ≡ first_of a was
  same_fewer = (same-start k edit r a sooner).first

  between : then_of a d now ≡ then_of a d was
  between =
      let n = length (first_of a now) in
      sym (drop-front (first_of a now) (then_of a d now) n refl) ∙ ap (drop n) (sym (first-split now a d) ∙ alike.first ∙ first-split was a d) ∙ drop-front (first_of a was) (then_of a d was) n (ap length same_fewer)

  go_fewer : AllGo (first_of a was)
  go_fewer = go-first (first_of a was) (then_of a d was) (subst (λ os. AllGo os) (first-split was a d) go)

  go_between : AllGo (then_of a d was)
  go_between = go-second (first_of a was) (then_of a d was) (subst (λ os. AllGo os) (first-split was a d) go)

  go_now : AllGo (first_of (a + d) now)
  go_now = subst (λ os. AllGo os) (sym alike.first) go

  begins : 0 < a + d → first_end (a + d) now ≡ first_end (a + d) was
  begins some = end-by-pieces (a + d) now was some alike.first

  pieces-are : (m : ℕ) → then_of a (d + m) now ≡ then_of a d was ++ then_of (a + d) m now
  pieces-are m = then-split now a d m ∙ ap (λ os. os ++ then_of (a + d) m now) between

  end-now : (m : ℕ) (u : Trivia) → end_by r a (d + m) u w ≡ end_by r (a + d) m u w
  end-now m u = grind (arith, then-end-split, end-split-at)

  known-is-now : (m : ℕ) → (then_end a (d + m) now).state.known ≡ (then_end (a + d) m now).state.known
  known-is-now m = ap (λ (e : End (Bool × ℕ)). e.state.known) (then-end-split now a d m)

  value-now : (m : ℕ) → (then_end a (d + m) now).value ≡ (then_end (a + d) m now).value
  value-now m = ap (λ (e : End (Bool × ℕ)). e.value) (then-end-split now a d m)

  passes-then : (n m past : ℕ) (t u : Trivia) → PassesPieces k edit r a n (d + m) past t u → EndsOld k edit r a n past t × EndsNew k edit r a n d m past u
  passes-then n m past t u h = (
    record { old_go = h.old_go; after = h.after; known = h.known; ends = h.ends },
    record {
      new_go = go-second (then_of a d was) (then_of (a + d) m now) (subst (λ os. AllGo os) (pieces-are m) h.new_go);
      known_now = sym (known-is-now m) ∙ h.known_now;
      shifted = sym (end-now m u) ∙ h.shifted;
      agrees = subst (λ v. Agrees r (is_over a n was) (d + m) (then_end a n was).value v) (value-now m) h.agrees;
    },
  )

  passes-if : (n m past : ℕ) (t u : Trivia) → EndsOld k edit r a n past t × EndsNew k edit r a n d m past u → PassesPieces k edit r a n (d + m) past t u
  passes-if n m past t u (o, e) = record {
    first_go = go_fewer;
    old_go = o.old_go;
    new_go = subst (λ os. AllGo os) (sym (pieces-are m)) (go-both (then_of a d was) (then_of (a + d) m now) go_between e.new_go);
    before = sooner;
    after = o.after;
    known = o.known;
    known_now = known-is-now m ∙ e.known_now;
    ends = o.ends;
    shifted = end-now m u ∙ e.shifted;
    agrees = subst (λ v. Agrees r (is_over a n was) (d + m) (then_end a n was).value v) (sym (value-now m)) e.agrees;
  }

  -- Fewer end before the stretch.
  too-few : (n m past : ℕ) (t u : Trivia) → PassesPieces k edit r a n m past t u → m < d → ⊥
  too-few n m past t u h l =
      let some : 0 < a + d = omega (arith, l) in
      let up : suc (a + m) ≤ a + d = omega (arith, l) in
      let more = now_facts.further (a + m) (go-fewer (turn_of now) (suc (a + m)) (a + d) (true, 0) now.place now.point up go_now) in
      let same = ap (λ (e : End (Bool × ℕ)). e.taken) (begins some) in
      let sum = ap (λ (e : End (Bool × ℕ)). e.taken) (end-split-at now a m) in
      let gap : gap_of (first_end (a + m) now).state.known ≡ u.gap = ap (λ (e : End (Bool × ℕ)). gap_of e.state.known) (end-split-at now a m) ∙ ap gap_of h.known_now in
      absurd (omega (arith, more, least-taken (turn_of now) (suc (a + m)) (a + d) (true, 0) now.place now.point up, same, sum, gap, room-before k edit r (a + d) some go looks, alike.opened, h.shifted))

  nodes-are : (m : ℕ) (t u : Trivia) → 0 < a + d → TakesNone (a + d) was → (first_end (a + d) was).state.known ≡ Some t → AllGo (then_of (a + d) m now) → (then_end (a + d) m now).state.known ≡ Some u
      → nodes_now r a (d + m) u w ≡ nodes_now r a d t (start_before edit) ++ nodes_now r (a + d) m u w
  nodes-are m t u some none known go_m known_now =
      let p = read_by (a + d) m now in
      let olds = (read_by a d was).nodes in
      let f = followed-by (then_of a d was) (then_end a d was).state p (now_facts.back (a + d) m go_now go_m (still-clear k edit r (a + d) some go looks none)) (now_facts.hints (a + d) m go_now go_m) in
      let whole : (read_by a (d + m) now).nodes ≡ olds ++ p.nodes = ap (λ (e : End (Bool × ℕ)). (together e.state (then_of a (d + m) now)).nodes) (then-end-split now a d m)
      ∙ ap (λ os. (together (then_end (a + d) m now).state os).nodes) (pieces-are m)
      ∙ ap (λ (o : Outcome (Unit {0})). o.nodes) (chain-append (then_of a d was) (then_of (a + d) m now) (plain (tt {0}) (then_end (a + d) m now).state)) ∙ f.nodes in
      let there : (first_end (a + d) now).state.known ≡ Some t = ap (λ (e : End (Bool × ℕ)). e.state.known) (begins some) ∙ known in
      let later = subst (λ o. StartsWith (pending o) (p.nodes ++ u.nodes)) there (now_facts.leads (a + d) m u go_now go_m known_now) in
      let early = was_facts.leads a d t go_fewer go_between (ap (λ (e : End (Bool × ℕ)). e.state.known) (sym (end-split-at was a d)) ∙ known) in
      let cut = leading a (first_end a was) in
      let long = ap length early.is ∙ length-append (pending (first_end a was).state.known) early.rest in
      let same : leading a (first_end a now) ≡ cut = leading-same a (first_end a now) (first_end a was) (λ l. end-by-pieces a now was l same_fewer) in
      let mine : nodes_now r (a + d) m u w ≡ later.rest = ap (λ j. drop j (p.nodes ++ u.nodes)) (leading-is (a + d) (first_end (a + d) now) t some there) ∙ ap (drop (length t.nodes)) later.is ∙ drop-front t.nodes later.rest (length t.nodes) refl in
      let all : (olds ++ p.nodes) ++ u.nodes ≡ (olds ++ t.nodes) ++ later.rest = append_assoc olds p.nodes u.nodes ∙ ap (λ ts. olds ++ ts) later.is ∙ sym (append_assoc olds t.nodes later.rest) in
      grind (arith, drop-append-le, leading-most)

  serves : ServesMore k edit r a d
  serves = record {
    fewer = sooner;
    opens = alike.opened;
    begins = begins;
    clear = λ some none. still-clear k edit r (a + d) some go looks none;
    pieces = pieces-are;
    passes = λ n m past t u. (passes-then n m past t u, passes-if n m past t u);
    least = λ n m past t u h. not-less d m (too-few n m past t u h);
    nodes = nodes-are;
  }

pub one-reading-law : OneReadingLaw
one-reading-law k edit r a d go looks = serves k edit r a d go looks

-- ---- read again

module _ (k : CharClasses) (text : List ℕ) (r : Run k text) (z : Place) (f : Facts (read_as r z)) (resumes : Resumes (read_as r z)) where
  abbrev own : Sequence
  own = read_as r z

  gives : (i m : ℕ) (t u : Trivia) → 0 < i → 0 < m → AllGo (first_of i own) → AllGo (then_of i m own) → (first_end i own).state.known ≡ Some t → TakesNone i own → GivesAgain k text r z i m t u
  gives i zero t u some more g h known none = absurd (omega (arith, more))
  gives i (suc n) t u some more g h known none =
      let e = first_end i own in
      let y = first_place i own in
      let w = moved t.gap y in
      let o = turn_of own e.value y e.state in
      let os = made (turn_of own) n o.value.1 (moved o.taken y) o.state in
      let c = turn_of own e.value w (fresh own.level w) in
      let cs = made (turn_of own) n c.value.1 (moved c.taken w) c.state in
      let same = resumes i (suc n) t g h known none in
      let one = same.0 in
      let ends : end_of o.value.1 o.state os ≡ end_of c.value.1 c.state cs = (λ j. end_of (one.value j).1 (one.state j) (same.1 j)) in
      let some_c : 0 < c.taken = omega (arith, f.further i (more-goes own i g (h.0, tt)), ap (λ (x : End (Bool × ℕ)). x.taken) (more-ends own i), ap gap_of known, one.taken) in
      let go_c : goes c ≡ true = ap (λ b. b && nat_lt 0 c.taken) (sym (ap (λ (v : Bool × (Bool × ℕ)). v.0) one.value) ∙ first-of o.value.0 (nat_lt 0 o.taken) h.0) ∙ lt-ltb 0 c.taken some_c in
      let p = together (end_of o.value.1 o.state os).state os in
      let d = together (end_of c.value.1 c.state cs).state cs in
      let alike : p ≡ d = (λ j. together (ends j).state (same.1 j)) in
      let back = f.tidy n o.value.1 (moved o.taken y) o.state in
      let few = f.few e.value w go_c in
      let empties = ap (λ (x : Point). x.empties) one.state in
      let nodes : (joined o p).nodes ≡ t.nodes ++ (joined c d).nodes = standing-led t.nodes c.nodes o p one.nodes (omega (arith, back, few, empties)) ∙ ap (λ (a : Outcome (Unit {0})). t.nodes ++ (joined c a).nodes) alike in
      let length_t : leading i e ≡ length t.nodes = leading-is i e t some known in
      let taken = ap (λ (x : End (Bool × ℕ)). x.taken) ends in
      grind (arith, append_assoc, drop-front)

pub gives-again-law : GivesAgainLaw
gives-again-law k text r z i m t u some more g h known none = gives k text r z (facts k (read_as r z) (is-run r z)) (resume-law k (read_as r z) (is-run r z)) i m t u some more g h known none

-- ---- the old nodes that a larger candidate gives before those of a reading stand where it begins

-- ---- along a path of a tree that is the same, spans aside

at-lists : (P Q : Tree → Type 0) → ((u v : Tree) → bare v ≡ bare u → P u → Q v) → (us vs : List Tree) (i : ℕ) → map bare vs ≡ map bare us → At P (slice_get us i) → At Q (slice_get vs i)
at-lists P Q f [] vs i e h = absurd h
at-lists P Q f (u ∷ us) [] i e h = absurd (omega (arith, ap length e))
at-lists P Q f (u ∷ us) (v ∷ vs) zero e h = f u v (cc) h
at-lists P Q f (u ∷ us) (v ∷ vs) (suc i) e h = at-lists P Q f us vs i (cc) h

kids-bare : (t u : Tree) → bare u ≡ bare t → map bare (kids_of u) ≡ map bare (kids_of t)
kids-bare t u e = sym (trees-bare u.kids) ∙ ap (λ (v : Tree). trees v.kids) e ∙ trees-bare t.kids

at-bare : (P Q : Tree → Type 0) → ((u v : Tree) → bare v ≡ bare u → P u → Q v) → (path : List ℕ) (t root : Tree) → bare root ≡ bare t → AtPath P path t → AtPath Q path root
at-bare P Q f [] t root e h = f t root e h
at-bare P Q f (i ∷ path) t root e h = at-lists (AtPath P path) (AtPath Q path) (λ u v same. at-bare P Q f path u v same) (kids_of t) (kids_of root) i (kids-bare t root e) h

-- ---- stretches

-- Children that are these, spans aside, begin with them there.
begins-there : (from mid to : ℕ) (left kept right : List Tree) (t root : Tree) → bare root ≡ bare t → kids_of t ≡ left ++ (kept ++ right) → length left ≡ from → from + length kept ≡ mid → mid ≤ to → Begins from to kept root
begins-there from mid to left kept right t root e is here there l =
    let n = length kept in
    let all : map bare (kids_of root) ≡ map bare left ++ (map bare kept ++ map bare right) = kids-bare t root e ∙ ap (map bare) is ∙ map-append bare left (kept ++ right) ∙ ap (λ us. map bare left ++ us) (map-append bare kept right) in
    let few : n ≤ to - from = omega (arith, there, l) in
    ap (map bare) (sym (fewer n (to - from) (drop from (kids_of root)) few))
    ∙ sym (take-map bare n (drop from (kids_of root))) ∙ ap (take n) (sym (drop-map bare from (kids_of root)))
    ∙ ap (λ us. take n (drop from us)) all
    ∙ ap (take n) (drop-front (map bare left) (map bare kept ++ map bare right) from (sym (length-map left bare ∙ here)))
    ∙ take-front (map bare kept) (map bare right) n (sym (length-map kept bare))

-- ---- where the pieces stand

module _ (q : Sequence) (a d : ℕ) where
  -- The run doesn't end after pieces that are followed by another which goes on.
  goes-past : Facts q → AllGo (first_of (suc (a + d)) q) → is_over a d q ≡ false
  goes-past f go = grind (arith, end-split-at, later-place)

  -- All after them takes no errors back, since there are none or the next piece doesn't mind them.
  none-taken : Facts q → AllGo (first_of a q) → AllGo (then_of a d q) → TakesNone (a + d) q → (onwards_by a d q).back ≤ (then_end a d q).state.empties
      → (b : Bool) → minds_at q (first_place (a + d) q) (first_end (a + d) q) ≡ b → (onwards_by a d q).back ≡ 0
  none-taken f g h p few b m = grind (arith, end-split-at, later-place)

  go-before : AllGo (first_of (suc (a + d)) q) → AllGo (first_of (a + d) q)
  go-before go = go-fewer (turn_of q) (a + d) (suc (a + d)) (true, 0) q.place q.point (omega arith) go

  go-a : AllGo (first_of (suc (a + d)) q) → AllGo (first_of a q)
  go-a go = go-first (first_of a q) (then_of a d q) (subst (λ os. AllGo os) (first-split q a d) (go-before go))

  go-d : AllGo (first_of (suc (a + d)) q) → AllGo (then_of a d q)
  go-d go = go-second (first_of a q) (then_of a d q) (subst (λ os. AllGo os) (first-split q a d) (go-before go))

  known-d : (t : Trivia) → (first_end (a + d) q).state.known ≡ Some t → (then_end a d q).state.known ≡ Some t
  known-d t known = ap (λ (e : End (Bool × ℕ)). e.state.known) (sym (end-split-at q a d)) ∙ known

-- Nothing stands before the first piece.
none-stand : (a : ℕ) (back : ℕ) (ts : ℕ → List Tree) → a ≡ 0 → ts 0 ≡ [] → less back (ts a) ≡ []
none-stand a back ts e h = ap (λ j. less back (ts j)) e ∙ ap (less back) h ∙ none-less back

-- A block with a piece takes something, as that does.
takes-run : (k : CharClasses) (text : List ℕ) (r : Run k text) (i : ℕ) → AllGo (first_of (suc i) (read_as r (start_of text))) → TakesSome r
takes-run k text top i go = tt
takes-run k text (inner c levels chosen name left) i go =
    let z1 = start_of text in
    let q = run_at k levels c z1 in
    let z = moved c.at z1 in
    let p = point_of c.start in
    let reads = content-reads k text c chosen levels name left z1 in
    let split = ap (λ (o : Outcome (Unit {0})). o.taken) (content-split k levels z p (suc i) 0 go tt) in
    let all = content-taken k levels z p (chain (first_of (suc i) q) (chain (then_of (suc i) 0 q) (rest_of (suc i) 0 q))) (tail_at k levels (suc i) 0 c z1) (close_at k levels (suc i) 0 c z1) in
    omega (arith, ap (λ (o : Outcome (Unit {0})). o.taken) reads, split, all, split-taken q (suc i) 0, (facts k q (is_block_run levels z p)).further i go)

-- where the nodes of a run stand
kids-at : (k : CharClasses) (text : List ℕ) (r : Run k text) → TakesSome r → AtPath (λ u. kids_of u ≡ kids_of_run r) (path_to r) (tree k text)
kids-at k text top takes = refl
kids-at k text (inner c levels chosen name left) takes = let x = node-shape k levels text c chosen name left takes in block-at k text c chosen x.closed x.bracket (kids_in c.node) x.closing x.node

module _ (k : CharClasses) (text : List ℕ) (r : Run k text) (a d : ℕ) (t : Trivia) (from mid : ℕ) (root : Tree) (some : 0 < d) (go : AllGo (first_of (suc (a + d)) (read_as r (start_of text)))) (known : (first_end (a + d) (read_as r (start_of text))).state.known ≡ Some t)
    (none : TakesNone (a + d) (read_as r (start_of text))) (s : StandsBetween k text r a d from mid) (same : bare root ≡ bare (tree k text)) where
  abbrev z0 : Place
  z0 = start_of text

  abbrev own_run : Sequence
  own_run = read_as r z0

  abbrev own_facts : Facts own_run
  own_facts = facts k own_run (is-run r z0)

  abbrev before : List Tree
  before = standing_by a d own_run

  abbrev all : List Tree
  all = (read_by a d own_run).nodes ++ t.nodes

  takes : TakesSome r
  takes = takes-run k text r (a + d) go

  none-behind : (onwards_at a d own_run).back ≡ 0
  none-behind =
      let back_is = ap (λ (o : Outcome (Unit {0})). o.back) (onwards-is own_run a d) in
      let few = behind-back k own_run (is-run r z0) a d in
      back_is ∙ none-taken own_run a d own_facts (go-a own_run a d go) (go-d own_run a d go) none (omega (arith, few, back_is)) (minds_at own_run (first_place (a + d) own_run) (first_end (a + d) own_run)) refl

  led : Leading k text r a d t
  led = leading-law k text r a d t takes (go-a own_run a d go) (go-d own_run a d go) (known-d own_run a d t known) (inl some)

  own-nodes : nodes_after a d t own_run ≡ all
  own-nodes = ap (λ b. less b (read_by a d own_run).nodes ++ t.nodes) none-behind ∙ ap (λ us. us ++ t.nodes) (less-none (read_by a d own_run).nodes)

  fits : leading a (first_end a own_run) ≤ length all
  fits = let leads = own_facts.leads a d t (go-a own_run a d go) (go-d own_run a d go) (known-d own_run a d t known) in grind (arith, leading-most, length-append)

  from-at : (b : ℕ) → b ≡ a → from ≡ length before + leading b (first_end a own_run)
  from-at zero e = let none = ap length (none-stand a (read_by a d own_run).back (λ j. given (first_of j own_run) []) (sym e) refl) in let first = s.first (sym e) in omega (arith, none, first)
  from-at (suc b) e = grind (arith, cut-some, same-place, led, leading-some)

  mid-at : mid ≡ length before + length all
  mid-at =
      let sum = end-split-at own_run a d in
      let there : cut_at r (a + d) z0 ≡ opened_by r z0 + (((first_end a own_run).taken + (then_end a d own_run).taken) + gap_of (then_end a d own_run).state.known) =
      omega (arith, ap (λ (x : End (Bool × ℕ)). x.taken) sum, ap (λ (x : End (Bool × ℕ)). gap_of x.state.known) sum, cut-some r (a + d) z0 (omega (arith, some))) in
      same-place (run_from r) (kids_of_run r) mid _ _ (subst (λ x. StandsAt (run_from r) (kids_of_run r) mid (width (take x text))) there s.ends) (led.next (goes-past own_run a d own_facts go)) ∙ ap (λ us. length before + length us) own-nodes

  kept : KeptNodes k text r a d t from mid root
  kept =
      let start = from-at a refl in
      let n = leading a (first_end a own_run) in
      let nodes = drop n all in
      let left = before ++ take n all in
      let right = led.behind in
      let cut : take n all ++ nodes ≡ all = take-append-drop n all in
      let children : kids_of_run r ≡ left ++ (nodes ++ right) = led.children ∙ ap (λ us. before ++ (us ++ right)) (own-nodes ∙ sym cut) ∙ ap (λ us. before ++ us) (append_assoc (take n all) nodes right) ∙ sym (append_assoc before (take n all) (nodes ++ right)) in
      let taken = length-take-le n all fits in
      let here : length left ≡ from = omega (arith, start, length-append before (take n all), taken) in
      let there : from + length nodes ≡ mid = omega (arith, start, mid-at, sym (length-append (take n all) nodes) ∙ ap length cut, taken) in
      record {
        left = left;
        right = right;
        children = children;
        here = here;
        there = there;
        replaced = λ to others l.
            front-law (path_to r) from to nodes others root
            (at-bare (λ u. kids_of u ≡ kids_of_run r) (Begins from to nodes) (λ u v e is. begins-there from mid to left nodes right u v e (is ∙ children) here there l) (path_to r) (tree k text) root same (kids-at k text r takes))
            ∙ ap (λ j. replaced_at (path_to r) j to others root) there;
      }

pub kept-nodes-law : KeptNodesLaw
kept-nodes-law k text r a d t from mid root same some go known none s = kept k text r a d t from mid root some go known none s same

pub put-behind-law : PutAfterLaw
put-behind-law k edit r a d m t u from mid to root same some go before known none s l go_m known_now =
    let w = start_after edit in
    let serves = one-reading-law k edit r a d (go-before (read_as r (start_before edit)) a d go) before in
    let kept = kept-nodes-law k (text_before edit) r a d t from mid root same some go known none s in
    ap (λ ts. replaced_at (path_to r) from to ts root) (serves.nodes m t u (omega (arith, some)) none known go_m known_now) ∙ kept.replaced to (nodes_now r (a + d) m u w) l
