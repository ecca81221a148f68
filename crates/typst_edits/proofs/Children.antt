-- A tree where some pieces of a run are read again: one stretch of the children of the run's node exchanged, of a text's root or of a content block's markup.
use Rattle.typst_edits.proofs.Cited.{◌≡◌, inl, inr, ℕ, zero, suc, ◌+◌, ◌<◌, ◌≤◌, Bool, true, false, nat_lt, List, [], ◌++◌, length, drop, length-append, append_assoc, Some, refl, ap, sym, ◌∙◌, subst, arith, ◌-◌, if◌then◌else◌, ◌∷◌, take, codes, append-nil, SyntaxKind, Place, moved, Tree, forest, trees, inner_of, made_error, CharClasses, is_end, as_at_hand, Hand, Trivia, Point, point_of, state_of, gap_of, pending, hinted, shaped, after_node, encloses, becomes, flush_trivia, close_if, ◌>>=◌, repeat, Outcome, Meaning, Level, plain, less, standing, joined, hand_of, run, wrapped, repeated, left_to, start_point, entered, asked, taken_node, done, hand_asks_of, flushed_state, Tidy, Backs, sane-run, sane-meaning, sane-plain, ends, markup_turn, ends_block, markup_reading, rules, max_depth, level_at, start_of, tree, whole, parsed, Settles, with_children, together, read_by, standing_by, nodes_after, exchanged, Among, alter, replaced, onwards_at, text_run, given, made, AllGo, end_of, lead, chain, End, first_place, Sequence, turn_of, first_of, first_end, then_of, then_end, then_place, rest_of, same, marked, itself, takes, less-none, inner, look_again, bracket, inner_lead, inner_run, inner_tail, inner_close, content_with, run_at, tail_at, close_at, run_of, body_of, Deep, fill, path_in, Hole, plug, path_of, under, block_with, blocks_of_text, Spot, last_node, unit_at, SameIn, on_both, standing-joined, At, AtPath, kids_of, slice_get, kids_in, kids_of_run, path_to, Run, read_as, top, IsRun, is_text_run, is_block_run, PassesJoint, backs-joined, ChildrenLaw, NodeLaw, BackLaw, TextReplacement, text_before, text_after, start_before, start_after, replacing}
use Rattle.typst_language.specs.Point.{is_nil}
use Rattle.typst_edits.specs.Frame.{inner as block_inner}
use Rattle.typst_edits.specs.Hole.Deep.{bare}
use Rattle.typst_edits.proofs.Boundary.{KnownAt, first-of, going-on, known-made}
use Rattle.typst_edits.proofs.Edit.{trees-of, among, before-same, alter-at, replaced-plug}
use Rattle.typst_edits.proofs.Joint.{onwards-is, block-taking, first-now, inner-joint-law, leads-of, is-run, joined-behind, same-start}
use Rattle.typst_edits.proofs.Turns.{before_trivia, Led, led-joined, drop-front, take-front, less-behind, none-of, Taking, turn-led, fronted-same, none-less}
use Rattle.typst_edits.proofs.RunTrees.{standing-chain, standing-still, tree-is, run-nodes}
use Rattle.typst_edits.proofs.Runs.{chain-state, split, split-taken, split-state, end-by-pieces}
use borrow.Author.Tests.{le-ltb}
use Rattle.typst_edits.proofs.BlockRuns.{sane, content_by, first-same}
use Rattle.typst_edits.proofs.Blocks.{ends as inner-ends, last-is}
use Rattle.typst_edits.proofs.Content.{Clear, clear-level, Begun, again, content-begun, opener-takes, Apart as InnerApart, same-here}
use Rattle.typst_edits.proofs.Spots.{Lawful}
use Rattle.typst_edits.proofs.Law.{inside-level}
use Rattle.typst_edits.proofs.Text.{content-reads}
use Rattle.typst_kinds.specs.declared.kind.SyntaxKind.TheVariants as kind
use Rattle.typst_language.specs.declared.calls.Mark.TheVariants as mark
use Rattle.typst_language.specs.declared.calls.Block.TheVariants as block

-- ---- stretches of nodes

pub exchanged-is : (xs ys news zs : List Tree) → exchanged (length xs) (length xs + length ys) news (xs ++ (ys ++ zs)) ≡ xs ++ (news ++ zs)
exchanged-is xs ys news zs = ap (λ u. u ++ (news ++ drop (length xs + length ys) (xs ++ (ys ++ zs)))) (take-front xs (ys ++ zs) (length xs) refl) ∙ ap (λ u. xs ++ (news ++ u)) (ap (drop (length xs + length ys)) (sym (append_assoc xs ys zs)) ∙ drop-front (xs ++ ys) zs (length xs + length ys) (sym (length-append xs ys)))

-- ---- several pieces as one outcome

pub given-together : {A : Type 0} (s : Point) (os : List (Outcome (Bool × A))) (ts : List Tree) → given os ts ≡ standing (together s os) ts
given-together s os ts = sym (standing-chain os (plain (tt {0}) s) ts ∙ standing-still (plain (tt {0}) s) (given os ts) refl refl refl)

pub tidy-together : {A : Type 0} (m : A → Meaning (Bool × A)) → ((x : A) → Backs (m x)) → (n : ℕ) (x : A) (z : Place) (s : Point)
    → (let os = made m n x z s in Tidy s (together (end_of x s os).state os))
tidy-together m b zero x z s = record { back = omega arith; left = omega arith }
tidy-together m b (suc n) x z s =
    let o = m x z s in
    backs-joined s o (together (end_of o.value.1 o.state (made m n o.value.1 (moved o.taken z) o.state)).state (made m n o.value.1 (moved o.taken z) o.state)) (b x z s) (tidy-together m b n o.value.1 (moved o.taken z) o.state)

-- what it gives: no hint, and at its end fewer empty errors than nodes
pub record Gives (o : Outcome (Unit {0})) : Type 0 where
  pub hints : o.hints ≡ []
  pub few : o.state.empties < length o.nodes

-- It gives the trivia and then a node that isn't empty, as it does after them.
pub record Fronts {A : Type 0} (t : Trivia) (o : Outcome A) : Type 0 where
  pub trims : Bool
  pub behind : Outcome A
  pub led : Led t t.nodes trims o behind

pub fronts-joined : {A B : Type 0} (t : Trivia) (o : Outcome B) (q : Outcome A) → Fronts t o → Tidy o.state q → Fronts t (joined o q)
fronts-joined t o q f tidy = record { trims = f.trims; behind = joined f.behind q; led = led-joined t t.nodes f.trims o f.behind q f.led (subst (λ s. Tidy s q) f.led.state tidy) }

-- A run on a level where each expression takes the token at hand.
module _ (l : Level) (stops : SyntaxKind → Bool) (taking : Taking l stops) where
  abbrev turn : Bool × ℕ → Meaning (Bool × (Bool × ℕ))
  turn x = run l (markup_turn true stops x)

  -- a turn that isn't stopped
  pub turn-fronts : (x : Bool × ℕ) (z : Place) (s : Point) (t : Trivia) → s.known ≡ Some t → ends stops x.1 (as_at_hand (hand_of l z s)).kind ≡ false → Fronts t (turn x z s)
  turn-fronts x z s t is go =
      let b = before_trivia s.reading s.held s.empties s.is_after_error t in
      let same : s ≡ b = ap (λ u. record s { known = u }) is in
      let go_there : ends stops x.1 (as_at_hand (hand_of l z b)).kind ≡ false = subst (λ p. ends stops x.1 (as_at_hand (hand_of l z p)).kind ≡ false) same go in
      subst (λ p. Fronts t (turn x z p)) (sym same) (record { trims = _; behind = _; led = turn-led l stops taking x z s.reading s.held s.empties s.is_after_error t go_there })

  -- some pieces
  pub pieces-front : (n : ℕ) (x : Bool × ℕ) (z : Place) (s : Point) (t : Trivia) → s.known ≡ Some t → 0 < n → AllGo (made turn n x z s)
      → Fronts t (together (end_of x s (made turn n x z s)).state (made turn n x z s))
  pieces-front zero x z s t is some g = absurd (omega (arith, some))
  pieces-front (suc n) x z s t is some g =
      let o = turn x z s in
      let y = moved o.taken z in
      let os = made turn n o.value.1 y o.state in
      fronts-joined t o (together (end_of o.value.1 o.state os).state os) (turn-fronts x z s t is (going-on l stops x z s (first-of o.value.0 (nat_lt 0 o.taken) g.0)))
      (tidy-together turn (λ v. (sane-run l taking.calls_sane taking.blocks_sane (markup_turn true stops v)).backs) n o.value.1 y o.state)

  pub gives-pieces : (n : ℕ) (x : Bool × ℕ) (z : Place) (s : Point) → 0 < n → KnownAt s → (let os = made turn n x z s in AllGo os → Gives (together (end_of x s os).state os))
  gives-pieces n x z s some known g =
      let f = (pieces-front n x z s known.trivia known.is some g).led in
      let long = ap length f.front.nodes in
      record { hints = f.front.hints; few = omega (arith, f.few, ap (λ (p : Point). p.empties) f.state, long, length-append known.trivia.nodes f.front.rest) }

-- some pieces as one outcome, and what follows them: it hints at nothing, and takes back nothing that stands before them
pub record Apart (p o : Outcome (Unit {0})) : Type 0 where
  pub hints : p.hints ≡ []
  pub few : o.back ≤ length p.nodes

made-none : {A : Type 0} (m : A → Meaning (Bool × A)) (n : ℕ) (x : A) (z : Place) (s : Point) → n ≡ 0 → made m n x z s ≡ []
made-none m zero x z s e = refl
made-none m (suc n) x z s e = absurd (omega (arith, e))

settled : {A : Type 0} (n : ℕ) (s : Point) (os : List (Outcome (Bool × A))) (o : Outcome (Unit {0})) → Settles n o → (n ≡ 0 → os ≡ []) → (0 < n → Gives (together s os)) → o.back ≤ (together s os).state.empties → Apart (together s os) o
settled zero s os o (inl some) none gives back = absurd (omega (arith, some))
settled zero s os o (inr e) none gives back = record { hints = ap (λ us. (together s us).hints) (none refl); few = omega (arith, e) }
settled (suc n) s os o h none gives back = let g = gives (omega arith) in let few = g.few in record { hints = g.hints; few = omega (arith, few, back) }

-- the nodes of some pieces and of all that follows, which has trivia before it
pub stretch-is : (ts rest : List Tree) (p o : Outcome (Unit {0})) (t : Trivia) → Apart p o → o.hints ≡ [] → o.nodes ≡ t.nodes ++ rest
    → standing o (standing p ts) ≡ less p.back ts ++ ((less o.back p.nodes ++ t.nodes) ++ rest)
stretch-is ts rest p o t g hints nodes =
    let before = less p.back ts in
    let own = less o.back p.nodes in
    ap (λ hs. standing o (hinted hs before ++ p.nodes)) g.hints ∙ ap (λ hs. hinted hs (less o.back (before ++ p.nodes)) ++ o.nodes) hints
    ∙ ap (λ us. us ++ o.nodes) (less-behind o.back before p.nodes g.few) ∙ ap (λ us. (before ++ own) ++ us) nodes
    ∙ append_assoc before own (t.nodes ++ rest) ∙ ap (λ us. before ++ us) (sym (append_assoc own t.nodes rest))

-- ---- pieces of a run that is read so

module _ (r : Sequence) (taking : Taking r.level r.stops) (known : KnownAt r.point) where
  run-gives : (i n : ℕ) → AllGo (first_of i r) → AllGo (then_of i n r) → 0 < n → Gives (read_by i n r)
  run-gives i n g h some =
      let e = first_end i r in
      gives-pieces r.level r.stops taking n e.value (first_place i r) e.state some (known-made r.level r.stops i (true, 0) r.place r.point known g) h

  -- with what is after them
  pub run-apart : (i n : ℕ) (o : Outcome (Unit {0})) → Settles n o → o.back ≤ (then_end i n r).state.empties → AllGo (first_of i r) → AllGo (then_of i n r) → Apart (read_by i n r) o
  run-apart i n o some few g h =
      let e = first_end i r in
      let f = then_end i n r in
      let same = ap (λ (s : Point). s.empties) (chain-state (then_of i n r) (plain (tt {0}) f.state)) in
      settled n f.state (then_of i n r) o some (λ none. made-none (turn_of r) n e.value (first_place i r) e.state none) (run-gives i n g h) (omega (arith, few, same))

-- ---- what is known of any run

pub top-known : (k : CharClasses) (i : ℕ) (z : Place) → AllGo (first_of i (text_run k z)) → KnownAt (first_end i (text_run k z)).state
top-known k i z g = known-made (level_at k max_depth) is_end i (true, 0) z (lead k z).state (leads-of k (text_run k z) (is_text_run z)).known g

-- What follows takes back no more than stands there.
pub behind-back : (k : CharClasses) (q : Sequence) → IsRun k q → (i n : ℕ) → (onwards_at i n q).back ≤ (then_end i n q).state.empties
behind-back k q is i n =
    let leads = leads-of k q is in
    let f = then_end i n q in
    let tidy = (sane-run q.level leads.taking.calls_sane leads.taking.blocks_sane (repeat (markup_turn true q.stops) f.value >>= λ _. flush_trivia)).backs (then_place i n q) f.state in
    omega (arith, tidy.back, ap (λ (o : Outcome (Unit {0})). o.back) (onwards-is q i n))

pub back-law : BackLaw
back-law k q is i n =
    let leads = leads-of k q is in
    let e = first_end i q in
    let tidy = tidy-together (turn_of q) (λ v. (sane-run q.level leads.taking.calls_sane leads.taking.blocks_sane (markup_turn true q.stops v)).backs) n e.value (first_place i q) e.state in
    record { pieces_back = tidy.back; after_back = behind-back k q is i n }

-- What stands of pieces and of all after them, which has trivia before it.
pub standing-is : (k : CharClasses) (q : Sequence) → IsRun k q → (i n : ℕ) (t : Trivia) (rest : List Tree) → Settles n (onwards_at i n q) → AllGo (first_of i q) → AllGo (then_of i n q) → (onwards_at i n q).hints ≡ [] → (onwards_at i n q).nodes ≡ t.nodes ++ rest
    → standing (onwards_at i n q) (given (then_of i n q) (given (first_of i q) [])) ≡ standing_by i n q ++ (nodes_after i n t q ++ rest)
standing-is k q is i n t rest some g h hints nodes =
    let leads = leads-of k q is in
    let ts = given (first_of i q) [] in
    ap (standing (onwards_at i n q)) (given-together (then_end i n q).state (then_of i n q) ts)
    ∙ stretch-is ts rest (read_by i n q) (onwards_at i n q) t (run-apart q leads.taking leads.known i n (onwards_at i n q) some (behind-back k q is i n) g h) hints nodes

-- ---- what leaves the nodes before it as they are

-- It stands after them.
quiet-standing : {A : Type 0} (o : Outcome A) (ts : List Tree) → InnerApart o → standing o ts ≡ ts ++ o.nodes
quiet-standing o ts q = ap (λ hs. hinted hs (less o.back ts) ++ o.nodes) q.hints ∙ ap (λ n. less n ts ++ o.nodes) q.back ∙ ap (λ us. us ++ o.nodes) (less-none ts)

quiet-joined : {A B : Type 0} (o : Outcome B) (p : Outcome A) → InnerApart o → InnerApart p → InnerApart (joined o p)
quiet-joined o p q r =
    record { back = omega (arith, q.back, r.back); hints = none-of (nat_lt p.back (length o.nodes)) (nat_lt (length o.nodes) p.back) o.hints p.hints q.hints r.hints }

-- ---- the node of a content block

shaped-is : (closed : Bool) (lb : Tree) (kids inner-ends : List Tree) → shaped (encloses kind.ContentBlock closed) (lb ∷ inner_of kind.Markup (forest kids) ∷ inner-ends) ≡ block_with closed lb kids inner-ends ∷ []
shaped-is true lb kids inner-ends = refl
shaped-is false lb kids inner-ends = refl

hints-joined : {A B : Type 0} (o : Outcome B) (p : Outcome A) → o.hints ≡ [] → p.hints ≡ [] → (joined o p).hints ≡ []
hints-joined o p e f = none-of (nat_lt p.back (length o.nodes)) (nat_lt (length o.nodes) p.back) o.hints p.hints e f

-- the trivia after a run
tail-quiet : (k : CharClasses) (levels n : ℕ) (s : Point) (z : Place) → InnerApart (inner_tail k levels n s z)
unfolding run flush_trivia
tail-quiet k levels n s z =
    let l = inner k levels in
    let w = moved n z in
    let h = hand_of l w s in
    let p = flushed_state h s in
    let y = moved h.gap w in
    let first = record (plain (tt {0}) p) { taken = h.gap; nodes = h.trivia; asks = hand_asks_of l w s } in
    let g = hand_of l y p in
    let a = asked g p in
    let second = record (plain (as_at_hand g) a) { asks = hand_asks_of l y p } in
    let last = plain (tt {0}) a in
    quiet-joined first (joined second last) (record { back = refl; hints = refl }) (quiet-joined second last (record { back = refl; hints = refl }) (record { back = refl; hints = refl }))

tidy-plain : {A : Type 0} (a : A) (p : Point) → Tidy p (plain a p)
tidy-plain a p = record { back = omega arith; left = omega arith }

-- The first of two hints at nothing if both do and the second takes nothing back.
front-none : (hs js : List (List ℕ)) → hs ++ js ≡ [] → hs ≡ []
front-none [] js e = refl
front-none (h ∷ hs) js e = cc

first-hints : (b c : Bool) (hs js : List (List ℕ)) → c ≡ false → (if b then hs else (if c then js else hs ++ js)) ≡ [] → hs ≡ []
first-hints true c hs js f e = e
first-hints false true hs js f e = cc
first-hints false false hs js f e = front-none hs js e

module _ (k : CharClasses) (levels : ℕ) (z : Place) (s : Point) where
  -- how it begins: with one token, its bracket, which leaves no empty error
  pub record Opens : Type 0 where
    pub node : Tree
    pub nodes : (bracket k levels z s).nodes ≡ node ∷ []
    pub empties : (bracket k levels z s).state.empties ≡ 0
    pending_none : length (pending (look_again k levels z s).state.known) ≡ 0

  pub opens-by : Begun (inner k levels) z s → Opens
  unfolding run
  opens-by b =
      let l = inner k levels in
      let h = hand_of l z s in
      let s1 = asked h s in
      let s2 = (look_again k levels z s).state in
      let one : hand_of l z s1 ≡ h = again l (sane-meaning (rules k) k (suc levels)) (λ c. sane-plain tt) z s in
      let two : hand_of l z s2 ≡ h = again l (sane-meaning (rules k) k (suc levels)) (λ c. sane-plain tt) z s1 ∙ one in
      let in_block = entered markup_reading s2 in
      let node = taken_node k itself (hand_of l z s2) z in
      record {
        node = node;
        nodes = ap (λ ts. ts ++ node ∷ []) (ap (λ (g : Hand). g.trivia) two ∙ b.trivia);
        empties = (opener-takes l).empties z in_block (ap (λ (g : Hand). g.gap) two ∙ b.gap) (subst (λ (g : Hand). 0 < g.len) (sym two) b.some) (subst (λ (g : Hand). g.len ≤ length z.ahead) (sym two) b.room);
        pending_none = ap (λ (g : Hand). length g.trivia) one ∙ ap length b.trivia;
      }

  abbrev the_run : Outcome (Bool × ℕ) → Outcome (Unit {0}) → Outcome (Unit {0})
  the_run r t = run_of (bracket k levels z s).state (inner_lead k levels z s) r t

  -- what stands in the run
  -- the block's one node, by its run
  pub node-is : (r : Outcome (Bool × ℕ)) (t : Outcome (Unit {0})) (close : Outcome Bool) (b : Opens) → InnerApart (the_run r t) → InnerApart close
      → (content_by k levels z s r t close).nodes ≡ block_with close.value b.node (standing t (standing r [])) close.nodes ∷ []
  unfolding run
  node-is r t close b quiet shut =
      let o = the_run r t in
      let w = wrapped (λ (x : Unit {0}). becomes kind.Markup) 0 o in
      let body = body_of o in
      let kids = standing t (standing r []) in
      let none : 0 + o.back ≡ 0 = ap (λ n. 0 + n) quiet.back in
      let quiet_w : InnerApart w = record { back = quiet.back; hints = quiet.hints } in
      let one = joined w (plain w.value.1 w.state) in
      let two = plain (is_nil w.value.1) w.state in
      let w_nodes : w.nodes ≡ inner_of kind.Markup (forest kids) ∷ [] =
      ap (λ n. take n o.nodes ++ inner_of kind.Markup (forest (drop n o.nodes)) ∷ []) none ∙ ap (λ ts. inner_of kind.Markup (forest ts) ∷ []) (run-nodes (inner k levels) (bracket k levels z s).state (moved (bracket k levels z s).taken z) r t) in
      let quiet_one = quiet-joined w (plain w.value.1 w.state) quiet_w (record { back = refl; hints = refl }) in
      let quiet_body : InnerApart body = quiet-joined one two quiet_one (record { back = refl; hints = refl }) in
      let body_nodes : body.nodes ≡ inner_of kind.Markup (forest kids) ∷ [] =
      standing-still two one.nodes refl refl refl ∙ standing-still (plain w.value.1 w.state) w.nodes refl refl refl ∙ w_nodes in
      let opening = bracket k levels z s in
      let rest = joined body close in
      let all = joined opening rest in
      let all_nodes : all.nodes ≡ b.node ∷ inner_of kind.Markup (forest kids) ∷ close.nodes =
      quiet-standing rest opening.nodes (quiet-joined body close quiet_body shut) ∙ ap (λ ts. ts ++ rest.nodes) b.nodes
      ∙ ap (λ ts. b.node ∷ ts) (quiet-standing close body.nodes shut ∙ ap (λ ts. ts ++ close.nodes) body_nodes) in
      let quiet_all : InnerApart all = quiet-joined opening rest (record { back = refl; hints = refl }) (quiet-joined body close quiet_body shut) in
      let second = look_again k levels z s in
      let n = length (pending second.state.known) in
      let block = wrapped (encloses kind.ContentBlock) n (left_to second.state.reading all) in
      let zero_more : n + all.back ≡ 0 = ap (λ a. a + all.back) b.pending_none ∙ ap (λ a. 0 + a) quiet_all.back in
      let block_nodes : block.nodes ≡ block_with close.value b.node kids close.nodes ∷ [] =
      ap (λ a. take a all.nodes ++ shaped (encloses kind.ContentBlock close.value) (drop a all.nodes)) zero_more ∙ ap (λ ts. shaped (encloses kind.ContentBlock close.value) ts) all_nodes ∙ shaped-is close.value b.node kids close.nodes in
      let quiet_block : InnerApart block = record { back = quiet_all.back; hints = quiet_all.hints } in
      let value = plain block.value.0 block.state in
      let done = plain (tt {0}) block.state in
      let inside = joined block value in
      let quiet_inside = quiet-joined block value quiet_block (record { back = refl; hints = refl }) in
      let looked = joined second inside in
      let quiet_looked = quiet-joined second inside (record { back = refl; hints = refl }) quiet_inside in
      let closing = joined looked done in
      let quiet_closing = quiet-joined looked done quiet_looked (record { back = refl; hints = refl }) in
      quiet-standing closing [] quiet_closing ∙ standing-still done looked.nodes refl refl refl ∙ quiet-standing inside [] quiet_inside ∙ standing-still value block.nodes refl refl refl ∙ block_nodes

  -- What is read in the run takes nothing back, and hints at nothing before it.
  abbrev whole_run : Outcome (Bool × ℕ)
  whole_run = let r = inner_run k levels z s in repeated (turn_of r) (true, 0) r.place r.point

  abbrev whole_tail : Outcome (Unit {0})
  whole_tail = let r = inner_run k levels z s in inner_tail k levels whole_run.taken whole_run.state r.place

  run-quiet : Opens → InnerApart (the_run whole_run whole_tail)
  unfolding run
  run-quiet b =
      let r = inner_run k levels z s in
      let x = (bracket k levels z s).state in
      let o = whole_run in
      let t = whole_tail in
      let at = r.point in
      let h = hand_of (inner k levels) r.place x in
      let u : Trivia = record { nodes = h.trivia; gap = h.gap; newlines = h.newlines } in
      let f = fronted-same (inner k levels) ends_block (block-taking k levels) at.held r.place u (true, 0) at.reading at.empties at.is_after_error in
      let tail = tail-quiet k levels o.taken o.state r.place in
      let tail_back : t.back ≡ 0 = tail.back in
      let none_back : nat_lt (length o.nodes) t.back ≡ false = ap (nat_lt (length o.nodes)) tail_back ∙ le-ltb (length o.nodes) 0 (omega arith) in
      let hints : o.hints ≡ [] = first-hints (nat_lt t.back (length o.nodes)) (nat_lt (length o.nodes) t.back) o.hints t.hints none_back f.hints in
      let one = plain false x in
      let two = record (plain (tt {0}) x) { asks = marked 0 (gap_of x.known) 0 (mark.Piece true 0) (state_of x) ∷ [] } in
      let first = inner_lead k levels z s in
      let last = plain (tt {0}) o.state in
      let tidy_run = (sane k levels (repeat (markup_turn true ends_block) (true, 0))).backs r.place at in
      let tidy_three = backs-joined x first (joined o last) (record { back = omega arith; left = omega arith }) (backs-joined at o last tidy_run (tidy-plain (tt {0}) o.state)) in
      let tidy_two = backs-joined x two (joined first (joined o last)) (record { back = omega arith; left = omega arith }) tidy_three in
      let tidy_one = backs-joined x one (joined two (joined first (joined o last))) (tidy-plain false x) tidy_two in
      let tidy = backs-joined x (joined one (joined two (joined first (joined o last)))) t tidy_one ((sane k levels flush_trivia).backs (moved o.taken r.place) o.state) in
      let four = joined o last in
      let three = joined first four in
      let both = joined two three in
      let hints_three = hints-joined first four refl (hints-joined o last hints refl) in
      record { back = omega (arith, tidy.back, b.empties); hints = hints-joined (joined one both) t (hints-joined one both refl (hints-joined two three refl hints_three)) tail.hints }

  -- by its pieces
  pub pieces-quiet : (i n : ℕ) → Opens → (let r = inner_run k levels z s in AllGo (first_of i r) → AllGo (then_of i n r)
      → InnerApart (the_run (chain (first_of i r) (chain (then_of i n r) (rest_of i n r))) (inner_tail k levels (((first_end i r).taken + (then_end i n r).taken) + (rest_of i n r).taken) (rest_of i n r).state r.place)))
  pieces-quiet i n b g h =
      let r = inner_run k levels z s in
      let q = chain (first_of i r) (chain (then_of i n r) (rest_of i n r)) in
      let taken = ((first_end i r).taken + (then_end i n r).taken) + (rest_of i n r).taken in
      let is : the_run whole_run whole_tail ≡ the_run q (inner_tail k levels taken (rest_of i n r).state r.place) =
      ap (λ (o : Outcome (Bool × ℕ)). the_run o (inner_tail k levels o.taken o.state r.place)) (split r (λ x. (sane k levels (markup_turn true ends_block x)).within) i n g h)
      ∙ ap (λ a. the_run q (inner_tail k levels a q.state r.place)) (split-taken r i n) ∙ ap (λ a. the_run q (inner_tail k levels taken a r.place)) (split-state r i n) in
      subst (λ o. InnerApart o) is (run-quiet b)

-- the closing bracket
pub close-quiet : (k : CharClasses) (levels n : ℕ) (s : Point) (z : Place) → InnerApart (inner_close k levels n s z)
unfolding run close_if
close-quiet k levels n s z =
    let l = inner k levels in
    let w = moved n z in
    let p = after_node false [] s in
    let h = hand_of l w p in
    let a = asked h p in
    let first = record (plain (as_at_hand h) a) { asks = hand_asks_of l w p } in
    let took = done l (takes false itself) (moved 0 w) a in
    let taken = joined took (plain true took.state) in
    let b = same kind.RightBracket (as_at_hand h).kind in
    let quiet = on_both (λ (u : Outcome Bool). InnerApart u) b taken (plain false a) (quiet-joined took (plain true took.state) (record { back = refl; hints = refl }) (record { back = refl; hints = refl })) (record { back = refl; hints = refl }) in
    quiet-joined first (if b then taken else plain false a) (record { back = refl; hints = refl }) quiet

-- ---- a node at the end of a path

with-fill : (d : Deep) (path : List ℕ) (i j : ℕ) (news : List Tree) (y : Tree) → with_children (path_in d ++ path) i j news (fill d y) ≡ fill d (with_children path i j news y)
with-fill bare path i j news y = refl
with-fill (under head left d right) path i j news y =
    ap (λ ts. record { head = head; kids = forest ts })
    (ap (alter (length left) (with_children (path_in d ++ path) i j news)) (trees-of (left ++ fill d y ∷ right)) ∙ alter-at (with_children (path_in d ++ path) i j news) left (fill d y) right
    ∙ ap (λ u. left ++ u ∷ right) (with-fill d path i j news y))

with-plug : (h : Hole) (path : List ℕ) (i j : ℕ) (news : List Tree) (y : Tree) → with_children (path_of h ++ path) i j news (inner_of kind.Markup (forest (plug h y))) ≡ inner_of kind.Markup (forest (plug h (with_children path i j news y)))
with-plug h path i j news y =
    ap (λ ts. inner_of kind.Markup (forest ts))
    (ap (alter (length h.left) (with_children (path_in h.deep ++ path) i j news)) (trees-of (plug h y)) ∙ alter-at (with_children (path_in h.deep ++ path) i j news) h.left (fill h.deep y) h.right
    ∙ ap (λ u. h.left ++ u ∷ h.right) (with-fill h.deep path i j news y))

-- The markup of a content block is its second child.
with-kids : (closed : Bool) (lb : Tree) (kids inner-ends : List Tree) (i j : ℕ) (news : List Tree) → with_children (1 ∷ []) i j news (block_with closed lb kids inner-ends) ≡ block_with closed lb (exchanged i j news kids) inner-ends
with-kids closed lb kids inner-ends i j news =
    let first = if closed then lb else made_error (codes "unclosed delimiter") lb in
    let markup : Tree = inner_of kind.Markup (forest kids) in
    ap (λ ts. inner_of kind.ContentBlock (forest (alter 1 (with_children [] i j news) ts))) (trees-of (first ∷ markup ∷ inner-ends))
    ∙ ap (λ ts. inner_of kind.ContentBlock (forest (first ∷ inner_of kind.Markup (forest (exchanged i j news ts)) ∷ inner-ends))) (trees-of kids)

-- so at the block's place in the tree
pub with-run : (h : Hole) (closed : Bool) (lb : Tree) (kids inner-ends : List Tree) (i j : ℕ) (news : List Tree)
    → with_children (path_of h ++ 1 ∷ []) i j news (inner_of kind.Markup (forest (plug h (block_with closed lb kids inner-ends)))) ≡ inner_of kind.Markup (forest (plug h (block_with closed lb (exchanged i j news kids) inner-ends)))
with-run h closed lb kids inner-ends i j news = with-plug h (1 ∷ []) i j news (block_with closed lb kids inner-ends) ∙ ap (λ a. inner_of kind.Markup (forest (plug h a))) (with-kids closed lb kids inner-ends i j news)

-- ---- the pieces of a block's run

-- what stands in the run, by the pieces and all after them
pub kids-are : (k : CharClasses) (levels : ℕ) (c : Spot (Unit {0})) (z : Place) (i n : ℕ) (t : Trivia) (rest : List Tree) → (let r = run_at k levels c z in Settles n (onwards_at i n r) → AllGo (first_of i r) → AllGo (then_of i n r) → (onwards_at i n r).hints ≡ [] → (onwards_at i n r).nodes ≡ t.nodes ++ rest
    → standing (tail_at k levels i n c z) (standing (chain (first_of i r) (chain (then_of i n r) (rest_of i n r))) []) ≡ standing_by i n r ++ (nodes_after i n t r ++ rest))
kids-are k levels c z i n t rest some g h hints nodes =
    let r = run_at k levels c z in
    let os = first_of i r in
    let ps = then_of i n r in
    let q = rest_of i n r in
    let u = tail_at k levels i n c z in
    ap (standing u) (standing-chain os (chain ps q) [] ∙ standing-chain ps q (given os [])) ∙ sym (standing-joined q u (given ps (given os [])))
    ∙ standing-is k r (is_block_run levels (moved c.at z) (point_of c.start)) i n t rest some g h hints nodes

-- ---- the law

-- how the block begins in both texts
pub record BothOpen (k : CharClasses) (levels : ℕ) (z w : Place) (c : Spot (Unit {0})) : Type 0 where
  pub old_opens : Opens k levels (moved c.at z) (point_of c.start)
  pub new_opens : Opens k levels (moved c.at w) (point_of c.start)

-- A block that takes something begins with its bracket if all before it shows the same.
pub begun-at : (k : CharClasses) (levels : ℕ) (text : List ℕ) (c : Spot (Unit {0})) → Among c (blocks_of_text k text) → c.name ≡ block.Content → max_depth - c.fewer ≡ suc levels → (w : Place) → SameIn c.before (start_of text) w → 0 < (unit_at c w).taken
    → Begun (inner k levels) (moved c.at w) (point_of c.start)
unfolding blocks_of_text
begun-at k levels text c chosen name left w same some =
    let z = start_of text in
    let clear = among (Clear k z) c _ chosen (clear-level (rules k) k max_depth whole z (start_point markup_reading) tt) in
    let reads = content-reads k text c chosen levels name left w in
    content-begun (inner k levels) (sane-meaning (rules k) k (suc levels)) (λ b. sane-plain tt) (moved c.at w) (point_of c.start) refl (clear.clear w same) (subst (λ (a : Outcome (Unit {0})). 0 < a.taken) reads some)

pub both-open : (k : CharClasses) (levels : ℕ) (edit : TextReplacement) (c : Spot (Unit {0})) (chosen : Among c (blocks_of_text k (text_before edit))) (name : c.name ≡ block.Content) (level : max_depth - c.fewer ≡ suc levels) (i n m past : ℕ) (t u : Trivia)
    → PassesJoint k edit (block_inner c levels chosen name level) i n m past t u → BothOpen k levels (start_before edit) (start_after edit) c
both-open k levels edit c chosen name level i n m past t u h =
    let z = start_before edit in
    let w = start_after edit in
    let s = point_of c.start in
    let passes = (inner-joint-law k levels edit c chosen name level i n m past t u h).passes in
    let begun = begun-at k levels (text_before edit) c chosen name level in
    record {
      old_opens = opens-by k levels (moved c.at z) s (begun z (same-here c.before z) (omega (arith, passes.starts, passes.ends)));
      new_opens = opens-by k levels (moved c.at w) s (begun w (before-same c.before edit h.before.before) (omega (arith, passes.starts, passes.shifted)));
    }

-- a text's tree, by a block's node
pub tree-by-block : (k : CharClasses) (edit : TextReplacement) (c : Spot (Unit {0})) → Among c (blocks_of_text k (text_before edit)) → (x : Tree) → c.node ≡ x → tree k (text_before edit) ≡ inner_of kind.Markup (forest (plug c.hole x))
unfolding blocks_of_text tree
tree-by-block k edit c chosen x node =
    let z = start_before edit in
    let o = parsed k max_depth (text_before edit) in
    let l = among (Lawful z z o o) c _ chosen (inside-level (rules k) k (inner-ends k) max_depth whole z z (start_point markup_reading)) in
    let made_tree = λ (ts : List Tree). inner_of kind.Markup (forest ts) in
    ap made_tree (ap (λ (a : Outcome (Unit {0})). a.nodes) l.old) ∙ ap (λ a. made_tree (plug c.hole a)) node

-- a node at the end of a path in a block's hole
at-kids : (P : Tree → Type 0) (left : List Tree) (x : Tree) (right : List Tree) → P x → At P (slice_get (trees (forest (left ++ x ∷ right))) (length left))
at-kids P left x right h = subst (λ us. At P (slice_get us (length left))) (sym (trees-of (left ++ x ∷ right))) (at-left left)
  where
    at-left : (left : List Tree) → At P (slice_get (left ++ x ∷ right) (length left))
    at-left [] = h
    at-left (y ∷ left) = at-left left

at-fill : (P : Tree → Type 0) (path : List ℕ) (d : Deep) (x : Tree) → AtPath P path x → AtPath P (path_in d ++ path) (fill d x)
at-fill P path bare x h = h
at-fill P path (under head left d right) x h = at-kids (AtPath P (path_in d ++ path)) left (fill d x) right (at-fill P path d x h)

-- So a block's kids stand in the tree.
pub block-at : (k : CharClasses) (text : List ℕ) (c : Spot (Unit {0})) → Among c (blocks_of_text k text) → (closed : Bool) (lb : Tree) (kids ends : List Tree) → c.node ≡ block_with closed lb kids ends → AtPath (λ u. kids_of u ≡ kids_in c.node) (path_of c.hole ++ 1 ∷ []) (tree k text)
block-at k text c chosen closed lb kids ends node =
    let P = λ (u : Tree). kids_of u ≡ kids in
    let h = c.hole in
    let x = block_with closed lb kids ends in
    let here : AtPath P (path_of h ++ 1 ∷ []) (inner_of kind.Markup (forest (plug h x))) = at-kids (AtPath P (path_in h.deep ++ 1 ∷ [])) h.left (fill h.deep x) h.right (at-fill P (1 ∷ []) h.deep x (trees-of kids)) in
    subst (λ ts. AtPath (λ u. kids_of u ≡ ts) (path_of h ++ 1 ∷ []) (tree k text)) (sym (ap kids_in node ∙ trees-of kids)) (subst (AtPath P (path_of h ++ 1 ∷ [])) (sym (tree-by-block k (replacing [] [] [] text) c chosen x node)) here)

-- What the trees of both texts are: at the run's node one stretch of its children is exchanged.
record Exchange (k : CharClasses) (edit : TextReplacement) (r : Run k (text_before edit)) (i n m : ℕ) (t u : Trivia) : Type 0 where
  behind : List Tree
  children : (let q = read_as r (start_before edit) in kids_of_run r ≡ standing_by i n q ++ (nodes_after i n t q ++ behind))
  tree_now : (let q = read_as r (start_before edit) in
      let first = length (standing_by i n q) in
      tree k (text_after edit) ≡ with_children (path_to r) first (first + length (nodes_after i n t q)) (nodes_after i m u (read_as r (start_after edit))) (tree k (text_before edit)))
  at : AtPath (λ u. kids_of u ≡ kids_of_run r) (path_to r) (tree k (text_before edit))

pub node-law : NodeLaw
unfolding blocks_of_text
node-law k levels edit c chosen name level i n m past t u h some more same_back =
    let z = start_before edit in
    let w = start_after edit in
    let s = point_of c.start in
    let y = moved c.at z in
    let v = moved c.at w in
    let kept = inner-joint-law k levels edit c chosen name level i n m past t u h in
    let firsts = first-same k levels edit c i h.before in
    let r = run_at k levels c z in
    let q = run_at k levels c w in
    let new_first : AllGo (first_of i q) = subst (λ os. AllGo os) (sym firsts.first) h.first_go in
    let o = parsed k max_depth (text_before edit) in
    let l = among (Lawful z z o o) c _ chosen (inside-level (rules k) k (inner-ends k) max_depth whole z z (start_point markup_reading)) in
    let opens = both-open k levels edit c chosen name level i n m past t u h in
    let opens_old = opens.old_opens in
    let lb = opens_old.node in
    let lb_is : opens.new_opens.node ≡ lb = ap last_node (sym opens.new_opens.nodes ∙ ap (λ (a : Outcome (Unit {0})). a.nodes) firsts.opened ∙ opens_old.nodes) in
    let close = close_at k levels i n c z in
    let last = tail_at k levels i n c z in
    let shut : InnerApart close = close-quiet k levels ((((first_end i r).taken + (then_end i n r).taken) + (rest_of i n r).taken) + last.taken) last.state r.place in
    let x = kept.behind in
    let before = standing_by i n r in
    let olds = nodes_after i n t r in
    let news = nodes_after i m u q in
    let tail_new = tail_at k levels i m c w in
    let chain_old = chain (first_of i r) (chain (then_of i n r) (rest_of i n r)) in
    let chain_new = chain (first_of i q) (chain (then_of i m q) (rest_of i m q)) in
    let old_node = block_with close.value lb (before ++ (olds ++ x.rest)) close.nodes in
    let was : (unit_at c z).nodes ≡ old_node ∷ [] =
    ap (λ (a : Outcome (Unit {0})). a.nodes) kept.was ∙ node-is k levels y s chain_old last close opens_old (pieces-quiet k levels y s i n opens_old h.first_go h.old_go) shut
    ∙ ap (λ ts. block_with close.value lb ts close.nodes ∷ []) (kids-are k levels c z i n t x.rest some h.first_go h.old_go x.hints x.nodes) in
    let kids_new : standing tail_new (standing chain_new []) ≡ before ++ (news ++ x.rest) =
    kids-are k levels c w i m u x.rest more new_first h.new_go x.hints_now x.nodes_now
    ∙ ap (λ b. less b (given (first_of i q) []) ++ (news ++ x.rest)) same_back ∙ ap (λ os. less (read_by i n r).back (given os []) ++ (news ++ x.rest)) firsts.first in
    let now : (unit_at c w).nodes ≡ block_with close.value lb (before ++ (news ++ x.rest)) close.nodes ∷ [] =
    ap (λ (a : Outcome (Unit {0})). a.nodes) kept.now
    ∙ ap (λ os. (content_with k levels v s (chain os (chain (then_of i m q) (rest_of i m q))) tail_new close).nodes) (sym firsts.first)
    ∙ node-is k levels v s chain_new tail_new close opens.new_opens (pieces-quiet k levels v s i m opens.new_opens new_first h.new_go) shut
    ∙ ap (λ a. block_with close.value a (standing tail_new (standing chain_new [])) close.nodes ∷ []) lb_is ∙ ap (λ ts. block_with close.value lb ts close.nodes ∷ []) kids_new in
    record {
      closed = close.value;
      bracket = lb;
      behind = x.rest;
      ends = close.nodes;
      node = sym (last-is c.front c.node) ∙ ap last_node (sym l.fits.nodes ∙ was);
      node_now = ap last_node now;
    }

exchange : (k : CharClasses) (edit : TextReplacement) (r : Run k (text_before edit)) (i n m past : ℕ) (t u : Trivia) → PassesJoint k edit r i n m past t u
    → Settles n (onwards_at i n (read_as r (start_before edit))) → Settles m (onwards_at i m (read_as r (start_after edit)))
    → (read_by i m (read_as r (start_after edit))).back ≡ (read_by i n (read_as r (start_before edit))).back → Exchange k edit r i n m t u
unfolding blocks_of_text tree
exchange k edit top i n m past t u h some more same =
    let z = start_before edit in
    let w = start_after edit in
    let q = text_run k z in
    let v = text_run k w in
    let x = joined-behind k edit top i n m past t u h in
    let first_now = first-now k edit top i h.before h.first_go in
    let before = standing_by i n q in
    let olds = nodes_after i n t q in
    let news = nodes_after i m u v in
    let made_tree = λ (us : List Tree). inner_of kind.Markup (forest us) in
    let was : tree k (text_before edit) ≡ made_tree (before ++ (olds ++ x.rest)) =
    tree-is k (text_before edit) i n h.first_go h.old_go ∙ ap made_tree (standing-is k q (is_text_run z) i n t x.rest some h.first_go h.old_go x.hints x.nodes) in
    let now : tree k (text_after edit) ≡ made_tree (before ++ (news ++ x.rest)) =
    tree-is k (text_after edit) i m first_now h.new_go ∙ ap made_tree (standing-is k v (is_text_run w) i m u x.rest more first_now h.new_go x.hints_now x.nodes_now)
    ∙ ap (λ b. made_tree (less b (given (first_of i v) []) ++ (news ++ x.rest))) same ∙ ap (λ os. made_tree (less (read_by i n q).back (given os []) ++ (news ++ x.rest))) (same-start k edit top i h.before).first in
    let first = length before in
    record {
      behind = x.rest;
      children = ap (λ (y : Tree). trees y.kids) was ∙ trees-of (before ++ (olds ++ x.rest));
      tree_now = now ∙ ap made_tree (sym (ap (exchanged first (first + length olds) news) (trees-of (before ++ (olds ++ x.rest))) ∙ exchanged-is before olds news x.rest)) ∙ ap (with_children [] first (first + length olds) news) (sym was);
      at = refl;
    }
exchange k edit (block_inner c levels chosen name left) i n m past t u h some more same =
    let z = start_before edit in
    let w = start_after edit in
    let x = node-law k levels edit c chosen name left i n m past t u h some more same in
    let kept = (inner-joint-law k levels edit c chosen name left i n m past t u h).kept in
    let o = parsed k max_depth (text_before edit) in
    let l = among (Lawful z z o o) c _ chosen (inside-level (rules k) k (inner-ends k) max_depth whole z z (start_point markup_reading)) in
    let before = standing_by i n (run_at k levels c z) in
    let olds = nodes_after i n t (run_at k levels c z) in
    let news = nodes_after i m u (run_at k levels c w) in
    let kids = before ++ (olds ++ x.behind) in
    let first = length before in
    let path = path_of c.hole ++ 1 ∷ [] in
    let new_node = last_node (unit_at c w).nodes in
    let made_tree = λ (ts : List Tree). inner_of kind.Markup (forest ts) in
    let nodes_old : o.nodes ≡ plug c.hole c.node = ap (λ (a : Outcome (Unit {0})). a.nodes) l.old in
    let exchanged_is : with_children path first (first + length olds) news (made_tree (plug c.hole (block_with x.closed x.bracket kids x.ends))) ≡ made_tree (plug c.hole (block_with x.closed x.bracket (before ++ (news ++ x.behind)) x.ends)) =
    with-run c.hole x.closed x.bracket kids x.ends first (first + length olds) news ∙ ap (λ ts. made_tree (plug c.hole (block_with x.closed x.bracket ts x.ends))) (exchanged-is before olds news x.behind) in
    record {
      behind = x.behind;
      children = ap kids_in x.node ∙ trees-of kids;
      tree_now = kept.tree ∙ ap (λ ts. made_tree (replaced (path_of c.hole) new_node ts)) nodes_old ∙ ap made_tree (replaced-plug c.hole new_node c.node)
          ∙ ap (λ a. made_tree (plug c.hole a)) x.node_now ∙ sym exchanged_is ∙ ap (with_children path first (first + length olds) news) (sym (ap made_tree nodes_old ∙ ap (λ a. made_tree (plug c.hole a)) x.node));
      at = block-at k (text_before edit) c chosen x.closed x.bracket kids x.ends x.node;
    }

-- ---- pieces give the trivia before them first, so the exchange of children is the same without these

-- ---- stretches of nodes

-- Several nodes begin with these.
pub record StartsWith (first ts : List Tree) : Type 0 where
  pub rest : List Tree
  pub is : ts ≡ first ++ rest

-- a stretch whose first nodes stay
behind-first : (xs first olds news zs : List Tree) → exchanged (length xs + length first) (length xs + length (first ++ olds)) news (xs ++ ((first ++ olds) ++ zs)) ≡ xs ++ ((first ++ news) ++ zs)
behind-first xs first olds news zs =
    let i : length xs + length first ≡ length (xs ++ first) = sym (length-append xs first) in
    let j : length xs + length (first ++ olds) ≡ length (xs ++ first) + length olds = (let a = length-append xs first in let b = length-append first olds in omega (arith, a, b)) in
    let split = λ (ys : List Tree). append_assoc xs first (ys ++ zs) ∙ ap (λ u. xs ++ u) (sym (append_assoc first ys zs)) in
    (λ v. exchanged (i v) (j v) news (xs ++ ((first ++ olds) ++ zs)))
    ∙ ap (exchanged (length (xs ++ first)) (length (xs ++ first) + length olds) news) (sym (split olds))
    ∙ exchanged-is (xs ++ first) olds news zs ∙ split news

same-exchange : (xs first os ns zs ts : List Tree) → ts ≡ xs ++ (os ++ zs) → StartsWith first os → StartsWith first ns
    → exchanged (length xs) (length xs + length os) ns ts ≡ exchanged (length xs + length first) (length xs + length os) (drop (length first) ns) ts
same-exchange xs first os ns zs ts e o n =
    let i = length xs + length first in
    let left = ap (exchanged (length xs) (length xs + length os) ns) e ∙ exchanged-is xs os ns zs ∙ ap (λ u. xs ++ (u ++ zs)) n.is in
    let right =
    ap (exchanged i (length xs + length os) (drop (length first) ns)) e
    ∙ (λ v. exchanged i (length xs + length (o.is v)) (drop (length first) (n.is v)) (xs ++ (o.is v ++ zs)))
    ∙ ap (λ u. exchanged i (length xs + length (first ++ o.rest)) u (xs ++ ((first ++ o.rest) ++ zs))) (drop-front first n.rest (length first) refl)
    ∙ behind-first xs first o.rest n.rest zs in
    left ∙ sym right

-- ---- any run

-- The nodes of some pieces without the last, by what all after them takes back, with the trivia after them, begin with the trivia before them.
pub leads-run : (r : Sequence) → Taking r.level r.stops → KnownAt r.point → (i n back : ℕ) (t : Trivia) → back ≤ (then_end i n r).state.empties → AllGo (first_of i r) → AllGo (then_of i n r) → (then_end i n r).state.known ≡ Some t
    → StartsWith (pending (first_end i r).state.known) (less back (read_by i n r).nodes ++ t.nodes)
leads-run r taking known i zero back t few g h there = record { rest = []; is = ap (λ ts. ts ++ t.nodes) (none-less back) ∙ sym (ap pending there) ∙ sym (append-nil (pending (first_end i r).state.known)) }
leads-run r taking known i (suc n) back t few g h there =
    let e = first_end i r in
    let at = known-made r.level r.stops i (true, 0) r.place r.point known g in
    let f = (pieces-front r.level r.stops taking (suc n) e.value (first_place i r) e.state at.trivia at.is (omega arith) h).led in
    let same = ap (λ (p : Point). p.empties) (chain-state (then_of i (suc n) r) (plain (tt {0}) (then_end i (suc n) r).state)) in
    let kept = less back f.front.rest in
    record {
      rest = kept ++ t.nodes;
      is = ap (λ ts. less back ts ++ t.nodes) f.front.nodes ∙ ap (λ ts. ts ++ t.nodes) (less-behind back at.trivia.nodes f.front.rest (omega (arith, f.few, few, same, ap (λ (p : Point). p.empties) f.state)))
          ∙ append_assoc at.trivia.nodes kept t.nodes ∙ ap (λ v. pending v ++ (kept ++ t.nodes)) (sym at.is);
    }

-- ---- the law

-- One of several nodes, changed by functions that do the same to each node that is like it.
pub alter-there : (P : Tree → Type 0) (f g : Tree → Tree) (n : ℕ) (ts : List Tree) → ((t : Tree) → P t → f t ≡ g t) → At P (slice_get ts n) → alter n f ts ≡ alter n g ts
alter-there P f g n [] e a = refl
alter-there P f g zero (t ∷ ts) e a = ap (λ u. u ∷ ts) (e t a)
alter-there P f g (suc n) (t ∷ ts) e a = ap (λ us. t ∷ us) (alter-there P f g n ts e a)

-- Two exchanges that are the same of some children are so where these stand.
with-same : (path : List ℕ) (i j a b : ℕ) (ns us kids : List Tree) → exchanged i j ns kids ≡ exchanged a b us kids → (t : Tree) → AtPath (λ u. kids_of u ≡ kids) path t → with_children path i j ns t ≡ with_children path a b us t
with-same [] i j a b ns us kids e t h = ap (λ ts. record { head = t.head; kids = forest ts }) (ap (exchanged i j ns) h ∙ e ∙ sym (ap (exchanged a b us) h))
with-same (n ∷ path) i j a b ns us kids e t h = ap (λ ts. record { head = t.head; kids = forest ts }) (alter-there (AtPath (λ u. kids_of u ≡ kids) path) (with_children path i j ns) (with_children path a b us) n (trees t.kids) (with-same path i j a b ns us kids e) h)

pub children-law : ChildrenLaw
children-law k edit r i n m past t u h some more same =
    let z = start_before edit in
    let w = start_after edit in
    let q = read_as r z in
    let v = read_as r w in
    let x = exchange k edit r i n m past t u h some more same in
    let was = leads-of k q (is-run r z) in
    let now = leads-of k v (is-run r w) in
    let trivia : 0 < i → pending (first_end i v).state.known ≡ pending (first_end i q).state.known = λ some. ap (λ (e : End (Bool × ℕ)). pending e.state.known) (end-by-pieces i v q some (same-start k edit r i h.before).first) in
    let olds = leads-run q was.taking was.known i n (onwards_at i n q).back t (behind-back k q (is-run r z) i n) h.first_go h.old_go h.meets.known in
    let first_now = first-now k edit r i h.before h.first_go in
    let news = leads-run v now.taking now.known i m (onwards_at i m v).back u (behind-back k v (is-run r w) i m) first_now h.new_go h.meets.known_now in
    record {
      behind = x.behind;
      children = x.children;
      tree_now = x.tree_now;
      trivia_same = λ some. ap length (trivia some);
      after_trivia = λ some. x.tree_now ∙ with-same (path_to r) _ _ _ _ _ _ (kids_of_run r) (same-exchange (standing_by i n q) (pending (first_end i q).state.known) (nodes_after i n t q) (nodes_after i m u v) x.behind (kids_of_run r) x.children olds
          (subst (λ ts. StartsWith ts (nodes_after i m u v)) (trivia some) news)) (tree k (text_before edit)) x.at;
    }
