-- Pieces that are read again from their first token are those that stood there, and their number follows from where they end.
use Rattle.typst_edits.proofs.Cited.{◌≡◌, ℕ, zero, suc, ◌+◌, ◌<◌, ◌&&◌, Bool, true, false, nat_lt, List, [], ◌∷◌, ◌++◌, None, Some, refl, ap, sym, ◌∙◌, subst, arith, ltb-true, lt-ltb, and_parts, SyntaxKind, Place, moved, CharClasses, is_end, as_at_hand, at_trivia, hand_at, Trivia, Point, gap_of, no_newlines, peek, Outcome, Meaning, Level, start_point, asked, hand_of, run, hand-takes, moved-sum, ends, ends_block, markup_turn, markup_head, markup_reading, rules, level_at, max_depth, inner, bracket, inner_lead, inner_run, first_place, minds_at, minds, text_run, goes, fresh, read_again, SamePiece, SamePieces, made, AllGo, end_of, lead, start, Sequence, turn_of, first_of, first_end, then_of, then_end, IsRun, is_text_run, is_block_run, ResumeLaw, CountLaw}
use Rattle.typst_edits.proofs.BlockModes.{hand-first}
use Rattle.typst_edits.proofs.Boundary.{KnownAt, first-of, turn-known, going-on, known-made}
use Rattle.typst_edits.proofs.Every.{neither}
use Rattle.typst_edits.proofs.Joint.{block-read, block-taking, known-is, known-read, text-read, text-taking, ReadAs, judged-alike, leads-of}
use Rattle.typst_edits.proofs.Turns.{kind-behind, Led, before_trivia, takes-turn, end-by, Taking, turn-led}
use Rattle.typst_edits.proofs.Known.{Reached, Reaches, reached-run, reached-meaning}

-- After turns the trivia at hand are all of them.
pub reached-made : {A : Type 0} (k : CharClasses) (m : A → Meaning (Bool × A)) → ((x : A) → Reaches k (m x)) → (n : ℕ) (x : A) (z : Place) (s : Point) → Reached k z s
    → (let e = end_of x s (made m n x z s) in Reached k (moved e.taken z) e.state)
reached-made k m f zero x z s r = r
reached-made k m f (suc n) x z s r =
    let o = m x z s in
    let e = end_of o.value.1 o.state (made m n o.value.1 (moved o.taken z) o.state) in
    subst (λ w. Reached k w e.state) (sym (moved-sum o.taken e.taken z)) (reached-made k m f n o.value.1 (moved o.taken z) o.state (f x z s r))

-- no trivia
abbrev pub no_trivia : Trivia
no_trivia = record { nodes = []; gap = 0; newlines = no_newlines }

fresh-is : (l : Level) (w : Place) → at_trivia l.classes markup_reading.mode w ≡ false → fresh l w ≡ before_trivia markup_reading markup_reading 0 false no_trivia
unfolding run
fresh-is l w clear = ap (λ h. asked h (start_point markup_reading)) (hand-first l.classes w markup_reading clear)

same-piece : (t : Trivia) (trims : Bool) (o c : Outcome (Bool × (Bool × ℕ))) → Led t [] trims o c → SamePiece t o c
same-piece t trims o c h = record {
  value = h.front.value;
  taken = h.front.taken;
  state = h.state;
  back = h.front.back;
  hints = h.front.hints ∙ sym h.front.hints_too;
  nodes = h.front.nodes ∙ ap (λ ts. t.nodes ++ ts) (sym h.front.nodes_too);
  asks = h.front.asks;
  met = h.front.met;
}

module _ (l : Level) (stops : SyntaxKind → Bool) (taking : Taking l stops) where
  abbrev turn : Bool × ℕ → Meaning (Bool × (Bool × ℕ))
  turn x = run l (markup_turn true stops x)

  -- ---- read again

  abbrev Same : ℕ → Bool × ℕ → Place → Trivia → Point → Type 0
  Same m x z t s = Reached l.classes z s → AllGo (made turn m x z s) → (minds (markup_head x.0 x.1 (hand_of l z s).kind) ≡ true → s.empties ≡ 0) → SamePieces t (made turn m x z s) (made turn m x (moved t.gap z) (fresh l (moved t.gap z)))

  led-fresh : (x : Bool × ℕ) (z : Place) (t : Trivia) (e : ℕ) (a : Bool) → (let s = before_trivia markup_reading markup_reading e a t in
      ends stops x.1 (as_at_hand (hand_of l z s)).kind ≡ false → (minds (markup_head x.0 x.1 (hand_of l z s).kind) ≡ true → e ≡ 0)
      → Led t [] (minds (markup_head x.0 x.1 (hand_of l z s).kind)) (turn x z s) (turn x (moved t.gap z) (before_trivia markup_reading markup_reading 0 false no_trivia)))
  unfolding hand_at
  led-fresh x z t e a go none =
      let g = markup_reading in
      let alike = judged-alike g t no_trivia refl in
      let some = hand-takes l.classes g (Some t) z (end-by stops taking.end_stops x.1 (as_at_hand (hand_of l z (before_trivia g g e a t))).kind go) in
      takes-turn l taking.calls_sane taking.blocks_sane g z t no_trivia alike taking.level_left stops x _ (taking.takes g z t no_trivia alike x some) go g e 0 a false none

  resumed-known : (m : ℕ) (x : Bool × ℕ) (z : Place) (t : Trivia) (e : ℕ) (a : Bool) → Same m x z t (before_trivia markup_reading markup_reading e a t)
  resumed-known zero x z t e a clear g none = tt
  resumed-known (suc n) x z t e a clear g none =
      let s = before_trivia markup_reading markup_reading e a t in
      let w = moved t.gap z in
      let o = turn x z s in
      let c = turn x w (fresh l w) in
      let go = going-on l stops x z s (first-of o.value.0 (nat_lt 0 o.taken) g.0) in
      let p = subst (λ q. SamePiece t o (turn x w q)) (sym (fresh-is l w clear)) (same-piece t _ _ _ (led-fresh x z t e a go none)) in
      let there : moved o.taken z ≡ moved c.taken w = ap (λ n. moved n z) p.taken ∙ moved-sum t.gap c.taken z in
      (p, (λ i. made turn n (p.value i).1 (there i) (p.state i)))

  pub resumed : (m : ℕ) (x : Bool × ℕ) (z : Place) (t : Trivia) (s : Point) → s.known ≡ Some t → ReadAs markup_reading s → Same m x z t s
  resumed m x z t s known read = subst (Same m x z t) (sym (known-read l.classes markup_reading s t known read)) (resumed-known m x z t s.empties s.is_after_error)

  -- ---- what is read again goes on where the pieces do

  abbrev GoesToo : ℕ → Bool × ℕ → Place → Trivia → Point → Type 0
  GoesToo m x z t s = Reached l.classes z s → AllGo (made turn m x (moved t.gap z) (fresh l (moved t.gap z))) → (minds (markup_head x.0 x.1 (hand_of l z s).kind) ≡ true → s.empties ≡ 0) → AllGo (made turn m x z s)

  same-kind : (z : Place) (t : Trivia) (e : ℕ) (a : Bool) → (as_at_hand (hand_of l z (before_trivia markup_reading markup_reading e a t))).kind ≡ (as_at_hand (hand_of l (moved t.gap z) (before_trivia markup_reading markup_reading 0 false no_trivia))).kind
  unfolding hand_at
  same-kind z t e a = sym (kind-behind l markup_reading z t no_trivia (judged-alike markup_reading t no_trivia refl))

  goes-known : (m : ℕ) (x : Bool × ℕ) (z : Place) (t : Trivia) (e : ℕ) (a : Bool) → GoesToo m x z t (before_trivia markup_reading markup_reading e a t)
  goes-known zero x z t e a clear g none = tt
  goes-known (suc n) x z t e a clear g none =
      let s = before_trivia markup_reading markup_reading e a t in
      let w = moved t.gap z in
      let o = turn x z s in
      let c = turn x w (fresh l w) in
      let alone = fresh-is l w clear in
      let over : ends stops x.1 (as_at_hand (hand_of l w (fresh l w))).kind ≡ false = going-on l stops x w (fresh l w) (first-of c.value.0 (nat_lt 0 c.taken) g.0) in
      let go : ends stops x.1 (as_at_hand (hand_of l z s)).kind ≡ false = ap (ends stops x.1) (same-kind z t e a) ∙ subst (λ q. ends stops x.1 (as_at_hand (hand_of l w q)).kind ≡ false) alone over in
      let p = subst (λ q. SamePiece t o (turn x w q)) (sym alone) (same-piece t _ _ _ (led-fresh x z t e a go none)) in
      let there : moved o.taken z ≡ moved c.taken w = ap (λ n. moved n z) p.taken ∙ moved-sum t.gap c.taken z in
      let took = p.taken in
      let some : 0 < c.taken = ltb-true 0 c.taken (and_parts c.value.0 (nat_lt 0 c.taken) g.0).1 in
      let goes_on : goes o ≡ true = ap (λ b. b && nat_lt 0 o.taken) (ap (λ (v : Bool × (Bool × ℕ)). v.0) p.value ∙ first-of c.value.0 (nat_lt 0 c.taken) g.0) ∙ lt-ltb 0 o.taken (omega (arith, took, some)) in
      let behind : made turn n o.value.1 (moved o.taken z) o.state ≡ made turn n c.value.1 (moved c.taken w) c.state = (λ i. made turn n (p.value i).1 (there i) (p.state i)) in
      (goes_on, subst (λ us. AllGo us) (sym behind) g.1)

  pub goes-too : (m : ℕ) (x : Bool × ℕ) (z : Place) (t : Trivia) (s : Point) → s.known ≡ Some t → ReadAs markup_reading s → GoesToo m x z t s
  goes-too m x z t s known read = subst (GoesToo m x z t) (sym (known-read l.classes markup_reading s t known read)) (goes-known m x z t s.empties s.is_after_error)

  pub fresh-known : (z : Place) (t : Trivia) (s : Point) → s.known ≡ Some t → ReadAs markup_reading s → Reached l.classes z s → (fresh l (moved t.gap z)).known ≡ Some no_trivia
  fresh-known z t s known read = subst (λ p. Reached l.classes z p → (fresh l (moved t.gap z)).known ≡ Some no_trivia) (sym (known-read l.classes markup_reading s t known read)) (λ clear. ap (λ (p : Point). p.known) (fresh-is l (moved t.gap z) clear))

  -- ---- how many there are

  abbrev place_after : Bool × ℕ → Point → List (Outcome (Bool × (Bool × ℕ))) → ℕ
  place_after x s os = let e = end_of x s os in e.taken + gap_of e.state.known

  -- A piece takes more than the trivia before it.
  pub takes-more : (x : Bool × ℕ) (z : Place) (s : Point) → KnownAt s → (turn x z s).value.0 ≡ true → gap_of s.known < (turn x z s).taken
  takes-more x z s known g =
      subst (λ p. (turn x z p).value.0 ≡ true → gap_of p.known < (turn x z p).taken) (sym (known-is l.classes s known.trivia known.is))
      (λ h. (let led = turn-led l stops taking x z s.reading s.held s.empties s.is_after_error known.trivia (going-on l stops x z _ h) in
      omega (arith, led.front.taken, led.some))) g

  -- More of them end further on.
  pub further : (m n : ℕ) (x : Bool × ℕ) (z : Place) (s : Point) → KnownAt s → m < n → AllGo (made turn n x z s) → place_after x s (made turn m x z s) < place_after x s (made turn n x z s)
  further m zero x z s known some g = absurd (omega (arith, some))
  further zero (suc n) x z s known some g =
      omega (arith, takes-more x z s known (first-of _ _ g.0))
  further (suc m) (suc n) x z s known some g =
      let o = turn x z s in
      omega (arith, further m n o.value.1 (moved o.taken z) o.state (turn-known l stops x z s (first-of _ _ g.0)) (omega (arith, some)) g.1)

  pub counted : (m n : ℕ) (x : Bool × ℕ) (z : Place) (s : Point) → KnownAt s → AllGo (made turn m x z s) → AllGo (made turn n x z s) → place_after x s (made turn m x z s) ≡ place_after x s (made turn n x z s) → m ≡ n
  counted m n x z s known g h e = neither m n (λ l. (let more = further m n x z s known l h in omega (arith, more, e))) (λ l. (let more = further n m x z s known l g in omega (arith, more, e)))

  -- ---- where a run begins

  goes-again : (m : ℕ) (x : Bool × ℕ) (z : Place) (t : Trivia) (s : Point) → s.known ≡ Some t → SamePieces t (made turn m x z s) (made turn m x (moved t.gap z) (fresh l (moved t.gap z)))
      → AllGo (made turn m x z s) → AllGo (made turn m x (moved t.gap z) (fresh l (moved t.gap z)))
  goes-again zero x z t s known same g = tt
  goes-again (suc n) x z t s known same g =
      let w = moved t.gap z in
      let o = turn x z s in
      let c = turn x w (fresh l w) in
      let on = first-of o.value.0 (nat_lt 0 o.taken) g.0 in
      let more = takes-more x z s (record { trivia = t; is = known }) on in
      let go : goes c ≡ true = ap (λ b. b && nat_lt 0 c.taken) (sym (ap (λ (v : Bool × (Bool × ℕ)). v.0) same.0.value) ∙ on) ∙ lt-ltb 0 c.taken (omega (arith, more, ap gap_of known, same.0.taken)) in
      (go, subst (λ us. AllGo us) same.1 g.1)

  same-twice : (t : Trivia) (os us cs : List (Outcome (Bool × (Bool × ℕ)))) → SamePieces t os cs → SamePieces t us cs → os ≡ us
  same-twice t [] [] [] h i = refl
  same-twice t [] (u ∷ us) [] h i = absurd i
  same-twice t [] us (c ∷ cs) h i = absurd h
  same-twice t (o ∷ os) us [] h i = absurd h
  same-twice t (o ∷ os) [] (c ∷ cs) h i = absurd i
  same-twice t (o ∷ os) (u ∷ us) (c ∷ cs) h i =
      let a = h.0 in
      let b = i.0 in
      let value = a.value ∙ sym b.value in
      let taken = a.taken ∙ sym b.taken in
      let state = a.state ∙ sym b.state in
      let back = a.back ∙ sym b.back in
      let hints = a.hints ∙ sym b.hints in
      let nodes = a.nodes ∙ sym b.nodes in
      let asks = a.asks ∙ sym b.asks in
      let met = a.met ∙ sym b.met in
      let rest = h.1 ∙ sym i.1 in
      (λ j. record { value = value j; taken = taken j; state = state j; back = back j; hints = hints j; nodes = nodes j; asks = asks j; met = met j } ∷ rest j)

  -- With the same trivia at hand pieces are read as if nothing else were known.
  pub as-fresh : (m : ℕ) (x : Bool × ℕ) (z : Place) (t : Trivia) (s f : Point) → s.known ≡ Some t → f.known ≡ Some t → ReadAs markup_reading s → ReadAs markup_reading f → Reached l.classes z s → Reached l.classes z f
      → (minds (markup_head x.0 x.1 (hand_of l z s).kind) ≡ true → s.empties ≡ 0) → f.empties ≡ 0 → AllGo (made turn m x z s) → made turn m x z s ≡ made turn m x z f
  as-fresh m x z t s f known known_too read read_too reach reach_too none none_too g =
      let one = resumed m x z t s known read reach g none in
      let g_too = goes-too m x z t f known_too read_too reach_too (goes-again m x z t s known one g) (λ e. none_too) in
      same-twice t (made turn m x z s) (made turn m x z f) (made turn m x (moved t.gap z) (fresh l (moved t.gap z))) one (resumed m x z t f known_too read_too reach_too g_too (λ e. none_too))

  pub goes-both : (m : ℕ) (x : Bool × ℕ) (z : Place) (t : Trivia) (s f : Point) → s.known ≡ Some t → f.known ≡ Some t → ReadAs markup_reading s → ReadAs markup_reading f → Reached l.classes z s → Reached l.classes z f
      → (minds (markup_head x.0 x.1 (hand_of l z s).kind) ≡ true → s.empties ≡ 0) → f.empties ≡ 0 → AllGo (made turn m x z f) → AllGo (made turn m x z s)
  goes-both m x z t s f known known_too read read_too reach reach_too none none_too g =
      goes-too m x z t s known read reach (goes-again m x z t f known_too (resumed m x z t f known_too read_too reach_too g (λ e. none_too)) g) none

-- ---- any run

-- WHAT A RUN GIVES TO READINGS OF ITS PIECES: it is read as markup, and where its pieces end all trivia before the next token are known.
pub record ReadsMarkup (r : Sequence) : Type 0 where
  pub taking : Taking r.level r.stops
  pub known : KnownAt r.point
  pub read : (i : ℕ) → ReadAs markup_reading (first_end i r).state
  pub reached : (i : ℕ) → Reached r.level.classes (first_place i r) (first_end i r).state

module _ (r : Sequence) (a : ReadsMarkup r) where
  pub known-after : (i : ℕ) → AllGo (first_of i r) → KnownAt (first_end i r).state
  known-after i g = known-made r.level r.stops i (true, 0) r.place r.point a.known g

  pub then-known : (i m : ℕ) → AllGo (first_of i r) → AllGo (then_of i m r) → KnownAt (then_end i m r).state
  then-known i m g h = let e = first_end i r in known-made r.level r.stops m e.value (first_place i r) e.state (known-after i g) h

  -- Pieces that go on where they are read again do so where they stood.
  pub stand-too : (i m : ℕ) (t : Trivia) → AllGo (read_again i m t r) → (first_end i r).state.known ≡ Some t → (minds_at r (first_place i r) (first_end i r) ≡ true → (first_end i r).state.empties ≡ 0) → AllGo (then_of i m r)
  stand-too i m t h known none = let e = first_end i r in goes-too r.level r.stops a.taking m e.value (first_place i r) t e.state known (a.read i) (a.reached i) h none

  -- Where a token begins nothing is known of trivia.
  pub fresh-after : (i : ℕ) (t : Trivia) → (first_end i r).state.known ≡ Some t → (fresh r.level (moved t.gap (first_place i r))).known ≡ Some no_trivia
  fresh-after i t known = let e = first_end i r in fresh-known r.level r.stops a.taking (first_place i r) t e.state known (a.read i) (a.reached i)

-- ---- a text's run, and a content block's

pub text-reached : (k : CharClasses) (z : Place) (i : ℕ) → Reached k (moved (first_end i (text_run k z)).taken z) (first_end i (text_run k z)).state
unfolding run
text-reached k z i =
    let l = level_at k max_depth in
    let reach = reached-meaning (rules k) k max_depth in
    reached-made k (λ x. run l (markup_turn true is_end x)) (λ x. reached-run l reach (markup_turn true is_end x)) i (true, 0) z (lead k z).state (reached-run l reach peek z start tt)

pub block-reached : (k : CharClasses) (levels : ℕ) (z : Place) (s : Point) (i : ℕ) → (let r = inner_run k levels z s in let e = first_end i r in Reached k (moved e.taken r.place) e.state)
unfolding run
block-reached k levels z s i =
    let l = inner k levels in
    let r = inner_run k levels z s in
    let reach = reached-meaning (rules k) k (suc levels) in
    let b = bracket k levels z s in
    reached-made k (λ x. run l (markup_turn true ends_block x)) (λ x. reached-run l reach (markup_turn true ends_block x)) i (true, 0) r.place r.point (reached-run l reach peek (moved b.taken z) b.state tt)

pub markup-of : (k : CharClasses) (r : Sequence) → IsRun k r → ReadsMarkup r
markup-of k r (is_text_run z) = record { taking = text-taking k; known = (leads-of k r (is_text_run z)).known; read = λ i. text-read k i 0 z; reached = text-reached k z }
markup-of k r (is_block_run levels z s) = record { taking = block-taking k levels; known = (leads-of k r (is_block_run levels z s)).known; read = λ i. block-read k levels i 0 z s; reached = block-reached k levels z s }

pub resume-law : ResumeLaw
resume-law k r is i m t g h known none =
    let a = markup-of k r is in
    let e = first_end i r in
    resumed r.level r.stops a.taking m e.value (first_place i r) t e.state known (a.read i) (a.reached i) h none

pub count-law : CountLaw
count-law k r is i m n g h j same =
    let a = markup-of k r is in
    let e = first_end i r in
    counted r.level r.stops a.taking m n e.value (first_place i r) e.state (known-after r a i g) h j same

module _ (k : CharClasses) (levels : ℕ) (z : Place) (s : Point) where
  abbrev first_place_of : Place
  first_place_of = moved (bracket k levels z s).taken z

  abbrev fresh_start : Point
  fresh_start = fresh (inner k levels) first_place_of

  start-read : ReadAs markup_reading (inner_run k levels z s).point
  start-read = block-read k levels 0 0 z s

  fresh-read : ReadAs markup_reading fresh_start
  unfolding run
  fresh-read = record { reading = refl; held = refl }

  fresh-reached : Reached k first_place_of fresh_start
  unfolding run
  fresh-reached = reached-run (inner k levels) (reached-meaning (rules k) k (suc levels)) peek first_place_of (start_point markup_reading) tt

  fresh-at : KnownAt fresh_start
  unfolding run
  fresh-at = record { trivia = _; is = refl }

  fresh-none : fresh_start.empties ≡ 0
  unfolding run
  fresh-none = refl

  -- The same trivia are known where a block's run begins as if nothing had been known before.
  pub start-known : (inner_run k levels z s).point.known ≡ fresh_start.known
  unfolding run
  start-known =
      let p = (bracket k levels z s).state in
      let held : p.held ≡ markup_reading = start-read.held in
      ap (λ h. (run (inner k levels) peek first_place_of (record { reading = p.reading; held = h; empties = p.empties; is_after_error = p.is_after_error; known = None })).state.known) held

  -- What is looked at where a block's run begins is what a reading looks at that begins there.
  pub start-asks : (inner_lead k levels z s).asks ≡ (run (inner k levels) peek first_place_of (start_point markup_reading)).asks
  unfolding run
  start-asks =
      let p = (bracket k levels z s).state in
      let held : p.held ≡ markup_reading = start-read.held in
      ap (λ h. (run (inner k levels) peek first_place_of (record { reading = p.reading; held = h; empties = p.empties; is_after_error = p.is_after_error; known = None })).asks) held

  -- No trivia are known after its bracket.
  pub bracket-gap : gap_of (bracket k levels z s).state.known ≡ 0
  unfolding run
  bracket-gap = refl

  -- Its pieces are those that are read from there with nothing else known, if no error before it is taken back.
  pub start-same : (m : ℕ) → (let r = inner_run k levels z s in (minds_at r (first_place 0 r) (first_end 0 r) ≡ true → r.point.empties ≡ 0) → AllGo (then_of 0 m r)
      → made (turn_of r) m (true, 0) r.place r.point ≡ made (turn_of r) m (true, 0) r.place fresh_start)
  start-same m none g =
      let at = fresh-at in
      as-fresh (inner k levels) ends_block (block-taking k levels) m (true, 0) first_place_of at.trivia (inner_run k levels z s).point fresh_start (start-known ∙ at.is) at.is start-read fresh-read (block-reached k levels z s 0) fresh-reached none fresh-none g

  pub start-goes : (m : ℕ) → (let r = inner_run k levels z s in (minds_at r (first_place 0 r) (first_end 0 r) ≡ true → r.point.empties ≡ 0) → AllGo (made (turn_of r) m (true, 0) r.place fresh_start) → AllGo (then_of 0 m r))
  start-goes m none g =
      let at = fresh-at in
      let p = (inner_run k levels z s).point in
      let known = start-known ∙ at.is in
      let t = at.trivia in
      goes-both (inner k levels) ends_block (block-taking k levels) m (true, 0) first_place_of t p fresh_start known at.is start-read fresh-read (block-reached k levels z s 0) fresh-reached none fresh-none g

-- More pieces that are read by themselves end further on.
pub alone-further : (k : CharClasses) (r : Sequence) → IsRun k r → (m n : ℕ) (x : Bool × ℕ) (y : Place) → m < n → AllGo (made (turn_of r) n x y (fresh r.level y))
    → (let s = fresh r.level y in let e = end_of x s (made (turn_of r) m x y s) in let f = end_of x s (made (turn_of r) n x y s) in e.taken + gap_of e.state.known < f.taken + gap_of f.state.known)
unfolding run
alone-further k r is m n x y some g = further r.level r.stops (markup-of k r is).taking m n x y (fresh r.level y) (record { trivia = _; is = refl }) some g
