-- An expression that isn't expected gives one error after the trivia, and only such an expression takes back the empty errors before it.
use Rattle.typst_edits.proofs.Cited.{◌≡◌, ℕ, zero, suc, ◌<◌, ◌==◌, Bool, true, false, ◌&&◌, nat_lt, List, [], ◌∷◌, ◌++◌, length, drop, length-append, append_assoc, Some, None, refl, ap, sym, ◌∙◌, subst, arith, ◌+◌, lt-ltb, is_error, SyntaxKind, Place, moved, CharClasses, hint_with, Tree, text_of, error_of, made_error, advised, all_advised, MarkupExpr, Reading, Ask, SameIn, shift, anywhere, too_deep, deeper, is_end, AtHand, as_at_hand, hand_at, Hand, meaning_of, Trivia, Point, pending, point_of, hinted, surprise, peek, eat_making, flush_trivia, note, unexpected, Parser, ◌>>=◌, ◌>>◌, takes, gives, does, next, pick, repeat, calls, Outcome, Meaning, Level, plain, less, standing, joined, repeated, hand_of, hand_asks_of, taken_node, run, sane-run, less-none, moved-sum, on_both, on_if, ends, ends_block, note_piece, markup_turn, markup_head, markup_by, markup_expr, rules, level_at, max_depth, Tidy, Backs, together, inner, bracket, inner_lead, run_at, EndsBefore, minds_at, first_place, begins_wrong, after_known, minds, text_run, onwards_at, goes, made, AllGo, end_of, End, asks_of, lead, Sequence, turn_of, first_of, first_end, then_of, then_end, then_place, hand-frame, same_in-shift, same_in-first, same_in-second, AllEndBy, Spot, hinted-append, MarkupHead, both_ways, false_from_ne_true, Run, read_as, top, IsRun, is_text_run, is_block_run, Before, PassesJoint, TextReplacement, text_before, start_before, start_after, Agrees, root_run, block_run}
use Rattle.typst_edits.specs.Frame.{inner as block_inner}
use Rattle.typst_edits.specs.Heads.{HeadLaw, MeetsLaw, NoneBackLaw, NoneAfterLaw}
use Rattle.typst_edits.proofs.Boundary.{KnownAt, turn-goes, first-of, going-on, known-made, made-ends, turn-ends}
use Rattle.typst_edits.proofs.Children.{tidy-together, back-law, both-open}
use Rattle.typst_edits.proofs.Joint.{known-is, ends-alike, onwards-is, first-now, leads-of, is-run, joined-behind}
use Rattle.typst_edits.proofs.Turns.{none-less, none-of, drop-front, before_trivia, same-judged, led-joined, turn_tail, turn_at, one-turn, stopped-back, led-behind, Taking, turn-led}
use Rattle.typst_edits.proofs.Outcomes.{hints-first}
use Rattle.typst_edits.proofs.RunTrees.{standing-still}
use Rattle.typst_edits.proofs.BlockRuns.{first-same, pieces-same}
use Rattle.typst_edits.proofs.Edit.{before-same}
use Rattle.typst_edits.proofs.Spots.{same_in-at}
use Rattle.typst_grammar.specs.head.MarkupHead.TheVariants as head

-- ---- nodes that begin with an error

pub advised-error : (hints : List (List ℕ)) (t : Tree) → is_error t.head.kind ≡ true → is_error (all_advised hints t).head.kind ≡ true
advised-error [] t e = e
advised-error (hint ∷ hints) t e = advised-error hints (advised (hint_with None hint) t) e

made-wrong : (message : List ℕ) (t : Tree) → is_error (made_error message t).head.kind ≡ true
made-wrong message t = on_if (λ (u : Tree). is_error u.head.kind ≡ true) (is_error t.head.kind) t (error_of message (text_of t)) (λ e. e) (λ e. refl)

-- Hints leave it an error.
hinted-wrong : (hints : List (List ℕ)) (ts us : List Tree) → begins_wrong ts ≡ true → begins_wrong (hinted hints ts ++ us) ≡ true
hinted-wrong [] [] us e = cc
hinted-wrong (h ∷ hs) [] us e = cc
hinted-wrong [] (t ∷ ts) us e = e
hinted-wrong (h ∷ hs) (t ∷ []) us e = on_both (λ (u : Tree). is_error u.head.kind ≡ true) (is_error t.head.kind) (all_advised (h ∷ hs) t) t (advised-error (h ∷ hs) t e) e
hinted-wrong (h ∷ hs) (t ∷ u ∷ ts) us e = e

some-wrong : (ts : List Tree) → begins_wrong ts ≡ true → 0 < length ts
some-wrong [] e = cc
some-wrong (t ∷ ts) e = omega arith

-- An error follows these trivia.
pub record WrongFirst (t : Trivia) (ts : List Tree) : Type 0 where
  pub rest : List Tree
  pub is : ts ≡ t.nodes ++ rest
  pub wrong : begins_wrong rest ≡ true

wrong-standing : {A : Type 0} (t : Trivia) (ts : List Tree) (q : Outcome A) → WrongFirst t ts → q.back ≡ 0 → WrongFirst t (standing q ts)
wrong-standing t ts q w e = record {
  rest = hinted q.hints w.rest ++ q.nodes;
  is = ap (λ n. hinted q.hints (less n ts) ++ q.nodes) e ∙ ap (λ us. hinted q.hints us ++ q.nodes) (less-none ts ∙ w.is) ∙ ap (λ us. us ++ q.nodes) (hinted-append q.hints t.nodes w.rest (some-wrong w.rest w.wrong))
      ∙ append_assoc t.nodes (hinted q.hints w.rest) q.nodes;
  wrong = hinted-wrong q.hints w.rest q.nodes w.wrong;
}

pub wrong-behind : (t : Trivia) (ts : List Tree) → WrongFirst t ts → begins_wrong (drop (length t.nodes) ts) ≡ true
wrong-behind t ts w = ap (λ us. begins_wrong (drop (length t.nodes) us)) w.is ∙ ap begins_wrong (drop-front t.nodes w.rest (length t.nodes) refl) ∙ w.wrong

-- ---- an outcome that gives the trivia and one error

pub record Erring {A : Type 0} (t : Trivia) (o : Outcome A) : Type 0 where
  pub error : Tree
  pub is : is_error error.head.kind ≡ true
  pub nodes : o.nodes ≡ t.nodes ++ error ∷ []
  pub hints : o.hints ≡ []

-- and one that gives nothing
pub record Still {A : Type 0} (q : Outcome A) : Type 0 where
  pub back : q.back ≡ 0
  pub hints : q.hints ≡ []
  pub nodes : q.nodes ≡ []

erring-joined : {A B : Type 0} (t : Trivia) (o : Outcome B) (q : Outcome A) → Erring t o → Still q → Erring t (joined o q)
erring-joined t o q h s =
    let long : length o.nodes ≡ length (t.nodes ++ h.error ∷ []) = ap length h.nodes in
    record {
      error = h.error;
      is = h.is;
      nodes = standing-still q o.nodes s.hints s.back s.nodes ∙ h.nodes;
      hints = hints-first o q (omega (arith, long, length-append t.nodes (h.error ∷ []), s.back)) ∙ h.hints;
    }

erring-asked : {A B : Type 0} (t : Trivia) (v : B) (s : Point) (ls : List Ask) (m : Bool) (o : Outcome A) → Erring t o → Erring t (joined (record (plain v s) { asks = ls; met = m }) o)
erring-asked t v s ls m o h = record {
  error = h.error;
  is = h.is;
  nodes = ap (λ hs. hinted hs (less o.back []) ++ o.nodes) h.hints ∙ ap (λ ts. ts ++ o.nodes) (none-less o.back) ∙ h.nodes;
  hints = none-of (nat_lt o.back 0) (nat_lt 0 o.back) [] o.hints refl h.hints;
}

pub erring-wrong : {A : Type 0} (t : Trivia) (o : Outcome A) → Erring t o → WrongFirst t o.nodes
erring-wrong t o h = record { rest = h.error ∷ []; is = h.nodes; wrong = h.is }

-- ---- words

module _ (l : Level) (r h : Reading) (e : ℕ) (a : Bool) (z : Place) (t : Trivia) where
  abbrev s : Point
  s = before_trivia r h e a t

  erring-pick : {A : Type 0} (b : Bool) (p q : Parser A) → b ≡ false → Erring t (run l q z s) → Erring t (run l (pick b p q) z s)
  unfolding run
  erring-pick true p q f k = cc
  erring-pick false p q f k = k

  erring-peek : {A : Type 0} (f : AtHand → Parser A) → Erring t (run l (f (as_at_hand (hand_of l z s))) z s) → Erring t (run l (next peek f) z s)
  unfolding run hand_at
  erring-peek f k = erring-asked {B = AtHand} t (as_at_hand (hand_of l z s)) s (hand_asks_of l z s) false _ k

  erring-next : {A B : Type 0} (p : Parser B) (f : B → Parser A) → Erring t (run l p z s) → ((b : B) (w : Place) (q : Point) → Still (run l (f b) w q)) → Erring t (run l (next p f) z s)
  unfolding run
  erring-next p f k still = let o = run l p z s in erring-joined t o (run l (f o.value) (moved o.taken z) o.state) k (still o.value (moved o.taken z) o.state)

  erring-taken : (hints : List (List ℕ)) → Erring t (run l (does (takes true (surprise hints))) z s)
  unfolding run hand_at
  erring-taken hints = record { error = taken_node l.classes (surprise hints) (hand_of l z s) z; is = advised-error hints _ (made-wrong _ _); nodes = refl; hints = refl }

  still-peek : (w : Place) (q : Point) → Still (run l (peek >>= λ ahead. gives (tt {0})) w q)
  unfolding run less
  still-peek w q = record { back = refl; hints = refl; nodes = refl }

  erring-surprise : (hints : List (List ℕ)) → Erring t (run l (unexpected hints) z s)
  unfolding unexpected eat_making
  erring-surprise hints = erring-next (does (takes true (surprise hints))) (λ b. peek >>= λ ahead. gives tt) (erring-taken hints) (λ b w q. still-peek w q)

  still-gives : (n : ℕ) (w : Place) (q : Point) → Still (run l (gives n) w q)
  unfolding run
  still-gives n w q = record { back = refl; hints = refl; nodes = refl }

  erring-by : (nesting : ℕ) (x : MarkupHead) → minds x ≡ true → Erring t (run l (markup_by nesting x) z s)
  erring-by nesting head.Stray m = erring-next _ _ (erring-surprise _) (λ b. still-gives nesting)
  erring-by nesting head.Unexpected m = erring-next _ _ (erring-surprise []) (λ b. still-gives nesting)
  erring-by nesting _ m = cc

  pub erring-expr : (at_start : Bool) (nesting : ℕ) → minds (markup_head at_start nesting (hand_at l.classes h (Some t) z).kind) ≡ true → Erring t (run l (markup_expr at_start nesting) z s)
  unfolding markup_expr
  erring-expr at_start nesting m = erring-peek (λ x. markup_by nesting (markup_head at_start nesting x.kind)) (erring-by nesting (markup_head at_start nesting (hand_at l.classes h (Some t) z).kind) m)

  module _ (deep : (l.levels == 0) ≡ false) (stops : SyntaxKind → Bool) (x : Bool × ℕ) (call : Erring t (l.deeper (MarkupExpr x.0 x.1) z s)) where
    erring-called : Erring t (run l (calls (MarkupExpr x.0 x.1)) z s)
    unfolding run
    erring-called = record { error = call.error; is = call.is; nodes = call.nodes; hints = call.hints }

    erring-deeper : Erring t (run l (deeper (MarkupExpr x.0 x.1) x.1) z s)
    unfolding run deeper
    erring-deeper = erring-asked t (l.levels == 0) s [] (l.levels == 0) _ (erring-pick (l.levels == 0) (too_deep anywhere >> gives x.1) (calls (MarkupExpr x.0 x.1)) deep erring-called)

    still-behind : (nesting : ℕ) (w : Place) (q : Point) → Still (run l (turn_tail nesting) w q)
    unfolding run note_piece note less
    still-behind nesting w q = record { back = refl; hints = refl; nodes = refl }

    pub erring-turn : ends stops x.1 (hand_at l.classes h (Some t) z).kind ≡ false → Erring t (run l (markup_turn true stops x) z s)
    unfolding markup_turn
    erring-turn go = erring-peek (λ y. turn_at stops x y.kind) (erring-pick _ _ _ go (erring-next _ _ erring-deeper still-behind))

-- what a piece reads one level deeper
pub erring-call : (k : CharClasses) (levels : ℕ) (r h : Reading) (e : ℕ) (a : Bool) (z : Place) (t : Trivia) (x : Bool × ℕ) → minds (markup_head x.0 x.1 (hand_at k h (Some t) z).kind) ≡ true
    → Erring t (meaning_of (rules k) k (suc levels) (MarkupExpr x.0 x.1) z (before_trivia r h e a t))
unfolding meaning_of
erring-call k levels r h e a z t x m = erring-expr (level_at k levels) r h e a z t x.0 x.1 m

-- It gives the trivia that are known at a point and one error, and leaves no empty error.
pub record MindsAlone {A : Type 0} (p : Point) (o : Outcome A) : Type 0 where
  pub error : Tree
  pub is : is_error error.head.kind ≡ true
  pub nodes : o.nodes ≡ pending p.known ++ error ∷ []
  pub none : o.state.empties ≡ 0

-- ---- any run

module _ (l : Level) (stops : SyntaxKind → Bool) (taking : Taking l stops)
    (wrong : (r h : Reading) (e : ℕ) (a : Bool) (z : Place) (t : Trivia) (x : Bool × ℕ) → minds (markup_head x.0 x.1 (hand_at l.classes h (Some t) z).kind) ≡ true → Erring t (l.deeper (MarkupExpr x.0 x.1) z (before_trivia r h e a t))) where
  abbrev turn : Bool × ℕ → Meaning (Bool × (Bool × ℕ))
  turn x = run l (markup_turn true stops x)

  abbrev onward : Bool × ℕ → Meaning (Unit {0})
  onward x = run l (repeat (markup_turn true stops) x >>= λ _. flush_trivia)

  abbrev backs : {A : Type 0} (p : Parser A) → Backs (run l p)
  backs p = (sane-run l taking.calls_sane taking.blocks_sane p).backs

  module _ (x : Bool × ℕ) (z : Place) (r h : Reading) (e : ℕ) (a : Bool) (t : Trivia) where
    abbrev at : Point
    at = before_trivia r h e a t

    abbrev trims : Bool
    trims = minds (markup_head x.0 x.1 (hand_at l.classes h (Some t) z).kind)

    abbrev one : Outcome (Bool × (Bool × ℕ))
    one = turn x z at

    -- A turn that minds errors leaves no empty error.
    no-empties : ends stops x.1 (as_at_hand (hand_of l z at)).kind ≡ false → Erring t one → one.state.empties ≡ 0
    no-empties go err =
        let led = turn-led l stops taking x z r h e a t go in
        let both : t.nodes ++ led.front.rest ≡ t.nodes ++ err.error ∷ [] = sym led.front.nodes ∙ err.nodes in
        let rest : led.front.rest ≡ err.error ∷ [] = sym (drop-front t.nodes led.front.rest (length t.nodes) refl) ∙ ap (drop (length t.nodes)) both ∙ drop-front t.nodes (err.error ∷ []) (length t.nodes) refl in
        let long : length led.front.rest ≡ length (err.error ∷ []) = ap length rest in
        omega (arith, led.few, ap (λ (s : Point). s.empties) led.state, long)

    -- some pieces that begin so
    module _ (n : ℕ) (g : AllGo (made turn (suc n) x z at)) where
      abbrev later : List (Outcome (Bool × (Bool × ℕ)))
      later = made turn n one.value.1 (moved one.taken z) one.state

      abbrev q : Outcome (Unit {0})
      q = together (end_of one.value.1 one.state later).state later

      tidy : Tidy one.state q
      tidy = tidy-together turn (λ v. backs (markup_turn true stops v)) n one.value.1 (moved one.taken z) one.state

      go : ends stops x.1 (as_at_hand (hand_of l z at)).kind ≡ false
      go = going-on l stops x z at (first-of one.value.0 (nat_lt 0 one.taken) g.0)

      pieces-mild : trims ≡ false → (joined one q).back ≡ 0
      pieces-mild mild =
          let led = turn-led l stops taking x z r h e a t go in
          let all = led-joined t t.nodes trims one _ q led (subst (λ p. Tidy p q) led.state tidy) in
          all.front.back ∙ all.none mild

      pieces-wrong : trims ≡ true → WrongFirst t (joined one q).nodes
      pieces-wrong mind =
          let err = erring-turn l r h e a z t taking.level_left stops x (wrong r h e a z t x mind) go in
          wrong-standing t one.nodes q (erring-wrong t one err) (omega (arith, no-empties go err, tidy.back))

    -- all from here on
    onward-mild : ends stops x.1 (as_at_hand (hand_of l z at)).kind ≡ false → trims ≡ false → (onward x z at).back ≡ 0
    unfolding hand_at
    onward-mild go mild =
        let led = led-behind l stops taking h z t t (same-judged h t) x r e e a a (λ p. refl) go in
        led.front.back ∙ led.none mild

    flush-back : (w : Place) (p : Point) → (run l flush_trivia w p).back ≡ 0
    unfolding run flush_trivia
    flush-back w p = omega arith

    onward-wrong : ends stops x.1 (as_at_hand (hand_of l z at)).kind ≡ false → trims ≡ true → WrongFirst t (onward x z at).nodes
    unfolding run
    onward-wrong go mind =
        let err = erring-turn l r h e a z t taking.level_left stops x (wrong r h e a z t x mind) go in
        let led = turn-led l stops taking x z r h e a t go in
        let g : goes one ≡ true = ap (λ b. b && nat_lt 0 one.taken) (turn-goes l stops x z at go) ∙ lt-ltb 0 one.taken (omega (arith, led.some, led.front.taken)) in
        let p = repeated turn one.value.1 (moved one.taken z) one.state in
        let tidy_rest = backs (repeat (markup_turn true stops) one.value.1) (moved one.taken z) one.state in
        let w = wrong-standing t one.nodes p (erring-wrong t one err) (omega (arith, no-empties go err, tidy_rest.back)) in
        let is : repeated turn x z at ≡ joined one p = one-turn turn (λ v. (sane-run l taking.calls_sane taking.blocks_sane (markup_turn true stops v)).within) x z at g in
        let rest = repeated turn x z at in
        let first : WrongFirst t rest.nodes = subst (λ (o : Outcome (Bool × ℕ)). WrongFirst t o.nodes) (sym is) w in
        wrong-standing t rest.nodes (run l flush_trivia (moved rest.taken z) rest.state) first (flush-back (moved rest.taken z) rest.state)

  -- ---- what the first node says

  abbrev minded : Bool × ℕ → Place → Point → Bool
  minded x z p = minds (markup_head x.0 x.1 (hand_of l z p).kind)

  abbrev over : Bool × ℕ → Place → Point → Bool
  over x z p = ends stops x.1 (hand_of l z p).kind

  abbrev Pieces : ℕ → Bool × ℕ → Place → Point → Type 0
  Pieces n x z p = (let os = made turn n x z p in let o = together (end_of x p os).state os in
      AllGo os → (0 < n → begins_wrong (after_known p o.nodes) ≡ false → minded x z p ≡ false) × (minded x z p ≡ false → o.back ≡ 0))

  abbrev Onward : Bool × ℕ → Place → Point → Type 0
  Onward x z p =
      (begins_wrong (after_known p (onward x z p).nodes) ≡ false → over x z p ≡ false → minded x z p ≡ false)
      × ((over x z p ≡ false → minded x z p ≡ false) → (onward x z p).back ≡ 0)

  module _ (x : Bool × ℕ) (z : Place) (r h : Reading) (e : ℕ) (a : Bool) (t : Trivia) where
    abbrev here : Point
    here = before_trivia r h e a t

    pieces-here : (n : ℕ) → Pieces n x z here
    pieces-here zero g = ((λ some right. absurd (omega (arith, some))), (λ mild. refl))
    pieces-here (suc n) g =
        ((λ some right. false_from_ne_true (minded x z here) (λ m. both_ways _ right (wrong-behind t _ (pieces-wrong x z r h e a t n g m)))), (λ mild. pieces-mild x z r h e a t n g mild))

    back-here : (b : Bool) → over x z here ≡ b → (over x z here ≡ false → minded x z here ≡ false) → (onward x z here).back ≡ 0
    back-here true o mild = stopped-back l stops taking x z here o
    back-here false o mild = onward-mild x z r h e a t o (mild o)

    onward-here : Onward x z here
    onward-here = ((λ right o. false_from_ne_true (minded x z here) (λ m. both_ways _ right (wrong-behind t _ (onward-wrong x z r h e a t o m)))), back-here (over x z here) refl)

  pub pieces-facts : (n : ℕ) (x : Bool × ℕ) (z : Place) (p : Point) → KnownAt p → Pieces n x z p
  pieces-facts n x z p known = subst (Pieces n x z) (sym (known-is l.classes p known.trivia known.is)) (pieces-here x z p.reading p.held p.empties p.is_after_error known.trivia n)

  pub onward-facts : (x : Bool × ℕ) (z : Place) (p : Point) → KnownAt p → Onward x z p
  onward-facts x z p known = subst (Onward x z) (sym (known-is l.classes p known.trivia known.is)) (onward-here x z p.reading p.held p.empties p.is_after_error known.trivia)

  -- A piece that minds errors gives the trivia and one error, and leaves no empty error.
  alone-here : (x : Bool × ℕ) (z : Place) (r h : Reading) (e : ℕ) (a : Bool) (t : Trivia) → (let s = before_trivia r h e a t in goes (turn x z s) ≡ true → minded x z s ≡ true → MindsAlone s (turn x z s))
  alone-here x z r h e a t g mind =
      let s = before_trivia r h e a t in
      let o = turn x z s in
      let open_there : ends stops x.1 (as_at_hand (hand_of l z s)).kind ≡ false = going-on l stops x z s (first-of o.value.0 (nat_lt 0 o.taken) g) in
      let err = erring-turn l r h e a z t taking.level_left stops x (wrong r h e a z t x mind) open_there in
      record { error = err.error; is = err.is; nodes = err.nodes; none = no-empties x z r h e a t open_there err }

  pub minds-alone : (x : Bool × ℕ) (z : Place) (p : Point) → KnownAt p → goes (turn x z p) ≡ true → minded x z p ≡ true → MindsAlone p (turn x z p)
  minds-alone x z p known =
      subst (λ (s : Point). goes (turn x z s) ≡ true → minded x z s ≡ true → MindsAlone s (turn x z s)) (sym (known-is l.classes p known.trivia known.is)) (alone-here x z p.reading p.held p.empties p.is_after_error known.trivia)

-- ---- the laws

-- an expression of a run that minds errors gives the trivia and one error
run-wrong : (k : CharClasses) (r : Sequence) → IsRun k r → (g h : Reading) (e : ℕ) (a : Bool) (z : Place) (t : Trivia) (x : Bool × ℕ) → minds (markup_head x.0 x.1 (hand_at r.level.classes h (Some t) z).kind) ≡ true → Erring t (r.level.deeper (MarkupExpr x.0 x.1) z (before_trivia g h e a t))
unfolding run
run-wrong k r (is_text_run z) = erring-call k 255
run-wrong k r (is_block_run levels z s) = erring-call k levels

pub head-law : HeadLaw
head-law k r is i n g h =
    let leads = leads-of k r is in
    let e = first_end i r in
    let f = then_end i n r in
    let first_known = known-made r.level r.stops i (true, 0) r.place r.point leads.known g in
    let then_known = known-made r.level r.stops n e.value (first_place i r) e.state first_known h in
    let p = pieces-facts r.level r.stops leads.taking (run-wrong k r is) n e.value (first_place i r) e.state first_known h in
    let o = onward-facts r.level r.stops leads.taking (run-wrong k r is) f.value (then_place i n r) f.state then_known in
    record { first = p.0; pieces_back = p.1; next = o.0; after_back = o.1 }

-- where its pieces begin with one that minds errors
pub lone-piece : (k : CharClasses) (r : Sequence) → IsRun k r → (i : ℕ) → AllGo (first_of i r) → AllGo (then_of i 1 r) → minds_at r (first_place i r) (first_end i r) ≡ true → MindsAlone (first_end i r).state (turn_of r (first_end i r).value (first_place i r) (first_end i r).state)
lone-piece k r is i g h mind =
    let leads = leads-of k r is in
    let e = first_end i r in
    minds-alone r.level r.stops leads.taking (run-wrong k r is) e.value (first_place i r) e.state (known-made r.level r.stops i (true, 0) r.place r.point leads.known g) h.0 mind

pub meets-law : MeetsLaw
meets-law k text top z i n m f t u g h well known known_now agrees = record {
  known = known;
  known_now = known_now;
  value = λ o. (subst (λ b. Agrees (root_run k text) b m (then_end i n (text_run k z)).value f.value) o agrees).1;
  over = λ o kind. ends-alike f.value.1 (then_end i n (text_run k z)).value.1 kind;
  errors = λ o m. absurd (both_ways _ ((head-law k (text_run k z) (is_text_run z) i n g h).next (well o) o) m);
}
meets-law k text (block_inner c levels among name level) z i n m f t u g h well known known_now agrees =
    let q = run_at k levels c z in
    let by = λ (b : Bool). Agrees (block_run c levels among name level) b m (then_end i n q).value f.value in
    record {
      known = known;
      known_now = known_now;
      value = λ o. (subst by o agrees).1;
      over = λ o kind. ap (λ a. ends ends_block a kind) (subst by o agrees);
      errors = λ o m. absurd (both_ways _ ((head-law k q (is_block_run levels (moved c.at z) (point_of c.start)) i n g h).next (well o) o) m);
    }

-- ---- the expression at which pieces that are read again begin is the same in both texts, so what they take back is the same too

-- ---- where pieces end the token at hand was looked at

module _ (l : Level) (stops : SyntaxKind → Bool) where
  abbrev one_turn : Bool × ℕ → Meaning (Bool × (Bool × ℕ))
  one_turn x = run l (markup_turn true stops x)

  pub cut-same : (n : ℕ) (x : Bool × ℕ) (z w : Place) (s : Point) → AllGo (made one_turn (suc n) x z s) → SameIn (asks_of (made one_turn (suc n) x z s)) z w
      → (let e = end_of x s (made one_turn (suc n) x z s) in (hand_of l (moved e.taken w) e.state).kind ≡ (hand_of l (moved e.taken z) e.state).kind)
  cut-same n x z w s g same =
      let e = end_of x s (made one_turn (suc n) x z s) in
      let looks = hand_asks_of l (moved e.taken z) e.state in
      let c = made-ends one_turn (λ q p. hand_asks_of l q p) (λ y q p h. turn-ends l stops y q p h) n x z s g in
      let seen = same_in-shift e.taken looks z w (same_in-first (shift e.taken looks) _ z w (same_in-second c.early _ z w (subst (λ ls. SameIn ls z w) c.is same))) in
      ap (λ (h : Hand). h.kind) (hand-frame l.classes e.state.held e.state.known (moved e.taken z) (moved e.taken w) seen).hand

-- So the expression that follows minds errors as before.
pub minds-same : (l : Level) (d e : End (Bool × ℕ)) (y v : Place) → d ≡ e → (hand_of l v e.state).kind ≡ (hand_of l y e.state).kind
    → minds (markup_head d.value.0 d.value.1 (hand_of l v d.state).kind) ≡ minds (markup_head e.value.0 e.value.1 (hand_of l y e.state).kind)
minds-same l d e y v same kind =
    ap (λ (f : End (Bool × ℕ)). minds (markup_head f.value.0 f.value.1 (hand_of l v f.state).kind)) same ∙ ap (λ k. minds (markup_head e.value.0 e.value.1 k)) kind

-- ---- a text's run

pub lead-empties : (k : CharClasses) (z : Place) → (lead k z).state.empties ≡ 0
unfolding run
lead-empties k z = refl

-- After some pieces of two runs the same follows, and the expression there minds errors as before.
pub record Minds (i : ℕ) (q p : Sequence) : Type 0 where
  pub ends : first_end i p ≡ first_end i q
  pub minds : minds_at p (first_place i p) (first_end i p) ≡ minds_at q (first_place i q) (first_end i q)

module _ (k : CharClasses) (edit : TextReplacement) where
  pub text-minds : (i : ℕ) → 0 < i → AllGo (first_of i (text_run k (start_before edit))) → AllEndBy (length edit.front) ((lead k (start_before edit)).asks ++ asks_of (first_of i (text_run k (start_before edit))))
      → Minds i (text_run k (start_before edit)) (text_run k (start_after edit))
  text-minds zero some go looks = absurd (omega (arith, some))
  text-minds (suc i) some go looks =
      let z = start_before edit in
      let w = start_after edit in
      let l = level_at k max_depth in
      let seen = before-same _ edit looks in
      let e = first_end (suc i) (text_run k z) in
      let d = first_end (suc i) (text_run k w) in
      let same : d ≡ e = ap (end_of (true, 0) (lead k z).state) (pieces-same k (suc i) z w (λ l. seen)).pieces_same in
      let kind = cut-same l is_end i (true, 0) z w (lead k z).state go (same_in-second (lead k z).asks _ z w seen) in
      let place : moved d.taken w ≡ moved e.taken w = ap (λ (a : End (Bool × ℕ)). moved a.taken w) same in
      record { ends = same; minds = minds-same l d e (moved e.taken z) (moved d.taken w) same (ap (λ p. (hand_of l p e.state).kind) place ∙ kind) }

-- ---- a content block's run

block-empties : (k : CharClasses) (levels : ℕ) (c : Spot (Unit {0})) (z : Place) → (bracket k levels (moved c.at z) (point_of c.start)).state.empties ≡ 0 → (run_at k levels c z).point.empties ≡ 0
unfolding run
block-empties k levels c z e = e

module _ (k : CharClasses) (levels : ℕ) (edit : TextReplacement) (c : Spot (Unit {0})) where
  pub block-minds : (i : ℕ) → 0 < i → AllGo (first_of i (run_at k levels c (start_before edit))) → EndsBefore k levels edit c i → Minds i (run_at k levels c (start_before edit)) (run_at k levels c (start_after edit))
  block-minds zero some go looks = absurd (omega (arith, some))
  block-minds (suc i) some go looks =
      let z0 = start_before edit in
      let w0 = start_after edit in
      let z = moved c.at z0 in
      let w = moved c.at w0 in
      let l = inner k levels in
      let r = run_at k levels c z0 in
      let q = run_at k levels c w0 in
      let o = inner_lead k levels z (point_of c.start) in
      let b = bracket k levels z (point_of c.start) in
      let f = first-same k levels edit c (suc i) looks in
      let seen : SameIn (o.asks ++ asks_of (first_of (suc i) r)) r.place (moved b.taken w) =
      same_in-at _ _ _ _ _ (sym (moved-sum c.at b.taken z0)) (sym (moved-sum c.at b.taken w0)) (same_in-shift (c.at + b.taken) _ z0 w0 (before-same _ edit (looks.before_run some))) in
      let e = first_end (suc i) r in
      let d = first_end (suc i) q in
      let same : d ≡ e = ap (end_of (true, 0) r.point) f.first in
      let kind = cut-same l ends_block i (true, 0) r.place (moved b.taken w) r.point go (same_in-second o.asks _ r.place (moved b.taken w) seen) in
      let place : first_place (suc i) q ≡ moved e.taken (moved b.taken w) = ap (λ (a : End (Bool × ℕ)). moved a.taken q.place) same ∙ ap (λ (a : Outcome (Unit {0})). moved e.taken (moved a.taken w)) f.opened in
      record { ends = same; minds = minds-same l d e (first_place (suc i) r) (first_place (suc i) q) same (ap (λ p. (hand_of l p e.state).kind) place ∙ kind) }

-- ---- any run

pub run-minds : (k : CharClasses) (edit : TextReplacement) (r : Run k (text_before edit)) (i : ℕ) → 0 < i → AllGo (first_of i (read_as r (start_before edit))) → Before k edit r i → Minds i (read_as r (start_before edit)) (read_as r (start_after edit))
run-minds k edit top i some go looks = text-minds k edit i some go (looks some)
run-minds k edit (block_inner c levels a b l) i some go looks = block-minds k levels edit c i some go looks

-- No error stands where a run begins.
record Empty (q v : Sequence) : Type 0 where
  was : q.point.empties ≡ 0
  now : v.point.empties ≡ 0

begins-empty : (k : CharClasses) (edit : TextReplacement) (r : Run k (text_before edit)) (i n m past : ℕ) (t u : Trivia) → PassesJoint k edit r i n m past t u → Empty (read_as r (start_before edit)) (read_as r (start_after edit))
begins-empty k edit top i n m past t u h = record { was = lead-empties k (start_before edit); now = lead-empties k (start_after edit) }
begins-empty k edit (block_inner c levels a b l) i n m past t u h =
    let opens = both-open k levels edit c a b l i n m past t u h in
    record { was = block-empties k levels c (start_before edit) opens.old_opens.empties; now = block-empties k levels c (start_after edit) opens.new_opens.empties }

pub none-back-law : NoneBackLaw
none-back-law k edit r zero n m past t u h well =
    let e = begins-empty k edit r 0 n m past t u h in
    let q = read_as r (start_before edit) in
    let v = read_as r (start_after edit) in
    record { back = omega (arith, (back-law k q (is-run r (start_before edit)) 0 n).pieces_back, e.was); back_now = omega (arith, (back-law k v (is-run r (start_after edit)) 0 m).pieces_back, e.now) }
none-back-law k edit r (suc i) n m past t u h well =
    let some : 0 < suc i = omega arith in
    let mild = (well some).1 in
    record {
      back = (head-law k (read_as r (start_before edit)) (is-run r (start_before edit)) (suc i) n h.first_go h.old_go).pieces_back mild;
      back_now = (head-law k (read_as r (start_after edit)) (is-run r (start_after edit)) (suc i) m (first-now k edit r (suc i) h.before h.first_go) h.new_go).pieces_back ((run-minds k edit r (suc i) some h.first_go h.before).minds ∙ mild);
    }

pub none-behind-law : NoneAfterLaw
none-behind-law k edit r i n m past t u h well =
    let z = start_before edit in
    let q = read_as r z in
    let heads = head-law k q (is-run r z) i n h.first_go h.old_go in
    let was : (onwards_at i n q).back ≡ 0 = ap (λ (o : Outcome (Unit {0})). o.back) (onwards-is q i n) ∙ heads.after_back (λ over. heads.next (well over) over) in
    record { back = was; back_now = (joined-behind k edit r i n m past t u h).back ∙ was }
