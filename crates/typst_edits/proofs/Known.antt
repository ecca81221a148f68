-- What is known of the trivia at hand keeps a property, if the property holds of what was asked and of what a flush leaves.
use Rattle.typst_edits.proofs.Cited.{◌≡◌, ℕ, zero, suc, false, List, [], ◌∷◌, Option, Some, None, refl, sym, subst, ◌<◌, ◌≤◌, Bool, true, ◌&&◌, if◌then◌else◌, nat_lt, length, ap, ◌∙◌, arith, SyntaxMode, Place, moved, Tree, CharClasses, Call, Reading, Hand, known_by, hand_at, token_at, len_at, at_trivia, Ahead, direct, after_trivia, ahead_by, ahead, hand_asks, Rules, meaning_of, level_of, Trivia, Point, Shape, after_node, after_shape, Op, Parser, hand, so, further, column, erred, takes, takes_so, flushes, complains, advises, marks, is_deepest, Outcome, Meaning, Level, joined, inside, reshaped, grown, same_mode, flushed_state, done, run, moved-sum, ahead-left, shape-known, on_both, and-second, ltb-true, is_trivia, token, SameIn, hand-frame, token-same}
use Rattle.typst_language.proofs.Runs.{shape-held}
use Rattle.typst_edits.proofs.Traversal.{Parts, all-run}
use Rattle.typst_language.proofs.Trivia.{none-left}
pub use Rattle.typst_language.proofs.Trivia.{ahead-stop as ahead-direct}

-- ---- how a flush leaves the state

flushed-as : (s : Point) (ts : List Tree) → (let t = elim ts as (λ _. Point) [ [] ↦ s | u ∷ us ↦ after_node false [] s ] in (t.held ≡ s.held) × (t.reading ≡ s.reading))
flushed-as s [] = (refl, refl)
flushed-as s (t ∷ ts) = (refl, refl)

pub flushed-held : (h : Hand) (s : Point) → (flushed_state h s).held ≡ s.held
flushed-held h s = (flushed-as s h.trivia).0

-- ---- a property of what is known, by how the token at hand is read and the place

abbrev pub Saying : Type 1
Saying = CharClasses → SyntaxMode → Option Trivia → Place → Type 0

-- It holds where nothing is known, of what was asked, and of what a flush leaves.
pub record Stays (P : Saying) : Type 0 where
  pub none : (k : CharClasses) (m : SyntaxMode) (z : Place) → P k m None z
  pub ask : (k : CharClasses) (held : Reading) (known : Option Trivia) (z : Place) → P k held.mode known z → P k held.mode (known_by (hand_at k held known z)) z
  pub flush : (k : CharClasses) (held : Reading) (known : Option Trivia) (z : Place) → P k held.mode known z
      → (let h = hand_at k held known z in P k held.mode (Some (record { nodes = []; gap = 0; newlines = h.newlines })) (moved h.gap z))

abbrev pub Holds : Saying → CharClasses → Place → Point → Type 0
Holds P k z s = P k s.held.mode s.known z

-- A part of a parser that was read from such a place ends at such a place.
abbrev pub Keeps : {A : Type 0} → Saying → CharClasses → Meaning A → Type 0
Keeps P k m = (z : Place) (s : Point) → Holds P k z s → Holds P k (moved (m z s).taken z) (m z s).state

module _ (P : Saying) (stays : Stays P) where
  pub holds-joined : {A B : Type 0} (k : CharClasses) (z : Place) (o : Outcome B) (p : Outcome A) → Holds P k (moved p.taken (moved o.taken z)) p.state → Holds P k (moved (joined o p).taken z) (joined o p).state
  holds-joined k z o p h = subst (λ w. Holds P k w p.state) (sym (moved-sum o.taken p.taken z)) h

  holds-reshaped : {A : Type 0} (k : CharClasses) (z : Place) (shape : Shape) (n : ℕ) (o : Outcome A) → Holds P k (moved o.taken z) o.state → Holds P k (moved (reshaped shape n o).taken z) (reshaped shape n o).state
  holds-reshaped k z shape n o h =
      let ts = inside n o in
      subst (λ (r : Reading). P k r.mode (after_shape shape ts o.state).known (moved o.taken z)) (sym (shape-held shape ts o.state)) (subst (λ v. P k o.state.held.mode v (moved o.taken z)) (sym (shape-known shape ts o.state)) h)

  pub holds-grown : {A : Type 0} (k : CharClasses) (z : Place) (n : ℕ) (shape : Option Shape) (o : Outcome A) → Holds P k (moved o.taken z) o.state → Holds P k (moved (grown n shape o).taken z) (grown n shape o).state
  holds-grown k z n None o h = h
  holds-grown k z n (Some shape) o h = holds-reshaped k z shape n o h

  -- From such a place a part of a reading ends at such a place.
  abbrev Ends : CharClasses → (A : Type 0) → Place → Point → Outcome A → Type 0
  Ends k A z s o = Holds P k z s → Holds P k (moved o.taken z) o.state

  ends : (k : CharClasses) → Parts (Ends k)
  ends k = record {
    nothing = λ A z s a h. h;
    both = λ A B z s o p f g h. holds-joined k z o p (g (f h));
    answer = λ A B z s b o f h. f h;
    in_shape = λ A z s shape n o f h. holds-reshaped k z shape n o (f h);
    in_scope = λ A z s r o f h. on_both (λ (t : Point). Holds P k (moved o.taken z) t) (same_mode o.state.reading.mode s.reading.mode) _ _ (f h) (stays.none k s.reading.mode (moved o.taken z));
    instead = λ A z s o p f g h. g h;
  }

  -- ---- the law

  module _ (l : Level) where
    holds-done : {A : Type 0} (o : Op A) → Keeps P l.classes (done l o)
    holds-done hand z s h = stays.ask l.classes s.held s.known z h
    holds-done (so way) z s h = stays.ask l.classes s.held s.known z h
    holds-done further z s h = stays.ask l.classes s.held s.known z h
    holds-done column z s h = stays.ask l.classes s.held s.known z h
    holds-done erred z s h = h
    holds-done (takes trims making) z s h = stays.none l.classes _ _
    holds-done (takes_so way making) z s h = stays.none l.classes _ _
    holds-done flushes z s h =
        let g = hand_at l.classes s.held s.known z in
        subst (λ (r : Reading). P l.classes r.mode (Some (record { nodes = []; gap = 0; newlines = g.newlines })) (moved g.gap z)) (sym (flushed-held g s)) (stays.flush l.classes s.held s.known z h)
    holds-done (complains message) z s h = h
    holds-done (advises hint) z s h = h
    holds-done (marks mark) z s h = h
    holds-done is_deepest z s h = h

    module _ (d : (c : Call) → Keeps P l.classes (l.deeper c)) where
      pub holds-run : {A : Type 0} (p : Parser A) → Keeps P l.classes (run l p)
      holds-run p = all-run (Ends l.classes) (ends l.classes) l (λ A o. holds-done o) d (λ b z s h. stays.none l.classes _ _) p

  module _ (r : Rules) (k : CharClasses) where
    pub holds-meaning : (levels : ℕ) (call : Call) → Keeps P k (meaning_of r k levels call)
    unfolding meaning_of
    holds-meaning zero call z s h = h
    holds-meaning (suc levels) call z s h = holds-run (level_of r k levels) (holds-meaning levels) (r.production call) z s h

-- ---- the trivia at hand are followed by a token that is no trivia

-- ---- trivia are followed by no more of them

-- what is found after a token that is trivia, or at one that is not
abbrev Ends_in : CharClasses → SyntaxMode → Place → Ahead → Type 0
Ends_in k m z a = at_trivia k m (moved a.gap z) ≡ false

ends-step : (k : CharClasses) (m : SyntaxMode) (z : Place) (b : Bool) (node : Tree) (rest : Ahead) → at_trivia k m z ≡ b → (b ≡ true → Ends_in k m (moved (len_at k m z) z) rest)
    → Ends_in k m z (if b then after_trivia (token_at k m z) (len_at k m z) node rest else direct (token_at k m z) (len_at k m z))
ends-step k m z true node rest e h = ap (at_trivia k m) (moved-sum (len_at k m z) rest.gap z) ∙ h refl
ends-step k m z false node rest e h = e

ahead-ends : (k : CharClasses) (m : SyntaxMode) (n : ℕ) (z : Place) → length z.ahead ≤ n → Ends_in k m z (ahead_by k m n z)
ahead-ends k m zero z h = none-left k m z (omega arith)
ahead-ends k m (suc n) z h =
    let l = len_at k m z in
    ends-step k m z (at_trivia k m z) _ (ahead_by k m n (moved l z)) refl
    (λ t. (let some : 0 < l = ltb-true 0 l (and-second (is_trivia (token_at k m z).kind) (nat_lt 0 l) t) in
    ahead-ends k m n (moved l z) (omega (arith, ahead-left l z))))

-- ---- what is known of the trivia at hand is all of them

abbrev pub Stops : CharClasses → SyntaxMode → Option Trivia → Place → Type 0
Stops k m None z = Unit {0}
Stops k m (Some t) z = at_trivia k m (moved t.gap z) ≡ false

abbrev pub Reached : CharClasses → Place → Point → Type 0
Reached k z s = Holds Stops k z s

-- after the trivia at hand
pub hand-stops : (k : CharClasses) (held : Reading) (known : Option Trivia) (z : Place) → Stops k held.mode known z → at_trivia k held.mode (moved (hand_at k held known z).gap z) ≡ false
unfolding hand_at ahead
hand-stops k held None z h = ahead-ends k held.mode (length z.ahead) z (omega arith)
hand-stops k held (Some t) z h = h

known-there : (k : CharClasses) (held : Reading) (t : Trivia) (z w : Place) → at_trivia k held.mode (moved t.gap z) ≡ false → SameIn (hand_asks k held (Some t) z) z w
    → at_trivia k held.mode (moved (hand_at k held (Some t) z).gap w) ≡ false
unfolding hand_at hand_asks
known-there k held t z w h same =
    let e = token-same (token k held.mode) (moved t.gap z) (moved t.gap w) same.0 in
    ap (λ x. is_trivia x.kind && nat_lt 0 (len_at k held.mode (moved t.gap w))) e.read ∙ ap (λ n. is_trivia (token_at k held.mode (moved t.gap z)).kind && nat_lt 0 n) e.len ∙ h

-- Where the token at hand shows the same in another text, the same holds there.
pub hand-stops-there : (k : CharClasses) (held : Reading) (known : Option Trivia) (z w : Place) → Stops k held.mode known z → SameIn (hand_asks k held known z) z w
    → at_trivia k held.mode (moved (hand_at k held known z).gap w) ≡ false
hand-stops-there k held None z w h same =
    ap (λ (g : Hand). at_trivia k held.mode (moved g.gap w)) (sym (hand-frame k held None z w same).hand) ∙ hand-stops k held None w tt
hand-stops-there k held (Some t) z w h same = known-there k held t z w h same

-- ---- the invariant

stays : Stays Stops
stays = record { none = λ k m z. tt; ask = λ k held known z h. hand-stops k held known z h; flush = λ k held known z h. hand-stops k held known z h }

-- A part of a parser that was read from such a place ends at such a place.
abbrev pub Reaches : {A : Type 0} → CharClasses → Meaning A → Type 0
Reaches k m = Keeps Stops k m

pub reached-joined : {A B : Type 0} (k : CharClasses) (z : Place) (o : Outcome B) (p : Outcome A) → Reached k (moved p.taken (moved o.taken z)) p.state → Reached k (moved (joined o p).taken z) (joined o p).state
reached-joined k z o p h = holds-joined Stops stays k z o p h

pub reached-grown : {A : Type 0} (k : CharClasses) (z : Place) (n : ℕ) (shape : Option Shape) (o : Outcome A) → Reached k (moved o.taken z) o.state → Reached k (moved (grown n shape o).taken z) (grown n shape o).state
reached-grown k z n shape o h = holds-grown Stops stays k z n shape o h

pub reached-run : (l : Level) → ((c : Call) → Reaches l.classes (l.deeper c)) → {A : Type 0} (p : Parser A) → Reaches l.classes (run l p)
reached-run l d p = holds-run Stops stays l d p

pub reached-meaning : (r : Rules) (k : CharClasses) (levels : ℕ) (call : Call) → Reaches k (meaning_of r k levels call)
reached-meaning r k levels call = holds-meaning Stops stays r k levels call
