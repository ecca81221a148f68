-- The law of an edit inside some pieces of a run that leaves other trivia or other errors after them: of a text's run and of a content block's.
use Rattle.typst_edits.proofs.Cited.{◌≡◌, inl, inr, ◌⊎◌, ℕ, zero, suc, Bool, true, false, ◌&&◌, if◌then◌else◌, Some, refl, ap, sym, ◌∙◌, subst, ◌+◌, ◌<◌, List, ◌++◌, length, drop, ne_eqb, [], ◌∷◌, arith, SyntaxKind, Place, moved, Reading, SameIn, Ask, is_end, Hand, hand_at, len_at, Trivia, Point, point_of, forgot, flush_trivia, close_if, ◌>>=◌, repeat, does, Outcome, Meaning, joined, run, plain, entered, left, same_mode, hand_of, hand_asks_of, renewed, taken_node, hand-frame, sane-run, sane-at, sane-meaning, sane-block, sane-plain, ends, markup_turn, markup_head, markup_reading, ends_block, minds, onwards, passed, text_run, onwards_at, End, made, end_of, AllGo, chain, piece_at, lead, tail, whole_of, Sequence, turn_of, first_of, first_end, then_of, then_end, then_place, rest_of, Tree, text_of, CharClasses, MarkupExpr, meaning_of, rules, level_at, max_depth, Passes, same, is_error, Newlines, after_node, after_shape, encloses, itself, takes, same_in-shift, same_in-first, same_in-second, moved-sum, inner, look_again, bracket, inner_run, content_with, run_at, tail_at, close_at, onwards_past, left_past, ended, unit_at, onwards_by, Rests, peek, start, Stands, Run, read_as, top, IsRun, is_text_run, is_block_run, PassesJoint, Before, opened_by, is_over_at, Meets, Exchanged, TextReplacement, text_before, text_after, start_before, start_after}
use Rattle.typst_edits.specs.Frame.{inner as block_inner}
use Rattle.typst_edits.specs.Joins.{InnerJointLaw, JointLaw}
use Rattle.typst_language.proofs.Rests.{Restful}
use Rattle.typst_edits.proofs.Boundary.{KnownAt}
use Rattle.typst_edits.proofs.Content.{reading-is}
use Rattle.typst_edits.proofs.Turns.{after_trivia, SameJudged, before_trivia, kind-behind, Fronted, drop-front, Takes, same-renewed, asks-behind, fronted-behind, stopped-alike, hand-seen, Taking, fronted-same, takes-expr, KnownFlush, flush-known}
use Rattle.std.proofs.Math.Bool.{and-false as none-and}
use Rattle.typst_edits.proofs.Edit.{before-same, after-same}
use Rattle.typst_edits.proofs.Spots.{same_in-at}
use Rattle.typst_edits.proofs.Runs.{moved-three, moved-four, split, split-taken}
use Rattle.typst_edits.proofs.BlockRuns.{whole-is, pieces-same as first-same, within, sane, content-split, content-taken, first-same as inner-first-same}
use Rattle.typst_edits.proofs.Outcomes.{shift-zero}
use Rattle.typst_edits.proofs.Text.{block-law, content-reads}
use Rattle.typst_kinds.specs.declared.kind.SyntaxKind.TheVariants as kind

-- ---- where pieces end in two texts and what has to agree there does, all after them is the same, except for the trivia before it

-- ---- how a run is read

-- The token at hand and those to come are read like this.
pub record ReadAs (g : Reading) (s : Point) : Type 0 where
  pub reading : s.reading ≡ g
  pub held : s.held ≡ g

either-way : {A : Type 0} (x h r g : A) → (x ≡ h) ⊎ (x ≡ r) → h ≡ g → r ≡ g → x ≡ g
either-way x h r g a e f = elim a [ inl i ↦ i ∙ e | inr i ↦ i ∙ f ]

pub read-as : (g : Reading) (s p : Point) → ReadAs g s → Rests s.reading s.held p → ReadAs g p
read-as g s p a h = record {
  reading = h.reading ∙ a.reading;
  held = reading-is p.held g
      (either-way p.held.mode s.held.mode s.reading.mode g.mode h.mode (ap (λ (r : Reading). r.mode) a.held) (ap (λ (r : Reading). r.mode) a.reading))
      (either-way p.held.at_newline s.held.at_newline s.reading.at_newline g.at_newline h.rule (ap (λ (r : Reading). r.at_newline) a.held) (ap (λ (r : Reading). r.at_newline) a.reading));
}

-- After any number of turns tokens are still read so.
pub read-made : {A : Type 0} (g : Reading) (m : A → Meaning (Bool × A)) → ((x : A) → Restful (m x)) → (n : ℕ) (x : A) (z : Place) (s : Point) → ReadAs g s → ReadAs g (end_of x s (made m n x z s)).state
read-made g m rests zero x z s a = a
read-made g m rests (suc n) x z s a =
    let o = m x z s in
    read-made g m rests n o.value.1 (moved o.taken z) o.state (read-as g s o.state a (rests x z s))

-- Markup goes on after newlines.
goes-on : (t u : Trivia) → SameJudged markup_reading t u
goes-on t u =
    let same : (u.newlines.any && false) ≡ (t.newlines.any && false) = none-and u.newlines.any ∙ sym (none-and t.newlines.any) in
    record { judge = λ k column. ap (λ b. if b then kind.End else k) same; column = same }

pub judged-alike : (h : Reading) (t u : Trivia) → h ≡ markup_reading → SameJudged h t u
judged-alike h t u e = subst (λ g. SameJudged g t u) (sym e) (goes-on t u)

-- At a text's end every nesting ends.
pub ends-alike : (a b : ℕ) (k : SyntaxKind) → ends is_end a k ≡ ends is_end b k
ends-alike a b kind.End = refl
ends-alike a b _ = refl

-- ---- what follows both

-- Both are the same except for the trivia before them.
pub record Met (r : Sequence) (y v : Place) (e f : End (Bool × ℕ)) (t u : Trivia) : Type 0 where
  pub one : Fronted t t.nodes (onwards r e.value y e.state) (onwards r e.value (moved t.gap y) (passed t e.state))
  pub two : Fronted u t.nodes (onwards r f.value v f.state) (onwards r e.value (moved t.gap y) (passed t e.state))
  -- and so is the token at hand
  pub kind : (hand_at r.level.classes f.state.held f.state.known v).kind ≡ (hand_at r.level.classes e.state.held e.state.known y).kind

module _ (r : Sequence) (taking : Taking r.level r.stops) where
  -- Where expressions end nothing depends on what is carried.
  carried : (y : Place) (e f : End (Bool × ℕ)) (t u : Trivia) → Meets r y e f t u → (b : Bool) → is_over_at r y e ≡ b → onwards r f.value (moved t.gap y) (passed t e.state) ≡ onwards r e.value (moved t.gap y) (passed t e.state)
  unfolding hand_at
  carried y e f t u g false o = ap (λ x. onwards r x (moved t.gap y) (passed t e.state)) (g.value o)
  carried y e f t u g true o =
      let token = (hand_at r.level.classes e.state.held (Some (after_trivia t)) (moved t.gap y)).kind in
      let here : is_over_at r y e ≡ ends r.stops e.value.1 token = ap (λ k. ends r.stops e.value.1 (hand_at r.level.classes e.state.held k y).kind) g.known in
      let over = sym here ∙ o in
      stopped-alike r.level r.stops taking e.value f.value (moved t.gap y) (passed t e.state) over (g.over o token ∙ over)

  -- The errors before them matter if an expression follows that minds them.
  errors : (y : Place) (e f : End (Bool × ℕ)) (t u : Trivia) → Meets r y e f t u → (new : SyntaxKind) → new ≡ (hand_at r.level.classes e.state.held e.state.known y).kind → (b : Bool) → is_over_at r y e ≡ b
      → ends r.stops f.value.1 new ≡ false → minds (markup_head f.value.0 f.value.1 new) ≡ true → f.state.empties ≡ e.state.empties
  errors y e f t u g new same true o go mind =
      let over : true ≡ false = sym o ∙ sym (ap (ends r.stops e.value.1) same) ∙ sym (g.over o new) ∙ go in
      cc
  errors y e f t u g new same false o go mind =
      g.errors o (sym (ap (λ x. minds (markup_head x.0 x.1 new)) (g.value o) ∙ ap (λ k. minds (markup_head e.value.0 e.value.1 k)) same) ∙ mind)

  -- WHY WHAT FOLLOWS STAYS: it shows the same after the trivia in both texts, so by the frame law
  -- it is read the same there.
  pub met : (y v : Place) (e f : End (Bool × ℕ)) (t u : Trivia) → Meets r y e f t u → ReadAs markup_reading e.state → ReadAs markup_reading f.state
      → SameIn (onwards r e.value (moved t.gap y) (passed t e.state)).asks (moved t.gap y) (moved u.gap v) → Met r y v e f t u
  unfolding hand_at
  met y v e f t u g read read_now shown =
      let l = r.level in
      let es = e.state in
      let fs = f.state in
      let there = moved t.gap y in
      let here = moved u.gap v in
      let c = onwards r e.value there (passed t es) in
      let known_is : es ≡ before_trivia es.reading es.held es.empties es.is_after_error t = ap (λ k. record es { known = k }) g.known in
      let known_now_is : fs ≡ before_trivia fs.reading fs.held fs.empties fs.is_after_error u = ap (λ k. record fs { known = k }) g.known_now in
      let held : fs.held ≡ es.held = read_now.held ∙ sym read.held in
      let alike = judged-alike fs.held u t read_now.held in
      -- the token at hand
      let token = ap (λ (x : Hand). x.kind) (hand-frame l.classes es.held (Some (after_trivia t)) there here (hand-seen l r.stops taking e.value there here (passed t es) shown)).hand in
      let now : (hand_at l.classes fs.held (Some u) v).kind ≡ (hand_at l.classes es.held (Some t) y).kind =
      sym (kind-behind l fs.held v u t alike) ∙ ap (λ h. (hand_at l.classes h (Some (after_trivia t)) here).kind) held ∙ token in
      let now_known : (hand_at l.classes fs.held (Some u) v).kind ≡ (hand_at l.classes es.held es.known y).kind = now ∙ ap (λ k. (hand_at l.classes es.held k y).kind) (sym g.known) in
      -- all that follows
      let one : Fronted t t.nodes (onwards r e.value y es) c =
      subst (λ s. Fronted t t.nodes (onwards r e.value y s) c) (sym known_is)
      (fronted-same l r.stops taking es.held y t e.value es.reading es.empties es.is_after_error) in
      let d = onwards r f.value here (before_trivia fs.reading fs.held es.empties es.is_after_error (after_trivia t)) in
      let two : Fronted u t.nodes (onwards r f.value v fs) d =
      subst (λ s. Fronted u t.nodes (onwards r f.value v s) d) (sym known_now_is)
      (fronted-behind l r.stops taking fs.held v u t alike f.value fs.reading fs.empties es.empties fs.is_after_error es.is_after_error
      (errors y e f t u g (hand_at l.classes fs.held (Some u) v).kind now_known (is_over_at r y e) refl)) in
      let carries : onwards r f.value there (passed t es) ≡ c = carried y e f t u g (is_over_at r y e) refl in
      let same : d ≡ c =
      ap (λ a. onwards r f.value here (before_trivia a fs.held es.empties es.is_after_error (after_trivia t))) (read_now.reading ∙ sym read.reading)
      ∙ ap (λ a. onwards r f.value here (before_trivia es.reading a es.empties es.is_after_error (after_trivia t))) held
      ∙ (sane-run l taking.calls_sane taking.blocks_sane (repeat (markup_turn true r.stops) f.value >>= λ _. flush_trivia)).framed there here (passed t es) (subst (λ (o : Outcome (Unit {0})). SameIn o.asks there here) (sym carries) shown)
      ∙ carries in
      record { one = one; two = subst (λ o. Fronted u t.nodes (onwards r f.value v fs) o) same two; kind = ap (λ k. (hand_at l.classes fs.held k v).kind) g.known_now ∙ now_known }

-- both outcomes, if the same stands after the trivia
pub exchanged : {A : Type 0} (t u : Trivia) (us : List Tree) (o n c : Outcome A) → Fronted t us o c → Fronted u us n c → Exchanged t u o n
exchanged t u us o n c f h =
    let both : us ++ h.rest ≡ us ++ f.rest = sym h.nodes_too ∙ f.nodes_too in
    let rest : h.rest ≡ f.rest = sym (drop-front us h.rest (length us) refl) ∙ ap (drop (length us)) both ∙ drop-front us f.rest (length us) refl in
    record {
      value = h.value ∙ sym f.value;
      more = c.taken;
      taken = f.taken;
      taken_now = h.taken;
      back = h.back ∙ sym f.back;
      hints = f.hints;
      hints_now = h.hints;
      rest = f.rest;
      nodes = f.nodes;
      nodes_now = h.nodes ∙ ap (λ ts. u.nodes ++ ts) rest;
      looks = c.asks;
      asks = f.asks;
      asks_now = h.asks;
      met = h.met ∙ sym f.met;
    }

-- ---- everything after some pieces of a run

pub onwards-is : (r : Sequence) (i n : ℕ) → onwards_at i n r ≡ onwards_by i n r
unfolding run
onwards-is r i n = let o = rest_of i n r in ap (λ p. joined o (run r.level flush_trivia p o.state)) (moved-three (first_end i r).taken (then_end i n r).taken o.taken r.place)

-- after pieces that end before these trivia
pub onwards-fronted : (r : Sequence) → Taking r.level r.stops → (i n : ℕ) (t : Trivia) → (then_end i n r).state.known ≡ Some t
    → (let e = then_end i n r in Fronted t t.nodes (onwards_at i n r) (onwards r e.value (moved t.gap (then_place i n r)) (passed t e.state)))
onwards-fronted r taking i n t known =
    let e = then_end i n r in
    let s = e.state in
    let y = then_place i n r in
    let c = onwards r e.value (moved t.gap y) (passed t s) in
    let is : s ≡ before_trivia s.reading s.held s.empties s.is_after_error t = ap (λ u. record s { known = u }) known in
    subst (λ o. Fronted t t.nodes o c) (sym (onwards-is r i n)) (subst (λ p. Fronted t t.nodes (onwards r e.value y p) c) (sym is)
    (fronted-same r.level r.stops taking s.held y t e.value s.reading s.empties s.is_after_error))

module _ (k : CharClasses) where
  -- what a piece reads one level deeper
  pub takes-call : (levels : ℕ) (h : Reading) (z : Place) (t u : Trivia) → SameJudged h t u → (x : Bool × ℕ) → 0 < len_at k h.mode (moved t.gap z)
      → Takes h z t u (minds (markup_head x.0 x.1 (hand_at k h (Some t) z).kind)) (meaning_of (rules k) k (suc levels) (MarkupExpr x.0 x.1))
  unfolding meaning_of
  takes-call levels h z t u alike x some = takes-expr (level_at k levels) (sane-meaning (rules k) k levels) (sane-block (rules k) k levels) h z t u alike some x.0 x.1

  pub text-taking : Taking (level_at k max_depth) is_end
  text-taking = record { calls_sane = sane-meaning (rules k) k max_depth; blocks_sane = sane-block (rules k) k max_depth; level_left = refl; end_stops = refl; takes = takes-call 255 }

  pub known-is : (s : Point) (t : Trivia) → s.known ≡ Some t → s ≡ before_trivia s.reading s.held s.empties s.is_after_error t
  known-is s t e = ap (λ u. record s { known = u }) e

  pub known-read : (g : Reading) (s : Point) (t : Trivia) → s.known ≡ Some t → ReadAs g s → s ≡ before_trivia g g s.empties s.is_after_error t
  known-read g s t e read = known-is s t e ∙ (λ v. before_trivia (read.reading v) (read.held v) s.empties s.is_after_error t)

-- The pieces of a text are read as markup.
pub text-read : (k : CharClasses) (i n : ℕ) (z : Place) → ReadAs markup_reading (then_end i n (text_run k z)).state
unfolding run
text-read k i n z =
    let rests = λ (x : Bool × ℕ). (sane-at (rules k) k max_depth (markup_turn true is_end x)).rests in
    let e = first_end i (text_run k z) in
    let before = read-made markup_reading (piece_at k) rests i (true, 0) z (lead k z).state (record { reading = refl; held = refl }) in
    read-made markup_reading (piece_at k) rests n e.value (moved e.taken z) e.state before

pub joint-law : JointLaw
joint-law k edit i n m past t u h =
    let z = start_before edit in
    let w = start_after edit in
    let f = first-same k i z w (λ l. before-same _ edit (h.before l)) in
    let new_first : AllGo (first_of i (text_run k w)) = subst (λ os. AllGo os) (sym f.pieces_same) h.first_go in
    let e = then_end i n (text_run k z) in
    let j = then_end i m (text_run k w) in
    let y = then_place i n (text_run k z) in
    let v = then_place i m (text_run k w) in
    let old_at = (length edit.front + length edit.old) + past in
    let new_at = (length edit.front + length edit.new) + past in
    let there : moved t.gap y ≡ moved old_at z = sym (moved-three (first_end i (text_run k z)).taken e.taken t.gap z) ∙ ap (λ a. moved a z) (omega (arith, h.ends)) in
    let here : moved u.gap v ≡ moved new_at w = sym (moved-three (first_end i (text_run k w)).taken j.taken u.gap w) ∙ ap (λ a. moved a w) (omega (arith, h.shifted)) in
    let shown = same_in-at _ _ _ _ _ there here (after-same _ past old_at new_at edit refl refl h.after) in
    let all = met (text_run k z) (text-taking k) y v e j t u h.meets (text-read k i n z) (text-read k i m w) shown in
    let behind = exchanged t u t.nodes (onwards (text_run k z) e.value y e.state) (onwards (text_run k z) j.value v j.state) _ all.one all.two in
    record {
      first = f.pieces_same;
      lead_same = f.lead_same;
      was = whole-is k (text_before edit) ∙ ap (λ o. whole_of (lead k z) o (tail k o.taken o.state z)) (split (text_run k z) (within k) i n h.first_go h.old_go);
      now = whole-is k (text_after edit) ∙ ap (λ o. whole_of (lead k w) o (tail k o.taken o.state w)) (split (text_run k w) (within k) i m new_first h.new_go)
          ∙ ap (λ os. (let o = chain os (chain (then_of i m (text_run k w)) (rest_of i m (text_run k w))) in whole_of (lead k w) o (tail k o.taken o.state w))) f.pieces_same;
      behind = subst (λ o. Exchanged t u o (onwards_at i m (text_run k w))) (sym (onwards-is (text_run k z) i n)) (subst (λ o. Exchanged t u (onwards_by i n (text_run k z)) o) (sym (onwards-is (text_run k w) i m)) behind);
    }

-- with nothing known of the trivia after it
abbrev pub forgets : Outcome Bool → Outcome Bool
forgets o = record o { state = forgot o.state }

module _ (k : CharClasses) (levels : ℕ) where
  pub block-taking : Taking (inner k levels) ends_block
  block-taking = record { calls_sane = sane-meaning (rules k) k (suc levels); blocks_sane = λ c. sane-plain tt; level_left = ne_eqb (suc levels) 0 (omega arith); end_stops = refl; takes = takes-call k levels }

  -- the pieces of a block are read as markup
  pub block-read : (i n : ℕ) (z : Place) (s : Point) → ReadAs markup_reading (then_end i n (inner_run k levels z s)).state
  unfolding run
  block-read i n z s =
      let r = inner_run k levels z s in
      let reading : r.point.reading ≡ markup_reading = ((sane k levels (does (takes false itself))).rests z (entered markup_reading (look_again k levels z s).state)).reading in
      let rests = λ (x : Bool × ℕ). (sane k levels (markup_turn true ends_block x)).rests in
      let e = first_end i r in
      let before = read-made markup_reading (turn_of r) rests i (true, 0) r.place r.point (record { reading = reading; held = reading }) in
      read-made markup_reading (turn_of r) rests n e.value (moved e.taken r.place) e.state before

  -- ---- the closing bracket

  -- where no trivia are known but newlines, after a node that is no error
  abbrev at_close : Newlines → Point
  at_close n = before_trivia markup_reading markup_reading 0 false (record { nodes = []; gap = 0; newlines = n })

  abbrev shut : Place → Point → Outcome Bool
  shut z s = run (inner k levels) (close_if (same kind.RightBracket)) z s

  abbrev closing : Bool → List Ask → Outcome (Unit {0}) → Point → Outcome Bool
  closing b ls took s = joined (record (plain (tt {0}) s) { asks = ls }) (if b then joined took (plain true took.state) else plain false s)

  closing-alike : (b : Bool) (ls : List Ask) (took : Outcome (Unit {0})) (m n : Newlines) → forgets (closing b ls took (at_close n)) ≡ forgets (closing b ls took (at_close m))
  closing-alike true ls took m n = refl
  closing-alike false ls took m n = refl

  -- The newlines make no difference.
  shut-alike : (z : Place) (m n : Newlines) → forgets (shut z (at_close n)) ≡ forgets (shut z (at_close m))
  unfolding run close_if hand_at
  shut-alike z m n =
      let l = inner k levels in
      let t : Trivia = record { nodes = []; gap = 0; newlines = m } in
      let u : Trivia = record { nodes = []; gap = 0; newlines = n } in
      let alike = judged-alike markup_reading t u refl in
      let a = at_close m in
      let b = at_close n in
      let old = hand_of l z a in
      let kind_is : (hand_of l z b).kind ≡ old.kind = kind-behind l markup_reading z t u alike in
      let asks : hand_asks_of l z b ≡ hand_asks_of l z a = sym (asks-behind l markup_reading z t u alike ∙ shift-zero (hand_asks_of l z b)) in
      let tree = taken_node k itself old z in
      let took = λ (s : Point) (ls : List Ask). record (plain (tt {0}) s) { taken = 0 + old.len; nodes = tree ∷ []; asks = ls } in
      let state = same-renewed (is_error tree.head.kind) (text_of tree) markup_reading markup_reading 0 0 false false u t in
      let now = renewed (after_node (is_error tree.head.kind) (text_of tree) b) in
      (λ v. forgets (closing (same kind.RightBracket (kind_is v)) (asks v) (took (state v) (asks v)) b))
      ∙ closing-alike (same kind.RightBracket old.kind) (hand_asks_of l z a) (took (renewed (after_node (is_error tree.head.kind) (text_of tree) a)) (hand_asks_of l z a)) m n

  -- the point where it is asked for, by what the flush before it leaves
  at-close-is : (s : Point) → ReadAs markup_reading s → (f : KnownFlush s) → after_node false [] s ≡ at_close f.newlines
  at-close-is s a f =
      (λ v. record { reading = a.reading v; held = a.held v; empties = 0; is_after_error = false; known = f.is v })

  -- the bracket after two runs that end alike
  pub shut-same : (z w : Place) (s p : Point) → ReadAs markup_reading s → ReadAs markup_reading p → KnownFlush s → KnownFlush p → SameIn (shut z (after_node false [] s)).asks z w
      → forgets (shut w (after_node false [] p)) ≡ forgets (shut z (after_node false [] s))
  shut-same z w s p a b f g shown =
      let there : shut z (after_node false [] s) ≡ shut z (at_close f.newlines) = ap (shut z) (at-close-is s a f) in
      ap (λ q. forgets (shut w q)) (at-close-is p b g) ∙ shut-alike w f.newlines g.newlines
      ∙ ap (λ (o : Outcome Bool). forgets o) ((sane k levels (close_if (same kind.RightBracket))).framed z w (at_close f.newlines) (subst (λ (o : Outcome Bool). SameIn o.asks z w) there shown) ∙ sym there)

-- ---- a block is the same, whatever is known of the trivia after its bracket

both-forgot : (b : Bool) (x y p q : Point) → forgot x ≡ forgot p → forgot y ≡ forgot q → forgot (if b then x else y) ≡ forgot (if b then p else q)
both-forgot true x y p q e f = e
both-forgot false x y p q e f = f

left-forgot : (r : Reading) (s : Point) → forgot (left r s) ≡ forgot (left r (forgot s))
left-forgot r s = both-forgot (same_mode s.reading.mode r.mode) _ _ _ _ refl refl

block-forgot : (closed : Bool) (ts : List Tree) (r : Reading) (s : Point) → forgot (after_shape (encloses kind.ContentBlock closed) ts (left r s)) ≡ forgot (after_shape (encloses kind.ContentBlock closed) ts (left r (forgot s)))
block-forgot true ts r s = ap (after_node false []) (left-forgot r s)
block-forgot false ts r s = ap (after_node false []) (left-forgot r s)

content-forgets : (k : CharClasses) (levels : ℕ) (z : Place) (s : Point) (r : Outcome (Bool × ℕ)) (behind : Outcome (Unit {0})) (close : Outcome Bool) → content_with k levels z s r behind close ≡ content_with k levels z s r behind (forgets close)
content-forgets k levels z s r behind close =
    ap (λ p. record (content_with k levels z s r behind (forgets close)) { state = p }) (block-forgot close.value _ (look_again k levels z s).state.reading close.state)

pub inner-joint-law : InnerJointLaw
unfolding run
inner-joint-law k levels edit c among name level i n m past t u h =
    let z0 = start_before edit in
    let w0 = start_after edit in
    let z = moved c.at z0 in
    let w = moved c.at w0 in
    let s = point_of c.start in
    let r = run_at k levels c z0 in
    let q = run_at k levels c w0 in
    let b = bracket k levels z s in
    let d = bracket k levels w s in
    let first_is : first_of i q ≡ first_of i r = (inner-first-same k levels edit c i h.before).first in
    let new_first : AllGo (first_of i q) = subst (λ os. AllGo os) (sym first_is) h.first_go in
    let fe = first_end i r in
    let ff = first_end i q in
    let e = then_end i n r in
    let j = then_end i m q in
    let rest_old = rest_of i n r in
    let rest_new = rest_of i m q in
    let tail_old = tail_at k levels i n c z0 in
    let tail_new = tail_at k levels i m c w0 in
    let close = close_at k levels i n c z0 in
    let old_at = (length edit.front + length edit.old) + past in
    let new_at = (length edit.front + length edit.new) + past in
    let y = then_place i n r in
    let v = then_place i m q in
    let es = e.state in
    let js = j.state in
    let there : moved t.gap y ≡ moved old_at z0 = ap (moved t.gap) (moved-four c.at b.taken fe.taken e.taken z0) ∙ sym (moved-sum ((c.at + b.taken) + (fe.taken + e.taken)) t.gap z0) ∙ ap (λ a. moved a z0) h.ends in
    let here : moved u.gap v ≡ moved new_at w0 = ap (moved u.gap) (moved-four c.at d.taken ff.taken j.taken w0) ∙ sym (moved-sum ((c.at + d.taken) + (ff.taken + j.taken)) u.gap w0) ∙ ap (λ a. moved a w0) h.shifted in
    let on = onwards_past k levels i n t c z0 in
    let all = same_in-at _ _ _ _ _ there here (after-same _ past old_at new_at edit refl refl h.after.inside) in
    let read_old = block-read k levels i n z s in
    let read_new = block-read k levels i m w s in
    let all_met = met r (block-taking k levels) y v e j t u h.meets read_old read_new (same_in-first on.asks _ (moved t.gap y) (moved u.gap v) all) in
    -- all after the pieces, with the trivia before the closing bracket
    let is_old : onwards_at i n (run_at k levels c z0) ≡ onwards r e.value y es = onwards-is r i n in
    let is_new : onwards_at i m (run_at k levels c w0) ≡ onwards r j.value v js = onwards-is q i m in
    let behind = exchanged t u t.nodes (onwards r e.value y es) (onwards r j.value v js) on all_met.one all_met.two in
    let took_old : rest_old.taken + tail_old.taken ≡ t.gap + on.taken = ap (λ (o : Outcome (Unit {0})). o.taken) is_old ∙ all_met.one.taken in
    let took_new : rest_new.taken + tail_new.taken ≡ u.gap + on.taken = ap (λ (o : Outcome (Unit {0})). o.taken) is_new ∙ all_met.two.taken in
    let sane_on = λ (x : Bool × ℕ). sane k levels (repeat (markup_turn true ends_block) x >>= λ _. flush_trivia) in
    let at_old = ap (λ (o : Outcome (Unit {0})). o.state) is_old in
    let at_new = ap (λ (o : Outcome (Unit {0})). o.state) is_new in
    let read_tail : ReadAs markup_reading tail_old.state = subst (ReadAs markup_reading) (sym at_old) (read-as markup_reading es _ read_old ((sane_on e.value).rests y es)) in
    let read_tail_new : ReadAs markup_reading tail_new.state = subst (ReadAs markup_reading) (sym at_new) (read-as markup_reading js _ read_new ((sane_on j.value).rests v js)) in
    let flush_of = λ (x : Bool × ℕ) (p : Place) (a : Point). flush-known (inner k levels) ends_block (block-taking k levels) x p a in
    let flush_old : KnownFlush tail_old.state = subst (λ a. KnownFlush a) (sym at_old) (flush_of e.value y es) in
    let flush_new : KnownFlush tail_new.state = subst (λ a. KnownFlush a) (sym at_new) (flush_of j.value v js) in
    -- the closing bracket
    let y2 = moved on.taken (moved t.gap y) in
    let v2 = moved on.taken (moved u.gap v) in
    let y2_is : moved (((fe.taken + e.taken) + rest_old.taken) + tail_old.taken) r.place ≡ y2 =
    (let a : ((fe.taken + e.taken) + rest_old.taken) + tail_old.taken ≡ (fe.taken + e.taken) + (t.gap + on.taken) = omega (arith, took_old) in
    ap (λ x. moved x r.place) a ∙ moved-three fe.taken e.taken (t.gap + on.taken) r.place ∙ moved-sum t.gap on.taken y) in
    let v2_is : moved (((ff.taken + j.taken) + rest_new.taken) + tail_new.taken) q.place ≡ v2 =
    (let a : ((ff.taken + j.taken) + rest_new.taken) + tail_new.taken ≡ (ff.taken + j.taken) + (u.gap + on.taken) = omega (arith, took_new) in
    ap (λ x. moved x q.place) a ∙ moved-three ff.taken j.taken (u.gap + on.taken) q.place ∙ moved-sum u.gap on.taken v) in
    let close_new = close_at k levels i m c w0 in
    let close_old : close ≡ shut k levels y2 (after_node false [] tail_old.state) = ap (λ p. shut k levels p (after_node false [] tail_old.state)) y2_is in
    let last = same_in-shift on.taken _ (moved t.gap y) (moved u.gap v) (same_in-second on.asks _ (moved t.gap y) (moved u.gap v) all) in
    let close_is : forgets close_new ≡ forgets close =
    ap (λ p. forgets (shut k levels p (after_node false [] tail_new.state))) v2_is
    ∙ shut-same k levels y2 v2 tail_old.state tail_new.state read_tail read_tail_new flush_old flush_new (subst (λ (o : Outcome Bool). SameIn o.asks y2 v2) close_old last)
    ∙ sym (ap (λ (o : Outcome Bool). forgets o) close_old) in
    -- the block
    let reads = content-reads k (text_before edit) c among levels name level in
    let ended_of = λ (o : Outcome (Unit {0})). ended o in
    let was = reads z0 ∙ ap ended_of (content-split k levels z s i n h.first_go h.old_go) in
    let mine = reads w0 ∙ ap ended_of (content-split k levels w s i m new_first h.new_go) in
    let now = mine
    ∙ ap (λ os. content_with k levels w s (chain os (chain (then_of i m q) rest_new)) tail_new (close_at k levels i m c w0)) first_is
    ∙ content-forgets k levels w s (chain (first_of i r) (chain (then_of i m q) rest_new)) tail_new close_new
    ∙ ap (λ o. content_with k levels w s (chain (first_of i r) (chain (then_of i m q) rest_new)) tail_new o) close_is
    ∙ sym (content-forgets k levels w s (chain (first_of i r) (chain (then_of i m q) rest_new)) tail_new close) in
    let old_taken : (unit_at c z0).taken ≡ b.taken + (((fe.taken + e.taken) + rest_old.taken) + (tail_old.taken + close.taken)) =
    ap (λ (o : Outcome (Unit {0})). o.taken) was ∙ content-taken k levels z s (chain (first_of i r) (chain (then_of i n r) rest_old)) tail_old close ∙ ap (λ a. b.taken + (a + (tail_old.taken + close.taken))) (split-taken r i n) in
    let new_taken : (unit_at c w0).taken ≡ d.taken + (((ff.taken + j.taken) + rest_new.taken) + (tail_new.taken + close.taken)) =
    ap (λ (o : Outcome (Unit {0})). o.taken) mine ∙ content-taken k levels w s (chain (first_of i q) (chain (then_of i m q) rest_new)) tail_new (close_at k levels i m c w0)
    ∙ ap (λ a. d.taken + (a + (tail_new.taken + (close_at k levels i m c w0).taken))) (split-taken q i m)
    ∙ ap (λ (o : Outcome Bool). d.taken + (((ff.taken + j.taken) + rest_new.taken) + (tail_new.taken + o.taken))) close_is in
    let passes : Passes edit c (past + left_past k levels i n t c z0) = record {
      starts = h.encloses.starts;
      ends = omega (arith, old_taken, h.ends, took_old);
      goes_on = omega (arith, old_taken, h.ends, took_old, h.encloses.ends);
      before = h.before.before;
      after = h.after.behind;
      shifted = omega (arith, new_taken, h.shifted, took_new);
    } in
    record {
      was = was;
      now = now;
      behind = subst (λ o. Exchanged t u o (onwards_at i m (run_at k levels c w0))) (sym is_old) (subst (λ o. Exchanged t u (onwards r e.value y es) o) (sym is_new) behind);
      passes = passes;
      kept = block-law k edit c _ among passes;
    }

-- ---- any run

-- WHAT A RUN IS READ BY: how it is read, and what stands where it begins is known.
pub record Leads (r : Sequence) : Type 0 where
  pub taking : Taking r.level r.stops
  pub stands : Stands r.place r.point.known
  pub known : KnownAt r.point

pub leads-of : (k : CharClasses) (r : Sequence) → IsRun k r → Leads r
unfolding run
leads-of k r (is_text_run z) = record { taking = text-taking k; stands = ((sane-at (rules k) k max_depth peek).kept z start tt).known; known = record { trivia = _; is = refl } }
leads-of k r (is_block_run levels z s) = record {
  taking = block-taking k levels;
  stands = ((sane k levels peek).kept (moved (bracket k levels z s).taken z) (bracket k levels z s).state tt).known;
  known = record { trivia = _; is = refl };
}

pub is-run : {k : CharClasses} {text : List ℕ} (r : Run k text) (z : Place) → IsRun k (read_as r z)
is-run top z = is_text_run z
is-run (block_inner c levels a n l) z = is_block_run levels (moved c.at z) (point_of c.start)

-- A run begins alike in both texts, up to pieces before which all looks end before the stretch.
pub record SameStart (k : CharClasses) (edit : TextReplacement) (r : Run k (text_before edit)) (i : ℕ) : Type 0 where
  pub first : first_of i (read_as r (start_after edit)) ≡ first_of i (read_as r (start_before edit))
  pub opened : opened_by r (start_after edit) ≡ opened_by r (start_before edit)

pub same-start : (k : CharClasses) (edit : TextReplacement) (r : Run k (text_before edit)) (i : ℕ) → Before k edit r i → SameStart k edit r i
same-start k edit top i looks = record { first = (first-same k i (start_before edit) (start_after edit) (λ l. before-same _ edit (looks l))).pieces_same; opened = refl }
same-start k edit (block_inner c levels a b l) i looks = let f = inner-first-same k levels edit c i looks in record { first = f.first; opened = ap (λ (o : Outcome (Unit {0})). c.at + o.taken) f.opened }

pub first-now : (k : CharClasses) (edit : TextReplacement) (r : Run k (text_before edit)) (i : ℕ) → Before k edit r i → AllGo (first_of i (read_as r (start_before edit))) → AllGo (first_of i (read_as r (start_after edit)))
first-now k edit r i looks go = subst (λ os. AllGo os) (sym (same-start k edit r i looks).first) go

-- everything after the joint
pub joined-behind : (k : CharClasses) (edit : TextReplacement) (r : Run k (text_before edit)) (i n m past : ℕ) (t u : Trivia) → PassesJoint k edit r i n m past t u
    → Exchanged t u (onwards_at i n (read_as r (start_before edit))) (onwards_at i m (read_as r (start_after edit)))
joined-behind k edit top i n m past t u h = (joint-law k edit i n m past t u h).behind
joined-behind k edit (block_inner c levels a b l) i n m past t u h = (inner-joint-law k levels edit c a b l i n m past t u h).behind
