-- The law of an edit inside some pieces of a run: of a text's and of a content block's.
use Rattle.typst_edits.proofs.Cited.{◌≡◌, ℕ, ◌+◌, ◌<◌, Bool, true, List, ◌++◌, length, refl, ap, sym, ◌∙◌, subst, arith, suc, ◌==◌, if◌then◌else◌, ne_eqb, false, [], ◌∷◌, Place, moved, CharClasses, SameIn, is_end, too_deep, Point, point_of, state_of, gap_of, peek, flush_trivia, close_if, node, node_with_trivia, repeat, does, Outcome, repeated, run, plain, joined, entered, done, Framed, Within, sane-at, Sane, sane-run, sane-meaning, sane-plain, same_in-shift, same_in-first, same_in-second, moved-sum, markup_run, markup_turn, ends_block, content_block, markup_is_empty, markup_reading, rules, max_depth, start_of, whole, parsed, level_at, Passes, AllGo, asks_of, chain, piece_at, start, lead, tail, whole_of, text_run, same, marked, AtHand, after_node, itself, Parser, ◌>>◌, takes, block_at, Sequence, turn_of, first_of, first_end, then_of, then_end, then_place, rest_of, Spot, ended, unit_at, inner, look_first, look_again, bracket, inner_lead, inner_run, inner_tail, inner_close, content_with, run_at, tail_at, close_at, EndsBefore, run_of, body_of, left_at, content_of, InnerLaw, TextReplacement, text_before, text_after, start_before, start_after}
use Rattle.typst_edits.specs.Runs.{RunLaw, StartLaw}
use Rattle.typst_edits.proofs.Edit.{before-same, after-same}
use Rattle.typst_edits.proofs.Spots.{same_in-at}
use Rattle.typst_edits.proofs.Runs.{repeated-chain, chain-state, split, split-taken, first-again, rest-again, moved-three, moved-four, split-state}
use Rattle.typst_edits.proofs.Text.{block-law, content-reads}
use Rattle.typst_kinds.specs.declared.kind.SyntaxKind.TheVariants as kind
use Rattle.typst_language.specs.declared.calls.Block.TheVariants as block
use Rattle.typst_language.specs.declared.calls.Mark.TheVariants as mark

-- ---- the law of an edit inside some pieces of a text's run

-- A text's reading is that of its pieces and the trivia after them.
pub whole-is : (k : CharClasses) (text : List ℕ) → (let z = start_of text in let r = repeated (piece_at k) (true, 0) z (lead k z).state in parsed k max_depth text ≡ whole_of (lead k z) r (tail k r.taken r.state z))
unfolding run whole markup_run
whole-is k text =
    let z = start_of text in
    let r = repeated (piece_at k) (true, 0) z (lead k z).state in
    let n : 0 + (0 + (0 + (r.taken + 0))) ≡ r.taken = omega arith in
    ap (λ t. whole_of (lead k z) r (tail k t r.state z)) n

module _ (k : CharClasses) where
  pub within : (x : Bool × ℕ) → Within (piece_at k x)
  within x = (sane-at (rules k) k max_depth (markup_turn true is_end x)).within

  pub framed : (x : Bool × ℕ) → Framed (piece_at k x)
  framed x = (sane-at (rules k) k max_depth (markup_turn true is_end x)).framed

  -- The pieces before are the same.
  pub record First (i : ℕ) (z w : Place) : Type 0 where
    pub pieces_same : first_of i (text_run k w) ≡ first_of i (text_run k z)
    pub lead_same : 0 < i → lead k w ≡ lead k z

  pub pieces-same : (i : ℕ) (z w : Place) → (0 < i → SameIn ((lead k z).asks ++ asks_of (first_of i (text_run k z))) z w) → First i z w
  pieces-same i z w h = record {
    pieces_same = first-again (level_at k max_depth) is_end (sane-at (rules k) k max_depth peek).framed framed start i z w h;
    lead_same = λ l. (sane-at (rules k) k max_depth peek).framed z w start (same_in-first (lead k z).asks _ z w (h l));
  }

  tail-same : (n m : ℕ) (s : Point) (z w : Place) → SameIn (tail k n s z).asks (moved n z) (moved m w) → tail k m s w ≡ tail k n s z
  tail-same n m s z w same = (sane-at (rules k) k max_depth flush_trivia).framed (moved n z) (moved m w) s same

pub run-law : RunLaw
run-law k edit i n m past h =
    let z = start_before edit in
    let w = start_after edit in
    let f = pieces-same k i z w (λ l. before-same _ edit (h.before l)) in
    let e = first_end i (text_run k z) in
    let g = then_end i n (text_run k z) in
    let d = first_end i (text_run k w) in
    let c = then_end i m (text_run k w) in
    let t = rest_of i n (text_run k z) in
    let r = chain (first_of i (text_run k z)) (chain (then_of i n (text_run k z)) t) in
    let q = chain (first_of i (text_run k w)) (chain (then_of i m (text_run k w)) (rest_of i m (text_run k w))) in
    let new_first : AllGo (first_of i (text_run k w)) = subst (λ os. AllGo os) (sym f.pieces_same) h.first_go in
    let old_end : (first_end i (text_run k z)).taken + (then_end i n (text_run k z)).taken ≡ (length edit.front + length edit.old) + past = h.ends in
    let new_end : (first_end i (text_run k w)).taken + (then_end i m (text_run k w)).taken ≡ (length edit.front + length edit.new) + past = h.shifted in
    let old_at = (length edit.front + length edit.old) + past in
    let new_at = (length edit.front + length edit.new) + past in
    let all = after-same _ past old_at new_at edit refl refl h.after in
    let z_end : moved g.taken (moved e.taken z) ≡ moved old_at z = sym (moved-sum e.taken g.taken z) ∙ ap (λ j. moved j z) old_end in
    let w_end : moved c.taken (moved d.taken w) ≡ moved new_at w = sym (moved-sum d.taken c.taken w) ∙ ap (λ j. moved j w) new_end in
    let rest_is : rest_of i m (text_run k w) ≡ t = rest-again (text_run k z) (λ x. (sane-at (rules k) k max_depth (repeat (markup_turn true is_end) x)).framed) g c _ _ h.value h.state (same_in-at t.asks _ _ _ _ z_end w_end (same_in-first t.asks _ _ _ all)) in
    let behind = same_in-shift t.taken _ _ _ (same_in-second t.asks _ _ _ all) in
    let u = tail k (old_at + t.taken) t.state z in
    let tail_is : tail k (new_at + t.taken) t.state w ≡ u = tail-same k (old_at + t.taken) (new_at + t.taken) t.state z w (same_in-at u.asks _ _ _ _ (moved-sum old_at t.taken z) (moved-sum new_at t.taken w) behind) in
    let r_taken : r.taken ≡ old_at + t.taken = split-taken (text_run k z) i n ∙ ap (λ j. j + t.taken) old_end in
    let r_state : r.state ≡ t.state = chain-state (first_of i (text_run k z)) _ ∙ chain-state (then_of i n (text_run k z)) t in
    let q_taken : q.taken ≡ new_at + t.taken = split-taken (text_run k w) i m ∙ ap (λ j. j + (rest_of i m (text_run k w)).taken) new_end ∙ ap (λ (o : Outcome (Bool × ℕ)). new_at + o.taken) rest_is in
    let q_state : q.state ≡ t.state = chain-state (first_of i (text_run k w)) _ ∙ chain-state (then_of i m (text_run k w)) _ ∙ ap (λ (o : Outcome (Bool × ℕ)). o.state) rest_is in
    let old_tail : tail k r.taken r.state z ≡ u = ap (λ j. tail k j r.state z) r_taken ∙ ap (λ s. tail k (old_at + t.taken) s z) r_state in
    let new_tail : tail k q.taken q.state w ≡ u = ap (λ j. tail k j q.state w) q_taken ∙ ap (λ s. tail k (new_at + t.taken) s w) q_state ∙ tail_is in
    record {
      first = f.pieces_same;
      lead_same = f.lead_same;
      was = whole-is k (text_before edit) ∙ ap (λ o. whole_of (lead k z) o (tail k o.taken o.state z)) (split (text_run k z) (within k) i n h.first_go h.old_go);
      now = whole-is k (text_after edit) ∙ ap (λ o. whole_of (lead k w) o (tail k o.taken o.state w)) (split (text_run k w) (within k) i m new_first h.new_go)
          ∙ (λ v. whole_of (lead k w) (chain (f.pieces_same v) (chain (then_of i m (text_run k w)) (rest_is v))) ((new_tail ∙ sym old_tail) v));
    }

pub start-law : StartLaw
start-law k edit i g before =
    let w = start_after edit in
    let f = pieces-same k i (start_before edit) w (λ l. before-same _ edit (before l)) in
    let e = repeated-chain (piece_at k) (within k) i (true, 0) w (lead k w).state (subst (λ os. AllGo os) (sym f.pieces_same) g) in
    record {
      first = f.pieces_same;
      lead_same = f.lead_same;
      now = whole-is k (text_after edit) ∙ ap (λ o. whole_of (lead k w) o (tail k o.taken o.state w)) e
          ∙ ap (λ os. (let o = chain os (rest_of i 0 (text_run k w)) in whole_of (lead k w) o (tail k o.taken o.state w))) f.pieces_same;
    }

-- ---- a content block

module _ (k : CharClasses) (levels : ℕ) where
  pub sane : {A : Type 0} (p : Parser A) → Sane (run (inner k levels) p)
  sane p = sane-run (inner k levels) (sane-meaning (rules k) k (suc levels)) (λ b. sane-plain tt) p

  module _ (z : Place) (s : Point) where
    -- the block by its run and by what comes after a given number of characters, in a state
    abbrev pub content_by : Outcome (Bool × ℕ) → Outcome (Unit {0}) → Outcome Bool → Outcome (Unit {0})
    content_by r t close = content_of (look_first k levels z s) (look_again k levels z s) (bracket k levels z s) (body_of (run_of (bracket k levels z s).state (inner_lead k levels z s) r t)) close

    abbrev pub by_run : Outcome (Bool × ℕ) → ℕ → Point → Outcome (Unit {0})
    by_run r n u =
        let place = moved (bracket k levels z s).taken z in
        let t = inner_tail k levels n u place in
        content_by r t (inner_close k levels (n + t.taken) t.state place)

    -- the block by what is read in its run
    abbrev by_exprs : Outcome (Unit {0}) → Outcome (Unit {0})
    by_exprs o =
        let place = moved (bracket k levels z s).taken z in
        let body = body_of (joined o (inner_tail k levels o.taken o.state place)) in
        content_of (look_first k levels z s) (look_again k levels z s) (bracket k levels z s) body (run (inner k levels) (close_if (same kind.RightBracket)) (moved body.taken place) body.state)

    content-open : block_at k (suc levels) block.Content z s ≡ by_exprs (run (inner k levels) (markup_run ends_block) (moved (bracket k levels z s).taken z) (bracket k levels z s).state)
    unfolding run content_block node node_with_trivia markup_is_empty
    content-open = refl

    -- what is read in it, if a level is left
    abbrev exprs_of : Outcome (Bool × ℕ) → Outcome (Unit {0})
    exprs_of o =
        let x = (bracket k levels z s).state in
        joined (plain false x) (joined (record (plain (tt {0}) x) { asks = marked 0 (gap_of x.known) 0 (mark.Piece true 0) (state_of x) ∷ [] }) (joined (inner_lead k levels z s) (joined o (plain (tt {0}) o.state))))

    exprs-is : (let r = inner_run k levels z s in let o = repeated (turn_of r) (true, 0) r.place r.point in run (inner k levels) (markup_run ends_block) r.place (bracket k levels z s).state ≡ exprs_of o)
    unfolding run markup_run
    exprs-is =
        let r = inner_run k levels z s in
        let o = repeated (turn_of r) (true, 0) r.place r.point in
        let x = (bracket k levels z s).state in
        let some : (suc levels == 0) ≡ false = ne_eqb (suc levels) 0 (omega arith) in
        let rest = joined (record (plain (tt {0}) x) { asks = marked 0 (gap_of x.known) 0 (mark.Piece true 0) (state_of x) ∷ [] }) (joined (inner_lead k levels z s) (joined o (plain (tt {0}) o.state))) in
        ap (λ b. joined (record (plain b x) { met = b }) (if b then run (inner k levels) (peek >> too_deep ends_block) r.place x else rest)) some

    pub content-is : (let r = inner_run k levels z s in let o = repeated (turn_of r) (true, 0) r.place r.point in block_at k (suc levels) block.Content z s ≡ by_run o o.taken o.state)
    unfolding run
    content-is =
        let r = inner_run k levels z s in
        let o = repeated (turn_of r) (true, 0) r.place r.point in
        let t = inner_tail k levels o.taken o.state r.place in
        let n : 0 + (0 + (0 + (o.taken + 0))) ≡ o.taken = omega arith in
        let m : (((0 + (0 + (0 + (o.taken + 0)))) + t.taken) + 0) + 0 ≡ o.taken + t.taken = omega arith in
        content-open ∙ ap by_exprs exprs-is
        ∙ ap (λ a. let u = inner_tail k levels a o.state r.place in content_by o u (inner_close k levels ((((0 + (0 + (0 + (o.taken + 0)))) + u.taken) + 0) + 0) u.state r.place)) n
        ∙ ap (λ j. content_by o t (inner_close k levels j t.state r.place)) m

    -- by its pieces
    pub content-split : (i n : ℕ) → (let r = inner_run k levels z s in AllGo (first_of i r) → AllGo (then_of i n r)
        → block_at k (suc levels) block.Content z s ≡ by_run (chain (first_of i r) (chain (then_of i n r) (rest_of i n r))) (((first_end i r).taken + (then_end i n r).taken) + (rest_of i n r).taken) (rest_of i n r).state)
    content-split i n g h =
        let r = inner_run k levels z s in
        let q = chain (first_of i r) (chain (then_of i n r) (rest_of i n r)) in
        content-is
        ∙ ap (λ o. by_run o o.taken o.state) (split r (λ x. (sane (markup_turn true ends_block x)).within) i n g h)
        ∙ ap (λ j. by_run q j q.state) (split-taken r i n)
        ∙ ap (by_run q (((first_end i r).taken + (then_end i n r).taken) + (rest_of i n r).taken)) (split-state r i n)

    -- how many characters it takes
    pub content-taken : (r : Outcome (Bool × ℕ)) (t : Outcome (Unit {0})) (close : Outcome Bool) → (content_by r t close).taken ≡ (bracket k levels z s).taken + (r.taken + (t.taken + close.taken))
    unfolding run
    content-taken r t close = omega arith

  -- what comes after the run, at a place
  abbrev flush_at : Place → Point → Outcome (Unit {0})
  flush_at z s = run (inner k levels) flush_trivia z s

  abbrev pub shut_at : Place → Point → Outcome Bool
  shut_at z s = run (inner k levels) (close_if (same kind.RightBracket)) z (after_node false [] s)

  -- ---- in two texts

  look-same : (z w : Place) (s : Point) → SameIn (look_first k levels z s).asks z w → look_first k levels w s ≡ look_first k levels z s
  look-same z w s h = (sane peek).framed z w s h

  pub bracket-same : (z w : Place) (s : Point) → SameIn ((look_first k levels z s).asks ++ ((look_again k levels z s).asks ++ (bracket k levels z s).asks)) z w → bracket k levels w s ≡ bracket k levels z s
  unfolding run
  bracket-same z w s h =
      let a = same_in-second (look_first k levels z s).asks _ z w h in
      let first = look-same z w s (same_in-first (look_first k levels z s).asks _ z w h) in
      let second : look_again k levels w s ≡ look_again k levels z s =
      ap (λ (o : Outcome AtHand). look_first k levels w o.state) first ∙ look-same z w (look_first k levels z s).state (same_in-first (look_again k levels z s).asks _ z w a) in
      ap (λ (o : Outcome AtHand). done (inner k levels) (takes false itself) w (entered markup_reading o.state)) second
      ∙ (sane (does (takes false itself))).framed z w (entered markup_reading (look_again k levels z s).state) (same_in-second (look_again k levels z s).asks _ z w a)

  -- the run from its bracket on
  abbrev pub seq_by : Outcome (Unit {0}) → Place → Sequence
  seq_by b z = record { level = inner k levels; stops = ends_block; place = moved b.taken z; point = (run (inner k levels) peek (moved b.taken z) b.state).state }

-- If what was looked at before them ends at the stretch or before it, the bracket and the pieces before are the same in both texts.
pub record FirstSame (k : CharClasses) (levels : ℕ) (edit : TextReplacement) (c : Spot (Unit {0})) (i : ℕ) : Type 0 where
  pub opened : (let s = point_of c.start in bracket k levels (moved c.at (start_after edit)) s ≡ bracket k levels (moved c.at (start_before edit)) s)
  pub first : first_of i (run_at k levels c (start_after edit)) ≡ first_of i (run_at k levels c (start_before edit))

pub first-same : (k : CharClasses) (levels : ℕ) (edit : TextReplacement) (c : Spot (Unit {0})) (i : ℕ) → EndsBefore k levels edit c i → FirstSame k levels edit c i
first-same k levels edit c i h =
    let z0 = start_before edit in
    let w0 = start_after edit in
    let z = moved c.at z0 in
    let w = moved c.at w0 in
    let s = point_of c.start in
    let b = bracket k levels z s in
    let opened : bracket k levels w s ≡ b = bracket-same k levels z w s (same_in-shift c.at _ z0 w0 (before-same _ edit h.opens)) in
    let shown : 0 < i → SameIn ((inner_lead k levels z s).asks ++ asks_of (first_of i (run_at k levels c z0))) (moved b.taken z) (moved b.taken w) = λ l.
    same_in-at _ _ _ _ _ (sym (moved-sum c.at b.taken z0)) (sym (moved-sum c.at b.taken w0)) (same_in-shift (c.at + b.taken) _ z0 w0 (before-same _ edit (h.before_run l))) in
    record { opened = opened; first = ap (λ o. first_of i (seq_by k levels o w)) opened ∙ first-again (inner k levels) ends_block (sane k levels peek).framed (λ x. (sane k levels (markup_turn true ends_block x)).framed) b.state i (moved b.taken z) (moved b.taken w) shown }

pub inner-law : InnerLaw
inner-law k levels edit c i n m past among h =
    let z0 = start_before edit in
    let w0 = start_after edit in
    let z = moved c.at z0 in
    let w = moved c.at w0 in
    let s = point_of c.start in
    let r = run_at k levels c z0 in
    let q = run_at k levels c w0 in
    let b = bracket k levels z s in
    let d = bracket k levels w s in
    let first_is : first_of i q ≡ first_of i r = (first-same k levels edit c i h.pieces.looks).first in
    let new_first : AllGo (first_of i q) = subst (λ os. AllGo os) (sym first_is) h.pieces.first_go in
    let e = first_end i r in
    let g = then_end i n r in
    let f = first_end i q in
    let j = then_end i m q in
    let t = rest_of i n r in
    let u = rest_of i m q in
    let tail = tail_at k levels i n c z0 in
    let close = close_at k levels i n c z0 in
    let old_at = (length edit.front + length edit.old) + past in
    let new_at = (length edit.front + length edit.new) + past in
    let y = then_place i n r in
    let v = then_place i m q in
    let y_is : y ≡ moved old_at z0 = moved-four c.at b.taken e.taken g.taken z0 ∙ ap (λ a. moved a z0) h.ends in
    let v_is : v ≡ moved new_at w0 = moved-four c.at d.taken f.taken j.taken w0 ∙ ap (λ a. moved a w0) h.shifted in
    let all = same_in-at _ _ _ _ _ y_is v_is (after-same _ past old_at new_at edit refl refl h.looks.inside) in
    let rest_is : u ≡ t = rest-again r (λ x. (sane k levels (repeat (markup_turn true ends_block) x)).framed) g j y v h.value h.state (same_in-first t.asks _ y v all) in
    let behind = same_in-shift t.taken _ y v (same_in-second t.asks _ y v all) in
    let y1 = moved t.taken y in
    let v1 = moved t.taken v in
    let y1_is : moved ((e.taken + g.taken) + t.taken) r.place ≡ y1 = moved-three e.taken g.taken t.taken r.place in
    let v1_is : moved ((f.taken + j.taken) + u.taken) q.place ≡ v1 = moved-three f.taken j.taken u.taken q.place ∙ ap (λ (o : Outcome (Bool × ℕ)). moved o.taken v) rest_is in
    let tail_old : tail ≡ flush_at k levels y1 t.state = ap (λ a. flush_at k levels a t.state) y1_is in
    let tail_is : tail_at k levels i m c w0 ≡ tail =
    ap (λ a. flush_at k levels a u.state) v1_is ∙ ap (λ (o : Outcome (Bool × ℕ)). flush_at k levels v1 o.state) rest_is
    ∙ (sane k levels flush_trivia).framed y1 v1 t.state (subst (λ (o : Outcome (Unit {0})). SameIn o.asks y1 v1) tail_old (same_in-first tail.asks _ y1 v1 behind)) ∙ sym tail_old in
    let y2 = moved tail.taken y1 in
    let v2 = moved tail.taken v1 in
    let y2_is : moved (((e.taken + g.taken) + t.taken) + tail.taken) r.place ≡ y2 = moved-sum ((e.taken + g.taken) + t.taken) tail.taken r.place ∙ ap (moved tail.taken) y1_is in
    let v2_is : moved (((f.taken + j.taken) + u.taken) + (tail_at k levels i m c w0).taken) q.place ≡ v2 =
    moved-sum ((f.taken + j.taken) + u.taken) (tail_at k levels i m c w0).taken q.place ∙ ap (moved (tail_at k levels i m c w0).taken) v1_is ∙ ap (λ (o : Outcome (Unit {0})). moved o.taken v1) tail_is in
    let close_old : close ≡ shut_at k levels y2 tail.state = ap (λ a. shut_at k levels a tail.state) y2_is in
    let last = same_in-shift tail.taken _ y1 v1 (same_in-second tail.asks _ y1 v1 behind) in
    let close_is : close_at k levels i m c w0 ≡ close =
    ap (λ a. shut_at k levels a (tail_at k levels i m c w0).state) v2_is ∙ ap (λ (o : Outcome (Unit {0})). shut_at k levels v2 o.state) tail_is
    ∙ (sane k levels (close_if (same kind.RightBracket))).framed y2 v2 (after_node false [] tail.state) (subst (λ (o : Outcome Bool). SameIn o.asks y2 v2) close_old last) ∙ sym close_old in
    let reads = content-reads k (text_before edit) c among levels h.pieces.name h.pieces.level in
    let ended_of = λ (o : Outcome (Unit {0})). ended o in
    let was = reads z0 ∙ ap ended_of (content-split k levels z s i n h.pieces.first_go h.pieces.old_go) in
    let now = reads w0 ∙ ap ended_of (content-split k levels w s i m new_first h.pieces.new_go)
    ∙ (λ v. content_with k levels w s (chain (first_is v) (chain (then_of i m q) (rest_is v))) (tail_is v) (close_is v)) in
    let old_taken : (unit_at c z0).taken ≡ b.taken + (((e.taken + g.taken) + t.taken) + (tail.taken + close.taken)) =
    ap (λ (o : Outcome (Unit {0})). o.taken) was ∙ content-taken k levels z s (chain (first_of i r) (chain (then_of i n r) t)) tail close ∙ ap (λ a. b.taken + (a + (tail.taken + close.taken))) (split-taken r i n) in
    let p = chain (first_of i q) (chain (then_of i m q) u) in
    let new_chain : (chain (first_of i r) (chain (then_of i m q) t)).taken ≡ p.taken = sym (ap (λ os. (chain os (chain (then_of i m q) u)).taken) first_is ∙ ap (λ o. (chain (first_of i r) (chain (then_of i m q) o)).taken) rest_is) in
    let same_rest : u.taken ≡ t.taken = ap (λ (o : Outcome (Bool × ℕ)). o.taken) rest_is in
    let new_taken : (unit_at c w0).taken ≡ d.taken + (p.taken + (tail.taken + close.taken)) =
    ap (λ (o : Outcome (Unit {0})). o.taken) now ∙ content-taken k levels w s (chain (first_of i r) (chain (then_of i m q) t)) tail close ∙ ap (λ a. d.taken + (a + (tail.taken + close.taken))) new_chain in
    let passes : Passes edit c (past + left_at k levels i n c z0) = record {
      starts = h.pieces.starts;
      ends = omega (arith, old_taken, h.ends);
      goes_on = h.goes_on;
      before = h.pieces.looks.before;
      after = h.looks.behind;
      shifted = omega (arith, new_taken, h.shifted, split-taken q i m, same_rest);
    } in
    record { was = was; now = now; passes = passes; kept = block-law k edit c _ among passes }
