-- Where the pieces of a run begin among the nodes that it gives.
use Rattle.typst_edits.proofs.Cited.{inr, ◌≡◌, ℕ, zero, suc, ◌+◌, ◌-◌, ◌<◌, ◌≤◌, Bool, true, false, ◌&&◌, nat_lt, List, [], ◌∷◌, ◌++◌, length, take, drop, length-append, append_assoc, append-nil, Option, None, Some, refl, ap, sym, ◌∙◌, subst, arith, codes, lt-ltb, nil_from_length, Place, moved, CharClasses, Tree, forest, trees, text_of, inner_of, made_error, width, as_at_hand, hand_at, utf8_ahead, Trivia, Point, point_of, gap_of, pending, turns_wrong, itself, keeps, peek, flush_trivia, does, repeat, Outcome, Meaning, plain, less, joined, repeated, start_point, entered, hand_of, asked, run, Tidy, Backs, Stands, Sane, sane-run, texts, texts-append, texts-one, texts-first, text-shaped, text-add, Holds, kept-joined, less-none, moved-sum, ends, markup_turn, markup_reading, rules, max_depth, start_of, whole, parsed, look_first, look_again, bracket, run_at, tail_at, close_at, Settles, together, standing_by, nodes_after, Among, Every, block_with, onwards_at, text_run, bytes_of, LeadsAt, opening_child, LeadingInner, blocks_of_text, goes, given, made, AllGo, End, end_of, chain, Sequence, turn_of, first_of, first_end, then_of, then_end, then_place, rest_of, Spot, last_node, unit_at, ended, true_from_ne_false, both_ways, Run, read_as, top, is_text_run, is_block_run, is_over, opened_by, markup_from, run_from, token_after, token_past, TakesSome, kids_in, kids_of_run, passed, onwards, Keeps, blank-nil}
use Rattle.typst_edits.specs.Frame.{inner as block_inner}
use Rattle.typst_edits.specs.Leading.{LeadingLaw, LeadingInnerLaw}
use Rattle.typst_kinds.specs.declared.kind.SyntaxKind.TheVariants as kind
use Rattle.typst_language.specs.declared.calls.Block.TheVariants as block
use Rattle.typst_language.specs.Syntax.Op.{takes as takes_token}
use Rattle.typst_edits.proofs.BlockRuns.{sane as in-sane, content-split}
use Rattle.typst_edits.proofs.Blocks.{ends as block-ends, last-is}
use Rattle.typst_edits.proofs.Boundary.{KnownAt, turn-goes, known-made}
use Rattle.typst_edits.proofs.Children.{Fronts, Opens, fronts-joined, turn-fronts, pieces-front, given-together, tidy-together, standing-is, behind-back, opens-by, node-is, pieces-quiet, close-quiet, kids-are, begun-at}
use Rattle.typst_edits.proofs.Edit.{among, trees-of}
use Rattle.typst_edits.proofs.Content.{same-here}
use Rattle.typst_edits.proofs.Fronts.{Full, full-append, full-less}
use Rattle.typst_edits.proofs.Joint.{Leads, block-taking, is-run, leads-of, onwards-fronted}
use Rattle.typst_edits.proofs.Spots.{Lawful}
use Rattle.typst_edits.proofs.Law.{inside-level}
use Rattle.typst_edits.proofs.Turns.{Fronted, before_trivia, drop-front, less-behind, stopped}
use Rattle.typst_edits.proofs.Runs.{repeated-chain, chain-state, chain-taken, moved-three}
use Rattle.typst_edits.proofs.RunTrees.{standing-none, tree-is}
use Rattle.typst_edits.proofs.Walk.{width-encodes}
use Rattle.typst_edits.proofs.Text.{content-reads}
use Rattle.typst_edits.proofs.Positions.{NoMarkup, bracket-plain, close-plain}
use Rattle.typst_edits.proofs.Widths.{width-none}
use Rattle.typst_edits.proofs.Every.{first_or}

-- ---- nodes

pub bytes-append : (ts us : List Tree) → bytes_of (ts ++ us) ≡ bytes_of ts + bytes_of us
bytes-append ts us = let e = ap length (texts-append ts us) in let sum = length-append (texts ts) (texts us) in omega (arith, e, sum)

pub bytes-first : (t : Tree) (ts : List Tree) → bytes_of (t ∷ ts) ≡ length (text_of t) + bytes_of ts
bytes-first t ts = let e = ap length (texts-first t ts) in let sum = length-append (text_of t) (texts ts) in omega (arith, e, sum)

-- Of two ways to split the same nodes before one that isn't empty only one has a given number of bytes before it.
part-is : (xs : List Tree) (x : Tree) (us left : List Tree) (y : Tree) (vs : List Tree) → left ++ y ∷ vs ≡ xs ++ x ∷ us → 0 < length (text_of x) → 0 < length (text_of y) → bytes_of xs ≡ bytes_of left → length xs ≡ length left
part-is [] x us [] y vs e h i b = refl
part-is [] x us (l ∷ left) y vs e h i b =
    let same : length (text_of l) ≡ length (text_of x) = ap (λ ts. length (text_of (first_or x ts))) e in
    absurd (omega (arith, same, bytes-first l left, h, b))
part-is (l ∷ xs) x us [] y vs e h i b =
    let same : length (text_of y) ≡ length (text_of l) = ap (λ ts. length (text_of (first_or x ts))) e in
    absurd (omega (arith, same, bytes-first l xs, i, b))
part-is (l ∷ xs) x us (m ∷ left) y vs e h i b =
    let same : length (text_of m) ≡ length (text_of l) = ap (λ ts. length (text_of (first_or x ts))) e in
    ap suc (part-is xs x us left y vs (ap (drop 1) e) h i (omega (arith, same, bytes-first l xs, bytes-first m left, b)))

-- A full node after others leads where these end.
pub leads-at : (from : ℕ) (ts left right : List Tree) (at : ℕ) → ts ≡ left ++ right → Full right → from + bytes_of left ≡ at → LeadsAt from ts at (length left)
leads-at from ts left [] at is full begins = absurd full
leads-at from ts left (y ∷ right) at is full begins = record {
  left = left;
  node = y;
  right = right;
  is = is;
  here = refl;
  begins = begins;
  full = full;
  alone = λ before x behind e there some. part-is before x behind left y right (sym is ∙ e) some full (omega (arith, begins, there));
}

-- the bytes of a given number of characters after others
bytes-on : (text : List ℕ) (a d : ℕ) → width (take a text) + length (utf8_ahead d (moved a (start_of text))) ≡ width (take (a + d) text)
bytes-on text a d =
    let z = start_of text in
    omega (arith, length-append (utf8_ahead a z) (utf8_ahead d (moved a z)), ap length (text-add a d z), width-encodes (take a text), width-encodes (take (a + d) text))

-- ---- pieces

module _ {A : Type 0} (m : A → Meaning (Bool × A)) (keeps : (x : A) → Keeps (m x)) (backs : (x : A) → Backs (m x)) where
  -- several pieces hold what they take
  pub kept-together : (n : ℕ) (x : A) (z : Place) (s : Point) → Stands z s.known → (let os = made m n x z s in Holds z (together (end_of x s os).state os))
  kept-together zero x z s h = record { text = refl; known = h; blank = blank-nil s.empties }
  kept-together (suc n) x z s h =
      let o = m x z s in
      let y = moved o.taken z in
      let os = made m n o.value.1 y o.state in
      let first = keeps x z s h in
      kept-joined z o (together (end_of o.value.1 o.state os).state os) first (kept-together n o.value.1 y o.state first.known) (tidy-together m backs n o.value.1 y o.state)

module _ (r : Sequence) (leads : Leads r) where
  abbrev pub turn : Bool × ℕ → Meaning (Bool × (Bool × ℕ))
  turn x = turn_of r x

  pub sane : (x : Bool × ℕ) → Sane (turn x)
  sane x = sane-run r.level leads.taking.calls_sane leads.taking.blocks_sane (markup_turn true r.stops x)

  turn-goes-on : (x : Bool × ℕ) (z : Place) (s : Point) (t : Trivia) → s.known ≡ Some t → ends r.stops x.1 (as_at_hand (hand_of r.level z s)).kind ≡ false → goes (turn x z s) ≡ true
  turn-goes-on x z s t is go =
      let o = turn x z s in
      let led = (turn-fronts r.level r.stops leads.taking x z s t is go).led in
      let some : 0 < o.taken = omega (arith, led.some, led.front.taken) in
      ap (λ b. b && nat_lt 0 o.taken) (turn-goes r.level r.stops x z s go) ∙ lt-ltb 0 o.taken some

  -- Where none goes on, the run ends.
  pub turn-over : (x : Bool × ℕ) (z : Place) (s : Point) → KnownAt s → goes (turn x z s) ≡ false → ends r.stops x.1 (as_at_hand (hand_of r.level z s)).kind ≡ true
  turn-over x z s there stopped = true_from_ne_false (ends r.stops x.1 (as_at_hand (hand_of r.level z s)).kind) (λ e. both_ways _ stopped (turn-goes-on x z s there.trivia there.is e))

  -- all after some pieces, where another follows
  rest-front : (x : Bool × ℕ) (z : Place) (s : Point) (t : Trivia) (last : Outcome (Unit {0})) → s.known ≡ Some t → Tidy (repeated turn x z s).state last → ends r.stops x.1 (as_at_hand (hand_of r.level z s)).kind ≡ false
      → Fronts t (joined (repeated turn x z s) last)
  unfolding run
  rest-front x z s t last is tidy go =
      let o = turn x z s in
      let p = repeated turn x z s in
      let w = moved (o.taken + 0) z in
      let q = repeated turn o.value.1 w o.state in
      let parts : p ≡ joined o q = repeated-chain turn (λ v. (sane v).within) 1 x z s (turn-goes-on x z s t is go, tt) in
      let one = fronts-joined t o q (turn-fronts r.level r.stops leads.taking x z s t is go) ((sane-run r.level leads.taking.calls_sane leads.taking.blocks_sane (repeat (markup_turn true r.stops) o.value.1)).backs w o.state) in
      fronts-joined t p last (subst (λ u. Fronts t u) (sym parts) one) tidy

  flush-nodes : (z : Place) (s : Point) (t : Trivia) → s.known ≡ Some t → (run r.level flush_trivia z s).nodes ≡ t.nodes
  unfolding run flush_trivia hand_at less
  flush-nodes z s t is =
      let same : s ≡ before_trivia s.reading s.held s.empties s.is_after_error t = ap (λ u. record s { known = u }) is in
      ap (λ p. (run r.level flush_trivia z p).nodes) same ∙ ap (λ ts. ts ++ []) (less-none t.nodes) ∙ append-nil t.nodes

  rest-over : (x : Bool × ℕ) (z : Place) (s : Point) (t : Trivia) → s.known ≡ Some t → ends r.stops x.1 (as_at_hand (hand_of r.level z s)).kind ≡ true
      → (let p = repeated turn x z s in (joined p (run r.level flush_trivia (moved p.taken z) p.state)).nodes ≡ t.nodes)
  unfolding hand_at
  rest-over x z s t is over =
      let l = r.level in
      let after = asked (hand_of l z s) s in
      let same : s ≡ before_trivia s.reading s.held s.empties s.is_after_error t = ap (λ u. record s { known = u }) is in
      let flushed = run l flush_trivia z after in
      let known_there : after.known ≡ Some t = ap (λ p. (asked (hand_of l z p) p).known) same in
      ap (λ (p : Outcome (Bool × ℕ)). (joined p (run l flush_trivia (moved p.taken z) p.state)).nodes) (stopped r.level r.stops leads.taking x z s over) ∙ standing-none flushed ∙ flush-nodes z after t known_there

  -- ---- the first i pieces and the n that follow

  module _ (text : List ℕ) (a : ℕ) (there : r.place ≡ moved a (start_of text)) (i n : ℕ) (g : AllGo (first_of i r)) (h : AllGo (then_of i n r)) where
    abbrev e : End (Bool × ℕ)
    e = first_end i r

    abbrev f : End (Bool × ℕ)
    f = then_end i n r

    abbrev w : Place
    w = moved e.taken r.place

    abbrev q : Outcome (Unit {0})
    q = together e.state (first_of i r)

    abbrev p : Outcome (Unit {0})
    p = together f.state (then_of i n r)

    abbrev before : List Tree
    before = less p.back (given (first_of i r) [])

    q-taken : q.taken ≡ e.taken
    q-taken = let sum = chain-taken (true, 0) r.point (first_of i r) (plain (tt {0}) e.state) in omega (arith, sum)

    p-taken : p.taken ≡ f.taken
    p-taken = let sum = chain-taken e.value e.state (then_of i n r) (plain (tt {0}) f.state) in omega (arith, sum)

    q-state : q.state ≡ e.state
    q-state = chain-state (first_of i r) (plain (tt {0}) e.state)

    p-state : p.state ≡ f.state
    p-state = chain-state (then_of i n r) (plain (tt {0}) f.state)

    holds-q : Holds r.place q
    holds-q = kept-together turn (λ x. (sane x).kept) (λ x. (sane x).backs) i (true, 0) r.place r.point leads.stands

    stands-e : Stands w e.state.known
    stands-e = subst (λ (s : Point). Stands w s.known) q-state (subst (λ d. Stands (moved d r.place) q.state.known) q-taken holds-q.known)

    holds-p : Holds w p
    holds-p = kept-together turn (λ x. (sane x).kept) (λ x. (sane x).backs) n e.value w e.state stands-e

    -- What stands before them holds what the i pieces take.
    before-text : texts before ≡ utf8_ahead e.taken r.place
    before-text =
        let few : p.back ≤ q.state.empties = subst (λ (s : Point). p.back ≤ s.empties) (sym q-state) (tidy-together turn (λ x. (sane x).backs) n e.value w e.state).back in
        ap (λ ts. texts (less p.back ts)) (given-together e.state (first_of i r) [] ∙ standing-none q) ∙ holds-q.blank p.back few ∙ holds-q.text ∙ ap (λ d. utf8_ahead d r.place) q-taken

    pending-text : (z : Place) (u : Option Trivia) → Stands z u → texts (pending u) ≡ utf8_ahead (gap_of u) z
    pending-text z None s = refl
    pending-text z (Some t) s = s

    -- bytes from the text's start
    from-start : (d : ℕ) → width (take a text) + length (utf8_ahead d r.place) ≡ width (take (a + d) text)
    from-start d = let here = ap (λ y. length (utf8_ahead d y)) there in let on = bytes-on text a d in omega (arith, here, on)

    -- the one that leads where they begin
    pub first-leads : (from at : ℕ) (kids rest : List Tree) (back : ℕ) (ts : List Tree) → from ≡ width (take a text) → at ≡ width (take (a + (e.taken + gap_of e.state.known)) text) → 0 < n → back ≤ f.state.empties
        → kids ≡ before ++ ((less back p.nodes ++ ts) ++ rest) → LeadsAt from kids at (length before + length (pending e.state.known))
    first-leads from at kids rest back ts from_is at_is some few is =
        let there_known = known-made r.level r.stops i (true, 0) r.place r.point leads.known g in
        let us = pending e.state.known in
        let us_is : us ≡ there_known.trivia.nodes = ap pending there_known.is in
        let o = pieces-front r.level r.stops leads.taking n e.value w e.state there_known.trivia there_known.is some h in
        let empties = ap (λ (s : Point). s.empties) p-state in
        let short : back < length o.led.front.rest = omega (arith, few, o.led.few, ap (λ (s : Point). s.empties) o.led.state, empties) in
        let kept = less back o.led.front.rest in
        let right = (kept ++ ts) ++ rest in
        let mine : less back p.nodes ≡ us ++ kept = ap (less back) o.led.front.nodes ∙ less-behind back there_known.trivia.nodes o.led.front.rest (omega (arith, short)) ∙ ap (λ xs. xs ++ kept) (sym us_is) in
        let all : kids ≡ (before ++ us) ++ right =
        is ∙ ap (λ xs. before ++ ((xs ++ ts) ++ rest)) mine ∙ ap (λ xs. before ++ (xs ++ rest)) (append_assoc us kept ts) ∙ ap (λ xs. before ++ xs) (append_assoc us (kept ++ ts) rest) ∙ sym (append_assoc before us right) in
        let full = full-append (kept ++ ts) rest (full-append kept ts (full-less back o.led.front.rest short o.led.full)) in
        let text_is : texts (before ++ us) ≡ utf8_ahead (e.taken + gap_of e.state.known) r.place =
        texts-append before us ∙ ap (λ xs. xs ++ texts us) before-text ∙ ap (λ xs. utf8_ahead e.taken r.place ++ xs) (pending-text w e.state.known stands-e) ∙ text-add e.taken (gap_of e.state.known) r.place in
        let begins : from + bytes_of (before ++ us) ≡ at = omega (arith, ap length text_is, from-start (e.taken + gap_of e.state.known), from_is, at_is) in
        subst (λ d. LeadsAt from kids at d) (length-append before us) (leads-at from kids (before ++ us) right at all full begins)

    -- where they end, with the trivia after them
    pub ends-at : (from at back : ℕ) (t : Trivia) → f.state.known ≡ Some t → from ≡ width (take a text) → at ≡ width (take (a + ((e.taken + f.taken) + gap_of f.state.known)) text) → back ≤ f.state.empties
        → from + bytes_of (before ++ (less back p.nodes ++ t.nodes)) ≡ at
    ends-at from at back t known_there from_is at_is few =
        let olds = less back p.nodes ++ t.nodes in
        let ts_is : texts t.nodes ≡ utf8_ahead (gap_of f.state.known) (moved f.taken w) = ap (λ u. texts (pending u)) (sym known_there) ∙ pending-text (moved f.taken w) f.state.known (subst (λ (s : Point). Stands (moved f.taken w) s.known) p-state (subst (λ d. Stands (moved d w) p.state.known) p-taken holds-p.known)) in
        let olds_is : texts olds ≡ utf8_ahead (f.taken + gap_of f.state.known) w =
        texts-append (less back p.nodes) t.nodes ∙ ap (λ xs. xs ++ texts t.nodes) (holds-p.blank back (subst (λ (s : Point). back ≤ s.empties) (sym p-state) few) ∙ holds-p.text ∙ ap (λ d. utf8_ahead d w) p-taken) ∙ ap (λ xs. utf8_ahead f.taken w ++ xs) ts_is ∙ text-add f.taken (gap_of f.state.known) w in
        let text_is : texts (before ++ olds) ≡ utf8_ahead (e.taken + (f.taken + gap_of f.state.known)) r.place =
        texts-append before olds ∙ ap (λ xs. xs ++ texts olds) before-text ∙ ap (λ xs. utf8_ahead e.taken r.place ++ xs) olds_is ∙ text-add e.taken (f.taken + gap_of f.state.known) r.place in
        let apart : e.taken + (f.taken + gap_of f.state.known) ≡ (e.taken + f.taken) + gap_of f.state.known = omega arith in
        omega (arith, ap length text_is, from-start (e.taken + (f.taken + gap_of f.state.known)), ap (λ d. width (take (a + d) text)) apart, from_is, at_is)

    -- and the one where they end
    pub next-leads : (from at : ℕ) (kids rest : List Tree) (t : Trivia) (last : Outcome (Unit {0})) → f.state.known ≡ Some t → from ≡ width (take a text) → at ≡ width (take (a + ((e.taken + f.taken) + gap_of f.state.known)) text)
        → Tidy (rest_of i n r).state last → is_over i n r ≡ false
        → (let o = joined (rest_of i n r) last in o.back ≤ f.state.empties → o.nodes ≡ t.nodes ++ rest → kids ≡ before ++ ((less o.back p.nodes ++ t.nodes) ++ rest) → LeadsAt from kids at (length before + length (less o.back p.nodes ++ t.nodes)))
    next-leads from at kids rest t last known_there from_is at_is tidy go few nodes is =
        let o = joined (rest_of i n r) last in
        let front = rest-front f.value (then_place i n r) f.state t last known_there tidy go in
        let rest_is : front.led.front.rest ≡ rest = sym (ap (drop (length t.nodes)) front.led.front.nodes ∙ drop-front t.nodes front.led.front.rest (length t.nodes) refl) ∙ ap (drop (length t.nodes)) nodes ∙ drop-front t.nodes rest (length t.nodes) refl in
        let olds = less o.back p.nodes ++ t.nodes in
        let all : kids ≡ (before ++ olds) ++ rest = is ∙ sym (append_assoc before olds rest) in
        subst (λ d. LeadsAt from kids at d) (length-append before olds) (leads-at from kids (before ++ olds) rest at all (subst (λ xs. Full xs) rest_is front.led.full) (ends-at from at o.back t known_there from_is at_is few))

none-behind : (ts rest us : List Tree) → us ≡ ts ++ rest → us ≡ ts → rest ≡ []
none-behind ts rest us e d = let sum = length-append ts rest in let one = ap length e in let two = ap length d in nil_from_length rest (omega (arith, sum, one, two))

-- ---- a content block's run

-- Its bracket holds the same if it is an error.
opening-text : (closed : Bool) (bracket : Tree) → length (text_of (opening_child closed bracket)) ≡ length (text_of bracket)
opening-text true bracket = refl
opening-text false bracket =
    ap length (sym (texts-one (made_error (codes "unclosed delimiter") bracket)) ∙ text-shaped (keeps (turns_wrong (codes "unclosed delimiter"))) (bracket ∷ []) ∙ texts-one bracket)

-- Of a content block's children only the second is markup.
pub record Plain (x : Tree) : Type 0 where
  pub closed : Bool
  pub bracket : Tree
  pub kids : List Tree
  pub closing : List Tree
  pub node : x ≡ block_with closed bracket kids closing
  pub first : NoMarkup bracket
  pub last : Every NoMarkup closing

-- a content block's node, by what stands in its markup
record Held (text : List ℕ) (c : Spot (Unit {0})) (from : ℕ) (kids : List Tree) : Type 0 where
  closed : Bool
  bracket : Tree
  closing : List Tree
  opening : width (take c.at text) + length (text_of (opening_child closed bracket)) ≡ from
  node : c.node ≡ block_with closed bracket kids closing
  -- Its brackets are no markup.
  plain : NoMarkup bracket
  plain_end : Every NoMarkup closing

module _ (k : CharClasses) (levels : ℕ) (text : List ℕ) (c : Spot (Unit {0})) (chosen : Among c (blocks_of_text k text)) (name : c.name ≡ block.Content) (left : max_depth - c.fewer ≡ suc levels) (takes : 0 < (unit_at c (start_of text)).taken) where
  abbrev z1 : Place
  z1 = start_of text

  abbrev r1 : Sequence
  r1 = run_at k levels c z1

  -- The bracket holds what it takes.
  bracket-text : (let y = moved c.at z1 in let o = bracket k levels y (point_of c.start) in texts o.nodes ≡ utf8_ahead o.taken y)
  unfolding run
  bracket-text =
      let y = moved c.at z1 in
      let s = point_of c.start in
      let second = (in-sane k levels peek).kept y (look_first k levels y s).state ((in-sane k levels peek).kept y s tt).known in
      ((in-sane k levels (does (takes_token false itself))).kept y (entered markup_reading (look_again k levels y s).state) second.known).text

  opens : Opens k levels (moved c.at z1) (point_of c.start)
  opens = opens-by k levels (moved c.at z1) (point_of c.start) (begun-at k levels text c chosen name left z1 (same-here c.before z1) takes)

  -- No error stands before its run.
  pub no-errors : r1.point.empties ≡ 0
  unfolding run
  no-errors = opens.empties

  -- the block's node
  node-of : (i n : ℕ) (t : Trivia) (rest : List Tree) → AllGo (first_of i r1) → AllGo (then_of i n r1) → Settles n (onwards_at i n r1) → (onwards_at i n r1).hints ≡ [] → (onwards_at i n r1).nodes ≡ t.nodes ++ rest
      → Held text c (markup_from k levels text c) (standing_by i n r1 ++ (nodes_after i n t r1 ++ rest))
  unfolding blocks_of_text
  node-of i n t rest g h some hints nodes =
      let s = point_of c.start in
      let y = moved c.at z1 in
      let o = parsed k max_depth text in
      let l = among (Lawful z1 z1 o o) c _ chosen (inside-level (rules k) k (block-ends k) max_depth whole z1 z1 (start_point markup_reading)) in
      let close = close_at k levels i n c z1 in
      let last = tail_at k levels i n c z1 in
      let m = ((first_end i r1).taken + (then_end i n r1).taken) + (rest_of i n r1).taken in
      let shut = close-quiet k levels (m + last.taken) last.state r1.place in
      let was : (unit_at c z1).nodes ≡ block_with close.value opens.node (standing_by i n r1 ++ (nodes_after i n t r1 ++ rest)) close.nodes ∷ [] =
      ap (λ (a : Outcome (Unit {0})). a.nodes) (content-reads k text c chosen levels name left z1 ∙ ap (λ (a : Outcome (Unit {0})). ended a) (content-split k levels y s i n g h))
      ∙ node-is k levels y s (chain (first_of i r1) (chain (then_of i n r1) (rest_of i n r1))) last close opens (pieces-quiet k levels y s i n opens g h) shut
      ∙ ap (λ ts. block_with close.value opens.node ts close.nodes ∷ []) (kids-are k levels c z1 i n t rest some g h hints nodes) in
      let long : length (text_of (opening_child close.value opens.node)) ≡ length (utf8_ahead (bracket k levels y s).taken y) = opening-text close.value opens.node ∙ ap length (sym (texts-one opens.node) ∙ sym (ap texts opens.nodes) ∙ bracket-text) in
      record {
        closed = close.value;
        bracket = opens.node;
        closing = close.nodes;
        opening = omega (arith, long, bytes-on text c.at (bracket k levels y s).taken);
        node = sym (last-is c.front c.node) ∙ ap last_node (sym l.fits.nodes ∙ was);
        plain = bracket-plain k levels y s opens.node opens.nodes;
        plain_end = close-plain k levels m (m + last.taken) (rest_of i n r1).state r1.place r1.place;
      }

  -- without a piece before
  abbrev known : KnownAt r1.point
  known = (leads-of k r1 (is_block_run levels (moved c.at z1) (point_of c.start))).known

  abbrev front : Fronted known.trivia known.trivia.nodes (onwards_at 0 0 r1) (onwards r1 (true, 0) (moved known.trivia.gap (then_place 0 0 r1)) (passed known.trivia r1.point))
  front = onwards-fronted r1 (block-taking k levels) 0 0 known.trivia known.is

  held : Held text c (markup_from k levels text c) (standing_by 0 0 r1 ++ (nodes_after 0 0 known.trivia r1 ++ front.rest))
  held = node-of 0 0 known.trivia front.rest tt tt (inr (omega (arith, behind-back k r1 (is_block_run levels (moved c.at z1) (point_of c.start)) 0 0, no-errors))) front.hints front.nodes

  -- which of its children is markup
  pub plain-block : Plain c.node
  plain-block = record { closed = held.closed; bracket = held.bracket; kids = _; closing = held.closing; node = held.node; first = held.plain; last = held.plain_end }

  pub node-shape : LeadingInner k levels text c
  node-shape = record {
    closed = held.closed;
    bracket = held.bracket;
    closing = held.closing;
    node = held.node ∙ ap (λ ts. block_with held.closed held.bracket ts held.closing) (sym (ap kids_in held.node ∙ trees-of _));
    opening = held.opening;
  }

pub leading-inner-law : LeadingInnerLaw
leading-inner-law k levels text c chosen name left takes = node-shape k levels text c chosen name left takes

-- ---- any run

pub place-of : {k : CharClasses} {text : List ℕ} (r : Run k text) (z : Place) → (read_as r z).place ≡ moved (opened_by r z) z
place-of top z = refl
place-of {k} {text} (block_inner c levels a n l) z = sym (moved-sum c.at (bracket k levels (moved c.at z) (point_of c.start)).taken z)

pub from-is : {k : CharClasses} {text : List ℕ} (r : Run k text) → run_from r ≡ width (take (opened_by r (start_of text)) text)
from-is top = sym width-none
from-is (block_inner c levels a n l) = refl

-- its nodes, by its pieces and all after them
children-are : (k : CharClasses) (text : List ℕ) (r : Run k text) (i n : ℕ) (t : Trivia) (rest : List Tree) → TakesSome r → (let q = read_as r (start_of text) in AllGo (first_of i q) → AllGo (then_of i n q) → Settles n (onwards_at i n q) → (onwards_at i n q).hints ≡ []
    → (onwards_at i n q).nodes ≡ t.nodes ++ rest → kids_of_run r ≡ standing_by i n q ++ (nodes_after i n t q ++ rest))
children-are k text top i n t rest takes g h some hints nodes =
    let z = start_of text in
    ap (λ (y : Tree). trees y.kids) (tree-is k text i n g h ∙ ap (λ us. inner_of kind.Markup (forest us)) (standing-is k (text_run k z) (is_text_run z) i n t rest some g h hints nodes)) ∙ trees-of _
children-are k text (block_inner c levels chosen name left) i n t rest takes g h some hints nodes = ap kids_in (node-of k levels text c chosen name left takes i n t rest g h some hints nodes).node ∙ trees-of _

pub leading-law : LeadingLaw
leading-law k text r i n t takes g h known some =
    let z = start_of text in
    let q = read_as r z in
    let leads = leads-of k q (is-run r z) in
    let o = onwards_at i n q in
    let e = first_end i q in
    let f = then_end i n q in
    let rest = rest_of i n q in
    let front = onwards-fronted q leads.taking i n t known in
    let back = behind-back k q (is-run r z) i n in
    let children = children-are k text r i n t front.rest takes g h some front.hints front.nodes in
    let at = (e.taken + f.taken) + rest.taken in
    let last = run q.level flush_trivia (moved at q.place) rest.state in
    let tidy = (sane-run q.level leads.taking.calls_sane leads.taking.blocks_sane flush_trivia).backs (moved at q.place) rest.state in
    let there = λ (over : is_over i n q ≡ true). ap (λ w. (joined rest (run q.level flush_trivia w rest.state)).nodes) (moved-three e.taken f.taken rest.taken q.place)
    ∙ rest-over q leads f.value (then_place i n q) f.state t known over in
    record {
      behind = front.rest;
      children = children;
      onwards = front.nodes;
      ends = ends-at q leads text (opened_by r z) (place-of r z) i n g h (run_from r) (token_past r i n) o.back t known (from-is r) refl back;
      first = λ l. first-leads q leads text (opened_by r z) (place-of r z) i n g h (run_from r) (token_after r i) (kids_of_run r) front.rest o.back t.nodes (from-is r) refl l back children;
      next = λ go. next-leads q leads text (opened_by r z) (place-of r z) i n g h (run_from r) (token_past r i n) (kids_of_run r) front.rest t last known (from-is r) refl tidy go back front.nodes children;
      last = λ over. none-behind t.nodes front.rest o.nodes front.nodes (there over);
    }
