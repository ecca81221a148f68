-- A block that ends at the shifted end may stand where it stood: it gives one node alone, and the state after it follows from the reading before it.
use Rattle.typst_edits.proofs.Cited.{◌≡◌, ℕ, ◌+◌, false, Option, ap, ◌∙◌, arith, ◌⊎◌, inl, inr, ◌-◌, ◌<◌, ◌≤◌, List, [], ◌∷◌, ◌++◌, length, length-append, append-nil, None, refl, sym, subst, max, Bool, Place, moved, CharClasses, Block, Reading, SameIn, Ask, at_trivia, hand_at, Hand, len_at, token_at, Point, forgot, Trivia, gap_of, point_of, Shape, after_node, after_shape, Parser, ◌>>◌, ◌>>=◌, flushes, takes, Rules, meaning_of, level_of, Outcome, Meaning, Level, blockless, answered, joined, done, plain, same_mode, left, entered, hand_of, taken_node, run, before, inside, wrapped, bound, asked, grew, on_if, same_in-shift, same_in-first, same_in-second, same_in-sunk, moved-sum, less-none, Spot, after_spot, here_spot, Fits, block_head, ended, last_node, unit_at, level_spots, SyntaxMode, is_error, Tree, text_of, Call, itself, peek, eat_making, eat, node, does, next, scoped, gives, Sane, sane-run, sane-meaning, sane-plain, is_end, at_token, hand-again, token-ends, token-takes, content_block, markup_reading, code_block, code_reading, looked, marked, rules, Named, block_at, Rests}
use Rattle.typst_edits.proofs.Every.{Every}
use Rattle.typst_edits.proofs.Known.{Reached, reached-run, reached-meaning, hand-stops-there, flushed-held, reached-joined, reached-grown, ahead-direct}
use Rattle.typst_edits.proofs.Names.{Walks, in-any-shape, each-level}
use Rattle.typst_language.specs.declared.reading.AtNewline.{AtNewline}
use Rattle.typst_edits.proofs.Outcomes.{hints-first}
use Rattle.typst_edits.proofs.Fronts.{few-node, full-taken}
use Rattle.typst_edits.proofs.Turns.{none-of}
use Rattle.typst_edits.proofs.Blocks.{enclosing, ends}
use Rattle.typst_language.specs.declared.calls.Block.TheVariants as block

-- ---- a block of a reading begins at a token that is no trivia, in each text that shows the same before it

-- What a block begins with is no trivia, here and where all before it shows the same.
pub record Clear {A : Type 0} (k : CharClasses) (z : Place) (c : Spot A) : Type 0 where
  pub clear : (w : Place) → SameIn c.before z w → at_trivia k c.start.held.mode (moved c.at w) ≡ false

-- All trivia are known where a reading ends.
abbrev pub Reaching : CharClasses → (A : Type 0) → Place → Point → Outcome A → Type 0
Reaching k A z s o = Reached k (moved o.taken z) o.state

pub reaching-grew : (k : CharClasses) (A : Type 0) (z : Place) (s : Point) (i : ℕ) (o : Outcome A) (p : Outcome (Option Shape × A)) → Reaching k A z s o → Reaching k (Option Shape × A) (moved o.taken z) o.state p → Reaching k A z s (grew i o p)
reaching-grew k A z s i o p g h = reached-grown k z i p.value.0 (answered p.value.1 (joined o p)) (reached-joined k z o p h)

abbrev Clears : CharClasses → (A : Type 0) → ℕ → Place → Point → Spot A → Type 0
Clears k A n z s c = Clear k z c

clear-walks : (k : CharClasses) → Walks (Reached k) (Reaching k) (Clears k)
clear-walks k = record {
  at_none = λ z s. tt;
  at_entered = λ z s r a. a;
  at_end = λ A z s o g. g;
  gone_grew = reaching-grew k;
  after = λ A B n z s o c g h. record {
    clear = λ w same. ap (at_trivia k c.start.held.mode) (moved-sum o.taken c.at w) ∙ h.clear (moved o.taken w) (same_in-shift o.taken c.before z w (same_in-second o.asks _ z w same));
  };
  before_next = λ A B n z s p c h. record { clear = h.clear };
  with_value = λ A B n z s v c h. record { clear = h.clear };
  in_shape = λ A n z s shape i c h. in-any-shape (Clear k z) shape i c (λ t g. record { clear = h.clear });
  in_scope = λ A n z s r c h. record { clear = h.clear };
  deeper = λ A n z s c h. record { clear = λ w same. h.clear w (same_in-sunk c.before z w same) };
  in_block = λ n z s b c h. record { clear = λ w same. h.clear w same.1 };
}

-- a block after what was flushed
clear-here : (l : Level) (b : Block) (m : Meaning (Unit {0})) (z : Place) (s : Point) → Reached l.classes z s → Clear l.classes z (after_spot (done l flushes z s) (here_spot b m (moved (done l flushes z s).taken z) (done l flushes z s).state))
clear-here l b m z s r = grind (arith, flushed-held, hand-stops-there, same_in-first)

-- by any rules, at every level, where nothing or everything is known of the trivia ahead
module _ (r : Rules) (k : CharClasses) where
  pub clear-level : {A : Type 0} (levels : ℕ) (p : Parser A) (z : Place) (s : Point) → Reached k z s → Every (Clear k z) (level_spots r k levels p z s)
  clear-level levels p z s h =
      each-level (Reached k) (Reaching k) (Clears k) (clear-walks k) r k
      (λ n. record { reads = λ A q. reached-run (level_of r k n) (reached-meaning r k n) q; here = λ b t. clear-here (level_of r k n) b ((level_of r k n).blocks b) })
      (λ n. record { reads = λ A q. reached-run (blockless k n (meaning_of r k n)) (reached-meaning r k n) q; here = λ b t. absurd (cc) }) levels p z s h

-- ---- what is read between two brackets gives one node alone, and the state after it follows from the reading before it

-- ---- the state after it

-- The state where the token to come is at hand, after a node that is no error.
abbrev pub state_from : Reading → Point
state_from r = record { reading = r; held = r; empties = 0; is_after_error = false; known = None }

pub reading-is : (a b : Reading) → a.mode ≡ b.mode → a.at_newline ≡ b.at_newline → a ≡ b
reading-is a b e f = ap (λ m. record a { mode = m }) e ∙ ap (λ (n : AtNewline). record { mode = b.mode; at_newline = n }) f

-- The token at hand is read in the outer reading if the inner one is left with the token read in it.
left-held : (outer : Reading) (s : Point) → s.held ≡ s.reading → (left outer s).held ≡ outer
left-held outer s h = grind arith

left-reading : (outer : Reading) (s : Point) → (left outer s).reading ≡ outer
left-reading outer s = on_if (λ (t : Point). t.reading ≡ outer) (same_mode s.reading.mode outer.mode) _ _ (λ e. refl) (λ e. refl)

abbrev closed_state : Reading → Reading → Point
closed_state r h = record { reading = r; held = h; empties = 0; is_after_error = false; known = None }

-- after a node that is no error
pub state-left : (outer : Reading) (s : Point) → s.held ≡ s.reading → forgot (after_node false [] (left outer s)) ≡ state_from outer
state-left outer s h = ap (λ r. closed_state r (left outer s).held) (left-reading outer s) ∙ ap (closed_state outer) (left-held outer s h)

one-of : {A : Type 0} (x y : A) → (x ≡ y) ⊎ (x ≡ y) → x ≡ y
one-of x y h = elim h [ inl e ↦ e | inr e ↦ e ]

-- ---- the token at hand

pub record Direct (h : Hand) (k : CharClasses) (m : SyntaxMode) (z : Place) : Type 0 where
  pub trivia : h.trivia ≡ []
  pub gap : h.gap ≡ 0
  pub len : h.len ≡ len_at k m z

pub hand-direct : (k : CharClasses) (held : Reading) (z : Place) → at_trivia k held.mode z ≡ false → Direct (hand_at k held None z) k held.mode z
unfolding hand_at
hand-direct k held z h = grind (arith, ahead-direct)

-- A token of some characters leaves no empty error.
took-some : (k : CharClasses) (h : Hand) (z : Place) (s : Point) → h.gap ≡ 0 → 0 < h.len → h.len ≤ length z.ahead
    → (let t = taken_node k itself h z in (after_node (is_error t.head.kind) (text_of t) s).empties ≡ 0)
took-some k h z s e a b =
    let t = taken_node k itself h z in
    let room : length (moved h.gap z).ahead ≡ length z.ahead = ap (λ n. length (moved n z).ahead) e in
    omega (arith, few-node (is_error t.head.kind) (text_of t) s 1 (full-taken k itself h z a (omega (arith, b, room))) (omega arith))

-- ---- one node alone

pub record Alone {A : Type 0} (o : Outcome A) : Type 0 where
  pub node : Tree
  pub nodes : o.nodes ≡ node ∷ []
  pub back : o.back ≡ 0
  pub hints : o.hints ≡ []

-- what leaves the nodes before it as they are
pub record Apart {A : Type 0} (o : Outcome A) : Type 0 where
  pub back : o.back ≡ 0
  pub hints : o.hints ≡ []

-- after something that gave nothing
pub alone-after : {A B : Type 0} (o : Outcome B) (p : Outcome A) → o.nodes ≡ [] → o.back ≡ 0 → o.hints ≡ [] → Alone p → Alone (joined o p)
alone-after o p e f g a = grind (arith, less-none, none-of)

pub alone-plain : {A B : Type 0} (a : A) (o : Outcome B) → Alone o → Alone (joined o (plain a o.state))
alone-plain a o h = grind (arith, append-nil, less-none, hints-first)

-- What takes some characters before it goes on takes nothing back.
apart-joined : {A B : Type 0} (o : Outcome B) (p : Outcome A) → o.back ≡ 0 → o.hints ≡ [] → 0 < length o.nodes → p.back ≡ 0 → Apart (joined o p)
apart-joined o p e f g h = record { back = omega (arith, e, h); hints = hints-first o p (omega (arith, g, h)) ∙ f }

-- What is enclosed begins by taking the token at hand, with no error before it.
pub record Opener (l : Level) (p : Parser (Unit {0})) : Type 0 where
  pub back : (z : Place) (s : Point) → (run l p z s).back ≡ 0
  pub hints : (z : Place) (s : Point) → (run l p z s).hints ≡ []
  pub some : (z : Place) (s : Point) → 0 < length (run l p z s).nodes
  pub empties : (z : Place) (s : Point) → (hand_of l z s).gap ≡ 0 → 0 < (hand_of l z s).len → (hand_of l z s).len ≤ length z.ahead → (run l p z s).state.empties ≡ 0
  pub held : (z : Place) (s : Point) → (run l p z s).state.held ≡ (run l p z s).state.reading

some-taken : (ts : List Tree) (t : Tree) → 0 < length (ts ++ t ∷ [])
some-taken ts t = let e = length-append ts (t ∷ []) in omega (arith, e)

-- The token alone is taken, and nothing is asked after it.
pub opener-takes : (l : Level) → Opener l (does (takes false itself))
unfolding run
opener-takes l = grind (arith, some-taken, took-some)

-- the token, and a look at the one after it
pub opener-eat : (l : Level) → Opener l eat
unfolding run eat eat_making
opener-eat l = grind (arith, some-taken, hints-first, append-nil, less-none, took-some)

abbrev pub enclosed : {A : Type 0} → Reading → Parser (Unit {0}) → Parser A → Parser A
enclosed r p q = scoped (λ _. r) (next p (λ _. q))

module _ (l : Level) (d : (c : Call) → Sane (l.deeper c)) (e : (b : Block) → Sane (l.blocks b)) (p : Parser (Unit {0})) (begins : Opener l p) where
  -- what stands between brackets, where the token at hand is a bracket directly here
  pub apart-enclosed : {A : Type 0} (r : Reading) (q : Parser A) (z : Place) (s : Point) → (hand_of l z s).gap ≡ 0 → 0 < (hand_of l z s).len → (hand_of l z s).len ≤ length z.ahead → Apart (run l (enclosed r p q) z s)
  unfolding run
  apart-enclosed r q z s g some room =
      let t = entered r s in
      let o = run l p z t in
      let n = run l q (moved o.taken z) o.state in
      let none : o.state.empties ≡ 0 = begins.empties z t g some room in
      let a = apart-joined o n (begins.back z t) (begins.hints z t) (begins.some z t) (omega (arith, ((sane-run l d e q).backs (moved o.taken z) o.state).back, none)) in
      record { back = a.back; hints = a.hints }

  -- After it the token at hand is read in its reading.
  pub alike-enclosed : {A : Type 0} (r : Reading) (q : Parser A) (z : Place) (s : Point) → (let t = (run l (next p (λ _. q)) z (entered r s)).state in t.held ≡ t.reading)
  unfolding run
  alike-enclosed r q z s =
      let o = run l p z (entered r s) in
      taken-alike o.state (run l q (moved o.taken z) o.state).state ((sane-run l d e q).rests (moved o.taken z) o.state) (begins.held z (entered r s))
    where
      taken-alike : (s t : Point) → Rests s.reading s.held t → s.held ≡ s.reading → t.held ≡ t.reading
      taken-alike s t h e = let g = subst (λ u. Rests s.reading u t) e h in reading-is t.held s.reading (one-of t.held.mode s.reading.mode g.mode) (one-of t.held.at_newline s.reading.at_newline g.rule) ∙ sym g.reading

-- what is enclosed becomes one node
one-node : (b : Block) (closed : Bool) (n : ℕ) (o : Outcome Bool) → n ≡ 0 → Apart o → Alone (wrapped (λ _. enclosing b closed) n o)
one-node b closed n o z a = grind arith

shape-state : (b : Block) (closed : Bool) (ts : List Tree) (s : Point) → after_shape (enclosing b closed) ts s ≡ after_node false [] s
shape-state b closed ts s = grind arith

-- The token at hand has characters, and no trivia before it.
pub record Begun (l : Level) (z : Place) (s : Point) : Type 0 where
  pub trivia : (hand_of l z s).trivia ≡ []
  pub gap : (hand_of l z s).gap ≡ 0
  pub some : 0 < (hand_of l z s).len
  pub room : (hand_of l z s).len ≤ length z.ahead

module _ (l : Level) (d : (c : Call) → Sane (l.deeper c)) (e : (b : Block) → Sane (l.blocks b)) where
  -- the token at hand stays once it was asked for
  pub again : (z : Place) (s : Point) → hand_of l z (asked (hand_of l z s) s) ≡ hand_of l z s
  again z s = hand-again l.classes s.held s.known z

  -- a block of this name, read like this, that begins like this
  module _ (b : Block) (r : Reading) (p : Parser (Unit {0})) (begins : Opener l p) (q : Parser Bool) where
    -- between its delimiters
    abbrev block_of : Parser (Unit {0})
    block_of = node (enclosing b) (enclosed r p q) >>= λ _. gives tt

    state-node : (z : Place) (s : Point) → forgot (run l (node (enclosing b) (enclosed r p q)) z s).state ≡ state_from s.reading
    unfolding run node
    state-node z s =
        let s1 = asked (hand_of l z s) s in
        let o = run l (enclosed r p q) z s1 in
        ap forgot (shape-state b o.value (inside (before at_token s1) o) o.state) ∙ state-left s.reading _ (alike-enclosed l d e p begins r q z s1)

    pub state-block : (z : Place) (s : Point) → forgot (run l (peek >> block_of) z s).state ≡ state_from s.reading
    unfolding run
    state-block z s = state-node z (asked (hand_of l z s) s)

    -- where the token at hand has characters, and no trivia before it
    alone-node : (z : Place) (s : Point) → (hand_of l z s).trivia ≡ [] → (hand_of l z s).gap ≡ 0 → 0 < (hand_of l z s).len → (hand_of l z s).len ≤ length z.ahead → Alone (run l (node (enclosing b) (enclosed r p q)) z s)
    unfolding run node
    alone-node z s t g some room =
        let h = hand_of l z s in
        let s1 = asked h s in
        let f = again z s in
        let o = run l (enclosed r p q) z s1 in
        let a = apart-enclosed l d e p begins r q z s1 (ap (λ (h : Hand). h.gap) f ∙ g) (subst (λ (h : Hand). 0 < h.len) (sym f) some) (subst (λ (h : Hand). h.len ≤ length z.ahead) (sym f) room) in
        let n : before at_token s1 ≡ 0 = ap length t in
        alone-after (run l peek z s) _ refl refl refl (alone-plain o.value (wrapped (enclosing b) (before at_token s1) o) (one-node b o.value (before at_token s1) o n a))

    alone-direct : (z : Place) (s : Point) → (hand_of l z s).trivia ≡ [] → (hand_of l z s).gap ≡ 0 → 0 < (hand_of l z s).len → (hand_of l z s).len ≤ length z.ahead → Alone (run l (peek >> block_of) z s)
    unfolding run
    alone-direct z s t g some room =
        let f = again z s in
        let s1 = asked (hand_of l z s) s in
        let a = alone-node z s1 (ap (λ (h : Hand). h.trivia) f ∙ t) (ap (λ (h : Hand). h.gap) f ∙ g) (subst (λ (h : Hand). 0 < h.len) (sym f) some) (subst (λ (h : Hand). h.len ≤ length z.ahead) (sym f) room) in
        alone-after (run l peek z s) _ refl refl refl (alone-plain tt (run l (node (enclosing b) (enclosed r p q)) z s1) a)

    nothing-left : (z : Place) (s : Point) → s.known ≡ None → z.ahead ≡ [] → (run l (peek >> block_of) z s).taken ≡ 0
    nothing-left z s blank f =
        let b : bound z s ≡ 0 = ap (λ (k : Option Trivia). max (gap_of k) (length z.ahead)) blank ∙ ap (λ (xs : List ℕ). max 0 (length xs)) f in
        omega (arith, (sane-run l d e (peek >> block_of)).within z s, b)

    begun-by : (t : Bool) (z : Place) (s : Point) → s.known ≡ None → at_trivia l.classes s.held.mode z ≡ false → 0 < (run l (peek >> block_of) z s).taken → is_end (token_at l.classes s.held.mode z).kind ≡ t → Begun l z s
    begun-by t z s blank h some g = grind (arith, nothing-left, token-ends, hand-direct, token-takes)

    alone-by : (t : Bool) (z : Place) (s : Point) → s.known ≡ None → at_trivia l.classes s.held.mode z ≡ false → 0 < (run l (peek >> block_of) z s).taken → is_end (token_at l.classes s.held.mode z).kind ≡ t
        → Alone (run l (peek >> block_of) z s)
    alone-by t z s blank h some g = grind (arith, nothing-left, token-ends, begun-by, alone-direct)

    -- where it takes something, and what it begins with is no trivia
    pub block-alone : (z : Place) (s : Point) → s.known ≡ None → at_trivia l.classes s.held.mode z ≡ false → 0 < (run l (peek >> block_of) z s).taken → Alone (run l (peek >> block_of) z s)
    block-alone z s blank h some = alone-by (is_end (token_at l.classes s.held.mode z).kind) z s blank h some refl

  -- what each kind of block gives
  pub state-content : (z : Place) (s : Point) → forgot (run l (peek >> content_block) z s).state ≡ state_from s.reading
  unfolding content_block
  state-content z s = state-block block.Content markup_reading _ (opener-takes l) _ z s

  pub content-alone : (z : Place) (s : Point) → s.known ≡ None → at_trivia l.classes s.held.mode z ≡ false → 0 < (run l (peek >> content_block) z s).taken → Alone (run l (peek >> content_block) z s)
  unfolding content_block
  content-alone z s blank h some = block-alone block.Content markup_reading _ (opener-takes l) _ z s blank h some

  pub content-begun : (z : Place) (s : Point) → s.known ≡ None → at_trivia l.classes s.held.mode z ≡ false → 0 < (run l (peek >> content_block) z s).taken → Begun l z s
  unfolding content_block
  content-begun z s blank h some = begun-by block.Content markup_reading _ (opener-takes l) _ (is_end (token_at l.classes s.held.mode z).kind) z s blank h some refl

  pub state-code : (z : Place) (s : Point) → forgot (run l (peek >> code_block) z s).state ≡ state_from s.reading
  unfolding code_block
  state-code z s = state-block block.Code code_reading _ (opener-eat l) _ z s

  pub code-alone : (z : Place) (s : Point) → s.known ≡ None → at_trivia l.classes s.held.mode z ≡ false → 0 < (run l (peek >> code_block) z s).taken → Alone (run l (peek >> code_block) z s)
  unfolding code_block
  code-alone z s blank h some = block-alone block.Code code_reading _ (opener-eat l) _ z s blank h some

-- ---- a block that ends at the shifted end may stand where it stood: it leaves the state that it left then, and gives one node of its kind

-- Each place shows the same as itself.
pub same-here : (asks : List Ask) (z : Place) → SameIn asks z z
same-here [] z = tt
same-here (looked at look ∷ asks) z = (record { before = refl; ahead = refl }, same-here asks z)
same-here (marked at gap fewer mark s ∷ asks) z = (tt, same-here asks z)

pub tail-none : {A : Type 0} (ys : List A) (y : A) → ys ++ y ∷ [] ≡ [] → ⊥
tail-none [] y h = cc
tail-none (a ∷ ys) y h = cc

front-none : (ys : List Tree) (y x : Tree) → ys ++ y ∷ [] ≡ x ∷ [] → ys ≡ []
front-none [] y x h = refl
front-none (a ∷ ys) y x h = let e : ys ++ y ∷ [] ≡ [] = cc in absurd (tail-none ys y e)

-- what each block leaves and gives where it takes something and begins at no trivia
pub record Left (k : CharClasses) (b : Block) (s : Point) (o : Outcome (Unit {0})) : Type 0 where
  state : forgot o.state ≡ state_from s.reading
  pub alone : Alone o
  head : (last_node o.nodes).head ≡ block_head b

pub left-by : (k : CharClasses) (levels : ℕ) (b : Block) (z : Place) (s : Point) → s.known ≡ None → at_trivia k s.held.mode z ≡ false → 0 < (block_at k levels b z s).taken → Left k b s (block_at k levels b z s)
left-by k levels block.Content z s e h some =
    let l = blockless k levels (meaning_of (rules k) k levels) in
    record {
      state = state-content l (sane-meaning (rules k) k levels) (λ c. sane-plain tt) z s;
      alone = content-alone l (sane-meaning (rules k) k levels) (λ c. sane-plain tt) z s e h some;
      head = (ends k levels block.Content refl z s).head;
    }
left-by k levels block.Code z s e h some =
    let l = blockless k levels (meaning_of (rules k) k levels) in
    record {
      state = state-code l (sane-meaning (rules k) k levels) (λ c. sane-plain tt) z s;
      alone = code-alone l (sane-meaning (rules k) k levels) (λ c. sane-plain tt) z s e h some;
      head = (ends k levels block.Code refl z s).head;
    }

-- the same of a block of a reading
record Leaves {A : Type 0} (c : Spot A) (o : Outcome (Unit {0})) : Type 0 where
  state : o.state ≡ state_from c.start.reading
  alone : Alone o
  head : (last_node o.nodes).head ≡ block_head c.name

leaves-by : {A : Type 0} (k : CharClasses) (levels : ℕ) (c : Spot A) (z : Place) → c.reads ≡ (λ y t. ended (block_at k levels c.name y t))
    → at_trivia k c.start.held.mode (moved c.at z) ≡ false → 0 < (unit_at c z).taken → Leaves c (unit_at c z)
leaves-by k levels c z e h some =
    let s = point_of c.start in
    let w = moved c.at z in
    let f : unit_at c z ≡ ended (block_at k levels c.name w s) = ap (λ u. u w s) e in
    let a = left-by k levels c.name w s refl h (subst (λ u. 0 < u.taken) f some) in
    let i = a.alone in
    subst (λ u. Leaves c u) (sym f) (record { state = a.state; alone = record { node = i.node; nodes = i.nodes; back = i.back; hints = i.hints }; head = a.head })

fits-left : {A : Type 0} (c : Spot A) (o n : Outcome (Unit {0})) → Fits c o c.node → Leaves c o → Leaves c n → Fits c n (last_node n.nodes)
fits-left c o n f a b = grind (arith, front-none)

-- Where all before a block shows the same, and it takes something, it fits.
pub fitting : {A : Type 0} (k : CharClasses) (levels : ℕ) (c : Spot A) (z w : Place) → Named (block_at k) levels c → Clear k z c → Fits c (unit_at c z) c.node → SameIn c.before z w → 0 < (unit_at c z).taken → 0 < (unit_at c w).taken
    → Fits c (unit_at c w) (last_node (unit_at c w).nodes)
fitting k levels c z w n clear f same some more =
    fits-left c _ _ f (leaves-by k (levels - c.fewer) c z n.reads (clear.clear z (same-here c.before z)) some) (leaves-by k (levels - c.fewer) c w n.reads (clear.clear w same) more)

-- Before the node of a block that takes something stands nothing of its own.
pub no-front : {A : Type 0} (k : CharClasses) (levels : ℕ) (c : Spot A) (z : Place) → Named (block_at k) levels c → Clear k z c → Fits c (unit_at c z) c.node → 0 < (unit_at c z).taken → c.front ≡ []
no-front k levels c z n clear f some = grind (arith, leaves-by k (levels - c.fewer) c z n.reads (clear.clear z (same-here c.before z)) some, front-none)
