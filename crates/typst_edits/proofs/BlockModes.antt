-- A block's reading needs no more of the state where it begins than the mode of its first token.
use Rattle.typst_edits.proofs.Cited.{◌≡◌, ℕ, ◌+◌, Bool, true, false, List, [], ◌∷◌, ◌++◌, None, refl, ap, sym, ◌∙◌, SyntaxMode, is_error, Place, moved, CharClasses, Tree, text_of, Token, Block, Reading, State, Ask, Hand, Ahead, token_at, len_at, at_trivia, known_by, ahead_asks, ahead_asks_of, column_asks, hand_at, hand_asks, column_at, meaning_of, Outcome, Level, plain, joined, wrapped, before, blockless, entered, renewed, asked, hand_of, hand_asks_of, taken_node, run, gave, Point, point_of, no_newlines, after_node, itself, peek, node, eat_making, eat, Parser, ◌>>◌, ◌>>=◌, at_token, takes, gives, does, next, rules, content_block, markup_reading, code_block, code_reading, hand_by}
use Rattle.typst_language.specs.declared.calls.Block.TheVariants as block
use Rattle.typst_edits.specs.BlockModes.{SameRead, ModeLaw}
use Rattle.typst_edits.proofs.Blocks.{enclosing}
use Rattle.typst_edits.proofs.Content.{enclosed}
use Rattle.typst_edits.proofs.Known.{ahead-direct}

-- a token at hand without trivia
abbrev direct_hand : Token → ℕ → Hand
direct_hand t n = record { kind = t.kind; trivia = []; gap = 0; len = n; newlines = no_newlines; token = t }

module _ (k : CharClasses) (z : Place) (m : SyntaxMode) where
  abbrev first_hand : Hand
  first_hand = direct_hand (token_at k m z) (len_at k m z)

  -- what is asked for it, first and again
  abbrev first_asks : List Ask
  first_asks = ahead_asks k m z ++ []

  abbrev next_asks : List Ask
  next_asks = ahead_asks_of k m (known_by first_hand) z ++ []

module _ (k : CharClasses) (z : Place) (r : Reading) (clear : at_trivia k r.mode z ≡ false) where
  pub hand-first : hand_at k r None z ≡ first_hand k z r.mode
  unfolding hand_at
  hand-first = ap (λ (a : Ahead). hand_by r (column_at (moved a.gap z)) a) (ahead-direct k r.mode z clear)

  asks-first : hand_asks k r None z ≡ first_asks k z r.mode
  unfolding hand_asks
  asks-first = ap (λ (a : Ahead). ahead_asks k r.mode z ++ column_asks r a.newlines a.gap z) (ahead-direct k r.mode z clear)

hand-next : (k : CharClasses) (z : Place) (r : Reading) → hand_at k r (known_by (first_hand k z r.mode)) z ≡ first_hand k z r.mode
unfolding hand_at
hand-next k z r = refl

asks-next : (k : CharClasses) (z : Place) (r : Reading) → hand_asks k r (known_by (first_hand k z r.mode)) z ≡ next_asks k z r.mode
unfolding hand_asks
asks-next k z r = refl

-- ---- how a block begins

state-taken : (e : Bool) (text : List ℕ) (r : Reading) (s t : Point) → renewed (after_node e text (entered r s)) ≡ renewed (after_node e text (entered r t))
state-taken true text r s t = refl
state-taken false text r s t = refl

-- What takes the token at hand needs no more of the state than how that token is read.
abbrev Begins : Level → Parser (Unit {0}) → Type 0
Begins l p = (r : Reading) (z : Place) (s t : Point) → hand_of l z s ≡ hand_of l z t → hand_asks_of l z s ≡ hand_asks_of l z t → run l p z (entered r s) ≡ run l p z (entered r t)

begins-takes : (l : Level) → Begins l (does (takes false itself))
unfolding run
begins-takes l r z s t h a =
    let x = taken_node l.classes itself (hand_of l z t) z in
    (λ i. gave (h i) false (h i).len (taken_node l.classes itself (h i) z) (a i) (entered r s))
    ∙ ap (λ p. record (plain (tt {0}) p) { taken = (hand_of l z t).gap + (hand_of l z t).len; nodes = (hand_of l z t).trivia ++ x ∷ []; asks = hand_asks_of l z t }) (state-taken (is_error x.head.kind) (text_of x) r s t)

begins-eat : (l : Level) → Begins l eat
unfolding run eat eat_making
begins-eat l r z s t h a =
    ap (λ o. joined o (run l (peek >>= λ _. gives tt) (moved o.taken z) o.state)) (begins-takes l r z s t h a)

-- ---- a block

abbrev Read : Type 0
Read = ℕ × (ℕ × (List (List ℕ) × (List Tree × (List Ask × Bool))))

-- all except the state
abbrev read_of : {A : Type 0} → Outcome A → Read
read_of o = (o.taken, (o.back, (o.hints, (o.nodes, (o.asks, o.met)))))

same-read : (o p : Outcome (Unit {0})) → read_of o ≡ read_of p → SameRead o p
same-read o p e = record {
  taken = ap (λ (r : Read). r.0) e;
  back = ap (λ (r : Read). r.1.0) e;
  hints = ap (λ (r : Read). r.1.1.0) e;
  nodes = ap (λ (r : Read). r.1.1.1.0) e;
  asks = ap (λ (r : Read). r.1.1.1.1.0) e;
  met = ap (λ (r : Read). r.1.1.1.1.1) e;
}

-- A block by what is asked for its first token, twice, by how many nodes of trivia stand before it, and by what stands in it.
abbrev view : Block → Point → List Ask → List Ask → ℕ → Outcome Bool → Read
view b s first second n o =
    let w = wrapped (enclosing b) n o in
    read_of (joined (record (plain (tt {0}) s) { asks = first }) (joined (joined (record (plain (tt {0}) s) { asks = second }) (joined w (plain w.value.0 w.state))) (plain (tt {0}) s)))

module _ (l : Level) (b : Block) (r : Reading) (p : Parser (Unit {0})) (begins : Begins l p) (q : Parser Bool) where
  abbrev block_of : Parser (Unit {0})
  block_of = node (enclosing b) (enclosed r p q) >>= λ _. gives tt

  abbrev inner_of : Place → Point → Outcome Bool
  inner_of z s = run l (next p (λ _. q)) z (entered r s)

  -- the point after the look at its first token, and after the second look
  abbrev looked_at : Place → Point → Point
  looked_at z s = asked (hand_of l z s) s

  block-view : (z : Place) (s : Point) → read_of (run l (peek >> block_of) z s)
      ≡ view b s (hand_asks_of l z s) (hand_asks_of l z (looked_at z s)) (before at_token (looked_at z (looked_at z s))) (inner_of z (looked_at z (looked_at z s)))
  unfolding run node
  block-view z s = refl

  inner-same : (z : Place) (s t : Point) → hand_of l z s ≡ hand_of l z t → hand_asks_of l z s ≡ hand_asks_of l z t → inner_of z s ≡ inner_of z t
  unfolding run
  inner-same z s t h a = ap (λ o. joined o (run l q (moved o.taken z) o.state)) (begins r z s t h a)

  -- Where both points show the same token at hand.
  module _ (z : Place) (s t : State) (e : s.held.mode ≡ t.held.mode) (clear : at_trivia l.classes s.held.mode z ≡ false) where
    abbrev known_at : State → Point
    known_at u = asked (first_hand l.classes z u.held.mode) (point_of u)

    hand-known : (u : State) → hand_of l z (known_at u) ≡ first_hand l.classes z u.held.mode
    hand-known u = hand-next l.classes z u.held

    asks-known : (u : State) → hand_asks_of l z (known_at u) ≡ next_asks l.classes z u.held.mode
    asks-known u = asks-next l.classes z u.held

    by-first : (u : State) → at_trivia l.classes u.held.mode z ≡ false
        → read_of (run l (peek >> block_of) z (point_of u)) ≡ view b (point_of u) (first_asks l.classes z u.held.mode) (next_asks l.classes z u.held.mode) 0 (inner_of z (known_at u))
    by-first u c =
        let once : looked_at z (point_of u) ≡ known_at u = ap (λ h. asked h (point_of u)) (hand-first l.classes z u.held c) in
        let twice : looked_at z (looked_at z (point_of u)) ≡ known_at u = ap (looked_at z) once ∙ ap (λ h. asked h (known_at u)) (hand-known u) in
        let again : hand_asks_of l z (looked_at z (point_of u)) ≡ next_asks l.classes z u.held.mode = ap (hand_asks_of l z) once ∙ asks-known u in
        block-view z (point_of u) ∙ (λ i. view b (point_of u) (asks-first l.classes z u.held c i) (again i) (before at_token (twice i)) (inner_of z (twice i)))

    pub block-same : read_of (run l (peek >> block_of) z (point_of s)) ≡ read_of (run l (peek >> block_of) z (point_of t))
    block-same =
        let hands = hand-known s ∙ (ap (first_hand l.classes z) e ∙ sym (hand-known t)) in
        let asks = asks-known s ∙ (ap (next_asks l.classes z) e ∙ sym (asks-known t)) in
        let within = inner-same z (known_at s) (known_at t) hands asks in
        by-first s clear ∙ ((λ i. view b (point_of s) (first_asks l.classes z (e i)) (next_asks l.classes z (e i)) 0 (within i)) ∙ sym (by-first t (ap (λ m. at_trivia l.classes m z) (sym e) ∙ clear)))

content-same : (l : Level) (z : Place) (s t : State) → s.held.mode ≡ t.held.mode → at_trivia l.classes s.held.mode z ≡ false → SameRead (run l (peek >> content_block) z (point_of s)) (run l (peek >> content_block) z (point_of t))
unfolding content_block
content-same l z s t e c = same-read _ _ (block-same l block.Content markup_reading _ (begins-takes l) _ z s t e c)

code-same : (l : Level) (z : Place) (s t : State) → s.held.mode ≡ t.held.mode → at_trivia l.classes s.held.mode z ≡ false → SameRead (run l (peek >> code_block) z (point_of s)) (run l (peek >> code_block) z (point_of t))
unfolding code_block
code-same l z s t e c = same-read _ _ (block-same l block.Code code_reading _ (begins-eat l) _ z s t e c)

pub mode-law : ModeLaw
mode-law k levels block.Content z s t e c = content-same (blockless k levels (meaning_of (rules k) k levels)) z s t e c
mode-law k levels block.Code z s t e c = code-same (blockless k levels (meaning_of (rules k) k levels)) z s t e c
