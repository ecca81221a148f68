-- What takes the token at hand first, at each level: blocks do.
use Rattle.typst_grammar.proofs.Cited.{◌≡◌, ℕ, zero, suc, ◌+◌, ◌<◌, ◌≤◌, true, false, List, length, take, length-append, Option, None, refl, ap, sym, subst, arith, SyntaxMode, Place, moved, Tree, CharClasses, Block, Reading, Call, as_at_hand, hand_at, ahead, ahead_by, len_at, Point, Trivia, forgot, hinted, Backs, peek, Parser, next, block, Outcome, Level, less, joined, blockless, plain, closed, hand_of, hand_asks_of, flushed_state, run, length-hinted, sane-meaning, sane-block, length-less}
use Rattle.typst_grammar.specs.Grammar.{block_production, rules, meaning, level_at}
use Rattle.typst_grammar.proofs.EatsFirst.{EatsFirst}
use Rattle.typst_grammar.proofs.Fine.{All, all-take}
use Rattle.typst_grammar.proofs.FineRuns.{still-hand}
use Rattle.typst_grammar.proofs.Heads.{Bare, bare-advised}
use Rattle.typst_grammar.proofs.Leads.{Leads, Eaten, all-bare, all-take-front, all-take-hinted, all-take-less, eats-leads}
use Rattle.typst_grammar.proofs.Begun.{first-block}
use Rattle.typst_language.proofs.Runs.{flushed-held}

-- ---- what is left before a block

-- nothing is known of the trivia: they or the token take something
pub some-ahead : (k : CharClasses) (m : SyntaxMode) (n : ℕ) (z : Place) → 0 < len_at k m z → 0 < (ahead_by k m n z).gap + (ahead_by k m n z).len
some-ahead k m n z h = grind arith

some-again : (k : CharClasses) (held : Reading) (known : Option Trivia) (z : Place) → (hand_at k held known z).gap ≡ 0 → 0 < (hand_at k held known z).len → 0 < (hand_at k held None z).gap + (hand_at k held None z).len
unfolding hand_at ahead
some-again k held known z e h = grind (arith, some-ahead)

-- what leads, after nodes that are no operators
leads-flushed : {K L : Type 0} (n : ℕ) (ts : List Tree) (o : Outcome (Unit {0})) (q : Outcome (Unit {0})) → o.nodes ≡ ts → o.back ≡ 0 → n ≡ length ts → (K → All Bare ts) → q.back ≡ 0 → q.state.empties ≤ length q.nodes → (L → 0 < o.taken + q.taken) → Leads K L n (joined o q)
leads-flushed n ts o q e f g h none room some =
    let long = ap length e in
    let one = length-append (hinted q.hints (less q.back o.nodes)) q.nodes in
    let two = length-less q.back o.nodes in
    let three = length-hinted q.hints (less q.back o.nodes) in
    record {
      none = omega arith;
      room = omega arith;
      first = λ k. (let all : All Bare (take n o.nodes) = subst (λ (xs : List Tree). All Bare (take n xs)) (sym e) (all-take Bare n ts (h k)) in
          all-take-front Bare n (hinted q.hints (less q.back o.nodes)) q.nodes (omega arith) (all-take-hinted Bare bare-advised q.hints n (less q.back o.nodes) (all-take-less Bare n q.back o.nodes all)));
      taken = some;
    }

module _ (k : CharClasses) (levels : ℕ) where
  abbrev l : Level
  l = level_at k levels

  pub calls-back : (c : Call) → Backs (l.deeper c)
  calls-back c = (sane-meaning (rules k) k levels c).backs

  pub blocks-back : (b : Block) → Backs (l.blocks b)
  blocks-back b = (sane-block (rules k) k levels b).backs

  abbrev pub within_blocks : Level
  within_blocks = blockless k levels (meaning k levels)

  -- where no block may be read, blocks take nothing back
  pub none-back : (b : Block) → Backs (within_blocks.blocks b)
  none-back b z s = record { back = omega arith; left = omega arith }

  -- a block, from the token at hand on
  pub eaten-inside : (b : Block) (z : Place) (s : Point) → Eaten within_blocks z (forgot s) (l.blocks b z (forgot s))
  unfolding run
  eaten-inside b z s = eats-leads within_blocks calls-back none-back false (λ e. absurd (cc)) (next peek (λ _. block_production b)) z (forgot s) (first-block (as_at_hand (hand_of within_blocks z (forgot s))) b)

  -- it takes something where it begins
  pub moves-inside : (b : Block) (z : Place) (s : Point) → 0 < (hand_at k s.held None z).gap + (hand_at k s.held None z).len → 0 < (l.blocks b z (forgot s)).taken
  moves-inside b z s h = (eaten-inside b z s).taken h

  -- as it does after trivia
  some-block : (b : Block) (z : Place) (s : Point) → 0 < (hand_of l z s).gap + (hand_of l z s).len → (let x = hand_of l z s in 0 < x.gap + (l.blocks b (moved x.gap z) (forgot (flushed_state x s))).taken)
  some-block b z s h = by-gap (hand_of l z s).gap refl
    where
      t : Point
      t = flushed_state (hand_of l z s) s

      by-gap : (n : ℕ) → (hand_of l z s).gap ≡ n → 0 < (hand_of l z s).gap + (l.blocks b (moved (hand_of l z s).gap z) (forgot t)).taken
      by-gap (suc n) e = omega (arith, e)
      by-gap zero e =
          let some = some-again k s.held s.known z e (omega (arith, e, h)) in
          let there : moved (hand_of l z s).gap z ≡ moved 0 z = ap (λ (n : ℕ). moved n z) e in
          let some-flushed = subst (λ (r : Reading). 0 < (hand_at k r None z).gap + (hand_at k r None z).len) (sym (flushed-held (hand_of l z s).trivia (hand_of l z s) s refl)) some in
          let some-there = subst (λ (w : Place). 0 < (hand_at k t.held None w).gap + (hand_at k t.held None w).len) (sym there) some-flushed in
          let inside = moves-inside b (moved (hand_of l z s).gap z) t some-there in
          omega (arith, inside)

  pub eaten-block : (b : Block) (z : Place) (s : Point) → Eaten l z s (run l (block b) z s)
  unfolding run
  eaten-block b z s =
      let x = hand_of l z s in
      let w = moved x.gap z in
      let t = flushed_state x s in
      let inner = eaten-inside b w t in
      let a = inner.none in let r = inner.room in
      leads-flushed (length x.trivia) x.trivia (record (plain tt t) { taken = x.gap; nodes = x.trivia; asks = hand_asks_of l z s }) (closed b t (l.blocks b w (forgot t))) refl refl refl (λ still. all-bare x.trivia (still-hand l z s still)) a (omega (arith, r)) (some-block b z s)

  -- what takes the token at hand first, or a block
  pub eaten-first : {A : Type 0} (p : Parser A) (z : Place) (s : Point) → EatsFirst (as_at_hand (hand_of l z s)) true false p → Eaten l z s (run l p z s)
  eaten-first p z s w = eats-leads l calls-back blocks-back true (λ _. eaten-block) p z s w
