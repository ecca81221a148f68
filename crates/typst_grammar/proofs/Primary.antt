-- What an expression begins with.
use Rattle.typst_grammar.proofs.Cited.{◌≡◌, ℕ, zero, suc, ◌+◌, ◌<◌, ◌≤◌, Bool, true, false, not, ◌||◌, List, [], ◌∷◌, ◌++◌, length, codes, refl, ap, sym, ◌∙◌, ◌⊎◌, inl, inr, subst, arith, length-append, is_error, SyntaxKind, Place, moved, Tree, CharClasses, Block, CodeHead, code_by, code_head, code_primary, Hand, AtHand, as_at_hand, Point, pending, forgot, peek, expected, next, block, Outcome, Level, plain, closed, flushed_state, hand_of, hand_asks_of, asked, run, hand-again, block_production, level_at}
use Rattle.typst_code.specs.declared.heads.CodeHead.TheVariants as head
use Rattle.typst_grammar.proofs.Begun.{opens, keeps_token, first-code, bare-block, bare-code}
use Rattle.typst_grammar.proofs.Fine.{All, all-append, all-drop, all-map}
use Rattle.typst_grammar.proofs.FineRuns.{Binds, Still, still-hand}
use Rattle.typst_grammar.proofs.Proper.{free}
use Rattle.typst_grammar.proofs.PlainCode.{proper-primary}
use Rattle.typst_grammar.proofs.Heads.{Bare, Unary, LastIs, last-map, last-one, last-all, is_calm, bare-error, bare-taken, standing-none}
use Rattle.typst_grammar.proofs.BindingTurns.{bare-binds}
use Rattle.typst_grammar.proofs.Leads.{all-bare}
use Rattle.typst_grammar.proofs.Firsts.{calls-back, blocks-back, none-back, within_blocks, eaten-block, eaten-first}
use Rattle.typst_grammar.proofs.Grown.{Grown, tight-none}
use Rattle.typst_grammar.proofs.BindingLevels.{CallsBind, level-binds}
use Rattle.typst_grammar.proofs.Lost.{Lost, Stuck}
use Rattle.typst_grammar.proofs.Missing.{Missed, missed}
use Rattle.typst_grammar.proofs.Openers.{AllBare, bare-more, all-bare-run}

stuck-after : (m : ℕ) (ts : List Tree) (t : Tree) → is_error t.head.kind ≡ true → length ts < m → Stuck m (ts ++ t ∷ [])
stuck-after zero ts t e h = absurd (omega arith)
stuck-after (suc m) [] t e h = inl e
stuck-after (suc m) (u ∷ ts) t e h = inr (stuck-after m ts t e (omega arith))

or-after : (a b : Bool) → a ≡ true → (not a || b) ≡ true → b ≡ true
or-after a b e h = grind arith

-- what a token begins where an expression needn't be atomic, or what stands for it where it is missing
abbrev is_primary : CodeHead → Bool
is_primary head.Missing = true
is_primary c = opens c

head-primary : (i : SyntaxKind) → is_primary (code_head false i) ≡ true
head-primary i = grind arith

-- a token that is given itself is no operator
head-calm : (i : SyntaxKind) → (not (keeps_token (code_head false i)) || is_calm i) ≡ true
head-calm i = grind arith

module _ (k : CharClasses) (levels : ℕ) (d : CallsBind k levels) (least : ℕ) where
  abbrev l : Level
  l = level_at k levels

  -- ---- blocks

  bare-inside : (b : Block) (z : Place) (s : Point) → AllBare (l.blocks b z (forgot s))
  unfolding run
  bare-inside b z s =
      let a = as_at_hand (hand_of (within_blocks k levels) z (forgot s)) in
      all-bare-run (within_blocks k levels) (calls-back k levels) (none-back k levels) false z (forgot s) ⊥ (λ x. absurd x) (λ x. absurd (cc)) (λ x. absurd (cc)) (λ x. absurd (cc)) (next peek (λ _. block_production b)) (λ _. bare-block ⊥ a b) tt

  bare-read : (b : Block) (z : Place) (s : Point) → All Still (pending s.known) → AllBare (run l (block b) z s)
  unfolding run
  bare-read b z s still =
      let x = hand_of l z s in
      let w = moved x.gap z in
      let t = flushed_state x s in
      let inner = bare-inside b w t in
      bare-more (record (plain (tt {0}) t) { taken = x.gap; nodes = x.trivia; asks = hand_asks_of l z s }) (closed b t (l.blocks b w (forgot t))) (all-bare x.trivia (still-hand l z s still)) inner.all inner.some

  -- ---- what is given

  module _ (z : Place) (s : Point) (still : All Still (pending s.known)) where
    abbrev h : Hand
    h = hand_of l z s

    abbrev n : ℕ
    n = length h.trivia

    abbrev t : Point
    t = asked h s

    abbrev first : Outcome AtHand
    first = record (plain (as_at_hand h) t) { asks = hand_asks_of l z s }

    again : hand_of l z t ≡ h
    again = hand-again k s.held s.known z

    abbrev by_head : CodeHead → Outcome (Unit {0})
    by_head c = run l (next peek (λ _. code_by false c)) z s

    grown-bare : (o : Outcome (Unit {0})) → Binds o → All Bare o.nodes → LastIs (s.is_after_error ≡ true) Unary o.nodes → n + o.back ≤ length o.nodes + length (hand_of l (moved o.taken z) o.state).trivia → Grown k least n z s o
    grown-bare o b all x m = grind (arith, all-map, tight-none, all-drop, last-map, bare-binds)

    -- a token that begins an expression
    opened : (c : CodeHead) → opens c ≡ true → (keeps_token c ≡ true → is_calm h.kind ≡ true) → Binds (by_head c) → Grown k least n z s (by_head c)
    opened c e calm b =
        let lead = eaten-first k levels (next peek (λ _. code_by false c)) z s (first-code (as_at_hand h) c e) in
        let x = all-bare-run l (calls-back k levels) (blocks-back k levels) true z s (is_calm h.kind ≡ true) (bare-taken l z s) (λ _ d u. eaten-block k levels d z u) (λ _ d u. bare-read d z u)
        (λ _ B p w u y. (level-binds k levels d p w z u y).known) (next peek (λ _. code_by false c)) (λ _. bare-code (is_calm h.kind ≡ true) (as_at_hand h) c e calm) still in
        grind (arith, grown-bare, last-all)

    same-trivia : (run l (expected (codes "expression")) z t).taken ≡ 0 → hand_of l z (run l (expected (codes "expression")) z t).state ≡ hand_of l z t → length (hand_of l (moved (by_head head.Missing).taken z) (by_head head.Missing).state).trivia ≡ n
    unfolding run
    same-trivia e f = grind (arith, again)

    missing : Missed l z t (run l (expected (codes "expression")) z t) → Binds (by_head head.Missing) → Grown k least n z s (by_head head.Missing) ⊎ Lost k least n z s (by_head head.Missing)
    unfolding run
    missing (inl x) b = by-empties s.empties refl
      where
        p : Outcome (Unit {0})
        p = by_head head.Missing

        nodes : p.nodes ≡ (hand_of l z t).trivia ++ x.node ∷ []
        nodes = standing-none (run l (expected (codes "expression")) z t) ∙ x.nodes

        long : length (hand_of l z t).trivia ≡ n
        long = ap (λ (v : Hand). length v.trivia) again

        by-empties : (m : ℕ) → s.empties ≡ m → Grown k least n z s p ⊎ Lost k least n z s p
        by-empties zero f =
            let e = ap length nodes in
            let c = length-append (hand_of l z t).trivia (x.node ∷ []) in
            let back = x.back in
            let bare = bare-error x.node x.is_wrong in
            inl (grown-bare p b (subst (All Bare) (sym nodes) (all-append Bare (hand_of l z t).trivia (x.node ∷ []) (all-bare (hand_of l z t).trivia (still-hand l z t (still-hand l z s still))) (bare, tt)))
            (subst (LastIs (s.is_after_error ≡ true) Unary) (sym nodes) (last-one (s.is_after_error ≡ true) Unary (hand_of l z t).trivia x.node bare.1)) (omega (arith, e, c, back, f, long)))
        by-empties (suc m) f =
            let back = x.back in
            inr (record {
              binds = b;
              stuck = subst (Stuck (n + p.back)) (sym nodes) (stuck-after (n + p.back) (hand_of l z t).trivia x.node (ap is_error x.is_wrong) (omega (arith, long, back, f)));
              few = x.empties;
            })
    missing (inr (inl x)) b = grind (arith, standing-none, bare-error, same-trivia, grown-bare)
    missing (inr (inr x)) b = grind (arith, standing-none, same-trivia, grown-bare)

    begins : (c : CodeHead) → is_primary c ≡ true → (not (keeps_token c) || is_calm h.kind) ≡ true → Binds (by_head c) → Grown k least n z s (by_head c) ⊎ Lost k least n z s (by_head c)
    begins head.StrayOperator e calm b = absurd (cc)
    begins head.Unexpected e calm b = absurd (cc)
    begins head.Group e calm b = absurd (cc)
    begins head.Missing e calm b = missing (missed l (codes "expression") z t) b
    begins c e calm b = inl (opened c refl (λ x. or-after (keeps_token c) (is_calm h.kind) x calm) b)

  pub primary-begins : (z : Place) (s : Point) → All Still (pending s.known) → let n = length (hand_of (level_at k levels) z s).trivia in let o = run (level_at k levels) (code_primary false) z s in Grown k least n z s o ⊎ Lost k least n z s o
  unfolding run code_primary
  primary-begins z s still =
      let i = (hand_of (level_at k levels) z s).kind in
      begins z s still (code_head false i) (head-primary i) (head-calm i) (level-binds k levels d (code_primary false) (proper-primary free false) z s still)
