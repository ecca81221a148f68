-- Expressions with operators bind.
use Rattle.typst_grammar.proofs.Cited.{◌==◌, if◌then◌else◌, ◌≡◌, ℕ, suc, ◌≤◌, Bool, true, false, List, [], length, Option, refl, ◌⊎◌, inl, inr, subst, arith, Place, moved, forest, CharClasses, CodeExpr, anywhere, too_deep, deeper, meaning_of, ◌>>◌, gives, code_expr, code_primary, code_tail, code_tail_turn, Hand, as_at_hand, Point, pending, Shape, grow, node, within, Outcome, Level, plain, deeper_by_one, joined, bound, growths, growing, hand_of, hand_asks_of, asked, run, hand-again, sane-at, no-end, any_errors}
use Rattle.typst_grammar.specs.Grammar.{rules, level_at}
use Rattle.typst_grammar.proofs.Fine.{All, is_ordinary}
use Rattle.typst_grammar.proofs.FineRuns.{if_by, Gives, gives-run, PlainBy, Still, still-hand}
use Rattle.typst_grammar.proofs.Heads.{standing-none}
use Rattle.typst_grammar.proofs.Proper.{ordinary, proper-deep}
use Rattle.typst_grammar.proofs.PlainCode.{gives-tail, proper-primary, proper-tail-turn}
use Rattle.typst_grammar.proofs.Grown.{errors-after, Grown, Operand, operand-growths}
use Rattle.typst_grammar.proofs.BindingLevels.{CallsBind, DeeperOperands, level-binds}
use Rattle.typst_grammar.proofs.Lost.{Holds, Lost, operand-lost}
use Rattle.typst_grammar.proofs.Primary.{primary-begins}
use Rattle.typst_grammar.proofs.Tails.{turn-turned}
use Rattle.typst_tree.proofs.KeepsOrder.{positive}

-- ---- what a turn reads and says

abbrev Says : Option Shape × Unit {0} → Type 0
Says v = Holds v.0

says-turn : (least : ℕ) (x : Unit {0}) → Gives Says (code_tail_turn false least x)
unfolding code_tail_turn
says-turn least x = λ a. gives-tail Says tt tt tt tt (code_tail false least a.kind a.has_trivia)

-- ---- what an expression makes, binary nodes too

abbrev Orders : Option Shape × Unit {0} → Type 0
Orders v = if_by is_ordinary v.0 ≡ true

turn-ordinary : (least : ℕ) (x : Unit {0}) → PlainBy is_ordinary (code_tail_turn false least x)
turn-ordinary least x = ordinary (code_tail_turn false least x) (proper-tail-turn _ false least x)

pub ordinary-expr : (least : ℕ) → PlainBy is_ordinary (code_expr false least)
unfolding code_expr grow code_tail_turn
ordinary-expr least = (
  refl,
  λ _. (
    ordinary (code_primary false) (proper-primary _ false),
    λ x. (λ a. gives-tail Orders refl refl refl refl (code_tail false least a.kind a.has_trivia), turn-ordinary least x),
  ),
)

-- ---- expressions

-- what is an operand is one after a look
operand-after : (k : CharClasses) (least : ℕ) {A B : Type 0} (z : Place) (s t : Point) (b : B) (asks : List _) (m : Bool) (o : Outcome A) → t.is_after_error ≡ s.is_after_error → Operand k least z t o → Operand k least z s (joined (record (plain b t) { asks = asks; met = m }) o)
operand-after k least z s t b asks m o e h = grind (arith, standing-none)

module _ (k : CharClasses) (levels : ℕ) (d : CallsBind k levels) (ops : DeeperOperands k levels) (least : ℕ) where
  abbrev l : Level
  l = level_at k levels

  abbrev turns_by : Unit {0} → Place → Point → Outcome (Option Shape × Unit {0})
  turns_by x = run l (code_tail_turn false least x)

  grown-operand : (z : Place) (s : Point) (n : ℕ) (o : Outcome (Unit {0})) → bound (moved o.taken z) o.state ≤ bound z s → Grown k least n z s o ⊎ Lost k least n z s o → Operand k least z s (growths turns_by n (suc (bound z s)) o z)
  grown-operand z s n o h (inl g) = operand-growths k least turns_by n z s (λ x y. turn-turned k levels d ops least n z s x y) (suc (bound z s)) o (omega (arith, h)) g
  grown-operand z s n o h (inr g) =
      operand-lost k least n z s turns_by (λ x. level-binds k levels d (code_tail_turn false least x) (proper-tail-turn _ false least x)) (λ x. (sane-at (rules k) k levels (code_tail_turn false least x)).backs)
      (λ x w t. gives-run l Says (code_tail_turn false least x) (says-turn least x) w t) (suc (bound z s)) o g

  pub expr-binds : (z : Place) (s : Point) → All Still (pending s.known) → Operand k least z s (run l (code_expr false least) z s)
  unfolding run code_expr grow growing
  expr-binds z s still =
      let h = hand_of l z s in
      let t = asked h s in
      let o = run l (code_primary false) z t in
      let known = still-hand l z s still in
      let first = primary-begins k levels d least z t known in
      let n = length h.trivia in
      let begun = subst (λ (v : Hand). Grown k least (length v.trivia) z t o ⊎ Lost k least (length v.trivia) z t o) (hand-again k s.held s.known z) first in
      let within = (sane-at (rules k) k levels (code_primary false)).within z t in
      operand-after k least z s t (as_at_hand h) (hand_asks_of l z s) false (growths turns_by n (suc (bound z t)) o z) refl (grown-operand z t n o (omega (arith, within)) begun)

-- ---- one level deeper

module _ (k : CharClasses) where
  by-depth : (least : ℕ) (z : Place) (s : Point) (a : Outcome (Unit {0})) (c : Outcome (Unit {0})) → Operand k least z s c → (b : Bool) → b ≡ false → Operand k least z s (joined (record (plain b s) { met = b }) (if b then a else c))
  by-depth least z s a c h true e = absurd (cc)
  by-depth least z s a c h false e = operand-after k least z s s false [] false c refl h

  call-binds : (levels : ℕ) (d : CallsBind k levels) → DeeperOperands k levels → (least : ℕ) (z : Place) (s : Point) → All Still (pending s.known) → Operand k least z s (deeper_by_one (meaning_of (rules k) k (suc levels) (CodeExpr false least) z s))
  unfolding meaning_of
  call-binds levels d ops least z s still = let o = expr-binds k levels d ops least z s still in record { binds = record { nodes = o.binds.nodes; known = o.binds.known }; last = o.last }

  pub deeper-binds : (levels : ℕ) (d : CallsBind k levels) → DeeperOperands k levels → DeeperOperands k (suc levels)
  unfolding run deeper
  deeper-binds levels d ops least z s still = by-depth least z s _ _ (call-binds levels d ops least z s still) (suc levels == 0) (positive levels)

  too-wrong : (z : Place) (s : Point) → any_errors (forest (run (level_at k 0) (too_deep anywhere >> gives (tt {0})) z s).nodes) ≡ false → ⊥
  unfolding run too_deep node
  too-wrong z s sane = grind (arith, standing-none, no-end, errors-after)

  pub limit-binds : CallsBind k 0 → DeeperOperands k 0
  unfolding run deeper
  limit-binds d least z s still =
      let l = level_at k 0 in
      operand-after k least z s s true [] true (run l (too_deep anywhere >> gives (tt {0})) z s) refl
      (record { binds = level-binds k 0 d (too_deep anywhere >> gives (tt {0})) (proper-deep _ anywhere, λ _. tt) z s still; last = λ sane. absurd (too-wrong z s sane) })
