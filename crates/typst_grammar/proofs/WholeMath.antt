-- The whole text of a formula is read.
use Rattle.typst_grammar.proofs.Cited.{◌≡◌, ℕ, ◌≤◌, Bool, true, refl, List, [], length, encode_utf8_all, ap, ◌∙◌, arith, among, text_of, CharClasses, meaning_of, Parser, ◌>>◌, gives, repeat, peek, unexpected, is_end, one_more, too_deep, deeper, math_expression, math_item, math_turn, math_exprs, math_reading, no_signs, as_at_hand, hand_of, start_point, run, take-all, sane-at, math_expr}
use Rattle.typst_kinds.specs.Sets.{math_expr as math_kinds}
use Rattle.typst_kinds.specs.declared.mode.SyntaxMode.TheVariants as mode
use Rattle.typst_grammar.specs.Grammar.{rules, max_depth, start_of, whole_math, parsed_math, tree_math}
use Rattle.typst_grammar.proofs.Begun.{first-math-expr}
use Rattle.typst_grammar.proofs.Firsts.{eaten-first}
use Rattle.typst_grammar.proofs.Moves.{Moves, MovesAt, moves-or, moves-unexpected}
use Rattle.typst_grammar.proofs.Turns.{top, StopsAtEnd, Goes, Ends, turn-stops, repeat-ends, deep-ends, next-ends, all-taken}

module _ (k : CharClasses) where
  -- an expression takes something where a token begins it
  expression-moves : MovesAt (top k) (among math_kinds) math_expression
  unfolding run deeper meaning_of math_expression
  expression-moves z s b h = let inside = (eaten-first k 255 (math_expr k 0 no_signs) z s (first-math-expr k (as_at_hand (hand_of (top k) z s)) 0 no_signs b)).taken h in omega (arith, inside)

  -- so does what else stands there, which isn't expected
  item-moves : Moves (top k) math_item
  unfolding math_item
  item-moves = moves-or (top k) (among math_kinds) math_expression (unexpected []) expression-moves (moves-unexpected (top k) [])

  abbrev rest : ℕ → Parser (Bool × ℕ)
  rest count = math_item >> gives (true, one_more count)

  goes : (count : ℕ) → Goes k (rest count)
  unfolding run
  goes count z s h = grind (arith, item-moves)

  stops : (count : ℕ) → StopsAtEnd k (math_turn is_end count)
  unfolding math_turn
  stops count = turn-stops k is_end count (λ h. rest count) (λ i. refl) (λ h. goes count)

  ends-exprs : Ends k (math_exprs is_end)
  unfolding math_exprs
  ends-exprs = deep-ends k (too_deep is_end >> gives 1) (repeat (math_turn is_end) 0) (repeat-ends k (math_turn is_end) 0 stops)

  pub whole-taken : (text : List ℕ) → length text ≤ (parsed_math k max_depth text).taken
  unfolding whole_math
  whole-taken text = all-taken k mode.Math (peek >> math_exprs is_end) (next-ends k peek _ (λ h. ends-exprs)) text

-- the leaves law
pub leaves-math : (k : CharClasses) (text : List ℕ) → text_of (tree_math k text) ≡ encode_utf8_all text
unfolding tree_math
leaves-math k text =
    let o = parsed_math k max_depth text in
    ((sane-at (rules k) k max_depth whole_math).kept (start_of text) (start_point math_reading) tt).text ∙ ap encode_utf8_all (take-all o.taken text (whole-taken k text))
