-- The whole text of code is read.
use Rattle.typst_grammar.proofs.Cited.{◌≡◌, ℕ, ◌≤◌, Bool, true, false, List, [], length, encode_utf8_all, refl, ap, ◌∙◌, arith, text_of, CharClasses, meaning_of, Parser, ◌>>=◌, ◌>>◌, gives, repeat, peek, unexpected, within, is_end, too_deep, deeper, as_at_hand, hand_of, start_point, run, take-all, sane-at, at_newline, code_expr, code_expression, code_reading, code_turn, code_exprs, statement, statement_end, begins_code}
use Rattle.typst_kinds.specs.declared.mode.SyntaxMode.TheVariants as mode
use Rattle.typst_language.specs.declared.reading.AtNewline.TheVariants as newline
use Rattle.typst_grammar.specs.Grammar.{rules, max_depth, start_of, whole_code, parsed_code, tree_code}
use Rattle.typst_grammar.proofs.Begun.{first-expr}
use Rattle.typst_grammar.proofs.Firsts.{eaten-first}
use Rattle.typst_grammar.proofs.Moves.{Moves, MovesAt, moves-or, moves-unexpected, moves-within}
use Rattle.typst_grammar.proofs.Turns.{top, StopsAtEnd, Goes, Ends, turn-stops, repeat-ends, deep-ends, next-ends, all-taken}

module _ (k : CharClasses) where
  -- an expression takes something where a token begins it
  expression-moves : {A : Type 0} (f : Unit {0} → Parser A) → MovesAt (top k) begins_code (code_expression >>= f)
  unfolding run deeper meaning_of
  expression-moves f z s b h = let inside = (eaten-first k 255 (code_expr false 0) z s (first-expr (as_at_hand (hand_of (top k) z s)) 0 b)).taken h in omega (arith, inside)

  -- so does a statement, which else takes what it doesn't expect
  statement-moves : Moves (top k) (statement is_end)
  unfolding statement
  statement-moves = moves-or (top k) begins_code (code_expression >> statement_end is_end) (unexpected []) (expression-moves (λ _. statement_end is_end)) (moves-unexpected (top k) [])

  abbrev inside : Parser (Unit {0})
  inside = within (at_newline newline.ContextualContinue) (statement is_end)

  abbrev rest : Parser (Bool × Unit {0})
  rest = inside >>= (λ read. gives (true, tt))

  goes : Goes k rest
  unfolding run
  goes z s h = grind (arith, moves-within, statement-moves)

  stops : (x : Unit {0}) → StopsAtEnd k (code_turn is_end x)
  unfolding code_turn
  stops x = turn-stops k is_end tt (λ h. rest) (λ i. refl) (λ h. goes)

  ends-exprs : Ends k (code_exprs is_end)
  unfolding code_exprs
  ends-exprs = deep-ends k (too_deep is_end) (repeat (code_turn is_end) tt) (repeat-ends k (code_turn is_end) tt stops)

  pub whole-taken : (text : List ℕ) → length text ≤ (parsed_code k max_depth text).taken
  unfolding whole_code
  whole-taken text = all-taken k mode.Code (peek >> code_exprs is_end) (next-ends k peek _ (λ h. ends-exprs)) text

-- the leaves law
pub leaves-code : (k : CharClasses) (text : List ℕ) → text_of (tree_code k text) ≡ encode_utf8_all text
unfolding tree_code
leaves-code k text =
    let o = parsed_code k max_depth text in
    ((sane-at (rules k) k max_depth whole_code).kept (start_of text) (start_point code_reading) tt).text ∙ ap encode_utf8_all (take-all o.taken text (whole-taken k text))
