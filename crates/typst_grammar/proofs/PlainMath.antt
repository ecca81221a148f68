-- The facts of formulas: each part is proper, and what a token begins takes it first.
use Rattle.typst_grammar.proofs.Cited.{◌≡◌, ℕ, Bool, true, ◌==◌, List, refl, arith, CharClasses, same, SyntaxKind, ChainSet, seeing, Seen, becomes, stays, itself, wanted, keeps, holds, eat, on_both, Key, operand, attachment_turn, attachments, primes, MathHead, codes}
use Rattle.typst_kinds.specs.declared.kind.SyntaxKind.TheVariants as kind
use Rattle.typst_code.specs.Delimited.{delimiter_kind, delimiter_sign, delimiter, body_shape, delimited_body, delimiter_if, delimited_shape, delimited}
use Rattle.typst_code.specs.MathArguments.{value_shape, argument_exprs, argument_value, name_making, eat_name, argument_name, name_change as math_change, named_argument, spread_argument, math_argument, argument_end, math_argument_turn, math_arguments}
use Rattle.typst_code.specs.MathExpressions.{math_text, root, math_by, math_primary, fraction, tail_by as math_tail_by, math_tail_turn, math_grown, math_expr}
use Rattle.typst_code.specs.math_heads.MathHead.TheVariants as math_heads
use Rattle.typst_code.specs.math_heads.MathTail.{MathTail}
use Rattle.typst_code.specs.math_heads.MathTail.TheVariants as math_tails
use Rattle.typst_grammar.proofs.Fine.{tame, tame_kind, tame_making}
use Rattle.typst_grammar.proofs.FineRuns.{tame_if, Gives, gives-all}
use Rattle.typst_grammar.proofs.Proper.{proper_steps, Scope, Proper, proper-eat, proper-expected, proper-shaped, proper-node, proper-grow, proper-seeing, tame-both}
use Rattle.typst_grammar.proofs.PlainParts.{proper-embedded, proper-exprs}

tame-delimiter : (seen : List Seen) → tame_kind (delimiter_kind seen) ≡ true
tame-delimiter seen = grind arith

proper-delimiter : (c : Scope) → Proper c delimiter
unfolding delimiter delimiter_sign
proper-delimiter c = (proper-shaped _ _ _ (gives-all {A = Unit {0} × List Seen} _ (λ sign. tame-delimiter sign.1) (seeing eat)) (proper-seeing _ _ (proper-eat _), λ _. tt), λ _. tt)

proper-delimited : (c : Scope) → Proper c delimited
unfolding delimited delimited_body delimiter_if
proper-delimited c = search (proper_steps, proper-delimiter, proper-exprs, tame-both delimited_shape refl refl, tame-both body_shape refl refl) depth 40 fits 4000

proper-attachments : (c : Scope) → Proper c attachments
unfolding attachments attachment_turn operand
proper-attachments c = search proper_steps depth 40 fits 4000

tame-value : (count : ℕ) → tame (value_shape count) ≡ true
tame-value count = on_both (λ shape. tame shape ≡ true) (count == 1) (keeps stays) (becomes kind.Math) refl refl

proper-value : (c : Scope) (is_named : Bool) → Proper c (argument_value is_named)
unfolding argument_value argument_exprs
proper-value c is_named = (proper-node _ _ _ tame-value (proper-exprs _ _, λ _. ((proper-expected _ _, tt), λ _. tt)), λ _. tt)

tame-making : (k : SyntaxKind) → tame_making (name_making k) ≡ true
tame-making k = on_both (λ m. tame_making m ≡ true) (same kind.Underscore k) (wanted (codes "identifier")) itself refl refl

tame-math : (names : List (List ℕ)) (k : Key) → tame (holds (math_change names k) kind.Named) ≡ true
tame-math names k = grind arith

proper-math-argument : (c : Scope) (names : List (List ℕ)) → Proper c (math_argument names)
unfolding math_argument spread_argument named_argument argument_name eat_name
proper-math-argument c names = search (proper_steps, proper-value, tame-math, tame-making) depth 40 fits 4000

proper-math-arguments : (c : Scope) → Proper c math_arguments
unfolding math_arguments math_argument_turn argument_end
proper-math-arguments c = search (proper_steps, proper-math-argument) depth 40 fits 4000

ruleset math_parts = (proper-delimiter, proper-delimited, proper-attachments, proper-math-arguments)

-- a production is opened here, or has a lemma among the parts
proper-math-by : (c : Scope) (k : CharClasses) (h : MathHead) → Proper c (math_by k h)
unfolding math_text root operand
proper-math-by c k math_heads.Embedded = (proper-embedded _, λ _. tt)
proper-math-by c k _ = search (proper_steps, math_parts) depth 40 fits 4000

-- what stands after an expression
proper-math-tail : (c : Scope) (stops : ChainSet) (t : MathTail) → Proper c (math_tail_by stops t)
unfolding fraction primes operand
proper-math-tail c stops math_tails.Nothing = tt
proper-math-tail c stops _ = search (proper_steps, math_parts) depth 40 fits 4000

gives-math-tail : (stops : ChainSet) (t : MathTail) → Gives (λ v. tame_if v.0 ≡ true) (math_tail_by stops t)
gives-math-tail stops t = grind (arith, gives-all)

pub proper-math-expr : (c : Scope) (k : CharClasses) (least : ℕ) (stops : ChainSet) → Proper c (math_expr k least stops)
unfolding math_expr math_grown math_primary math_tail_turn
proper-math-expr c k least stops = grind (arith, proper-grow, proper-math-by, gives-math-tail, proper-math-tail)
