-- All that is read binds.
use Rattle.typst_grammar.proofs.Cited.{ℕ, zero, suc, true, false, refl, CharClasses, Call, MarkupExpr, CodeExpr, MathExpr, Pattern, meaning_of, start_point, run, markup_reading, markup_expr, pattern, code_expr, math_expr, code_reading, math_reading, BindingLaw, CodeBindingLaw, MathBindingLaw, production, level_at, max_depth, start_of, whole, whole_code, whole_math, parsed, parsed_code, parsed_math, tree, tree_code, tree_math}
use Rattle.typst_kinds.specs.declared.kind.SyntaxKind.TheVariants as kind
use Rattle.typst_grammar.proofs.Fine.{fine-over, is_ordinary}
use Rattle.typst_grammar.proofs.BindingLevels.{CallsBind, DeeperOperands, level-binds}
use Rattle.typst_grammar.proofs.Exprs.{ordinary-expr, expr-binds, deeper-binds, limit-binds}
use Rattle.typst_grammar.proofs.FineRuns.{AllBind, PlainBy}
use Rattle.typst_grammar.proofs.Proper.{free, Proper, ordinary, proper-flush}
use Rattle.typst_grammar.proofs.PlainParts.{inside_content, proper-inside-content, proper-run, proper-exprs, proper-markup-expr, proper-pattern}
use Rattle.typst_grammar.proofs.PlainCode.{inside_code, proper-inside-code, proper-code-exprs, proper-atomic}
use Rattle.typst_grammar.proofs.PlainMath.{proper-math-expr}

-- ---- whole texts

proper-whole : Proper free whole
unfolding whole
proper-whole = (proper-run free _ (λ _ _. refl), λ _. proper-flush _)

proper-whole-code : Proper free whole_code
unfolding whole_code
proper-whole-code = ((refl, λ _. proper-code-exprs _ _), λ _. proper-flush _)

proper-whole-math : Proper free whole_math
unfolding whole_math
proper-whole-math = ((refl, λ _. proper-exprs _ _), λ _. proper-flush _)

-- ---- no block's node but where a block is read

pub ordinary-whole : PlainBy is_ordinary whole
ordinary-whole = ordinary whole proper-whole

pub ordinary-production : (k : CharClasses) (c : Call) → PlainBy is_ordinary (production k c)
ordinary-production k (MarkupExpr at_start nesting) = ordinary (markup_expr at_start nesting) (proper-markup-expr _ at_start nesting)
ordinary-production k (CodeExpr true least) = ordinary (code_expr true least) (proper-atomic _ least)
ordinary-production k (CodeExpr false least) = ordinary-expr least
ordinary-production k (MathExpr least stops) = ordinary (math_expr k least stops) (proper-math-expr _ k least stops)
ordinary-production k (Pattern role names) = ordinary (pattern role names) (proper-pattern _ role names)

pub ordinary-content : PlainBy is_ordinary inside_content
ordinary-content = ordinary inside_content (proper-inside-content free (λ _ _. refl))

pub ordinary-code : PlainBy is_ordinary inside_code
ordinary-code = ordinary inside_code (proper-inside-code free)

-- ---- each level

-- what is read one level deeper binds, and its operands bind as tightly as they should
record Bound (k : CharClasses) (levels : ℕ) : Type 0 where
  calls : CallsBind k levels
  operands : DeeperOperands k levels

module _ (k : CharClasses) where
  production-binds : (levels : ℕ) → Bound k levels → (c : Call) → AllBind (run (level_at k levels) (production k c))
  production-binds levels d (MarkupExpr at_start nesting) = level-binds k levels d.calls _ (proper-markup-expr _ at_start nesting)
  production-binds levels d (CodeExpr true least) = level-binds k levels d.calls _ (proper-atomic _ least)
  production-binds levels d (CodeExpr false least) = λ z s h. (expr-binds k levels d.calls d.operands least z s h).binds
  production-binds levels d (MathExpr least stops) = level-binds k levels d.calls _ (proper-math-expr _ k least stops)
  production-binds levels d (Pattern role names) = level-binds k levels d.calls _ (proper-pattern _ role names)

  limit-calls : CallsBind k 0
  unfolding meaning_of
  limit-calls c z s h = record { nodes = tt; known = h }

  next-calls : (levels : ℕ) → Bound k levels → CallsBind k (suc levels)
  unfolding meaning_of
  next-calls levels d c z s h = production-binds levels d c z s h

  all-bound : (levels : ℕ) → Bound k levels
  all-bound zero = record { calls = limit-calls; operands = limit-binds k limit-calls }
  all-bound (suc levels) = let d = all-bound levels in record { calls = next-calls levels d; operands = deeper-binds k levels d.calls d.operands }

-- ---- the laws

pub binding-markup : BindingLaw
unfolding tree
binding-markup k text = fine-over kind.Markup (parsed k max_depth text).nodes refl (level-binds k max_depth (all-bound k max_depth).calls whole proper-whole (start_of text) (start_point markup_reading) tt).nodes

pub binding-code : CodeBindingLaw
unfolding tree_code
binding-code k text = fine-over kind.Code (parsed_code k max_depth text).nodes refl (level-binds k max_depth (all-bound k max_depth).calls whole_code proper-whole-code (start_of text) (start_point code_reading) tt).nodes

pub binding-math : MathBindingLaw
unfolding tree_math
binding-math k text = fine-over kind.Math (parsed_math k max_depth text).nodes refl (level-binds k max_depth (all-bound k max_depth).calls whole_math proper-whole-math (start_of text) (start_point math_reading) tt).nodes
