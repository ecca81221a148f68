-- Parsers that read a block only where a token is at hand, and note only what they are allowed to: all that calls and blocks read.
use Rattle.typst_grammar.proofs.Cited.{◌≡◌, ℕ, Bool, true, false, refl, CharClasses, Block, Mark, SyntaxKind, Call, Answer, MarkupExpr, CodeExpr, MathExpr, Pattern, too_deep, deeper, Shape, close_if, peek, grow, node, Parser, ◌>>◌, code_primary, code_tail_turn, code_expr, content_block, markup_expr, math_expr, pattern, code_block, production, block_production, whole}
use Rattle.typst_language.specs.declared.calls.Block.TheVariants as block
use Rattle.typst_language.specs.declared.calls.Mark.TheVariants as mark
pub use Rattle.typst_grammar.proofs.Proper.{sees, op_notes, Guarded}
use Rattle.typst_grammar.proofs.Proper.{Scope, Proper, proper-guarded, proper-close, proper-flush, proper-deep, proper-deeper}
use Rattle.typst_grammar.proofs.PlainParts.{inside_content, proper-inside-content, proper-run, proper-markup-expr, proper-pattern}
use Rattle.typst_grammar.proofs.PlainCode.{inside_code, proper-inside-code, proper-primary, proper-tail-turn}
use Rattle.typst_grammar.proofs.PlainMath.{proper-math-expr}

module _ (notes : Mark → Bool) where
  -- where these marks may be noted
  abbrev pub marking : Bool → Scope
  marking seen = record { notes = notes; given = Unit {0}; seen = seen }

  -- what is proper there
  guarded : {A : Type 0} (seen : Bool) (p : Parser A) → Proper (marking seen) p → Guarded notes seen p
  guarded seen p w = proper-guarded (marking seen) p w tt

  pub guarded-close : (seen : Bool) (is : SyntaxKind → Bool) → Guarded notes seen (close_if is)
  guarded-close seen is = guarded seen (close_if is) (proper-close _ is)

  pub guarded-deep : (seen : Bool) (stops : SyntaxKind → Bool) → Guarded notes seen (too_deep stops)
  guarded-deep seen stops = guarded seen (too_deep stops) (proper-deep _ stops)

  pub guarded-deeper : (seen : Bool) (call : Call) (answer : Answer call) → Guarded notes seen (deeper call answer)
  guarded-deeper seen call answer = guarded seen (deeper call answer) (proper-deeper _ call answer)

  pub guarded-node : (seen : Bool) {A : Type 0} (shape : A → Shape) (p : Parser A) → Guarded notes false p → Guarded notes seen (node shape p)
  unfolding node
  guarded-node seen shape p h = (refl, λ _. (h, λ _. tt))

  pub guarded-inside-content : (seen : Bool) → ((at_start : Bool) (nesting : ℕ) → notes (mark.Piece at_start nesting) ≡ true) → Guarded notes seen inside_content
  guarded-inside-content seen h = guarded seen inside_content (proper-inside-content (marking seen) h)

  pub guarded-inside-code : (seen : Bool) → Guarded notes seen inside_code
  guarded-inside-code seen = guarded seen inside_code (proper-inside-code (marking seen))

  pub guarded-blocks : (seen : Bool) (b : Block) → ((at_start : Bool) (nesting : ℕ) → notes (mark.Piece at_start nesting) ≡ true) → Guarded notes seen (peek >> block_production b)
  unfolding content_block code_block
  guarded-blocks seen block.Content h = (refl, λ _. (guarded-node _ _ _ (guarded-inside-content false h), λ _. tt))
  guarded-blocks seen block.Code h = (refl, λ _. (guarded-node _ _ _ (guarded-inside-code false), λ _. tt))

  pub guarded-whole : (seen : Bool) → ((at_start : Bool) (nesting : ℕ) → notes (mark.Piece at_start nesting) ≡ true) → Guarded notes seen whole
  unfolding whole
  guarded-whole seen h = guarded seen whole (proper-run (marking seen) _ h, λ _. proper-flush _)

  guarded-expr : (seen atomic : Bool) (least : ℕ) → Guarded notes seen (code_expr atomic least)
  unfolding code_expr grow
  guarded-expr seen atomic least = (refl, λ _. (guarded false (code_primary atomic) (proper-primary _ atomic), λ x. guarded false (code_tail_turn atomic least x) (proper-tail-turn _ atomic least x)))

  pub guarded-production : (seen : Bool) (k : CharClasses) (c : Call) → Guarded notes seen (production k c)
  guarded-production seen k (MarkupExpr at_start nesting) = guarded seen (markup_expr at_start nesting) (proper-markup-expr _ at_start nesting)
  guarded-production seen k (CodeExpr atomic least) = guarded-expr seen atomic least
  guarded-production seen k (MathExpr least stops) = guarded seen (math_expr k least stops) (proper-math-expr _ k least stops)
  guarded-production seen k (Pattern role names) = guarded seen (pattern role names) (proper-pattern _ role names)
