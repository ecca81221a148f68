-- What is read at each level binds, where what it calls does.
use Rattle.typst_grammar.proofs.Cited.{◌≡◌, ℕ, Bool, true, false, refl, arith, SyntaxKind, Place, CharClasses, Block, Call, CodeExpr, deeper, blocks_of, Meaning, blockless, run, Point, pending, encloses, node, Parser, content_block, code_block}
use Rattle.typst_kinds.specs.declared.kind.SyntaxKind.TheVariants as kind
use Rattle.typst_language.specs.declared.calls.Block.TheVariants as block
use Rattle.typst_grammar.specs.Grammar.{block_production, rules, meaning, level_at}
use Rattle.typst_grammar.proofs.Fine.{All, unbinary, tame_kind, tame-unbinary}
use Rattle.typst_grammar.proofs.FineRuns.{AllBind, gives-all, PlainBy, plain-weaker, Still, binds-run}
use Rattle.typst_grammar.proofs.Proper.{free, Proper, proper-plain}
use Rattle.typst_grammar.proofs.PlainParts.{inside_content, proper-inside-content}
use Rattle.typst_grammar.proofs.PlainCode.{inside_code, proper-inside-code}
use Rattle.typst_grammar.proofs.Grown.{Operand}

module _ (k : CharClasses) where
  -- the calls of a level bind
  abbrev pub CallsBind : ℕ → Type 0
  CallsBind levels = (c : Call) → AllBind (meaning k levels c)

  -- what is proper makes no binary node
  no-binary : {A : Type 0} (p : Parser A) → Proper free p → PlainBy unbinary p
  no-binary p w = plain-weaker tame_kind unbinary tame-unbinary p (proper-plain free p w)

  -- of its node no more is asked than that it is no binary one
  unbinary-node : (i : SyntaxKind) (p : Parser Bool) → unbinary i ≡ true → Proper free p → PlainBy unbinary (node (encloses i) p)
  unfolding node
  unbinary-node i p e w = grind (arith, gives-all, no-binary)

  plain-block : (b : Block) → PlainBy unbinary (block_production b)
  unfolding content_block code_block
  plain-block block.Content = (unbinary-node kind.ContentBlock inside_content refl (proper-inside-content free (λ _ _. refl)), λ _. tt)
  plain-block block.Code = (unbinary-node kind.CodeBlock inside_code refl (proper-inside-code free), λ _. tt)

  -- a level's blocks bind if its calls do
  blocks-bind : (levels : ℕ) → CallsBind levels → (b : Block) → AllBind (blocks_of (rules k) k levels (meaning k levels) b)
  blocks-bind levels d b = binds-run (blockless k levels (meaning k levels)) d (λ x z s h. record { nodes = tt; known = h }) _ (refl, λ _. plain-block b)

  -- and all that makes no binary node
  pub level-binds : {A : Type 0} (levels : ℕ) → CallsBind levels → (p : Parser A) → Proper free p → AllBind (run (level_at k levels) p)
  level-binds levels d p w = binds-run (level_at k levels) d (blocks-bind levels d) p (no-binary p w)

  -- an operand, and what binds less tightly after it
  abbrev pub Operands : ℕ → Meaning (Unit {0}) → Type 0
  Operands least m = (z : Place) (s : Point) → All Still (pending s.known) → Operand k least z s (m z s)

  -- operands one level deeper
  abbrev pub DeeperOperands : ℕ → Type 0
  DeeperOperands levels = (least : ℕ) → Operands least (run (level_at k levels) (deeper (CodeExpr false least) tt))
