use Rattle.typst_grammar.proofs.Cited.{lawful-parser, lawful-call, markup_turn, markup_exprs, markup_run}
use Rattle.typst_grammar.specs.Grammar.{rules}
use Rattle.typst_grammar.proofs.InRuns.{lawful-block, lawful-in}
use Rattle.typst_grammar.proofs.laws.grammar_laws.Goals as goal

pub returns-clause-piece : goal.returns-clause-piece
returns-clause-piece c = λ k which is_run stops at_start nesting. lawful-in k which (markup_turn is_run stops (at_start, nesting))

pub returns-clause-sequence : goal.returns-clause-sequence
returns-clause-sequence c = λ k at_start stops. lawful-parser (rules k) k (markup_exprs at_start stops)

pub returns-clause-run : goal.returns-clause-run
returns-clause-run c = λ k which stops. lawful-in k which (markup_run stops)

pub returns-clause-block : goal.returns-clause-block
returns-clause-block c = lawful-block

pub returns-clause-call : goal.returns-clause-call
returns-clause-call c = λ k call. lawful-call (rules k) k call
