use Rattle.typst_grammar.proofs.Cited.{lawful-parser, params, after_paren, as_group, readings, destructuring}
use Rattle.typst_grammar.specs.Grammar.{rules}
use Rattle.typst_grammar.proofs.laws.reading_laws.Goals as goal

pub returns-clause-group : goal.returns-clause-group
returns-clause-group c = λ k. lawful-parser (rules k) k as_group

pub returns-clause-rest : goal.returns-clause-rest
returns-clause-rest c = λ k. lawful-parser (rules k) k after_paren

pub returns-clause-params : goal.returns-clause-params
returns-clause-params c = λ k. lawful-parser (rules k) k params

pub returns-clause-destructuring : goal.returns-clause-destructuring
returns-clause-destructuring c = λ k role names. lawful-parser (rules k) k (destructuring role names)

pub returns-clause-counted : goal.returns-clause-counted
returns-clause-counted c = λ k. lawful-parser (rules k) k readings
