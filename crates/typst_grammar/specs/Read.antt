-- What a parser shows that read a whole text.
use Rattle.std.specs.Prelude.{◌≡◌, ℕ, Bool, List}
use Rattle.typst_language.specs.Log.{blank_log, logged}
use Rattle.typst_language.specs.Meaning.{Outcome}
use Rattle.typst_language.specs.View.{View}
use Rattle.typst_grammar.specs.Grammar.{max_depth, start_of}

-- a parser has the nodes, and the looks and notes, of what the definition gives
pub record IsParsed (keeps : Bool) (text : List ℕ) (o : Outcome (Unit {0})) (w : View) : Type 0 where
  pub nodes : w.nodes ≡ o.nodes
  pub log : w.log ≡ logged max_depth (start_of text) (blank_log keeps) o.asks
