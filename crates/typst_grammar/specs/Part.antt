-- What is read of a part of a text.
use Rattle.std.specs.Prelude.{◌≡◌, ℕ, ◌+◌, ◌<◌, Bool, true, false, List, [], ◌++◌, Some, IsSome}
use Rattle.typst_kinds.specs.declared.mode.SyntaxMode.{SyntaxMode}
use Rattle.typst_lines.specs.Place.{Place, moved}
use Rattle.typst_tokens.specs.Sight.{position}
use Rattle.typst_tree.specs.Tree.{Tree}
use Rattle.typst_lines.specs.Classes.{CharClasses}
use Rattle.typst_language.specs.declared.calls.Block.{Block}
use Rattle.typst_language.specs.declared.reading.AtNewline.TheVariants as newline
use Rattle.typst_language.specs.declared.reading.Reading.{Reading}
use Rattle.typst_language.specs.Ask.{Ask}
use Rattle.typst_language.specs.Knot.{blocks_of}
use Rattle.typst_language.specs.Log.{Log, no_log, logged}
use Rattle.typst_language.specs.Meaning.{Outcome, guessing, hand_of, start_point}
use Rattle.typst_language.specs.Point.{pending, gap_of}
use Rattle.typst_language.specs.View.{View, Fits}
use Rattle.typst_grammar.specs.declared.part.RunKind.{RunKind}
use Rattle.typst_code.specs.Markup.{ends}
use Rattle.typst_grammar.specs.Pieces.{stops_of}
use Rattle.typst_grammar.specs.declared.part.ReadPart.{ReadPart}
use Rattle.typst_grammar.specs.declared.part.PieceReader.{PieceReader}
use Rattle.typst_grammar.specs.Grammar.{rules, meaning}
use Rattle.typst_grammar.specs.Pieces.{AllGo, asks_of, given, run_level, first_look, pieces_on, end_on}
use Rattle.typst_grammar.specs.Guessing.{guesses}

-- A block that is read by itself, where a given number of levels are left and its first token is read in a
-- mode.
abbrev pub block_alone : CharClasses → ℕ → Block → SyntaxMode → Place → Outcome (Unit {0})
block_alone k levels b mode z = blocks_of (rules k) k levels (meaning k levels) b z (start_point (record { mode = mode; at_newline = newline.Continue }))

-- A part has the nodes that were read from a place on, and ends after a given number of characters; what was
-- looked at and noted for it is what was asked, where a given number of levels are left.
pub record IsPart (levels : ℕ) (z : Place) (nodes : List Tree) (taken : ℕ) (asks : List Ask) (p : ReadPart) : Type 0 where
  pub nodes_are : p.nodes.items ≡ nodes
  pub end : p.end ≡ position (moved taken z)
  pub log : ◌≡◌ {A = Log} (record { reach = p.hull.reach; least = p.hull.least; notes = Some p.notes.items }) (logged levels z no_log asks)

-- A parser is at a place where nothing is known but how it is read there, and it keeps notes.
pub record IsResumed (z : Place) (reading : Reading) (v : View) : Type 0 where
  pub nodes : v.nodes ≡ []
  pub place : v.place ≡ z
  pub state : v.state ≡ start_point reading
  pub log : v.log ≡ no_log
  pub memo : v.memo ≡ []

-- A part is what a parser gave that keeps notes, up to where it is.
pub record IsGiven (v : View) (p : ReadPart) : Type 0 where
  pub nodes : p.nodes.items ≡ v.nodes
  pub end : p.end ≡ position v.place
  pub log : IsSome v.log.notes → ◌≡◌ {A = Log} (record { reach = p.hull.reach; least = p.hull.least; notes = Some p.notes.items }) v.log

-- A part is a block that was read by itself from a place on.
abbrev pub IsBlock : CharClasses → ℕ → Block → SyntaxMode → Place → ReadPart → Type 0
IsBlock k levels b mode z p = let o = block_alone k levels b mode z in IsPart levels z o.nodes o.taken o.asks p

-- ---- pieces

-- A given number of pieces of a run were read from a place on, and after each of them the run goes on.
pub record HasRead (k : CharClasses) (levels : ℕ) (which : RunKind) (x : Bool × ℕ) (z : Place) (m : ℕ) (p : PieceReader) : Type 0 where
  pub levels_are : p.levels ≡ levels
  pub some : 0 < levels
  pub kind_is : p.kind ≡ which
  pub go : AllGo (pieces_on (run_level k levels which) (stops_of which) x m z)
  pub carried : p.carried ≡ (end_on (run_level k levels which) (stops_of which) x m z).value
  pub place : p.parser.place ≡ moved (end_on (run_level k levels which) (stops_of which) x m z).taken z
  pub state : p.parser.state ≡ (end_on (run_level k levels which) (stops_of which) x m z).state
  pub nodes : p.parser.nodes ≡ given (pieces_on (run_level k levels which) (stops_of which) x m z) []
  pub log : p.parser.log ≡ logged levels z no_log ((first_look (run_level k levels which) z).asks ++ asks_of (pieces_on (run_level k levels which) (stops_of which) x m z))
  -- the token after them is the current one, and begins at this byte
  pub fits : Fits (guessing (guesses k) (run_level k levels which)) p.parser
  pub end : p.end ≡ position (moved (gap_of p.parser.state.known) p.parser.place)

-- The run ends after a given number of pieces.
abbrev pub IsOver : CharClasses → ℕ → RunKind → Bool × ℕ → Place → ℕ → Type 0
IsOver k levels which x z m =
    let l = run_level k levels which in
    let e = end_on l (stops_of which) x m z in
    ends (stops_of which) e.value.1 (hand_of l (moved e.taken z) e.state).kind ≡ true

-- One more piece was read, or the run ends there.
abbrev pub HasReadOn : CharClasses → ℕ → RunKind → Bool × ℕ → Place → ℕ → Bool → PieceReader → Type 0
HasReadOn k levels which x z m true p = HasRead k levels which x z (m + 1) p
HasReadOn k levels which x z m false p = HasRead k levels which x z m p × IsOver k levels which x z m

-- A part is a given number of pieces of a run with the trivia after them.
abbrev pub ArePieces : CharClasses → ℕ → RunKind → Bool × ℕ → Place → ℕ → ReadPart → Type 0
ArePieces k levels which x z m p =
    let l = run_level k levels which in
    let os = pieces_on l (stops_of which) x m z in
    let e = end_on l (stops_of which) x m z in
    IsPart levels z (given os [] ++ pending e.state.known) (e.taken + gap_of e.state.known) ((first_look l z).asks ++ asks_of os) p
