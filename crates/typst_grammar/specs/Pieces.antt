-- Pieces of a run, which are read one after the other.
use Rattle.std.specs.Prelude.{◌≡◌, ℕ, zero, suc, ◌+◌, Bool, true, false, ◌&&◌, nat_lt, List, [], ◌∷◌, ◌++◌}
use Rattle.typst_kinds.specs.declared.kind.SyntaxKind.{SyntaxKind}
use Rattle.typst_lines.specs.Place.{Place, moved}
use Rattle.typst_tree.specs.Tree.{Tree}
use Rattle.typst_lines.specs.Classes.{CharClasses}
use Rattle.typst_language.specs.declared.calls.Block.{Block}
use Rattle.typst_language.specs.Knot.{blocks_of}
use Rattle.typst_language.specs.Ask.{Ask, shift}
use Rattle.typst_language.specs.Hand.{AtHand}
use Rattle.typst_language.specs.Meaning.{Outcome, Meaning, Level, blockless, plain, standing, start_point, run}
use Rattle.typst_language.specs.Point.{Point}
use Rattle.typst_language.specs.Steps.{peek}
use Rattle.typst_grammar.specs.declared.part.RunKind.{RunKind}
use Rattle.typst_grammar.specs.declared.part.RunKind.TheVariants as of
use Rattle.typst_language.specs.Depth.{is_end}
use Rattle.typst_code.specs.Markup.{ends_block, markup_turn, markup_reading}
use Rattle.typst_grammar.specs.Grammar.{has, rules, meaning}

-- ---- turns of a loop

-- the first n turns of a loop
abbrev pub made : {A : Type 0} → (A → Meaning (Bool × A)) → ℕ → A → Place → Point → List (Outcome (Bool × A))
made m zero x z s = []
made m (suc n) x z s = let o = m x z s in o ∷ made m n o.value.1 (moved o.taken z) o.state

-- a turn says that the loop goes on, and took something
abbrev pub goes : {A : Type 0} → Outcome (Bool × A) → Bool
goes o = o.value.0 && nat_lt 0 o.taken

-- each of some turns says that the loop goes on, and took something
abbrev pub AllGo : {A : Type 0} → List (Outcome (Bool × A)) → Type 0
AllGo [] = Unit {0}
AllGo (o ∷ os) = (goes o ≡ true) × AllGo os

-- where turns end, with what the loop carries and the state there
pub record End (A : Type 0) : Type 0 where
  pub value : A
  pub taken : ℕ
  pub state : Point

-- where some turns end
abbrev pub end_of : {A : Type 0} → A → Point → List (Outcome (Bool × A)) → End A
end_of x s [] = record { value = x; taken = 0; state = s }
end_of x s (o ∷ os) = let e = end_of o.value.1 o.state os in record e { taken = o.taken + e.taken }

-- what turns asked, in order
abbrev pub asks_of : {A : Type 0} → List (Outcome (Bool × A)) → List Ask
asks_of [] = []
asks_of (o ∷ os) = o.asks ++ shift o.taken (asks_of os)

-- the nodes after several outcomes, by those before them
abbrev pub given : {A : Type 0} → List (Outcome (Bool × A)) → List Tree → List Tree
given [] ts = ts
given (o ∷ os) ts = given os (standing o ts)

-- ---- pieces from a place on

-- at which tokens a run ends
abbrev pub stops_of : RunKind → SyntaxKind → Bool
stops_of of.Text = is_end
stops_of of.Block = ends_block

-- which blocks may be read in a run itself: in that of a text each, and in that of a content block
-- none
abbrev pub has_in : RunKind → Block → Bool
has_in of.Text = has
has_in of.Block = λ b. false

-- what blocks give that may be read in a run itself
abbrev pub blocks_in : CharClasses → ℕ → RunKind → Block → Meaning (Unit {0})
blocks_in k levels of.Text = blocks_of (rules k) k levels (meaning k levels)
blocks_in k levels of.Block = λ b z s. plain tt s

-- where a run of this kind is read, with a given number of levels left for what is called in it
abbrev pub run_level : CharClasses → ℕ → RunKind → Level
run_level k levels which = record (blockless k levels (meaning k levels)) { has = has_in which; blocks = blocks_in k levels which }

-- the look at the first token, where nothing is known but that it is markup
abbrev pub first_look : Level → Place → Outcome AtHand
first_look l z = run l peek z (start_point markup_reading)

-- the first m pieces from there on, by whether a line begins there and in how many brackets it is
abbrev pub pieces_on : Level → (SyntaxKind → Bool) → Bool × ℕ → ℕ → Place → List (Outcome (Bool × (Bool × ℕ)))
pieces_on l stops x m z = made (λ y. run l (markup_turn true stops y)) m x z (first_look l z).state

-- where the first m pieces end, with what is carried and the state there
abbrev pub end_on : Level → (SyntaxKind → Bool) → Bool × ℕ → ℕ → Place → End (Bool × ℕ)
end_on l stops x m z = end_of x (first_look l z).state (pieces_on l stops x m z)
