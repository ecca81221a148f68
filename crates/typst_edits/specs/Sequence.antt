-- The pieces of a run of markup.
use Rattle.std.specs.Prelude.{ℕ, ◌+◌, Bool, true, List, [], ◌∷◌, ◌++◌, length}
use Rattle.typst_kinds.specs.declared.kind.SyntaxKind.{SyntaxKind}
use Rattle.typst_lines.specs.Place.{Place, moved}
use Rattle.typst_tree.specs.Tree.{Tree}
use Rattle.typst_language.specs.Point.{Trivia, Point, pending}
use Rattle.typst_language.specs.Steps.{flush_trivia}
use Rattle.typst_language.specs.Meaning.{Outcome, Meaning, Level, plain, less, joined, repeated, run}
use Rattle.typst_grammar.specs.Markup.{markup_turn}
use Rattle.typst_grammar.specs.Pieces.{given}
pub use Rattle.typst_grammar.specs.Pieces.{made, AllGo, End, end_of, asks_of}

-- turns, and what comes after them
abbrev pub chain : {A B : Type 0} → List (Outcome (Bool × A)) → Outcome B → Outcome B
chain [] q = q
chain (o ∷ os) q = joined o (chain os q)

-- where the pieces of a run of markup are read: how deep, where they stop, and the place and the point at the first of them
pub record Sequence : Type 0 where
  pub level : Level
  pub stops : SyntaxKind → Bool
  pub place : Place
  pub point : Point

-- one of them, with whether a line begins there and in how many brackets it stands
abbrev pub turn_of : Sequence → Bool × ℕ → Meaning (Bool × (Bool × ℕ))
turn_of r x = run r.level (markup_turn true r.stops x)

-- the first n pieces
abbrev pub first_of : ℕ → Sequence → List (Outcome (Bool × (Bool × ℕ)))
first_of n r = made (turn_of r) n (true, 0) r.place r.point

-- where they end
abbrev pub first_end : ℕ → Sequence → End (Bool × ℕ)
first_end n r = end_of (true, 0) r.point (first_of n r)

-- the n pieces after the first i
abbrev pub then_of : ℕ → ℕ → Sequence → List (Outcome (Bool × (Bool × ℕ)))
then_of i n r = let e = first_end i r in made (turn_of r) n e.value (moved e.taken r.place) e.state

-- where they end, counted from where the first i do
abbrev pub then_end : ℕ → ℕ → Sequence → End (Bool × ℕ)
then_end i n r = let e = first_end i r in end_of e.value e.state (then_of i n r)

-- the place where they end
abbrev pub then_place : ℕ → ℕ → Sequence → Place
then_place i n r = moved (then_end i n r).taken (moved (first_end i r).taken r.place)

-- everything after those
abbrev pub rest_of : ℕ → ℕ → Sequence → Outcome (Bool × ℕ)
rest_of i n r = let f = then_end i n r in repeated (turn_of r) f.value (then_place i n r) f.state

-- the same with the trivia at the run's end, as one outcome
abbrev pub onwards_at : ℕ → ℕ → Sequence → Outcome (Unit {0})
onwards_at i n r =
    let o = rest_of i n r in
    joined o (run r.level flush_trivia (moved (((first_end i r).taken + (then_end i n r).taken) + o.taken) r.place) o.state)

-- ---- their nodes

-- several pieces as one outcome
abbrev pub together : {A : Type 0} → Point → List (Outcome (Bool × A)) → Outcome (Unit {0})
together s os = chain os (plain (tt {0}) s)

-- the n pieces after the first i, as one outcome
abbrev pub read_by : ℕ → ℕ → Sequence → Outcome (Unit {0})
read_by i n r = together (then_end i n r).state (then_of i n r)

-- the nodes that stand before them: those of the i pieces, without the errors that they take back
abbrev pub standing_by : ℕ → ℕ → Sequence → List Tree
standing_by i n r = less (read_by i n r).back (given (first_of i r) [])

-- their nodes, without the errors that what comes after them takes back, and the trivia after them
abbrev pub nodes_after : ℕ → ℕ → Trivia → Sequence → List Tree
nodes_after i n t r = less (onwards_at i n r).back (read_by i n r).nodes ++ t.nodes

-- how many nodes of trivia stand where i pieces end
abbrev pub trivia_before : ℕ → Sequence → ℕ
trivia_before i r = length (pending (first_end i r).state.known)
