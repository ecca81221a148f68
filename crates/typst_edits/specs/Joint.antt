-- Pieces that are read again, and those after them, where other trivia or other errors stand between them than before.
use Rattle.std.specs.Prelude.{◌≡◌, ℕ, ◌+◌, Bool, true, false, List, [], ◌++◌, Some}
use Rattle.typst_kinds.specs.declared.kind.SyntaxKind.{SyntaxKind}
use Rattle.typst_lines.specs.Place.{Place, moved}
use Rattle.typst_tree.specs.Tree.{Tree}
use Rattle.typst_lines.specs.Classes.{CharClasses}
use Rattle.typst_language.specs.Ask.{Ask, shift}
use Rattle.typst_language.specs.Depth.{is_end}
use Rattle.typst_language.specs.Point.{Trivia, Point}
use Rattle.typst_language.specs.Steps.{flush_trivia}
use Rattle.typst_language.specs.Syntax.{◌>>=◌}
use Rattle.typst_language.specs.Syntax.Parser.{repeat}
use Rattle.typst_language.specs.Meaning.{Outcome, Meaning, hand_of, run}
use Rattle.typst_grammar.specs.head.MarkupHead.{MarkupHead}
use Rattle.typst_grammar.specs.head.MarkupHead.TheVariants as head
use Rattle.typst_grammar.specs.Markup.{ends, markup_turn, markup_head}
use Rattle.typst_grammar.specs.Grammar.{level_at, max_depth}
use Rattle.typst_edits.specs.Sequence.{Sequence, End}

-- what takes back the empty errors before it: an expression that wasn't expected
abbrev pub minds : MarkupHead → Bool
minds head.Stray = true
minds head.Unexpected = true
minds _ = false

-- the expressions from a place on, and the trivia after them
abbrev pub onwards : Sequence → Bool × ℕ → Meaning (Unit {0})
onwards r x = run r.level (repeat (markup_turn true r.stops) x >>= λ _. flush_trivia)

-- the point after these trivia, whose nodes and newlines stay known; no gap is left
abbrev pub passed : Trivia → Point → Point
passed t s = record s { known = Some (record t { gap = 0 }) }

-- what is the same except for the trivia before it
pub record Exchanged {A : Type 0} (t u : Trivia) (o n : Outcome A) : Type 0 where
  pub value : n.value ≡ o.value
  pub more : ℕ
  pub taken : o.taken ≡ t.gap + more
  pub taken_now : n.taken ≡ u.gap + more
  pub back : n.back ≡ o.back
  pub hints : o.hints ≡ []
  pub hints_now : n.hints ≡ []
  pub rest : List Tree
  pub nodes : o.nodes ≡ t.nodes ++ rest
  pub nodes_now : n.nodes ≡ u.nodes ++ rest
  pub looks : List Ask
  pub asks : o.asks ≡ shift t.gap looks
  pub asks_now : n.asks ≡ shift u.gap looks
  pub met : n.met ≡ o.met

-- whether the expressions end there
abbrev pub is_over_at : Sequence → Place → End (Bool × ℕ) → Bool
is_over_at r z e = ends r.stops e.value.1 (hand_of r.level z e.state).kind

-- What has to agree where pieces end, before the expressions that follow: what is carried, unless the expressions end there in both texts; neither the trivia nor the errors before them. (`Meets` of RunTest.antt says so of entries.)
pub record Meets (r : Sequence) (z : Place) (e f : End (Bool × ℕ)) (t u : Trivia) : Type 0 where
  pub known : e.state.known ≡ Some t
  pub known_now : f.state.known ≡ Some u
  pub value : is_over_at r z e ≡ false → f.value ≡ e.value
  pub over : is_over_at r z e ≡ true → (kind : SyntaxKind) → ends r.stops f.value.1 kind ≡ ends r.stops e.value.1 kind
  -- the number of empty errors matters only where the next expression takes them back
  pub errors : is_over_at r z e ≡ false → minds (markup_head e.value.0 e.value.1 (hand_of r.level z e.state).kind) ≡ true → f.state.empties ≡ e.state.empties
