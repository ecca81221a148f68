-- The whole text is read.
use Rattle.typst_grammar.proofs.Cited.{◌≡◌, ℕ, ◌<◌, ◌≤◌, Bool, true, List, length, encode_utf8_all, refl, ap, ◌∙◌, arith, SyntaxKind, moved, text_of, CharClasses, MarkupExpr, meaning_of, Parser, ◌>>◌, ◌>>=◌, gives, next, repeat, peek, unexpected, is_end, too_deep, deeper, as_at_hand, Level, hand_of, start_point, run, take-all, sane-at, MarkupHead, ends, note_piece, markup_turn, markup_run, markup_head, markup_by, markup_expr, markup_reading}
use Rattle.typst_language.proofs.Eaten.{Eats}
use Rattle.typst_code.specs.head.MarkupHead.TheVariants as head
use Rattle.typst_kinds.specs.declared.mode.SyntaxMode.TheVariants as mode
use Rattle.typst_grammar.specs.Grammar.{rules, level_at, max_depth, start_of, whole, parsed, tree}
use Rattle.typst_grammar.proofs.Begun.{first-markup}
use Rattle.typst_grammar.proofs.Firsts.{eaten-first}
use Rattle.typst_grammar.proofs.Moves.{Moves, moves-next, moves-peek, moves-unexpected}
use Rattle.typst_grammar.proofs.Turns.{StopsAtEnd, Goes, Ends, turn-stops, repeat-ends, deep-ends, next-ends, gives-ends, all-taken}

-- ---- each expression takes something

module _ (k : CharClasses) (levels : ℕ) where
  abbrev l : Level
  l = level_at k levels

  moves-by : (nesting : ℕ) (h : MarkupHead) → Moves l (markup_by nesting h)
  moves-by nesting head.Stray = moves-next l (unexpected _) _ (moves-unexpected l _)
  moves-by nesting head.Unexpected = moves-next l (unexpected _) _ (moves-unexpected l _)
  moves-by nesting h = λ z s some. (eaten-first k levels (markup_by nesting h) z s (first-markup (as_at_hand (hand_of l z s)) true nesting h refl)).taken some

  pub eats-expr : (at_start : Bool) (nesting : ℕ) → Eats l (markup_expr at_start nesting)
  unfolding markup_expr
  eats-expr at_start nesting z s h = moves-peek l _ (λ a. moves-by nesting (markup_head at_start nesting a.kind)) z s (omega (arith, h))

-- ---- the sequence of a text goes on to the end

ends-is : (n : ℕ) (k : SyntaxKind) → ends is_end n k ≡ is_end k
ends-is n k = grind arith

module _ (k : CharClasses) where
  abbrev behind : ℕ → Parser (Bool × (Bool × ℕ))
  behind nesting = do
    after ← peek
    noted ← note_piece true after.newlines.any nesting
    gives (true, (after.newlines.any, nesting))

  abbrev rest : Bool × ℕ → Parser (Bool × (Bool × ℕ))
  rest x = next (deeper (MarkupExpr x.0 x.1) x.1) behind

  goes : (x : Bool × ℕ) → Goes k (rest x)
  unfolding run deeper meaning_of
  goes x z s h = let inside : 0 < (run (level_at k 255) (markup_expr x.0 x.1) (moved 0 z) s).taken = eats-expr k 255 x.0 x.1 z s h in grind arith

  stops : (x : Bool × ℕ) → StopsAtEnd k (markup_turn true is_end x)
  unfolding markup_turn
  stops x = turn-stops k (ends is_end x.1) x (λ h. rest x) (ends-is x.1) (λ h. goes x)

  ends-run : Ends k (markup_run is_end)
  unfolding markup_run
  ends-run =
      deep-ends k (peek >> too_deep is_end) _
      (next-ends k _ _ (λ noted. next-ends k peek _ (λ ahead. gives-ends k (repeat (markup_turn true is_end) (true, 0)) (λ x. tt) (repeat-ends k (markup_turn true is_end) (true, 0) stops))))

  pub whole-taken : (text : List ℕ) → length text ≤ (parsed k max_depth text).taken
  unfolding whole
  whole-taken text = all-taken k mode.Markup (markup_run is_end) ends-run text

-- the leaves law
pub leaves : (k : CharClasses) (text : List ℕ) → text_of (tree k text) ≡ encode_utf8_all text
unfolding tree
leaves k text =
    let o = parsed k max_depth text in
    ((sane-at (rules k) k max_depth whole).kept (start_of text) (start_point markup_reading) tt).text ∙ ap encode_utf8_all (take-all o.taken text (whole-taken k text))
