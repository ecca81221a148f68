-- The facts of markup and of patterns: each is proper, and what a token begins takes it first.
use Rattle.typst_grammar.proofs.Cited.{◌≡◌, ℕ, Bool, true, false, if◌then◌else◌, List, Option, refl, arith, same, SyntaxKind, Role, AfterName, MarkupHead, right_side, embedded_end, embedded_expr, embedded, math_expression, math_item, math_turn, math_exprs, math, between_dollars, equation, note_piece, markup_turn, markup_exprs, markup_run, markup, markup_is_empty, emphasized, delimited, heading, item, term_item, direct_content, markup_reading, ends_block, reference, markup_head, markup_by, markup_expr, defaulted, param, param_turn, params, separator, bound_change, bound_name, pattern_leaf, sink, sink_shape, name_and_colon, key, key_or_pattern, named_shape, part, Found, destructuring_item, destructuring_turn, destructuring, pattern, Shape, encloses, itself, close_if, note, Parser, ◌>>=◌, takes, does, scoped, and_parts}
use Rattle.typst_kinds.specs.declared.kind.SyntaxKind.TheVariants as kind
use Rattle.typst_code.specs.bindings.Bound.{Bound}
use Rattle.typst_language.specs.declared.calls.AfterName.TheVariants as after
use Rattle.typst_code.specs.head.MarkupHead.TheVariants as head
use Rattle.typst_code.specs.Bindings.{equals, bound_shape}
use Rattle.typst_language.specs.declared.calls.Mark.TheVariants as mark
use Rattle.typst_grammar.proofs.Fine.{tame, tame_change, tame_kind}
use Rattle.typst_grammar.proofs.Proper.{proper_steps, Scope, unseen, Proper, bracket-there, proper-eat, proper-if, proper-close, proper-within, proper-node, proper-trivia, proper-read, proper-expects, proper-deep, proper-deeper}

-- ---- embedded code and formulas

pub proper-embedded : (c : Scope) → Proper c embedded
unfolding embedded embedded_expr embedded_end
proper-embedded c = search proper_steps depth 40 fits 4000

pub proper-exprs : (c : Scope) (stops : SyntaxKind → Bool) → Proper c (math_exprs stops)
unfolding math_exprs math_turn math_item math_expression
proper-exprs c stops = search proper_steps depth 40 fits 4000

pub proper-equation : (c : Scope) → Proper c equation
unfolding equation between_dollars math
proper-equation c = search (proper_steps, proper-exprs) depth 40 fits 4000

-- ---- markup

proper-markup-turn : (c : Scope) (is_run : Bool) (stops : SyntaxKind → Bool) (x : Bool × ℕ) → ((at_start : Bool) (nesting : ℕ) → is_run ≡ true → c.notes (mark.Piece at_start nesting) ≡ true) → Proper c (markup_turn is_run stops x)
unfolding markup_turn note_piece note
proper-markup-turn c is_run stops x h = grind (arith, proper-deeper)

proper-markup-exprs : (c : Scope) (at_start : Bool) (stops : SyntaxKind → Bool) → Proper c (markup_exprs at_start stops)
unfolding markup_exprs
proper-markup-exprs c at_start stops = (refl, λ _. (proper-deep _ stops, (refl, λ _. (λ x. proper-markup-turn _ false stops x (λ _ _ e. absurd (cc)), λ _. tt))))

pub proper-run : (c : Scope) (stops : SyntaxKind → Bool) → ((at_start : Bool) (nesting : ℕ) → c.notes (mark.Piece at_start nesting) ≡ true) → Proper c (markup_run stops)
unfolding markup_run
proper-run c stops h =
    (refl, λ _. ((refl, λ _. proper-deep _ stops), ((refl, λ _. h _ _), λ _. (refl, λ _. (λ x. proper-markup-turn _ true stops x (λ a n _. h a n), λ _. tt)))))

proper-markup : (c : Scope) (at_start : Bool) (stops : SyntaxKind → Bool) → Proper c (markup at_start stops)
unfolding markup
proper-markup c at_start stops = proper-node _ _ _ (λ _. refl) (proper-markup-exprs _ at_start stops)

proper-empty : (c : Scope) (p : Parser (Unit {0})) → Proper (unseen c) p → Proper c (markup_is_empty p)
unfolding markup_is_empty
proper-empty c p h = (proper-trivia _ kind.Markup p refl h, λ _. tt)

tame-emphasized : (k : SyntaxKind) (warning hint : List ℕ) → tame_kind k ≡ true → (x : Bool × Bool) → tame (emphasized k warning hint x) ≡ true
tame-emphasized k warning hint e x = grind arith

proper-delimited : (c : Scope) (k : SyntaxKind) (stops : SyntaxKind → Bool) (delimiter : SyntaxKind) (warning hint : List ℕ) → tame_kind k ≡ true → Proper c (delimited k stops delimiter warning hint)
unfolding delimited
proper-delimited c k stops delimiter warning hint e = grind (arith, proper-within, proper-node, tame-emphasized, proper-eat, proper-empty, proper-markup-exprs, proper-if)

-- what stands in the node of a block
abbrev pub inside_content : Parser Bool
inside_content = scoped (λ _. markup_reading) (do
  bracket ← does (takes false itself)
  is_empty ← markup_is_empty (markup_run ends_block)
  close_if (same kind.RightBracket))

pub proper-inside-content : (c : Scope) → ((at_start : Bool) (nesting : ℕ) → c.notes (mark.Piece at_start nesting) ≡ true) → Proper c inside_content
proper-inside-content c h = (refl, λ _. (proper-empty _ _ (proper-run _ _ h), λ _. proper-close _ _))

ruleset markup_parts = (proper-embedded, proper-equation, proper-markup, proper-delimited)

-- a production is opened here, or has a lemma among the parts
proper-by : (c : Scope) (nesting : ℕ) (h : MarkupHead) → Proper c (markup_by nesting h)
unfolding heading item term_item reference direct_content
proper-by c nesting head.Reference = grind (arith, proper-node, proper-eat, proper-read, bracket-there, and_parts)
proper-by c nesting _ = search (proper_steps, markup_parts) depth 40 fits 4000

pub proper-markup-expr : (c : Scope) (at_start : Bool) (nesting : ℕ) → Proper c (markup_expr at_start nesting)
unfolding markup_expr
proper-markup-expr c at_start nesting = (refl, λ a. proper-by _ nesting (markup_head at_start nesting a.kind))

-- ---- patterns

pub proper-separator : (c : Scope) → Proper c separator
unfolding separator
proper-separator c = (refl, λ _. (tt, proper-expects _ _ _))

tame-bound : (role : Role) (names : List (List ℕ)) (name : Option (List ℕ)) → tame_change (bound_change role names name) ≡ true
tame-bound role names name = grind arith

proper-leaf : (c : Scope) (role : Role) (names : List (List ℕ)) → Proper c (pattern_leaf role names)
unfolding pattern_leaf bound_name
proper-leaf c role names = search (proper_steps, tame-bound) depth 40 fits 4000

tame-sink : (message : List ℕ) (again : Bool) → tame (sink_shape message again) ≡ true
tame-sink message again = grind arith

tame-named : (named : Option Bool) → tame (named_shape named) ≡ true
tame-named named = grind arith

proper-part : (c : Scope) (role : Role) (names : List (List ℕ)) → Proper c (part role names)
unfolding part key_or_pattern key name_and_colon
proper-part c role names = search proper_steps depth 40 fits 4000

proper-destructuring-turn : (c : Scope) (role : Role) (found : Found) → Proper c (destructuring_turn role found)
unfolding destructuring_turn destructuring_item sink
proper-destructuring-turn c role found = search (proper_steps, proper-separator, proper-leaf, proper-part, tame-sink, tame-named) depth 40 fits 4000

tame-parts : (alone closed : Bool) → tame (encloses (if alone then kind.Parenthesized else kind.Destructuring) closed) ≡ true
tame-parts alone closed = grind arith

pub proper-destructuring : (c : Scope) (role : Role) (names : List (List ℕ)) → Proper c (destructuring role names)
unfolding destructuring
proper-destructuring c role names = search (proper_steps, proper-destructuring-turn, tame-parts) depth 40 fits 4000

pub proper-pattern : (c : Scope) (role : Role) (names : List (List ℕ)) → Proper c (pattern role names)
unfolding pattern
proper-pattern c role names = search (proper_steps, proper-destructuring, proper-leaf) depth 40 fits 4000

-- ---- closures and bindings

proper-param : (c : Scope) (so_far : Bool × List (List ℕ)) → Proper c (param so_far)
unfolding param defaulted sink
proper-param c so_far = search (proper_steps, proper-leaf, tame-sink, tame-named) depth 40 fits 4000

pub proper-params : (c : Scope) → Proper c params
unfolding params param_turn
proper-params c = search (proper_steps, proper-separator, proper-param) depth 40 fits 4000

-- by what comes after a name
pub tame-after : (f : AfterName → Shape) → tame (f after.Arrow) ≡ true → tame (f after.Eq) ≡ true → tame (f after.Nothing) ≡ true → (b : AfterName) → tame (f b) ≡ true
tame-after f x y z after.Arrow = x
tame-after f x y z after.Eq = y
tame-after f x y z after.Nothing = z

pub proper-right : (c : Scope) (b : AfterName) → Proper c (right_side b)
proper-right c b = grind (arith, proper_steps)

pub tame-bound-shape : (b : Bound) → tame (bound_shape b) ≡ true
tame-bound-shape b = grind arith

pub proper-equals : (c : Scope) (b : Bound) → Proper c (equals b)
proper-equals c b = grind (arith, proper-if, proper-expects)
