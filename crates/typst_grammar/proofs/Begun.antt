-- What a token begins: which productions take it first, and that those of code give nodes that are no operators.
use Rattle.typst_grammar.proofs.Cited.{◌≡◌, ℕ, Bool, true, false, ◌&&◌, ◌||◌, refl, inl, inr, ◌⊎◌, rules, arith, CharClasses, same, among, SyntaxKind, AfterName, Block, ChainSet, MarkupHead, CodeHead, CodeTail, argument_list, listed_arguments, content_turn, begin_arguments, arguments, calls_directly, let_binding, after_name, after_underscore, name_shape, underscore_shape, closure_shape, right_side, headed, named, placeholder, embedded, between_dollars, equation, code_head, code_by, unary_expr, code_primary, call_tail, tail_by, code_expr, binary_expr, not_in, group, delimited, heading, item, term_item, reference, markup_by, content_block, math_head, math_text, root, math_by, math_primary, math_grown, math_expr, params, as_group, readings, parens, destructuring, code_block, field, set_rule, show_shape, show_rule, contextual, conditional_turn, conditional, while_loop, for_loop, module_include, jump, func_return, seeing, AtHand, Shape, peek, within, eat, convert_and_eat, eat_making, node, grow, nest, read_block, ◌>>=◌, gives, block_production, MathHead, module_import, begins_code, not}
use Rattle.typst_kinds.specs.Sets.{code_expr as code_kinds, math_expr as math_kinds}
use Rattle.typst_kinds.specs.declared.kind.SyntaxKind.TheVariants as kind
use Rattle.typst_language.specs.declared.calls.AfterName.TheVariants as after
use Rattle.typst_code.specs.head.MarkupHead.TheVariants as in_markup
use Rattle.typst_code.specs.declared.heads.CodeHead.TheVariants as in_code
use Rattle.typst_code.specs.declared.heads.CodeTail.TheVariants as tail
use Rattle.typst_code.specs.math_heads.MathHead.TheVariants as in_math
use Rattle.typst_code.specs.Delimited.{delimiter_sign, delimiter, delimited as math_delimited}
use Rattle.typst_grammar.proofs.EatsFirst.{Begins, EatsFirst, every-among}
use Rattle.typst_grammar.proofs.FineRuns.{Gives, gives-all}
use Rattle.typst_grammar.proofs.Openers.{makes, keeps_bare, OnlyLooks, Bares}
use Rattle.typst_grammar.proofs.Parens.{quiet-closed, bare-parens}

-- ---- markup

-- a token that is unexpected takes back the empty errors before it
abbrev pub is_stray : MarkupHead → Bool
is_stray in_markup.Stray = true
is_stray in_markup.Unexpected = true
is_stray _ = false

pub first-markup : (a : AtHand) (blocks : Bool) (nesting : ℕ) (h : MarkupHead) → is_stray h ≡ false → EatsFirst a blocks false (markup_by nesting h)
unfolding eat eat_making convert_and_eat node within delimited heading item term_item reference embedded between_dollars equation
first-markup a blocks nesting h e = grind arith

-- ---- code

pub first-block : (a : AtHand) (b : Block) → EatsFirst a false true (block_production b)
unfolding eat eat_making node content_block code_block
first-block a b = grind arith

pub first-readings : (a : AtHand) (rest : Bool → AfterName → Type 0) → Begins a true true rest readings
unfolding eat eat_making node within readings as_group group params destructuring
first-readings a rest = search rules depth 20

-- a token begins it where it isn't atomic
abbrev pub opens : CodeHead → Bool
opens in_code.StrayOperator = false
opens in_code.Unexpected = false
opens in_code.Missing = false
opens in_code.Group = false
opens _ = true

pub first-code : (a : AtHand) (h : CodeHead) → opens h ≡ true → EatsFirst a true true (code_by false h)
unfolding eat eat_making node nest within read_block unary_expr named placeholder between_dollars equation parens let_binding set_rule show_rule contextual conditional conditional_turn while_loop for_loop module_import module_include jump func_return
first-code a h e = grind (arith, first-readings)

begun-opens : (i : SyntaxKind) → begins_code i ≡ true → opens (code_head false i) ≡ true
begun-opens i e = every-among (λ j. opens (code_head false j)) code_kinds refl i e

first-primary : (a : AtHand) → opens (code_head false a.kind) ≡ true → EatsFirst a true true (code_primary false)
unfolding code_primary
first-primary a e = first-code a (code_head false a.kind) e

pub first-expr : (a : AtHand) (least : ℕ) → begins_code a.kind ≡ true → EatsFirst a true false (code_expr false least)
unfolding grow code_expr
first-expr a least e = (refl, first-primary a (begun-opens a.kind e))

-- arguments begin with a paren or a bracket
no-arguments : (paren bracket trivia : Bool) → paren ≡ false → (bracket && not trivia) ≡ false → ((paren || bracket) && not trivia) ≡ true → ⊥
no-arguments paren bracket trivia p b e = grind arith

first-arguments : (a : AtHand) (rest : Bool → Unit {0} → Type 0) → calls_directly a.kind a.has_trivia ≡ true → Begins a true true rest arguments
unfolding eat eat_making node within read_block arguments begin_arguments listed_arguments argument_list content_turn
first-arguments a rest e = (λ _. (refl, (λ _. refl, λ p. (λ _. refl, λ b. no-arguments (same kind.LeftParen a.kind) (same kind.LeftBracket a.kind) a.has_trivia p b e))), λ f. absurd (cc))

abbrev is_call : CodeTail → Bool
is_call tail.Call = true
is_call _ = false

abbrev takes_token : CodeTail → Bool
takes_token tail.DirectField = false
takes_token tail.Nothing = false
takes_token _ = true

-- what is read after an expression takes its token first too
pub first-tail : (a : AtHand) (t : CodeTail) → (is_call t ≡ true → calls_directly a.kind a.has_trivia ≡ true) → takes_token t ≡ true → EatsFirst a true true (tail_by t)
unfolding eat eat_making call_tail field not_in binary_expr
first-tail a t e f = grind (arith, first-arguments)

-- ---- what begins an expression of code gives nodes that are no operators

-- it gives the token itself
abbrev pub keeps_token : CodeHead → Bool
keeps_token in_code.Itself = true
keeps_token in_code.Named = true
keeps_token in_code.Placeholder = true
keeps_token _ = false

quiet-show : (colon : Bool) → makes (show_shape colon) ≡ true
quiet-show colon = grind arith

-- what comes after a name or an underscore makes a node of it, or isn't there
of-after : (Q : AfterName → Type 0) → Q after.Arrow → Q after.Eq → Q after.Nothing → (x : AfterName) → Q x
of-after Q x y z h = grind arith

after-token : (x : AfterName) → Gives (λ v. makes (closure_shape v) ≡ true) (right_side x >>= λ rest. gives x) ⊎ OnlyLooks (right_side x >>= λ rest. gives x)
after-token x = grind (arith, gives-all)

abbrev Keeps : (AfterName → Shape) → Type 0
Keeps shape = (x : AfterName) → (makes (shape x) || keeps_bare (shape x)) ≡ true

kept-closure : Keeps closure_shape
kept-closure = of-after (λ x. (makes (closure_shape x) || keeps_bare (closure_shape x)) ≡ true) refl refl refl

module _ (token : Type 0) (a : AtHand) where
  -- a token, and what is seen of the one after it
  bare-token : (over : AfterName → Type 0) (what : SyntaxKind → AfterName) → token → Bares token a true true over (eat >>= λ taken. peek >>= λ ahead. gives (what ahead.kind))
  unfolding eat eat_making
  bare-token over what t = ((t, inl (λ _. inr (refl, λ _. tt))), inl (λ _. inr (refl, λ _. tt)))

  bare-headed : (what : SyntaxKind → AfterName) (shape : AfterName → Shape) → Keeps shape → token → Bares token a true true (λ _. ⊥) (headed what shape)
  unfolding eat eat_making node
  bare-headed what shape kept t = grind (arith, bare-token (λ v. makes (shape v) ≡ true) what t, kept-closure, after-token)

  pub bare-block : (b : Block) → Bares token a false true (λ _. ⊥) (block_production b)
  unfolding eat eat_making node content_block code_block
  bare-block b = grind arith

  -- a production is opened here, as above
  pub bare-code : (h : CodeHead) → opens h ≡ true → (keeps_token h ≡ true → token) → Bares token a true true (λ _. ⊥) (code_by false h)
  unfolding eat eat_making node nest within read_block unary_expr named placeholder between_dollars equation parens let_binding set_rule show_rule contextual conditional conditional_turn while_loop for_loop module_import module_include jump func_return
  bare-code in_code.StrayOperator e t = absurd (cc)
  bare-code in_code.Named e t = bare-headed after_name name_shape (of-after (λ x. (makes (name_shape x) || keeps_bare (name_shape x)) ≡ true) refl refl refl) (t refl)
  bare-code in_code.Placeholder e t = bare-headed after_underscore underscore_shape (of-after (λ x. (makes (underscore_shape x) || keeps_bare (underscore_shape x)) ≡ true) refl refl refl) (t refl)
  bare-code in_code.Parens e t = (λ _. ((refl, (first-readings a _, inr (inr (kept-closure, bare-parens token a)))), inl (λ _. inr tt)), inl (λ _. inr tt))
  bare-code _ e t = search (rules, quiet-closed kind.Equation refl, quiet-show) depth 20

-- ---- formulas

-- whether a token begins the formula
abbrev opens_math : MathHead → Bool
opens_math in_math.Missing = false
opens_math _ = true

first-math : (k : CharClasses) (a : AtHand) (h : MathHead) → opens_math h ≡ true → EatsFirst a true true (math_by k h)
unfolding eat eat_making convert_and_eat node within seeing embedded delimiter_sign delimiter math_delimited math_text root
first-math k a h e = grind arith

math-opens : (i : SyntaxKind) → among math_kinds i ≡ true → opens_math (math_head i) ≡ true
math-opens i e = every-among (λ j. opens_math (math_head j)) math_kinds refl i e

pub first-math-expr : (k : CharClasses) (a : AtHand) (least : ℕ) (stops : ChainSet) → among math_kinds a.kind ≡ true → EatsFirst a true false (math_expr k least stops)
unfolding grow math_expr math_grown math_primary
first-math-expr k a least stops e = (refl, first-math k a (math_head a.kind) (math-opens a.kind e))
