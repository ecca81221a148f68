-- The facts of code: each part is proper, though an operator makes a binary node, and what a token begins takes it first.
use Rattle.typst_grammar.proofs.Cited.{◌≡◌, ℕ, Bool, true, false, List, Option, Some, None, refl, arith, same, SyntaxKind, AfterName, CodeHead, CodeTail, argument_shape, argument, argument_turn, argument_list, listed_arguments, content_turn, missing_arguments, begin_arguments, arguments, code_head, code_by, unary_expr, code_primary, code_tail, direct_field, call_tail, tail_by, code_tail_turn, code_expr, binary_expr, not_in, expect_identifier, AtHand, missing_break, statement_end, statement, code_turn, code_exprs, code, code_reading, ends_code, any_block, field, target_turn, target, set_rule, show_shape, show_rule, contextual, other_branch, conditional_turn, conditional, while_loop, second_pattern, loop_names, for_loop, module_include, jump, func_return, Shape, becomes, keeps, within, eat, eat_if, close_if, expected, Parser, ◌>>=◌, scoped, on_both, and_parts, deeper, is_end, closure_shape, name_shape, underscore_shape, named, placeholder, Key, path_turn, import_name, import_path, renaming, import_shape, import_turn, import_items, parens_shape, import_parens, imported, module_import, not}
use Rattle.typst_kinds.specs.declared.kind.SyntaxKind.TheVariants as kind
use Rattle.typst_code.specs.declared.heads.CodeHead.TheVariants as head
use Rattle.typst_code.specs.declared.heads.CodeTail.TheVariants as tail
use Rattle.typst_code.specs.declared.listing.ParenItems.{ParenItems}
use Rattle.typst_code.specs.Groups.{spread, pair, item_shape, misfit, item, group_turn, group_kind, group_shape, group_rest, group}
use Rattle.typst_code.specs.Parens.{as_group, readings, sign, parens}
use Rattle.typst_code.specs.Bindings.{bound_name as bound_function, bound_part, binding, let_binding}
use Rattle.typst_grammar.proofs.Fine.{tame}
use Rattle.typst_grammar.proofs.FineRuns.{tame_if, Gives, gives-all}
use Rattle.typst_grammar.proofs.Proper.{proper_steps, Scope, Proper, bracket-there, brace-there, proper-eat, proper-if, proper-close, proper-expected, proper-within, proper-shaped, proper-node, proper-grow, proper-read, proper-identifier, tame-closed, tame-both}
use Rattle.typst_grammar.proofs.PlainParts.{proper-equation, proper-separator, proper-destructuring, proper-params, tame-after, proper-right, tame-bound-shape, proper-equals}

-- ---- groups

tame-item : (keys : List (List ℕ)) (k : Option Key) → tame (item_shape keys k) ≡ true
tame-item keys k = grind arith

tame-misfit : (pairs : Option Bool) (is_pair : Bool) → tame (keeps (misfit pairs is_pair)) ≡ true
tame-misfit pairs is_pair = grind arith

proper-item : (c : Scope) (items : ParenItems) → Proper c (item items)
unfolding item pair spread
proper-item c items = search (proper_steps, tame-misfit, tame-item) depth 40 fits 4000

proper-rest : (c : Scope) → Proper c group_rest
unfolding group_rest group_turn
proper-rest c = search (proper_steps, proper-separator, proper-item) depth 40 fits 4000

-- what holds of each kind that a group may have
of-group : (Q : SyntaxKind → Type 0) → Q kind.Parenthesized → Q kind.Array → Q kind.Dict → (items : ParenItems) → Q (group_kind items)
of-group Q one array dict items = grind arith

pub gives-rest : (Q : Bool × SyntaxKind → Type 0) → ((closed : Bool) → Q (closed, kind.Parenthesized)) → ((closed : Bool) → Q (closed, kind.Array)) → ((closed : Bool) → Q (closed, kind.Dict)) → Gives (λ x. (h : AtHand) → Q x) group_rest
unfolding group_rest
gives-rest Q one array dict = gives-all _ (λ _ items. gives-all _ (λ closed h. of-group (λ k. Q (closed, k)) (one closed) (array closed) (dict closed) items) (eat_if _)) (eat_if _)

pub proper-group : (c : Scope) → Proper c group
unfolding group within
proper-group c = (proper-shaped _ _ _ (gives-all _ (λ _. gives-rest (λ x. tame (group_shape x) ≡ true) (tame-closed kind.Parenthesized refl) (tame-closed kind.Array refl) (tame-closed kind.Dict refl)) eat) ((proper-eat _, λ _. proper-rest _), λ _. (refl, λ _. tt)), λ _. tt)

-- ---- parens

pub proper-readings : (c : Scope) → Proper c readings
unfolding readings as_group
proper-readings c = search (proper_steps, proper-group, proper-params, proper-destructuring) depth 40 fits 4000

proper-sign : (c : Scope) (b : AfterName) → Proper c (sign b)
proper-sign c b = grind (arith, proper_steps)

-- ---- arguments

tame-argument : (names : List (List ℕ)) (k : Option Key) → tame (argument_shape names k) ≡ true
tame-argument names k = grind arith

proper-argument : (c : Scope) (names : List (List ℕ)) → Proper c (argument names)
unfolding argument pair spread
proper-argument c names = search (proper_steps, tame-argument) depth 40 fits 4000

proper-argument-turn : (c : Scope) (names : List (List ℕ)) → Proper c (argument_turn names)
unfolding argument_turn
proper-argument-turn c names = search (proper_steps, proper-separator, proper-argument) depth 40 fits 4000

pub proper-arguments : (c : Scope) → Proper c arguments
unfolding arguments begin_arguments missing_arguments listed_arguments argument_list content_turn
proper-arguments c = (
  (refl, λ _. (tt, (proper-expected _ _, λ _. (refl, λ _. (refl, tt))))),
  λ _. (
    proper-node _ _ _ (tame-closed kind.Args refl) (
      (refl, λ _. (proper-within _ _ _ (proper-eat _, λ _. (λ names. proper-argument-turn _ names, λ _. proper-if _ _)), tt)),
      λ _. (λ x. (refl, λ a. ((proper-read _ _ (λ g. bracket-there a.kind (and_parts _ _ g.1).0), λ _. tt), tt)), λ _. tt),
    ),
    λ _. tt,
  ),
)

-- ---- imports

proper-items : (c : Scope) → Proper c import_items
unfolding import_items import_turn import_path import_name path_turn renaming
proper-items c = search (proper_steps, proper-separator, tame-both import_shape refl refl) depth 40 fits 4000

proper-imported : (c : Scope) → Proper c imported
unfolding imported import_parens
proper-imported c = search (proper_steps, proper-items, tame-both parens_shape refl refl) depth 40 fits 4000

-- ---- statements

proper-block : (c : Scope) → Proper c any_block
unfolding any_block
proper-block c = (refl, λ a. (proper-read _ _ (λ g. bracket-there a.kind g.1), (proper-read _ _ (λ g. brace-there a.kind g.1), proper-expected _ _)))

pub proper-field : (c : Scope) → Proper c field
unfolding field
proper-field c = search proper_steps depth 40 fits 4000

pub gives-field : Gives (λ v. tame_if v.0 ≡ true) field
unfolding field
gives-field = gives-all _ (λ _. gives-all _ (λ _. refl) expect_identifier) eat

proper-target : (c : Scope) → Proper c target
unfolding target target_turn
proper-target c = proper-grow _ _ _ (proper-identifier _, λ _. tt) (λ x. (λ _. (gives-field, refl), (refl, λ _. (proper-field _, tt))))

-- ---- sequences

proper-statement : (c : Scope) (stops : SyntaxKind → Bool) → Proper c (statement stops)
unfolding statement statement_end missing_break
proper-statement c stops = search proper_steps depth 40 fits 4000

pub proper-code-exprs : (c : Scope) (stops : SyntaxKind → Bool) → Proper c (code_exprs stops)
unfolding code_exprs code_turn
proper-code-exprs c stops = search (proper_steps, proper-statement) depth 40 fits 4000

-- what stands in the node of a block
abbrev pub inside_code : Parser Bool
inside_code = scoped (λ _. code_reading) (do
  brace ← eat
  inside ← code ends_code
  close_if (same kind.RightBrace))

pub proper-inside-code : (c : Scope) → Proper c inside_code
unfolding code
proper-inside-code c = (proper-eat _, λ _. (proper-node _ _ _ (λ _. refl) (proper-code-exprs _ _), λ _. proper-close _ _))

-- ---- what an expression begins with

abbrev begins_block : CodeHead → Bool
begins_block head.CodeBlock = true
begins_block head.ContentBlock = true
begins_block _ = false

-- what begins a block is a token
head-there : (atomic : Bool) (k : SyntaxKind) → begins_block (code_head atomic k) ≡ true → not (is_end k) ≡ true
head-there atomic k e = grind arith

ruleset code_parts = (proper-equation, proper-group, proper-params, proper-equals, proper-target, proper-arguments, proper-block, proper-imported, proper-field, tame-bound-shape)

-- a production is opened here, or has a lemma among the parts
proper-by : (c : Scope) (atomic : Bool) (h : CodeHead) → (begins_block h ≡ true → c.seen ≡ true) → Proper c (code_by atomic h)
unfolding unary_expr named placeholder parens let_binding binding bound_part bound_function set_rule show_rule contextual conditional conditional_turn other_branch while_loop for_loop loop_names second_pattern module_import renaming module_include jump func_return
proper-by c atomic head.CodeBlock e = proper-read _ _ (λ _. e refl)
proper-by c atomic head.ContentBlock e = proper-read _ _ (λ _. e refl)
proper-by c atomic head.Named e = search (proper_steps, proper-right, tame-after closure_shape refl refl refl, tame-after name_shape refl refl refl) depth 40 fits 4000
proper-by c atomic head.Placeholder e = search (proper_steps, proper-right, tame-after closure_shape refl refl refl, tame-after underscore_shape refl refl refl) depth 40 fits 4000
proper-by c atomic head.Parens e = search (proper_steps, proper-readings, proper-sign, tame-after closure_shape refl refl refl) depth 40 fits 4000
proper-by c atomic head.Show e = search (proper_steps, tame-both show_shape refl refl) depth 40 fits 4000
proper-by c atomic _ e = search (proper_steps, code_parts) depth 40 fits 4000

pub proper-primary : (c : Scope) (atomic : Bool) → Proper c (code_primary atomic)
unfolding code_primary
proper-primary c atomic = (refl, λ a. proper-by _ atomic (code_head atomic a.kind) (head-there atomic a.kind))

-- ---- what comes after it

pub proper-tail : (c : Scope) (t : CodeTail) → Proper c (tail_by t)
unfolding call_tail direct_field not_in binary_expr
proper-tail c tail.Nothing = tt
proper-tail c _ = search (proper_steps, code_parts) depth 40 fits 4000

pub proper-tail-turn : (c : Scope) (atomic : Bool) (least : ℕ) (x : Unit {0}) → Proper c (code_tail_turn atomic least x)
unfolding code_tail_turn
proper-tail-turn c atomic least x = (refl, λ a. proper-tail _ (code_tail atomic least a.kind a.has_trivia))

-- what holds of no shape, of calls, of fields and of operators holds of what a tail says
pub gives-tail : (Q : Option Shape × Unit {0} → Type 0) → Q (None, tt) → Q (Some (becomes kind.FuncCall), tt) → Q (Some (becomes kind.FieldAccess), tt) → Q (Some (becomes kind.Binary), tt) → (t : CodeTail) → Gives Q (tail_by t)
unfolding call_tail field direct_field not_in binary_expr
gives-tail Q none call access binary tail.Call = gives-all _ (λ _. call) arguments
gives-tail Q none call access binary tail.Field = gives-all _ (λ _. gives-all _ (λ _. access) expect_identifier) eat
gives-tail Q none call access binary tail.DirectField = λ _. (gives-all _ (λ _. gives-all _ (λ _. access) expect_identifier) eat, none)
gives-tail Q none call access binary tail.NotIn = gives-all _ (λ _ _. (gives-all _ (λ _. gives-all _ (λ _. binary) (deeper _ _)) eat, gives-all _ (λ _. none) (expected _))) eat
gives-tail Q none call access binary (tail.Binary op) = gives-all _ (λ _. gives-all _ (λ _. binary) (deeper _ _)) eat
gives-tail Q none call access binary tail.Nothing = none

-- the shapes that a tail says
abbrev Shapes : CodeTail → Type 0
Shapes t = Gives (λ v. tame_if v.0 ≡ true) (tail_by t)

shapes-atomic : (least : ℕ) (k : SyntaxKind) (has_trivia : Bool) → Shapes (code_tail true least k has_trivia)
unfolding call_tail direct_field
shapes-atomic least k has_trivia = grind (arith, on_both, gives-all, gives-field)

gives-atomic : (least : ℕ) (x : Unit {0}) → Gives (λ v. tame_if v.0 ≡ true) (code_tail_turn true least x)
unfolding code_tail_turn
gives-atomic least x = λ a. shapes-atomic least a.kind a.has_trivia

-- an atomic expression takes no operator
pub proper-atomic : (c : Scope) (least : ℕ) → Proper c (code_expr true least)
unfolding code_expr
proper-atomic c least = proper-grow _ _ _ (proper-primary _ true) (λ x. (gives-atomic least x, proper-tail-turn _ true least x))
