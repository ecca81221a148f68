-- Proper parsers: what each makes, notes and reads, as one fact; and the steps that all are made of.
use Rattle.typst_grammar.proofs.Cited.{◌≡◌, ℕ, Bool, true, false, List, Option, refl, arith, same, SyntaxKind, Block, Mark, Reading, ChainSet, Role, Call, Answer, CodeExpr, MathExpr, Pattern, anywhere, skip_one, too_deep, deeper, is_end, expects, expect_identifier, seeing, Making, Shape, encloses, itself, of_kind, surprise, wanted, eat_making, eat, convert_and_eat, eat_so, eat_if, close_if, unexpected, expected, expect, flush_trivia, within, node, node_with_trivia, grow, nest, read_block, Parser, Op, hand, marks, gives, does, next, pick, repeat, wraps, grows, nests, scoped, either, calls, block, codes, not}
use Rattle.typst_kinds.specs.declared.kind.SyntaxKind.TheVariants as kind
use Rattle.typst_language.specs.declared.calls.Way.{Way}
use Rattle.typst_grammar.proofs.Fine.{tame, is_ordinary, tame_kind, tame_making, tame-ordinary}
use Rattle.typst_grammar.proofs.FineRuns.{begins_none, op_by, tame_if, Gives, gives-all, PlainBy, Plain, plain-weaker}

-- ---- which blocks are read, and which marks noted

-- whether a token is at hand, and not the end, once this was answered
abbrev pub sees : {A : Type 0} → Parser A → A → Bool
sees (does hand) a = not (is_end a.kind)
sees _ a = false

abbrev pub op_notes : {A : Type 0} → (Mark → Bool) → Op A → Bool
op_notes notes (marks m) = notes m
op_notes notes _ = true

-- it notes these marks alone, and reads a block only where it saw that a token is at hand
abbrev pub Guarded : {A : Type 0} → (Mark → Bool) → Bool → Parser A → Type 0
Guarded notes seen (does o) = op_notes notes o ≡ true
Guarded notes seen (next p f) = Guarded notes seen p × ((b : _) → Guarded notes (sees p b) (f b))
Guarded notes seen (pick b p q) = (b ≡ true → Guarded notes seen p) × (b ≡ false → Guarded notes seen q)
Guarded notes seen (repeat p x) = (y : _) → Guarded notes false (p y)
Guarded notes seen (wraps f begin p) = Guarded notes false p
Guarded notes seen (grows begin p f) = Guarded notes false p × ((x : _) → Guarded notes false (f x))
Guarded notes seen (nests f begin p x) = (y : _) → Guarded notes false (p y)
Guarded notes seen (scoped f p) = Guarded notes false p
Guarded notes seen (either p is_wrong q) = Guarded notes false p × Guarded notes false q
Guarded notes seen (block b) = seen ≡ true
Guarded notes seen _ = Unit {0}

pub bracket-there : (k : SyntaxKind) → same kind.LeftBracket k ≡ true → not (is_end k) ≡ true
bracket-there k e = grind arith

pub brace-there : (k : SyntaxKind) → same kind.LeftBrace k ≡ true → not (is_end k) ≡ true
brace-there k e = grind arith

-- ---- both, and no node but tame ones

-- where a parser stands: which marks may be noted, what the tests before it gave, and whether a token was seen to be at hand
pub record Scope : Type 1 where
  pub notes : Mark → Bool
  pub given : Type 0
  pub seen : Bool

-- where nothing is known of the token at hand
abbrev pub unseen : Scope → Scope
unseen c = record { notes = c.notes; given = c.given; seen = false }

-- after an answer that saw a token or not
abbrev pub seeing_so : Scope → Bool → Scope
seeing_so c seen = record { notes = c.notes; given = c.given; seen = seen }

-- the scope where this holds too
abbrev pub given_too : Scope → Type 0 → Scope
given_too c holds = record { notes = c.notes; given = c.given × holds; seen = c.seen }

-- the scope where any mark may be noted
abbrev pub free : Scope
free = record { notes = λ m. true; given = Unit {0}; seen = true }

abbrev pub OpProper : {A : Type 0} → Scope → Op A → Type 0
OpProper c (marks m) = (begins_none m ≡ true) × (c.given → c.notes m ≡ true)
OpProper c o = op_by tame_kind o ≡ true

-- it makes no binary node and no block's, notes what it may, and reads a block only where a token is at hand
abbrev pub Proper : {A : Type 0} → Scope → Parser A → Type 0
Proper c (gives a) = Unit {0}
Proper c (does o) = OpProper c o
Proper c (next p f) = Proper c p × ((b : _) → Proper (seeing_so c (sees p b)) (f b))
Proper c (pick b p q) = Proper (given_too c (b ≡ true)) p × Proper (given_too c (b ≡ false)) q
Proper c (repeat p x) = (y : _) → Proper (unseen c) (p y)
Proper c (wraps f begin p) = Gives (λ a. tame (f a) ≡ true) p × Proper (unseen c) p
Proper c (grows begin p f) = Proper (unseen c) p × ((x : _) → Gives (λ v. tame_if v.0 ≡ true) (f x) × Proper (unseen c) (f x))
Proper c (nests f begin p x) = ((a : _) → tame (f a) ≡ true) × ((y : _) → Proper (unseen c) (p y))
Proper c (scoped f p) = Proper (unseen c) p
Proper c (either p is_wrong q) = Proper (unseen c) p × Proper (unseen c) q
Proper c (calls x) = Unit {0}
Proper c (block b) = c.given → c.seen ≡ true

-- ---- what it means

op-plain : {A : Type 0} (c : Scope) (o : Op A) → OpProper c o → op_by tame_kind o ≡ true
op-plain c (marks m) w = w.0
op-plain c _ w = w

op-noted : {A : Type 0} (c : Scope) (o : Op A) → OpProper c o → c.given → op_notes c.notes o ≡ true
op-noted c (marks m) w g = w.1 g
op-noted c _ w g = refl

pub proper-plain : {A : Type 0} (c : Scope) (p : Parser A) → Proper c p → Plain p
proper-plain c (does o) w = op-plain c o w
proper-plain c (next p f) w = (proper-plain c p w.0, λ b. proper-plain (seeing_so c (sees p b)) (f b) (w.1 b))
proper-plain c (pick b p q) w = (proper-plain (given_too c (b ≡ true)) p w.0, proper-plain (given_too c (b ≡ false)) q w.1)
proper-plain c (repeat p x) w = λ y. proper-plain (unseen c) (p y) (w y)
proper-plain c (wraps f begin p) w = (w.0, proper-plain (unseen c) p w.1)
proper-plain c (grows begin p f) w = (proper-plain (unseen c) p w.0, λ x. ((w.1 x).0, proper-plain (unseen c) (f x) (w.1 x).1))
proper-plain c (nests f begin p x) w = (w.0, λ y. proper-plain (unseen c) (p y) (w.1 y))
proper-plain c (scoped f p) w = proper-plain (unseen c) p w
proper-plain c (either p is_wrong q) w = (proper-plain (unseen c) p w.0, proper-plain (unseen c) q w.1)
proper-plain c _ w = tt

pub proper-guarded : {A : Type 0} (c : Scope) (p : Parser A) → Proper c p → c.given → Guarded c.notes c.seen p
proper-guarded c (does o) w g = op-noted c o w g
proper-guarded c (next p f) w g = (proper-guarded c p w.0 g, λ b. proper-guarded (seeing_so c (sees p b)) (f b) (w.1 b) g)
proper-guarded c (pick b p q) w g = (λ e. proper-guarded (given_too c (b ≡ true)) p w.0 (g, e), λ e. proper-guarded (given_too c (b ≡ false)) q w.1 (g, e))
proper-guarded c (repeat p x) w g = λ y. proper-guarded (unseen c) (p y) (w y) g
proper-guarded c (wraps f begin p) w g = proper-guarded (unseen c) p w.1 g
proper-guarded c (grows begin p f) w g = (proper-guarded (unseen c) p w.0 g, λ x. proper-guarded (unseen c) (f x) (w.1 x).1 g)
proper-guarded c (nests f begin p x) w g = λ y. proper-guarded (unseen c) (p y) (w.1 y) g
proper-guarded c (scoped f p) w g = proper-guarded (unseen c) p w g
proper-guarded c (either p is_wrong q) w g = (proper-guarded (unseen c) p w.0 g, proper-guarded (unseen c) q w.1 g)
proper-guarded c (block b) w g = w g
proper-guarded c _ w g = tt

-- no block's node but where a block is read
pub ordinary : {A : Type 0} (p : Parser A) → Proper free p → PlainBy is_ordinary p
ordinary p w = plain-weaker tame_kind is_ordinary tame-ordinary p (proper-plain free p w)

-- ---- steps

pub proper-making : (c : Scope) (trims : Bool) (making : Making) → tame_making making ≡ true → Proper c (eat_making trims making)
unfolding eat_making
proper-making c trims making e = (e, λ _. (refl, λ _. tt))

pub proper-eat : (c : Scope) → Proper c eat
unfolding eat
proper-eat c = proper-making c false itself refl

pub proper-convert : (c : Scope) (k : SyntaxKind) → tame_kind k ≡ true → Proper c (convert_and_eat k)
unfolding convert_and_eat
proper-convert c k e = proper-making c false (of_kind k) e

pub proper-so : (c : Scope) (way : Way) (making : Making) → tame_making making ≡ true → Proper c (eat_so way making)
unfolding eat_so
proper-so c way making e = (e, λ _. (refl, λ _. tt))

pub proper-if : (c : Scope) (is : SyntaxKind → Bool) → Proper c (eat_if is)
unfolding eat_if
proper-if c is = (refl, λ _. ((proper-eat _, λ _. tt), tt))

pub proper-close : (c : Scope) (is : SyntaxKind → Bool) → Proper c (close_if is)
unfolding close_if
proper-close c is = (refl, λ _. ((refl, λ _. tt), tt))

pub proper-unexpected : (c : Scope) (hints : List (List ℕ)) → Proper c (unexpected hints)
unfolding unexpected
proper-unexpected c hints = proper-making c true (surprise hints) refl

pub proper-expected : (c : Scope) (thing : List ℕ) → Proper c (expected thing)
unfolding expected
proper-expected c thing = (refl, λ _. (proper-making _ true itself refl, (refl, λ _. (tt, refl))))

pub proper-expect : (c : Scope) (is : SyntaxKind → Bool) (thing : List ℕ) → Proper c (expect is thing)
unfolding expect
proper-expect c is thing = (refl, λ _. (proper-eat _, proper-expected _ thing))

pub proper-flush : (c : Scope) → Proper c flush_trivia
unfolding flush_trivia
proper-flush c = (refl, λ _. (refl, λ _. tt))

pub proper-within : (c : Scope) {A : Type 0} (f : Reading → Reading) (p : Parser A) → Proper (unseen c) p → Proper c (within f p)
unfolding within
proper-within c f p h = (h, λ _. (refl, λ _. tt))

pub proper-shaped : (c : Scope) {A : Type 0} (shape : A → Shape) (p : Parser A) → Gives (λ a. tame (shape a) ≡ true) p → Proper (unseen c) p → Proper c (node shape p)
unfolding node
proper-shaped c shape p g h = (refl, λ _. ((g, h), λ _. tt))

-- a node is proper if its shape is tame whatever is answered
pub proper-node : (c : Scope) {A : Type 0} (shape : A → Shape) (p : Parser A) → ((a : A) → tame (shape a) ≡ true) → Proper (unseen c) p → Proper c (node shape p)
proper-node c shape p g h = proper-shaped c shape p (gives-all (λ a. tame (shape a) ≡ true) g p) h

pub proper-trivia : (c : Scope) (k : SyntaxKind) (p : Parser (Unit {0})) → tame_kind k ≡ true → Proper (unseen c) p → Proper c (node_with_trivia k p)
unfolding node_with_trivia flush_trivia
proper-trivia c k p e h = ((gives-all _ (λ _ _ _. e) p, (h, λ _. (refl, λ _. (refl, λ _. tt)))), λ _. tt)

pub proper-grow : (c : Scope) {A : Type 0} (p : Parser A) (turn : A → Parser (Option Shape × A)) → Proper (unseen c) p → ((x : A) → Gives (λ v. tame_if v.0 ≡ true) (turn x) × Proper (unseen c) (turn x)) → Proper c (grow p turn)
unfolding grow
proper-grow c p turn h g = (refl, λ _. (h, g))

pub proper-nest : (c : Scope) {A : Type 0} (shape : A → Shape) (turn : A → Parser (Bool × A)) (x : A) → ((a : A) → tame (shape a) ≡ true) → ((y : A) → Proper (unseen c) (turn y)) → Proper c (nest shape turn x)
unfolding nest
proper-nest c shape turn x g h = (refl, λ _. (g, h))

pub proper-read : (c : Scope) (b : Block) → (c.given → c.seen ≡ true) → Proper c (read_block b)
unfolding read_block
proper-read c b e = (e, λ _. (refl, λ _. tt))

pub proper-seeing : (c : Scope) {A : Type 0} (p : Parser A) → Proper (unseen c) p → Proper c (seeing p)
unfolding seeing
proper-seeing c p h = (refl, λ _. (gives-all _ (λ _. refl) p, h))

pub proper-expects : (c : Scope) (is : SyntaxKind → Bool) (thing : List ℕ) → Proper c (expects is thing)
unfolding expects
proper-expects c is thing = (refl, λ _. (proper-expect _ is thing, λ _. tt))

pub proper-identifier : (c : Scope) → Proper c expect_identifier
unfolding expect_identifier
proper-identifier c = (refl, λ _. ((proper-making _ true (wanted (codes "identifier")) refl, λ _. tt), proper-expects _ (same kind.Ident) (codes "identifier")))

-- where the second delimiter is missing the first is an error
pub tame-closed : (k : SyntaxKind) → tame_kind k ≡ true → (closed : Bool) → tame (encloses k closed) ≡ true
tame-closed k e closed = grind arith

-- what is tame for both answers is tame for each
pub tame-both : (f : Bool → Shape) → tame (f true) ≡ true → tame (f false) ≡ true → (b : Bool) → tame (f b) ≡ true
tame-both f x y true = x
tame-both f x y false = y

pub proper-deep : (c : Scope) (stops : SyntaxKind → Bool) → Proper c (too_deep stops)
unfolding too_deep skip_one
proper-deep c stops = (proper-node _ _ _ (λ _. refl) (proper-within _ _ _ (λ n. (refl, λ _. (proper-eat _, λ _. (refl, λ _. tt))))), λ _. tt)

pub proper-deeper : (c : Scope) (call : Call) (answer : Answer call) → Proper c (deeper call answer)
unfolding deeper
proper-deeper c call answer = (refl, λ _. ((proper-deep _ anywhere, λ _. tt), tt))

-- calls, by their answers
pub proper-code : (c : Scope) (atomic : Bool) (least : ℕ) → Proper c (deeper (CodeExpr atomic least) tt)
proper-code c atomic least = proper-deeper c (CodeExpr atomic least) tt

pub proper-math : (c : Scope) (least : ℕ) (stops : ChainSet) → Proper c (deeper (MathExpr least stops) tt)
proper-math c least stops = proper-deeper c (MathExpr least stops) tt

pub proper-names : (c : Scope) (role : Role) (names seen : List (List ℕ)) → Proper c (deeper (Pattern role names) seen)
proper-names c role names seen = proper-deeper c (Pattern role names) seen

-- the steps, for a search that proves of a production that it is proper
pub ruleset proper_steps = (proper-making, proper-eat, proper-convert, proper-so, proper-if, proper-close, proper-unexpected, proper-expected, proper-expect, proper-within, proper-node, proper-nest, proper-seeing, proper-expects, proper-identifier, proper-deep, proper-code, proper-math, proper-names, tame-closed)
