-- What a parser of the code shows, and what it ensures.
use Rattle.std.specs.Prelude.{◌≡◌, ℕ, Bool, ◌+◌, ◌-◌, ◌<◌, ◌≤◌, length, true, List, ◌++◌, [], ◌∷◌, take, drop, Option, None, option_map, Result, Ok, Err}
use Rattle.std.specs.declared.alloc.AllocError.{AllocError}
use denote.Ref.{MutBor}
use Rattle.typst_lines.specs.Place.{Place, moved}
use Rattle.typst_kinds.specs.declared.kind.SyntaxKind.{SyntaxKind}
use Rattle.typst_lines.specs.Classes.{CharClasses}
use Rattle.typst_tree.specs.Tree.{Tree}
use Rattle.typst_tokens.specs.declared.hull.Hull.{Hull}
use Rattle.typst_language.specs.declared.calls.AfterName.{AfterName}
use Rattle.typst_language.specs.declared.calls.Block.{Block}
use Rattle.typst_language.specs.declared.calls.ChainSet.{ChainSet}
use Rattle.typst_language.specs.Calls.Call.{MarkupExpr, CodeExpr, MathExpr, Pattern}
use Rattle.typst_language.specs.declared.calls.Mark.{Mark}
use Rattle.typst_language.specs.declared.calls.Mark.TheVariants.{Opens, Closes}
use Rattle.typst_language.specs.declared.calls.Role.{Role}
use Rattle.typst_language.specs.declared.reading.Reading.{Reading}
use Rattle.typst_language.specs.Calls.{Call, Answer}
use Rattle.typst_language.specs.Point.{Point, forgot, state_of}
use Rattle.typst_language.specs.Hand.{Hand, known_by}
use Rattle.typst_language.specs.Log.{Log, logged, with_hull, with_note}
use Rattle.typst_language.specs.Shape.{Shape, becomes, shaped, after_shape}
use Rattle.typst_language.specs.Sound.{Sound}
use Rattle.typst_language.specs.Syntax.{Parser, ◌>>◌}
use Rattle.typst_language.specs.Ask.{only_looks}
use Rattle.typst_language.specs.Meaning.{Guess, Outcome, Level, apart, asked, flushed_state, hand_of, hand_asks_of, left, standing, run}
use Rattle.typst_language.specs.Steps.{peek}
use Rattle.typst_language.specs.Bytes.{LiesIn, token_hull, column_hull}
use Rattle.typst_lexer.specs.Nodes.{is_leaf}
use Rattle.typst_language.specs.Noted.{hull_in, looked_alone}
use Rattle.typst_language.specs.declared.memo.Guessed.{Guessed}
use Rattle.typst_language.specs.Remembered.{Comes, Knows, end_of}

-- what a parser of the code shows
pub record View : Type 0 where
  -- the nodes before the pending trivia
  pub nodes : List Tree
  -- where the pending trivia begin
  pub place : Place
  pub state : Point
  -- the token that was read ahead
  pub hand : Hand
  -- what was looked at for it, and with its column if the newline rule asks for it
  pub own : Hull
  pub here : Hull
  -- what was looked at and noted up to here
  pub log : Log
  -- which first readings turned out wrong
  pub memo : List Guessed

-- the code went from one view to another as an outcome says, where a given number of levels are left
pub record Runs {A : Type 0} (levels : ℕ) (o : Outcome A) (a : A) (old new : View) : Type 0 where
  pub value : o.value ≡ a
  pub place : new.place ≡ moved o.taken old.place
  pub state : new.state ≡ o.state
  pub nodes : new.nodes ≡ standing o old.nodes
  pub log : new.log ≡ logged levels old.place old.log o.asks

-- what a parser gives at a view
abbrev pub at : {A : Type 0} → Level → Parser A → View → Outcome A
at l p v = run l p v.place v.state

-- the code did what the parser does
pub record Ran {A : Type 0} (l : Level) (p : Parser A) (a : A) (old new : View) : Type 0 where
  pub runs : Runs l.levels (at l p old) a old new

-- the token that was read ahead is the one that would be asked for, the trivia before it are known,
-- and what was looked at for it is among what was looked at
pub record Fits (l : Level) (v : View) : Type 0 where
  pub known : v.state.known ≡ known_by v.hand
  pub hand : v.hand ≡ hand_of l v.place v.state
  pub own : v.own ≡ token_hull l.classes v.state.held.mode (moved v.hand.gap v.place)
  pub here : v.here ≡ column_hull v.state.held v.hand.newlines (moved v.hand.gap v.place) v.own
  pub there : v.hand.gap ≤ length v.place.ahead
  pub log : with_hull v.here v.log ≡ v.log
  pub knows : Knows l.guess (end_of v.place) v.memo

-- no token was asked for, and what is remembered is so
pub record Bare (l : Level) (v : View) : Type 0 where
  pub known : v.state.known ≡ None
  pub knows : Knows l.guess (end_of v.place) v.memo

-- a token was asked for or not, and what is remembered is so
pub record Loose (l : Level) (v : View) : Type 0 where
  pub knows : Knows l.guess (end_of v.place) v.memo

-- where P holds of the old view, the code did what the parser does, and Q holds of the new one
pub record Goes {A : Type 0} (l : Level) (P Q : View → Type 0) (p : Parser A) (a : A) (old new : View) : Type 0 where
  pub ran : P old → Ran l p a old new
  pub ready : P old → Q new

-- the code did what the parser does, with the current token asked for before and after it
abbrev pub Does : {A : Type 0} → Level → Parser A → A → View → View → Type 0
Does l p a old new = Goes l (Fits l) (Fits l) p a old new

-- the code did what a call does, one level deeper, with the current token asked for before and
-- after it
pub record Makes (l : Level) (call : Call) (a : Answer call) (old new : View) : Type 0 where
  pub ran : Fits l old → Runs (l.levels - 1) (l.deeper call old.place old.state) a old new
  pub ready : Fits l old → Fits l new

-- `Goes`, unless memory is refused, where the code answers in its own terms, and `meant` says what
-- its answer means
abbrev pub GoesBy : {A B : Type 0} → Level → (View → Type 0) → (View → Type 0) → (B → A) → Parser A → View → Result B AllocError → View → Type 0
GoesBy l P Q meant p old (Ok b) new = Goes l P Q p (meant b) old new
GoesBy l P Q meant p old (Err e) new = Unit {0}

-- `Goes`, unless memory is refused
abbrev pub GoesIf : {A : Type 0} → Level → (View → Type 0) → (View → Type 0) → Parser A → View → Result A AllocError → View → Type 0
GoesIf l P Q p old r new = GoesBy l P Q (λ a. a) p old r new

-- `Does`, unless memory is refused
abbrev pub Reads : {A : Type 0} → Level → Parser A → View → Result A AllocError → View → Type 0
Reads l p old r new = GoesIf l (Fits l) (Fits l) p old r new

-- `Makes`, unless memory is refused
abbrev pub Calls : Level → (call : Call) → View → Result (Answer call) AllocError → View → Type 0
Calls l call old (Ok a) new = Makes l call a old new
Calls l call old (Err e) new = Unit {0}

-- the current token was asked for
pub record Looked (l : Level) (v w : View) : Type 0 where
  pub nodes : w.nodes ≡ v.nodes
  pub place : w.place ≡ v.place
  pub state : w.state ≡ asked w.hand v.state
  pub hand : w.hand ≡ hand_of l v.place v.state
  pub own : w.own ≡ token_hull l.classes v.state.held.mode (moved w.hand.gap v.place)
  pub here : w.here ≡ column_hull v.state.held w.hand.newlines (moved w.hand.gap v.place) w.own
  pub log : w.log ≡ logged l.levels v.place v.log (hand_asks_of l v.place v.state)
  pub memo : w.memo ≡ v.memo

-- the view where what was asked for is forgotten
abbrev pub unasked : View → View
unasked v = record v { state = forgot v.state }

-- the reading is the outer one again, and the current token was asked for
abbrev pub Left : Level → Reading → View → View → Type 0
Left l outer v w = Fits l v → Looked l (record v { state = left outer v.state }) w

-- the pending trivia became nodes
pub record Flushed (v w : View) : Type 0 where
  pub nodes : w.nodes ≡ v.nodes ++ v.hand.trivia
  pub place : w.place ≡ moved v.hand.gap v.place
  pub state : w.state ≡ flushed_state v.hand v.state
  pub hand : w.hand ≡ record v.hand { trivia = []; gap = 0 }
  pub own : w.own ≡ v.own
  pub here : w.here ≡ v.here
  pub log : w.log ≡ v.log
  pub memo : w.memo ≡ v.memo

-- the nodes from a number on went into a shape
pub record Rewrapped (from : ℕ) (shape : Shape) (mid new : View) : Type 0 where
  pub place : new.place ≡ mid.place
  pub state : new.state ≡ after_shape shape (drop from mid.nodes) mid.state
  pub nodes : new.nodes ≡ take from mid.nodes ++ shaped shape (drop from mid.nodes)
  pub hand : new.hand ≡ mid.hand
  pub own : new.own ≡ mid.own
  pub here : new.here ≡ mid.here
  pub log : new.log ≡ mid.log
  pub memo : new.memo ≡ mid.memo

-- the view with the nodes from a number on in a shape
abbrev pub rewrapped : ℕ → Shape → View → View
rewrapped from shape v = record v { nodes = take from v.nodes ++ shaped shape (drop from v.nodes); state = after_shape shape (drop from v.nodes) v.state }

-- the view with the nodes from each of these numbers on in a shape, the last number first
abbrev pub rewrapped_each : List ℕ → Shape → View → View
rewrapped_each [] shape v = v
rewrapped_each (from ∷ froms) shape v = rewrapped from shape (rewrapped_each froms shape v)

-- the view where this was noted before the pending trivia
abbrev pub noted_here : ℕ → Mark → View → View
noted_here levels mark v = record v { log = with_note 0 levels mark (state_of v.state) v.place v.log }

-- the pending trivia became nodes, a block was noted, and its first token was asked for
pub record Opened (l : Level) (b : Block) (v w : View) : Type 0 where
  pub mid : View
  pub flushed : Fits l v → Flushed v mid
  pub looked : Looked l (noted_here l.levels (Opens b) (unasked mid)) w

-- the end of a block was noted, and the token after it was asked for
abbrev pub Closed : Level → View → View → Type 0
Closed l v w = Looked l (noted_here l.levels Closes (unasked v)) w

-- the block may be read, and gives what this parser does after it asked for the current token
pub record ReadsBlock (l : Level) (b : Block) (p : Parser (Unit {0})) : Type 0 where
  pub has : l.has b ≡ true
  pub same : (z : Place) (s : Point) → l.blocks b z s ≡ run (apart l) (peek >> p) z s

-- ---- first readings

-- where a first reading goes on after its paren, which is the current token
abbrev pub place_after_paren : View → Place
place_after_paren v = moved (v.hand.gap + v.hand.len) v.place

-- what a first reading of the parens finds that begin with the current token
abbrev pub guess_at : Level → View → Guess
guess_at l v = l.guess l.levels (place_after_paren v) v.state.reading

-- this is what a first reading finds after the parens that begin with the current token, and with
-- `hull` all was looked at that it would look at
pub record Found (l : Level) (v : View) (b : AfterName) (hull : Hull) : Type 0 where
  pub leaf : is_leaf v.hand.token ≡ true
  pub after : b ≡ (guess_at l v).after
  pub looks : with_hull hull v.log ≡ logged l.levels (place_after_paren v) v.log (only_looks (guess_at l v).asks)

-- what is remembered is of as many levels and of this reading, and all that was looked at for its
-- paren was looked at
pub record IsThis (n : ℕ) (v : View) (e : Guessed) : Type 0 where
  pub levels : e.levels ≡ n
  pub outer : e.outer ≡ v.state.reading
  pub paren : LiesIn e.paren (hull_in v.log)

-- nothing changed except what is remembered; and all of that stays so, if `b` comes after the
-- parens that begin with the current token, and only what was looked at for them counts as looked
-- at
pub record Remembers (levels : ℕ) (b : AfterName) (v w : View) : Type 0 where
  pub same : w ≡ record v { memo = w.memo }
  pub knows : (l : Level) → l.levels ≡ levels → (is_leaf v.hand.token ≡ true → Comes (guess_at l v) v.here (hull_in v.log) (place_after_paren v) b) → Knows l.guess (end_of v.place) v.memo → Knows l.guess (end_of v.place) w.memo

-- the view where a first reading begins: all looks are set aside, except those for the current
-- token
abbrev pub begun : View → View
begun v = record v { log = looked_alone v.here v.log }

-- the view where this was looked at too
abbrev pub looked_too : Hull → View → View
looked_too u v = record v { log = with_hull u v.log }

-- nothing changed except what is remembered, and all of that stays so
pub record Dropped (v w : View) : Type 0 where
  pub same : w ≡ record v { memo = w.memo }
  pub knows : (l : Level) → Knows l.guess (end_of v.place) v.memo → Knows l.guess (end_of v.place) w.memo

-- ---- a function that makes calls

-- the calls that code makes: by which classes, how deep they may nest, and what each may give
pub record Frame : Type 1 where
  pub classes : CharClasses
  pub levels : ℕ
  pub gives : (call : Call) → View → Result (Answer call) AllocError → View → Type 0

-- what the calls give is what the level says
pub record Fills (l : Level) (f : Frame) : Type 0 where
  pub classes : l.classes ≡ f.classes
  pub sound : Sound l
  pub levels : l.levels ≡ f.levels
  pub reads : (old new : View) (call : Call) (r : Result (Answer call) AllocError) → f.gives call old r new → Calls l call old r new

-- what the clause of a production says: its code does what the parser does (`GoesBy`), at each level
-- that its calls fill; `supposing` says what else is supposed of the level
abbrev pub MeansWhere : {A B : Type 0} → (Level → Type 0 → Type 0) → (Level → View → Type 0) → (Level → View → Type 0) → (B → A) → Frame → Parser A → View → Result B AllocError → View → Type 0
MeansWhere supposing P Q meant f q old r new = (l : Level) → Fills l f → supposing l (GoesBy l (P l) (Q l) meant q old r new)

-- the clause of a production that begins and ends with the current token asked for
abbrev pub Means : {A : Type 0} → Frame → Parser A → View → Result A AllocError → View → Type 0
Means f q old r new = MeansWhere (λ l says. says) Fits Fits (λ a. a) f q old r new

-- `Means`, where the code answers in its own terms, and `meant` says what its answer means
abbrev pub MeansBy : {A B : Type 0} → Frame → (B → A) → Parser A → View → Result B AllocError → View → Type 0
MeansBy f meant q old r new = MeansWhere (λ l says. says) Fits Fits meant f q old r new

-- the answer of a turn that grows, where the code says the kind of the node that all goes into
abbrev pub growth : {A : Type 0} → Option SyntaxKind × A → Option Shape × A
growth x = (option_map becomes x.0, x.1)

-- the answer of a turn that grows and says no more than that kind
abbrev pub bare_growth : Option SyntaxKind → Option Shape × Unit {0}
bare_growth kind = (option_map becomes kind, tt)

-- `Means`, where no token was asked for before it
abbrev pub MeansFirst : {A : Type 0} → Frame → Parser A → View → Result A AllocError → View → Type 0
MeansFirst f q old r new = MeansWhere (λ l says. says) Bare Fits (λ a. a) f q old r new

-- `Means`, where no token is asked for after it
abbrev pub MeansLast : {A : Type 0} → Frame → Parser A → View → Result A AllocError → View → Type 0
MeansLast f q old r new = MeansWhere (λ l says. says) Fits Loose (λ a. a) f q old r new

-- what a function does that makes calls: by the parser, how many levels are left, and two more
-- arguments
abbrev pub Calling : Type 0 → Type 0 → Type 0 → Type 1
Calling A B R = MutBor View → ℕ → A → B → Result R AllocError → MutBor View → Type 0

-- such a function may be called while a level is left
abbrev pub MayNest : {A B : Type 0} → ℕ → (MutBor View → ℕ → A → B → Type 0) → Type 0
MayNest {A = A} {B = B} levels pre = (old : MutBor View) (x : A) (y : B) → 0 < levels → pre old levels x y

-- what such a function gives, by the views that its reference points to
abbrev pub given : {A B R : Type 0} → Calling A B R → ℕ → A → B → View → Result R AllocError → View → Type 0
given post levels x y old r new = (v : MutBor View) × (w : MutBor View) × (v.now ≡ old) × (w.now ≡ new) × post v levels x y r w

-- what four such functions give, one for each that may be called
abbrev pub given_by : Calling Bool ℕ ℕ → Calling Bool ℕ (Unit {0}) → Calling ℕ ChainSet (Unit {0}) → Calling Role (List (List ℕ)) (List (List ℕ)) → ℕ → (call : Call) → View → Result (Answer call) AllocError → View → Type 0
given_by markup code math pattern levels (MarkupExpr at_start nesting) = given markup levels at_start nesting
given_by markup code math pattern levels (CodeExpr atomic least) = given code levels atomic least
given_by markup code math pattern levels (MathExpr least signs) = given math levels least signs
given_by markup code math pattern levels (Pattern role names) = given pattern levels role names
