-- What a parser gives from a place and a point.
use Rattle.std.specs.Prelude.{ℕ, zero, suc, ◌+◌, ◌-◌, max, Bool, true, false, ◌||◌, ◌&&◌, if◌then◌else◌, ◌==◌, nat_lt, List, [], ◌∷◌, ◌++◌, length, map, take, drop, Option, Some, None}
use Rattle.typst_kinds.specs.declared.mode.SyntaxMode.{SyntaxMode}
use Rattle.typst_kinds.specs.declared.mode.SyntaxMode.TheVariants as mode
use Rattle.typst_lines.specs.Place.{Place, moved}
use Rattle.typst_kinds.specs.Kinds.{is_error}
use Rattle.typst_lexer.specs.Tree.{Tree, text_of, error_of}
use Rattle.typst_lines.specs.Classes.{CharClasses}
use Rattle.typst_tokens.specs.Reader.{Reader, look}
use Rattle.typst_lexer.specs.Nodes.{token_node}
use Rattle.typst_lexer.specs.Tokens.{token}
use Rattle.typst_tokens.specs.declared.token.Token.{Token}
use Rattle.typst_tokens.specs.Memory.{Memory}
use Rattle.typst_language.specs.declared.reading.AtNewline.{AtNewline}
use Rattle.typst_language.specs.declared.reading.AtNewline.TheVariants.{Continue, Stop, ContextualContinue, StopParBreak, RequireColumn}
use Rattle.typst_language.specs.declared.calls.AfterName.{AfterName}
use Rattle.typst_language.specs.declared.calls.AfterName.TheVariants.{Nothing}
use Rattle.typst_language.specs.declared.calls.Block.{Block}
use Rattle.typst_language.specs.declared.calls.Mark.TheVariants as mark
use Rattle.typst_language.specs.declared.calls.Way.{Way}
use Rattle.typst_language.specs.declared.reading.Reading.{Reading}
use Rattle.typst_language.specs.Ask.{Ask, shift, sunk, only_looks}
use Rattle.typst_language.specs.Ask.Ask.{looked, marked}
use Rattle.typst_language.specs.Calls.{Call, Answer, token_so}
use Rattle.typst_language.specs.Point.{Point, state_of, forgot, pending, gap_of}
use Rattle.typst_language.specs.Hand.{Hand, as_at_hand, known_by, hand_at, hand_asks, text_ahead, token_by, len_by, column_at, column_look}
use Rattle.typst_language.specs.Shape.{Making, made, hinted, Shape, shaped, after_node, after_shape, Seen, seen}
use Rattle.typst_language.specs.Syntax.{Op, Begin, Parser}
use Rattle.typst_language.specs.Syntax.Begin.{at_token, at_trivia}
use Rattle.typst_language.specs.Syntax.Op.{hand, so, further, column, erred, takes, takes_so, flushes, complains, advises, marks, is_deepest}
use Rattle.typst_language.specs.Syntax.Parser.{gives, does, next, pick, repeat, wraps, grows, nests, scoped, either, calls, block}

-- what a parser gives
pub record Outcome (A : Type 0) : Type 0 where
  pub value : A
  -- how many characters were taken
  pub taken : ℕ
  pub state : Point
  -- how many of the nodes before were taken back
  pub back : ℕ
  -- hints for the last of those that are left, if it is an error
  pub hints : List (List ℕ)
  -- the nodes that were given
  pub nodes : List Tree
  -- what was asked and noted, in order
  pub asks : List Ask
  -- whether the limit of depth was met, also in what was given up
  pub met : Bool

-- what a parser gives at each place, from each point
abbrev pub Meaning : Type 0 → Type 0
Meaning A = Place → Point → Outcome A

-- an answer, and nothing else
abbrev pub plain : {A : Type 0} → A → Point → Outcome A
plain a s = record { value = a; taken = 0; state = s; back = 0; hints = []; nodes = []; asks = []; met = false }

-- an outcome with another answer
abbrev pub answered : {A B : Type 0} → B → Outcome A → Outcome B
answered b o = record { value = b; taken = o.taken; state = o.state; back = o.back; hints = o.hints; nodes = o.nodes; asks = o.asks; met = o.met }

-- a list without its last n elements
unfoldable pub less : {A : Type 0} → ℕ → List A → List A
less n xs = take (length xs - n) xs

-- the nodes after an outcome, by those before it
abbrev pub standing : {A : Type 0} → Outcome A → List Tree → List Tree
standing o ts = hinted o.hints (less o.back ts) ++ o.nodes

-- the hints of two outcomes for the nodes before both: if the second leaves a node of the first
-- they are the first's, and if it takes back more than these they are its own
abbrev pub hints_before : {A B : Type 0} → Outcome B → Outcome A → List (List ℕ)
hints_before o p = if nat_lt p.back (length o.nodes) then o.hints else (if nat_lt (length o.nodes) p.back then p.hints else o.hints ++ p.hints)

-- two outcomes, one after the other: the second may take back nodes of the first, and then of those
-- before both
abbrev pub joined : {A B : Type 0} → Outcome B → Outcome A → Outcome A
joined o p = record {
  value = p.value;
  taken = o.taken + p.taken;
  state = p.state;
  back = o.back + (p.back - length o.nodes);
  hints = hints_before o p;
  nodes = standing p o.nodes;
  asks = o.asks ++ shift o.taken p.asks;
  met = o.met || p.met;
}

-- an outcome, and then what its answer leads to
abbrev pub followed : {A B : Type 0} → Outcome B → (B → Meaning A) → Place → Outcome A
followed o f z = joined o (f o.value (moved o.taken z) o.state)

-- the outcome of a last turn, without what it says of another one
abbrev pub as_last : {A : Type 0} → Outcome (Bool × A) → Outcome A
as_last o = answered o.value.1 o

-- no more characters than so many can be taken from here
abbrev pub bound : Place → Point → ℕ
bound z s = max (gap_of s.known) (length z.ahead)

-- turn after turn, while the last one says so and has taken something; the number bounds the turns,
-- and more than there are characters to take are never made
abbrev pub turns : {A : Type 0} → (A → Meaning (Bool × A)) → ℕ → A → Meaning A
turns m zero x z s = plain x s
turns m (suc n) x z s =
    let o = m x z s in
    if o.value.0 && nat_lt 0 o.taken then followed o (λ v. turns m n v.1) z else as_last o

-- turn after turn, as many as there may be
unfoldable pub repeated : {A : Type 0} → (A → Meaning (Bool × A)) → A → Meaning A
repeated m x z s = turns m (suc (bound z s)) x z s

-- how many nodes of pending trivia are before a node that begins so
abbrev pub before : Begin → Point → ℕ
before at_token s = length (pending s.known)
before at_trivia s = 0

-- the nodes of an outcome without the first n, which stay before what the others become; a node
-- that was put before them, or taken back, shifts this by one
abbrev pub inside : {A : Type 0} → ℕ → Outcome A → List Tree
inside n o = drop (n + o.back) o.nodes

-- an outcome whose nodes after the first n go into a shape
abbrev pub reshaped : {A : Type 0} → Shape → ℕ → Outcome A → Outcome A
reshaped shape n o = record o {
  state = after_shape shape (inside n o) o.state;
  nodes = take (n + o.back) o.nodes ++ shaped shape (inside n o);
}

-- an outcome whose nodes after the first n go into a shape, which its answer says; it answers also
-- what is seen of these nodes
abbrev pub wrapped : {A : Type 0} → (A → Shape) → ℕ → Outcome A → Outcome (A × List Seen)
wrapped f n o = answered (o.value, map seen (inside n o)) (reshaped (f o.value) n o)

-- an outcome with a turn: if the turn says a shape, all nodes after the first n go into it
abbrev pub grown : {A : Type 0} → ℕ → Option Shape → Outcome A → Outcome A
grown n None o = o
grown n (Some shape) o = reshaped shape n o

-- whether there is a value
abbrev pub is_more : {A : Type 0} → Option A → Bool
is_more None = false
is_more (Some a) = true

-- turn after turn that grows what was given, while the last one says a shape and has taken
-- something, at most so many
abbrev pub growths : {A : Type 0} → (A → Meaning (Option Shape × A)) → ℕ → ℕ → Outcome A → Place → Outcome A
growths m n zero o z = o
growths m n (suc k) o z =
    let p = m o.value (moved o.taken z) o.state in
    let next = grown n p.value.0 (answered p.value.1 (joined o p)) in
    if is_more p.value.0 && nat_lt 0 p.taken then growths m n k next z else next

-- what the first gives, grown turn after turn
unfoldable pub growing : {A : Type 0} → (A → Meaning (Option Shape × A)) → ℕ → Meaning A → Meaning A
growing m n first z s = growths m n (suc (bound z s)) (first z s) z

-- turn after turn, at most so many: each turn becomes one node with all that comes after it
abbrev pub nestings : {A : Type 0} → (A → Shape) → Begin → (A → Meaning (Bool × A)) → ℕ → A → Meaning A
nestings f begin m zero x z s = plain x s
nestings f begin m (suc n) x z s =
    let o = m x z s in
    let p = if o.value.0 && nat_lt 0 o.taken then followed o (λ v. nestings f begin m n v.1) z else as_last o in
    reshaped (f p.value) (before begin s) p

-- turn after turn that nests, as many as there may be
unfoldable pub nesting : {A : Type 0} → (A → Shape) → Begin → (A → Meaning (Bool × A)) → A → Meaning A
nesting f begin m x z s = nestings f begin m (suc (bound z s)) x z s

-- what a block gives, noted at both ends, and with nothing known of the trivia after it
abbrev pub closed : Block → Point → Outcome (Unit {0}) → Outcome (Unit {0})
closed b s o = record o { state = forgot o.state; asks = marked 0 0 0 (mark.Opens b) (state_of s) ∷ (o.asks ++ marked o.taken 0 0 mark.Closes (state_of o.state) ∷ []) }

-- a block, which begins with nothing known of the trivia
abbrev pub bounded : Block → Meaning (Unit {0}) → Meaning (Unit {0})
bounded b m z s = closed b s (m z (forgot s))

-- what was read one level deeper, with its asks counted from outside
abbrev pub deeper_by_one : {A : Type 0} → Outcome A → Outcome A
deeper_by_one o = record o { asks = sunk o.asks }

-- the outcome of a second reading, after the first was given up: that leaves its looks, and no unit
-- of either reading is noted
abbrev pub given_up : {A : Type 0} → Outcome A → Outcome A → Outcome A
given_up o p = record p { asks = only_looks (o.asks ++ p.asks); met = o.met || p.met }

-- the first outcome, or if its answer is wrong, the second, which takes its place
abbrev pub chosen : {A : Type 0} → (A → Bool) → Outcome A → Outcome A → Outcome A
chosen is_wrong o p = if is_wrong o.value then given_up o p else o

-- ---- readings

-- whether two modes are the same
abbrev pub same_mode : SyntaxMode → SyntaxMode → Bool
same_mode mode.Markup mode.Markup = true
same_mode mode.Math mode.Math = true
same_mode mode.Code mode.Code = true
same_mode _ _ = false

-- whether two newline rules are the same
abbrev pub same_rule : AtNewline → AtNewline → Bool
same_rule Continue Continue = true
same_rule Stop Stop = true
same_rule ContextualContinue ContextualContinue = true
same_rule StopParBreak StopParBreak = true
same_rule (RequireColumn a) (RequireColumn b) = a == b
same_rule _ _ = false

-- at the start of a text that is read so
abbrev pub start_point : Reading → Point
start_point r = record { reading = r; held = r; empties = 0; is_after_error = false; known = None }

-- the tokens to come are read so, and the current token stays
abbrev pub entered : Reading → Point → Point
entered reading s = record s { reading = reading }

-- the tokens to come are read in the outer way again. After another mode, trivia and token are read
-- again; after another rule, the token is judged again
abbrev pub left : Reading → Point → Point
left outer s =
    if same_mode s.reading.mode outer.mode
    then record s { reading = outer; held = record s.held { at_newline = if same_rule s.reading.at_newline outer.at_newline then s.held.at_newline else outer.at_newline } }
    else record s { reading = outer; held = outer; known = None }

-- an outcome after which the tokens to come are read in the outer way again
abbrev pub left_to : {A : Type 0} → Reading → Outcome A → Outcome A
left_to outer o = record o { state = left outer o.state }

-- ---- the meaning

-- what a first reading of parens finds after them, and what it asks for that
pub record Guess : Type 0 where
  pub after : AfterName
  pub asks : List Ask

-- a first reading by how many levels are left, where it goes on after its paren, and how it is read outside
abbrev pub Guessing : Type 0
Guessing = ℕ → Place → Reading → Guess

-- nothing is known of first readings
abbrev pub no_guess : Guessing
no_guess levels z outer = record { after = Nothing; asks = [] }

-- where a parser runs
pub record Level : Type 0 where
  pub classes : CharClasses
  -- how many levels are left for calls
  pub levels : ℕ
  -- what is read one level deeper
  pub deeper : (c : Call) → Meaning (Answer c)
  -- which blocks may be read, and what they give
  pub has : Block → Bool
  pub blocks : Block → Meaning (Unit {0})
  -- what is known of first readings; nothing that is read depends on it
  pub guess : Guessing

-- a level where this is known of first readings
abbrev pub guessing : Guessing → Level → Level
guessing g l = record l { guess = g }

-- where a given number of levels are left, and no block may be read except within what is read deeper
abbrev pub blockless : CharClasses → ℕ → ((c : Call) → Meaning (Answer c)) → Level
blockless k levels deeper = record { classes = k; levels = levels; deeper = deeper; has = λ b. false; blocks = λ b z s. plain tt s; guess = no_guess }

-- a level where no block may be read
abbrev pub apart : Level → Level
apart l = guessing l.guess (blockless l.classes l.levels l.deeper)

-- the current token at a place and a point
abbrev pub hand_of : Level → Place → Point → Hand
hand_of l z s = hand_at l.classes s.held s.known z

-- the looks for the current token at a place and a point
abbrev pub hand_asks_of : Level → Place → Point → List Ask
hand_asks_of l z s = hand_asks l.classes s.held s.known z

-- the point where the pending trivia were asked for
abbrev pub asked : Hand → Point → Point
asked h s = record s { known = known_by h }

-- what a token becomes that takes a given number of characters at a place
abbrev pub node_by : CharClasses → Making → Token → ℕ → Place → Tree
node_by k making t len z = made making (token_node k t (text_ahead len z))

-- what the current token becomes
abbrev pub taken_node : CharClasses → Making → Hand → Place → Tree
taken_node k making h z = node_by k making h.token h.len (moved h.gap z)

-- the point after a token was taken: the next one is read as the reading says, and nothing is known
-- of the trivia before it
abbrev pub renewed : Point → Point
renewed s = record s { held = s.reading; known = None }

-- the point after some pending trivia became nodes: their newlines stay known
abbrev pub flushed_state : Hand → Point → Point
flushed_state h s =
    record (elim h.trivia as (λ _. Point) [ [] ↦ s | t ∷ ts ↦ after_node false [] s ]) { known = Some (record { nodes = []; gap = 0; newlines = h.newlines }) }

-- the pending trivia are passed, and a token of a given number of characters that became this node
abbrev pub gave : Hand → Bool → ℕ → Tree → List Ask → Point → Outcome (Unit {0})
gave h trims len node asks s = record (plain tt (renewed (after_node (is_error node.head.kind) (text_of node) s))) {
  taken = h.gap + len;
  back = if trims then s.empties else 0;
  nodes = h.trivia ++ node ∷ [];
  asks = asks;
}

module _ (l : Level) where
  -- the current token, read from its start in another way
  abbrev pub reader_so : Way → Reader Memory Token
  reader_so way = token_so l.classes way

  abbrev pub done : {A : Type 0} → Op A → Meaning A
  done hand z s = let h = hand_of l z s in record (plain (as_at_hand h) (asked h s)) { asks = hand_asks_of l z s }
  done (so way) z s =
      let h = hand_of l z s in
      let w = moved h.gap z in
      record (plain (token_by (reader_so way) w).kind (asked h s)) { asks = hand_asks_of l z s ++ looked h.gap (look (reader_so way) w) ∷ [] }
  done further z s =
      let h = hand_of l z s in
      let w = moved (h.gap + h.len) z in
      let r = token l.classes s.reading.mode in
      record (plain (token_by r w).kind (asked h s)) { asks = hand_asks_of l z s ++ looked (h.gap + h.len) (look r w) ∷ [] }
  done column z s =
      let h = hand_of l z s in
      let w = moved h.gap z in
      record (plain (column_at w) (asked h s)) { asks = hand_asks_of l z s ++ looked h.gap (column_look w) ∷ [] }
  done erred z s = plain s.is_after_error s
  done (takes trims making) z s =
      let h = hand_of l z s in
      gave h trims h.len (taken_node l.classes making h z) (hand_asks_of l z s) s
  done (takes_so way making) z s =
      let h = hand_of l z s in
      let w = moved h.gap z in
      let r = reader_so way in
      gave h false (len_by r w) (node_by l.classes making (token_by r w) (len_by r w) w) (hand_asks_of l z s ++ looked h.gap (look r w) ∷ []) s
  done flushes z s =
      let h = hand_of l z s in
      record (plain tt (flushed_state h s)) { taken = h.gap; nodes = h.trivia; asks = hand_asks_of l z s }
  done (complains message) z s =
      record (plain tt (record s { empties = s.empties + 1; is_after_error = true })) { nodes = error_of message [] ∷ [] }
  done (advises hint) z s = record (plain tt s) { hints = hint ∷ [] }
  done (marks m) z s = record (plain tt s) { asks = marked 0 (gap_of s.known) 0 m (state_of s) ∷ [] }
  done is_deepest z s = record (plain (l.levels == 0) s) { met = l.levels == 0 }

  unfoldable pub run : {A : Type 0} → Parser A → Meaning A
  run (gives a) z s = plain a s
  run (does o) z s = done o z s
  run (next p f) z s = followed (run p z s) (λ b. run (f b)) z
  run (pick b p q) z s = if b then run p z s else run q z s
  run (repeat p x) z s = repeated (λ y. run (p y)) x z s
  run (wraps f begin p) z s = wrapped f (before begin s) (run p z s)
  run (grows begin p f) z s = growing (λ y. run (f y)) (before begin s) (run p) z s
  run (nests f begin p x) z s = nesting f begin (λ y. run (p y)) x z s
  run (scoped f p) z s = left_to s.reading (run p z (entered (f s.reading) s))
  run (either p is_wrong q) z s = chosen is_wrong (run p z s) (run q z s)
  run (calls c) z s = deeper_by_one (l.deeper c z s)
  run (block b) z s = if l.has b then followed (done flushes z s) (λ _. bounded b (l.blocks b)) z else plain tt s
