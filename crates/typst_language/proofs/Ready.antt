-- What the parser of the code does to the token at hand.
use Rattle.typst_language.proofs.Cited.{Some, None, ◌≡◌, ◌≤◌, ℕ, ◌+◌, ◌-◌, Bool, true, false, if◌then◌else◌, List, [], ◌∷◌, ◌++◌, length, length-append, refl, ap, arith, is_error, Place, moved, place, Tree, text_of, CharClasses, position, Mark, Reading, Point, Trivia, state_of, Hand, column_at, judged, hand_at, known_by, with_hull, Making, count_empty, after_node, note, column, takes, does, Level, less, same_mode, same_rule, taken_node, column_hull, token_hull, whole_at, view_of, Stands, ReadAhead, View, Goes, Does, Fits, Bare, Looked, Left, unasked, noted_here, with_noted}
use Rattle.typst_language.specs.declared.reading.AtNewline.{AtNewline}
use Rattle.typst_language.specs.declared.parser.Parser.TheInside.{Inside}
use Rattle.typst_language.proofs.Logs.{logged-none, logged-some}
use Rattle.typst_language.proofs.Runs.{column_seen, fits-looked, asked-log}
use Rattle.typst_language.proofs.Steps.{does-note, does-column, does-takes}
use Rattle.typst_language.proofs.Backs.{count-le}

-- what the state says of a node that was added
pub told-node : (i : Bool) (text : List ℕ) (s : Point) → record s { empties = if i then count_empty text else 0; is_after_error = i } ≡ after_node i text s
told-node i text s = grind arith

-- the token at hand became a node
pub taken-is : (l : Level) (trims : Bool) (making : Making) (v w : View) (node : Tree) → node ≡ taken_node l.classes making v.hand v.place
    → w.nodes ≡ less (if trims then v.state.empties else 0) v.nodes ++ (v.hand.trivia ++ node ∷ [])
    → w.place ≡ moved (v.hand.gap + v.hand.len) v.place
    → w.state ≡ record v.state { held = v.state.reading; empties = if is_error node.head.kind then count_empty (text_of node) else 0; is_after_error = is_error node.head.kind; known = None }
    → w.log ≡ v.log → w.memo ≡ v.memo → Goes l (Fits l) (Bare l) (does (takes trims making)) tt v w
taken-is l trims making v w node e ns p s j m = grind (arith, does-takes, told-node)

-- the token to come was read
pub looked-is : (l : Level) (v w : View) → w.nodes ≡ v.nodes → w.place ≡ v.place
    → w.state ≡ record v.state { known = known_by w.hand } → w.hand ≡ hand_at l.classes v.state.held None v.place
    → w.own ≡ token_hull l.classes v.state.held.mode (moved w.hand.gap v.place) → w.here ≡ column_hull v.state.held w.hand.newlines (moved w.hand.gap v.place) w.own
    → w.log ≡ with_hull (whole_at l.classes v.state.held v.place) v.log → w.memo ≡ v.memo → Looked l (unasked v) w
looked-is l v w n p s h o i j m = grind (arith, logged-none)

-- after another mode the token was read again
pub left-again : (l : Level) (outer : Reading) (v w : View) → same_mode v.state.reading.mode outer.mode ≡ false
    → Looked l (unasked (record v { state = record v.state { reading = outer; held = outer } })) w → Left l outer v w
left-again l outer v w m h = λ c. (rw m h)

-- after the same rule all stays
pub left-kept : (l : Level) (outer : Reading) (v w : View) → same_mode v.state.reading.mode outer.mode ≡ true → same_rule v.state.reading.at_newline outer.at_newline ≡ true
    → w ≡ record v { state = record v.state { reading = outer } } → Left l outer v w
left-kept l outer v w m r e = grind (arith, fits-looked)

-- the token at hand by another rule
rejudged : (k : CharClasses) (held : Reading) (rule : AtNewline) (t : Trivia) (z : Place) (h : Hand) → h ≡ hand_at k held (Some t) z
    → record h { kind = judged (record held { at_newline = rule }) h.newlines h.token.kind (column_at (moved h.gap z)) } ≡ hand_at k (record held { at_newline = rule }) (Some t) z
unfolding hand_at
rejudged k held rule t z h e = ap (λ (x : Hand). record x { kind = judged (record held { at_newline = rule }) x.newlines x.token.kind (column_at (moved x.gap z)) }) e

-- after another rule it was judged again
pub left-judged : (l : Level) (outer : Reading) (v w : View) → same_mode v.state.reading.mode outer.mode ≡ true → same_rule v.state.reading.at_newline outer.at_newline ≡ false
    → w.nodes ≡ v.nodes → w.place ≡ v.place → w.state ≡ record v.state { reading = outer; held = record v.state.held { at_newline = outer.at_newline }; known = known_by w.hand }
    → w.hand ≡ record v.hand { kind = judged (record v.state.held { at_newline = outer.at_newline }) v.hand.newlines v.hand.token.kind (column_at (moved v.hand.gap v.place)) }
    → w.own ≡ v.own → w.here ≡ column_hull (record v.state.held { at_newline = outer.at_newline }) v.hand.newlines (moved v.hand.gap v.place) v.own
    → w.log ≡ with_hull w.here v.log → w.memo ≡ v.memo → Left l outer v w
left-judged l outer v w m r n p s h o i j remembered = grind (arith, rejudged, logged-some)

-- ---- notes, columns and shapes

-- this was noted, and the token at hand was looked at again
pub noted-is : (l : Level) (mark : Mark) (levels before start : ℕ) (v w : View) → l.levels ≡ levels → before ≡ position v.place → start ≡ position (moved v.hand.gap v.place)
    → w ≡ record v { log = with_hull v.here (with_noted mark before start levels (state_of v.state) v.log) } → Does l (note mark) tt v w
noted-is l mark levels before start v w d b s f = grind (arith, does-note, fits-looked, asked-log)

-- this was noted where nothing was asked for
pub noted-here : (mark : Mark) (levels here : ℕ) (v w : View) → here ≡ position v.place → w ≡ record v { log = with_noted mark here here levels (state_of v.state) v.log } → w ≡ noted_here levels mark v
noted-here mark levels here v w b f = rw (f, b) refl

pub column-is : (l : Level) (v w : View) (a : ℕ) → a ≡ column_at (moved v.hand.gap v.place) → w ≡ column_seen v → Does l (does column) a v w
column-is l v w a e f = rw (e, f) (does-column v)

-- after a node that is no error
pub after-fine : (i : Bool) (text : List ℕ) (s : Point) → i ≡ false → after_node i text (record s { empties = 0 }) ≡ after_node false [] s
after-fine i text s e = rw e refl

-- where the trivia are known, the token was read
pub was-read : {l : Level} (i : Inside) → Fits l (view_of i) → i.ahead.is_read ≡ true
was-read i f = grind arith

-- where nothing stands between the places, the token is passed
pub stands-passed : (a : ReadAhead) → a.line.text.now ≡ a.after.text.now → Stands (record a { is_read = false; before = a.after; start = a.after })
stands-passed a same = grind arith

-- after a node that was given no more empty errors stand than nodes
pub few-given : (is : Bool) (text : List ℕ) (empties : ℕ) (old new : List Tree) (node : Tree) → empties ≡ (if is then count_empty text else 0) → new ≡ old ++ node ∷ [] → empties ≤ length new
few-given is text empties old new node e f = grind (arith, count-le, length-append)
