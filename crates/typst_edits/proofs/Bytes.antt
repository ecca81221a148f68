-- The test of an edit in bytes: the notes that a log keeps of what is asked, and what their numbers say of the looks.
use Rattle.typst_edits.proofs.Cited.{◌≡◌, ℕ, suc, ◌+◌, ◌-◌, ◌<◌, ◌≤◌, ◌^◌, max, min, List, [], ◌∷◌, ◌++◌, length, append_assoc, append-nil, Some, refl, ap, sym, ◌∙◌, arith, zero, Bool, true, false, if◌then◌else◌, Option, None, take, length-append, subst, Place, moved, position, far, near, width, Mark, Note, State, Ask, shift, sunk, looked, marked, Log, no_log, logged, with_note, moved-sum, highest, lowest, listed, Noting, noting, notes_in, lowered, Spot, unit_at, around, same, SyntaxMode, CharClasses, Newlines, Reading, len_at, at_trivia, asks_by, ahead_asks, ahead_of, asks_column, column_asks, hand_asks, as_at_hand, Trivia, Point, state_of, Outcome, Level, plain, joined, hand_of, hand_asks_of, asked, done, run, start_point, itself, close_if, takes, on_both, markup_reading, rules, max_depth, start_of, whole, parsed, log, text_with, AllEndBy, AllBeginIn, blocks_of_text, block_at, Named, logged-append, TextReplacement, text_before, start_before}
use Rattle.typst_tokens.specs.Sight.{hull_of}
use Rattle.typst_language.specs.Log.{with_hull}
use Rattle.typst_edits.specs.Bytes.{Decided, DecisionLaw}
use Rattle.typst_edits.specs.Looks.{AllReach}
use Rattle.typst_edits.proofs.Every.{Every}
pub use Rattle.typst_edits.specs.Looks.{AllReach, AllFrom}
use Rattle.typst_edits.proofs.Blocks.{ends}
use Rattle.typst_edits.proofs.Edit.{among, onto, past-is}
use Rattle.typst_edits.proofs.Spots.{Lawful}
use Rattle.typst_edits.proofs.Law.{inside-level}
use Rattle.typst_edits.proofs.Names.{named-level}
use Rattle.typst_edits.proofs.Widths.{width-none, width-append, width-onto, width-moved, far-by, far-to, near-by, near-to}
use Rattle.typst_edits.proofs.Within.{AllAt, in-level, at-most}
use Rattle.typst_kinds.specs.declared.kind.SyntaxKind.TheVariants as kind
use Rattle.typst_language.specs.declared.calls.Mark.TheVariants as mark
use Rattle.typst_edits.proofs.Looks.{ending, looks-both, looks-first, looks-second}

-- ---- the notes that a log keeps of what is asked, and what their numbers say of the looks

-- where the looks since a note begin, right after it
abbrev pub none_yet : ℕ
none_yet = 2 ^ 64 - 1

-- ---- the notes of what is asked, and the looks since the last one, from where earlier looks end and begin

abbrev pub note_with : ℕ → ℕ → ℕ → ℕ → Mark → State → ℕ → ℕ → Note
note_with lv reach least fewer m s before start = record { mark = m; before = before; start = start; levels = lv - fewer; state = s; reach = reach; least = least }

abbrev pub note_by : ℕ → Place → ℕ → ℕ → ℕ → ℕ → ℕ → Mark → State → Note
note_by lv z reach least at gap fewer m s = note_with lv reach least fewer m s (position (moved at z)) (position (moved gap (moved at z)))

abbrev pub notes_from : ℕ → Place → ℕ → ℕ → List Ask → List Note
notes_from lv z reach least [] = []
notes_from lv z reach least (looked at look ∷ asks) = notes_from lv z (max reach (far look.front (moved at z))) (min least (near look.back (moved at z))) asks
notes_from lv z reach least (marked at gap fewer m s ∷ asks) = note_by lv z reach least at gap fewer m s ∷ notes_from lv z 0 none_yet asks

abbrev pub reach_from : Place → ℕ → List Ask → ℕ
reach_from z reach [] = reach
reach_from z reach (looked at look ∷ asks) = reach_from z (max reach (far look.front (moved at z))) asks
reach_from z reach (marked at gap fewer m s ∷ asks) = reach_from z 0 asks

abbrev pub least_from : ℕ → Place → ℕ → List Ask → ℕ
least_from lv z least [] = least
least_from lv z least (looked at look ∷ asks) = least_from lv z (min least (near look.back (moved at z))) asks
least_from lv z least (marked at gap fewer m s ∷ asks) = least_from lv z none_yet asks

abbrev log_with : ℕ → ℕ → List Note → Log
log_with reach least ns = record { reach = reach; least = least; notes = Some ns }

-- WHAT A LOG IS after asks.
logged-as : (lv : ℕ) (z : Place) (asks : List Ask) (reach least : ℕ) (ns : List Note)
    → logged lv z (log_with reach least ns) asks ≡ log_with (reach_from z reach asks) (least_from lv z least asks) (ns ++ notes_from lv z reach least asks)
logged-as lv z [] reach least ns = ap (λ ms. log_with reach least ms) (sym (append-nil ns))
logged-as lv z (looked at look ∷ asks) reach least ns = logged-as lv z asks (max reach (far look.front (moved at z))) (min least (near look.back (moved at z))) ns
logged-as lv z (marked at gap fewer m s ∷ asks) reach least ns =
    let note = note_by lv z reach least at gap fewer m s in
    logged-as lv z asks 0 none_yet (ns ++ note ∷ []) ∙ ap (λ ms. log_with (reach_from z 0 asks) (least_from lv z none_yet asks) ms) (append_assoc ns (note ∷ []) (notes_from lv z 0 none_yet asks))

pub noted-length : (lv : ℕ) (z : Place) (asks : List Ask) (reach least : ℕ) → length (notes_from lv z reach least asks) ≡ notes_in asks
noted-length lv z [] reach least = refl
noted-length lv z (looked at look ∷ asks) reach least = noted-length lv z asks (max reach (far look.front (moved at z))) (min least (near look.back (moved at z)))
noted-length lv z (marked at gap fewer m s ∷ asks) reach least = ap suc (noted-length lv z asks 0 none_yet)

-- ---- a new log

abbrev pub fresh_notes : ℕ → Place → List Ask → List Note
fresh_notes lv z asks = notes_from lv z 0 none_yet asks

-- the note that is made after asks
abbrev pub next_note : ℕ → Place → List Ask → Noting → Note
next_note lv z asks p = note_by lv z (reach_from z 0 asks) (least_from lv z none_yet asks) p.at p.gap p.fewer p.mark p.state

logged-fresh : (lv : ℕ) (z : Place) (asks : List Ask) → logged lv z no_log asks ≡ log_with (reach_from z 0 asks) (least_from lv z none_yet asks) (fresh_notes lv z asks)
logged-fresh lv z asks = logged-as lv z asks 0 none_yet []

pub logged-notes : (lv : ℕ) (z : Place) (asks : List Ask) → (logged lv z no_log asks).notes ≡ Some (fresh_notes lv z asks)
logged-notes lv z asks = ap (λ (h : Log). h.notes) (logged-fresh lv z asks)

pub logged-listed : (lv : ℕ) (z : Place) (asks : List Ask) → listed (logged lv z no_log asks).notes ≡ fresh_notes lv z asks
logged-listed lv z asks = ap listed (logged-notes lv z asks)

pub logged-least : (lv : ℕ) (z : Place) (asks : List Ask) → (logged lv z no_log asks).least ≡ least_from lv z none_yet asks
logged-least lv z asks = ap (λ (h : Log). h.least) (logged-fresh lv z asks)

-- where a note stands among the asks
logged-around : (lv : ℕ) (z : Place) (asks : List Ask) (p : Noting) (more : List Ask)
    → logged lv z no_log (asks ++ noting p ∷ more) ≡ log_with (reach_from z 0 more) (least_from lv z none_yet more) (fresh_notes lv z asks ++ next_note lv z asks p ∷ fresh_notes lv z more)
logged-around lv z asks p more =
    logged-append lv z no_log asks (noting p ∷ more) ∙ ap (λ (h : Log). logged lv z h (noting p ∷ more)) (logged-fresh lv z asks)
    ∙ logged-as lv z (noting p ∷ more) (reach_from z 0 asks) (least_from lv z none_yet asks) (fresh_notes lv z asks)

pub notes-around : (lv : ℕ) (z : Place) (asks : List Ask) (p : Noting) (more : List Ask) → fresh_notes lv z (asks ++ noting p ∷ more) ≡ fresh_notes lv z asks ++ next_note lv z asks p ∷ fresh_notes lv z more
notes-around lv z asks p more = sym (logged-listed lv z (asks ++ noting p ∷ more)) ∙ ap (λ (h : Log). listed h.notes) (logged-around lv z asks p more)

pub least-around : (lv : ℕ) (z : Place) (asks : List Ask) (p : Noting) (more : List Ask) → least_from lv z none_yet (asks ++ noting p ∷ more) ≡ least_from lv z none_yet more
least-around lv z asks p more = sym (logged-least lv z (asks ++ noting p ∷ more)) ∙ ap (λ (h : Log). h.least) (logged-around lv z asks p more)

-- ---- what the numbers of notes say

-- The looks end by a byte,
pub reach-by : (lv b : ℕ) (z : Place) (asks : List Ask) (reach least : ℕ) → highest (notes_from lv z reach least asks) (reach_from z reach asks) ≤ b → (reach ≤ b) × AllReach b z asks
reach-by lv b z [] reach least h = (h, tt)
reach-by lv b z (looked at look ∷ asks) reach least h =
    let i = reach-by lv b z asks (max reach (far look.front (moved at z))) (min least (near look.back (moved at z))) h in
    (omega (arith, i.0), (omega (arith, i.0), i.1))
reach-by lv b z (marked at gap fewer m s ∷ asks) reach least h =
    (omega (arith, h), (reach-by lv b z asks 0 none_yet (omega (arith, h))).1)

pub reach-to : (lv b : ℕ) (z : Place) (asks : List Ask) (reach least : ℕ) → reach ≤ b → AllReach b z asks → highest (notes_from lv z reach least asks) (reach_from z reach asks) ≤ b
reach-to lv b z [] reach least h f = h
reach-to lv b z (looked at look ∷ asks) reach least h f =
    reach-to lv b z asks (max reach (far look.front (moved at z))) (min least (near look.back (moved at z))) (omega (arith, h, f.0)) f.1
reach-to lv b z (marked at gap fewer m s ∷ asks) reach least h f = omega (arith, h, reach-to lv b z asks 0 none_yet (omega arith) f)

-- and begin after it.
pub least-by : (lv b : ℕ) (z : Place) (asks : List Ask) (reach least : ℕ) → b < lowest (notes_from lv z reach least asks) (least_from lv z least asks) → (b < least) × AllFrom b z asks
least-by lv b z [] reach least h = (h, tt)
least-by lv b z (looked at look ∷ asks) reach least h =
    let i = least-by lv b z asks (max reach (far look.front (moved at z))) (min least (near look.back (moved at z))) h in
    (omega (arith, i.0), (omega (arith, i.0), i.1))
least-by lv b z (marked at gap fewer m s ∷ asks) reach least h =
    (omega (arith, h), (least-by lv b z asks 0 none_yet (omega (arith, h))).1)

pub least-to : (lv b : ℕ) (z : Place) (asks : List Ask) (reach least : ℕ) → b < none_yet → b < least → AllFrom b z asks → b < lowest (notes_from lv z reach least asks) (least_from lv z least asks)
least-to lv b z [] reach least big h f = h
least-to lv b z (looked at look ∷ asks) reach least big h f =
    least-to lv b z asks (max reach (far look.front (moved at z))) (min least (near look.back (moved at z))) big (omega (arith, h, f.0)) f.1
least-to lv b z (marked at gap fewer m s ∷ asks) reach least big h f = omega (arith, h, least-to lv b z asks 0 none_yet big big f)

-- ---- in a larger whole

-- what is logged from further on, where fewer levels are left
pub logged-lowered : (levels f d : ℕ) (z : Place) (h : Log) (asks : List Ask) → logged levels z h (shift d (lowered f asks)) ≡ logged (levels - f) (moved d z) h asks
logged-lowered levels f d z h [] = refl
logged-lowered levels f d z h (looked at look ∷ asks) =
    ap (λ w. logged levels z (with_hull (hull_of look w) h) (shift d (lowered f asks))) (moved-sum d at z) ∙ logged-lowered levels f d z (with_hull (hull_of look (moved at (moved d z))) h) asks
logged-lowered levels f d z h (marked at gap fewer m s ∷ asks) =
    let left : levels - (f + fewer) ≡ (levels - f) - fewer = omega arith in
    ap (λ w. logged levels z (with_note gap (levels - (f + fewer)) m s w h) (shift d (lowered f asks))) (moved-sum d at z)
    ∙ ap (λ n. logged levels z (with_note gap n m s (moved at (moved d z)) h) (shift d (lowered f asks))) left
    ∙ logged-lowered levels f d z (with_note gap ((levels - f) - fewer) m s (moved at (moved d z)) h) asks

pub notes-lowered : (levels f d : ℕ) (z : Place) (asks : List Ask) → fresh_notes levels z (shift d (lowered f asks)) ≡ fresh_notes (levels - f) (moved d z) asks
notes-lowered levels f d z asks =
    sym (logged-listed levels z (shift d (lowered f asks))) ∙ ap (λ (h : Log). listed h.notes) (logged-lowered levels f d z no_log asks) ∙ logged-listed (levels - f) (moved d z) asks

-- ---- the marks in a list of asks

-- Each of them has a property, by its place, by how many levels fewer are left there, by what it says, and by the state.
abbrev pub AllMarks : (ℕ → ℕ → Mark → State → Type 0) → List Ask → Type 0
AllMarks P [] = Unit {0}
AllMarks P (looked at look ∷ asks) = AllMarks P asks
AllMarks P (marked at gap fewer m s ∷ asks) = P at fewer m s × AllMarks P asks

pub marks-append : (P : ℕ → ℕ → Mark → State → Type 0) (ls ks : List Ask) → AllMarks P ls → AllMarks P ks → AllMarks P (ls ++ ks)
marks-append P [] ks h i = i
marks-append P (looked at look ∷ ls) ks h i = marks-append P ls ks h i
marks-append P (marked at gap fewer m s ∷ ls) ks h i = (h.0, marks-append P ls ks h.1 i)

pub marks-by : (P Q : ℕ → ℕ → Mark → State → Type 0) → ((at fewer : ℕ) (m : Mark) (s : State) → P at fewer m s → Q at fewer m s) → (ls : List Ask) → AllMarks P ls → AllMarks Q ls
marks-by P Q f [] h = tt
marks-by P Q f (looked at look ∷ ls) h = marks-by P Q f ls h
marks-by P Q f (marked at gap fewer m s ∷ ls) h = (f at fewer m s h.0, marks-by P Q f ls h.1)

-- counted from a given number of characters before
pub marks-shift : (P : ℕ → ℕ → Mark → State → Type 0) (d : ℕ) (ls : List Ask) → AllMarks (λ at fewer m s. P (d + at) fewer m s) ls → AllMarks P (shift d ls)
marks-shift P d [] h = tt
marks-shift P d (looked at look ∷ ls) h = marks-shift P d ls h
marks-shift P d (marked at gap fewer m s ∷ ls) h = (h.0, marks-shift P d ls h.1)

-- and from where more levels are left
pub marks-lowered : (P : ℕ → ℕ → Mark → State → Type 0) (n : ℕ) (ls : List Ask) → AllMarks (λ at fewer m s. P at (n + fewer) m s) ls → AllMarks P (lowered n ls)
marks-lowered P n [] h = tt
marks-lowered P n (looked at look ∷ ls) h = marks-lowered P n ls h
marks-lowered P n (marked at gap fewer m s ∷ ls) h = (h.0, marks-lowered P n ls h.1)

pub marks-sunk : (P : ℕ → ℕ → Mark → State → Type 0) → ((at fewer : ℕ) (m : Mark) (s : State) → P at (suc fewer) m s) → (ls : List Ask) → AllMarks P (sunk ls)
marks-sunk P f [] = tt
marks-sunk P f (looked at look ∷ ls) = marks-sunk P f ls
marks-sunk P f (marked at gap fewer m s ∷ ls) = (f at fewer m s, marks-sunk P f ls)

-- ---- looks alone

-- A property of marks holds, whatever it is.
pub none-trivia : (P : ℕ → ℕ → Mark → State → Type 0) (k : CharClasses) (m : SyntaxMode) (n : ℕ) (z : Place) → AllMarks P (asks_by k m n z)
none-trivia P k m zero z = tt
none-trivia P k m (suc n) z =
    let n_len = len_at k m z in
    let rest = asks_by k m n (moved n_len z) in
    on_both (λ (us : List Ask). AllMarks P us) (at_trivia k m z) (shift n_len rest) [] (marks-shift P n_len rest (none-trivia (λ at fewer m s. P (n_len + at) fewer m s) k m n (moved n_len z))) tt

none-column : (P : ℕ → ℕ → Mark → State → Type 0) (held : Reading) (newlines : Newlines) (gap : ℕ) (z : Place) → AllMarks P (column_asks held newlines gap z)
none-column P held newlines gap z = on_both (λ (us : List Ask). AllMarks P us) (asks_column held newlines) _ [] tt tt

pub none-hand : (P : ℕ → ℕ → Mark → State → Type 0) (k : CharClasses) (held : Reading) (known : Option Trivia) (z : Place) → AllMarks P (hand_asks k held known z)
unfolding hand_asks ahead_asks
none-hand P k held None z =
    let a = ahead_of k held.mode None z in
    marks-append P (asks_by k held.mode (length z.ahead) z) (column_asks held a.newlines a.gap z) (none-trivia P k held.mode (length z.ahead) z) (none-column P held a.newlines a.gap z)
none-hand P k held (Some t) z = none-column P held t.newlines t.gap z

-- nor is any at a content block's closing bracket
pub none-close : (P : ℕ → ℕ → Mark → State → Type 0) (l : Level) (w : Place) (p : Point) → AllMarks P (run l (close_if (same kind.RightBracket)) w p).asks
unfolding run close_if
none-close P l w p =
    let a = asked (hand_of l w p) p in
    let y = moved 0 w in
    let Q = λ (at fewer : ℕ) (m : Mark) (u : State). P (0 + at) fewer m u in
    let took = done l (takes false itself) y a in
    let taken = joined took (plain true took.state) in
    let b = same kind.RightBracket (as_at_hand (hand_of l w p)).kind in
    let in_took = marks-append Q (hand_asks_of l y a) [] (none-hand Q l.classes a.held a.known y) tt in
    marks-append P (hand_asks_of l w p) _ (none-hand P l.classes p.held p.known w)
    (marks-shift P 0 (if b then taken else plain false a).asks (on_both (λ (o : Outcome Bool). AllMarks Q o.asks) b taken (plain false a) in_took tt))

-- ---- the notes of a log

-- A note is that of a mark.
pub record NoteOf (P : ℕ → ℕ → Mark → State → Type 0) (lv : ℕ) (z : Place) (n : Note) : Type 0 where
  pub at : ℕ
  pub fewer : ℕ
  pub says : Mark
  pub told : State
  pub holds : P at fewer says told
  pub mark : n.mark ≡ says
  pub before : n.before ≡ position (moved at z)
  pub levels : n.levels ≡ lv - fewer
  pub state : n.state ≡ told

pub every-note : (P : ℕ → ℕ → Mark → State → Type 0) (lv : ℕ) (z : Place) (asks : List Ask) (reach least : ℕ) → AllMarks P asks → Every (NoteOf P lv z) (notes_from lv z reach least asks)
every-note P lv z [] reach least a = tt
every-note P lv z (looked at look ∷ asks) reach least a = every-note P lv z asks (max reach (far look.front (moved at z))) (min least (near look.back (moved at z))) a
every-note P lv z (marked at gap fewer m s ∷ asks) reach least a = (
  record { at = at; fewer = fewer; says = m; told = s; holds = a.0; mark = refl; before = refl; levels = refl; state = refl },
  every-note P lv z asks 0 none_yet a.1,
)

-- ---- how many notes are made

pub notes-one : (asks : List Ask) (at gap fewer : ℕ) (m : Mark) (s : State) → notes_in (asks ++ marked at gap fewer m s ∷ []) ≡ suc (notes_in asks)
notes-one [] at gap fewer m s = refl
notes-one (looked i look ∷ asks) at gap fewer m s = notes-one asks at gap fewer m s
notes-one (marked i g f l t ∷ asks) at gap fewer m s = ap suc (notes-one asks at gap fewer m s)

pub notes-own : (d n : ℕ) (asks : List Ask) → notes_in (shift d (lowered n asks)) ≡ notes_in asks
notes-own d n [] = refl
notes-own d n (looked at look ∷ asks) = notes-own d n asks
notes-own d n (marked at gap fewer m s ∷ asks) = ap suc (notes-own d n asks)

-- ---- where looks end

pub end-to : (front more : List ℕ) (asks : List Ask) → AllEndBy (length front) asks → AllReach (width front) (start_of (front ++ more)) asks
end-to front more [] a = tt
end-to front more (looked at look ∷ asks) a = (far-to at look.front front more a.0, end-to front more asks a.1)
end-to front more (marked at gap fewer m s ∷ asks) a = end-to front more asks a

pub end-by : (front more : List ℕ) (asks : List Ask) → AllAt (length (front ++ more)) asks → AllReach (width front) (start_of (front ++ more)) asks → AllEndBy (length front) asks
end-by front more [] a r = tt
end-by front more (looked at look ∷ asks) a r = (far-by at look.front front more a.0 r.0, end-by front more asks a.1 r.1)
end-by front more (marked at gap fewer m s ∷ asks) a r = end-by front more asks a r

-- ---- where looks begin

-- after a stretch
pub begin-by : (front old rest : List ℕ) (end past : ℕ) (asks : List Ask) → end ≡ (length front + length old) + past → AllAt (length (front ++ (old ++ rest))) (shift end asks) → AllFrom (width (front ++ old)) (text_with front old rest) (shift end asks)
    → AllBeginIn past rest asks
begin-by front old rest end past [] e a f = tt
begin-by front old rest end past (looked at look ∷ asks) e a f =
    let d = past + at in
    let there : end + at ≡ (length front + length old) + d = omega (arith, e) in
    let place : moved (end + at) (text_with front old rest) ≡ moved d (record { before = onto old (onto front []); ahead = rest }) = ap (λ n. moved n (text_with front old rest)) there ∙ past-is d front old rest in
    let room : d ≤ length rest = omega (arith, a.0, there, length-append front (old ++ rest), length-append old rest) in
    let early : width (front ++ old) ≡ width (onto old (onto front [])) = omega (arith, width-append front old, width-onto old (onto front []), width-onto front [], width-none) in
    let begins : width (onto old (onto front [])) < near look.back (moved d (record { before = onto old (onto front []); ahead = rest })) = subst (λ n. n < near look.back (moved d (record { before = onto old (onto front []); ahead = rest }))) early (subst (λ y. width (front ++ old) < near look.back y) place f.0) in
    (near-by look.back d (onto old (onto front [])) rest room begins, room, begin-by front old rest end past asks e a.1 f.1)
begin-by front old rest end past (marked at gap fewer m s ∷ asks) e a f = begin-by front old rest end past asks e a f

pub begin-to : (front old rest : List ℕ) (end past : ℕ) (asks : List Ask) → end ≡ (length front + length old) + past → AllBeginIn past rest asks → AllFrom (width (front ++ old)) (text_with front old rest) (shift end asks)
begin-to front old rest end past [] e f = tt
begin-to front old rest end past (looked at look ∷ asks) e f =
    let d = past + at in
    let there : end + at ≡ (length front + length old) + d = omega (arith, e) in
    let place : moved (end + at) (text_with front old rest) ≡ moved d (record { before = onto old (onto front []); ahead = rest }) = ap (λ n. moved n (text_with front old rest)) there ∙ past-is d front old rest in
    let early : width (front ++ old) ≡ width (onto old (onto front [])) = omega (arith, width-append front old, width-onto old (onto front []), width-onto front [], width-none) in
    let begins = near-to look.back d (onto old (onto front [])) rest f.0 f.1 in
    (subst (λ y. width (front ++ old) < near look.back y) (sym place) (subst (λ n. n < near look.back (moved d (record { before = onto old (onto front []); ahead = rest }))) (sym early) begins), begin-to front old rest end past asks e f.2)
begin-to front old rest end past (marked at gap fewer m s ∷ asks) e f = begin-to front old rest end past asks e f

-- ---- the two notes of a block

pub asks-are : (os bs es own cs ls : List Ask) (a c : Ask) → os ≡ bs ++ (own ++ cs) → bs ≡ es ++ a ∷ [] → cs ≡ c ∷ ls → os ≡ es ++ (a ∷ (own ++ c ∷ ls))
asks-are os bs es own cs ls a c e f g = e ∙ ap (λ u. u ++ (own ++ cs)) f ∙ append_assoc es (a ∷ []) (own ++ cs) ∙ ap (λ u. es ++ (a ∷ (own ++ u))) g

decided : (k : CharClasses) (edit : TextReplacement) (c : Spot (Unit {0})) (past : ℕ) → (let z = start_before edit in
    parsed k max_depth (text_before edit) ≡ around c (unit_at c z) c.node → Named (block_at k) max_depth c → AllAt (length (text_before edit)) (parsed k max_depth (text_before edit)).asks
    → (unit_at c z).taken + c.at ≡ (length edit.front + length edit.old) + past → Decided (log k (text_before edit)) edit c past)
unfolding log position
decided k edit c past o n a e =
    let z = start_before edit in
    let text = text_before edit in
    let u = unit_at c z in
    let end = c.at + u.taken in
    let own = shift c.at (lowered c.fewer u.asks) in
    let late = shift end n.later in
    let start_mark = mark.Opens c.name in
    let asks = ap (λ q. q.asks) o in
    let closes_at = ap (shift end) n.closed in
    let opening : Noting = record { at = c.at; gap = 0; fewer = c.fewer; mark = start_mark; state = c.start } in
    let closing : Noting = record { at = end + 0; gap = 0; fewer = c.fewer; mark = mark.Closes; state = state_of c.reached } in
    let e0 = asks-are _ c.before n.earlier own (shift end c.after) late (noting opening) (noting closing) asks n.opened closes_at in
    let behind = own ++ noting closing ∷ late in
    let notes_before = fresh_notes max_depth z n.earlier in
    let first = next_note max_depth z n.earlier opening in
    let notes_late = fresh_notes max_depth z late in
    let noted = ap (λ ls. (logged max_depth z no_log ls).notes) e0 ∙ logged-notes max_depth z (n.earlier ++ noting opening ∷ behind)
    ∙ ap Some (notes-around max_depth z n.earlier opening behind ∙ ap (λ ns. notes_before ++ first ∷ ns) (notes-around max_depth z own closing late)) in
    let least = ap (λ ls. (logged max_depth z no_log ls).least) e0 ∙ logged-least max_depth z (n.earlier ++ noting opening ∷ behind)
    ∙ least-around max_depth z n.earlier opening behind ∙ least-around max_depth z own closing late in
    let within = subst (λ ls. AllAt (length text) ls) e0 a in
    let within_before = looks-first (at-most (length text)) n.earlier _ within in
    let within_after = looks-second (at-most (length text)) own _ (looks-second (at-most (length text)) n.earlier _ within) in
    let there : end ≡ (length edit.front + length edit.old) + past = omega (arith, e) in
    record {
      earlier = notes_before;
      opens = first;
      inner = fresh_notes max_depth z own;
      closes = next_note max_depth z own closing;
      later = notes_late;
      notes = noted;
      name = refl;
      start = width-moved c.at text;
      levels = refl;
      state = refl;
      name_end = refl;
      end = (let there = width-moved (end + 0) text in let none : end + 0 ≡ end = omega arith in there ∙ ap (λ n. width (take n text)) none);
      number = ap notes_in n.opened ∙ notes-one n.earlier c.at 0 c.fewer start_mark c.start ∙ ap suc (sym (noted-length max_depth z n.earlier 0 none_yet));
      long = noted-length max_depth z own 0 none_yet ∙ notes-own c.at c.fewer u.asks;
      before = λ h. subst (λ ls. AllEndBy (length edit.front) ls) (sym n.opened) (looks-both (ending (length edit.front)) n.earlier (noting opening ∷ [])
          (end-by edit.front (edit.old ++ edit.rest) n.earlier within_before (reach-by max_depth (width edit.front) z n.earlier 0 none_yet h).1) tt);
      before_too = λ h. reach-to max_depth (width edit.front) z n.earlier 0 none_yet (omega arith)
          (end-to edit.front (edit.old ++ edit.rest) n.earlier (looks-first (ending (length edit.front)) n.earlier (noting opening ∷ []) (subst (λ ls. AllEndBy (length edit.front) ls) n.opened h)));
      after_too = λ big h. subst (λ l. width (edit.front ++ edit.old) < lowest notes_late l) (sym least)
          (least-to max_depth (width (edit.front ++ edit.old)) z late 0 none_yet big big (begin-to edit.front edit.old edit.rest end past n.later there (subst (λ ls. AllBeginIn past edit.rest ls) n.closed h)));
      after = λ h. subst (λ ls. AllBeginIn past edit.rest ls) (sym n.closed)
          (begin-by edit.front edit.old edit.rest end past n.later there within_after (least-by max_depth (width (edit.front ++ edit.old)) z late 0 none_yet (subst (λ l. width (edit.front ++ edit.old) < lowest notes_late l) least h)).1);
    }

pub decision-law : DecisionLaw
unfolding blocks_of_text
decision-law k edit c past i e =
    let z = start_before edit in
    let s = start_point markup_reading in
    let o = parsed k max_depth (text_before edit) in
    let l = among (Lawful z z o o) c _ i (inside-level (rules k) k (ends k) max_depth whole z z s) in
    let n = among (Named (block_at k) max_depth) c _ i (named-level (rules k) k max_depth whole z s) in
    let b : max 0 (length (text_before edit)) ≡ length (text_before edit) = omega arith in
    decided k edit c past l.old n (subst (λ n. AllAt n o.asks) b (in-level (rules k) k max_depth whole z s)) e
