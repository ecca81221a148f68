-- What holds of each level.
use Rattle.typst_grammar.proofs.Cited.{◌≡◌, ℕ, suc, ◌-◌, ◌<◌, Bool, true, Option, Some, List, [], refl, ap, subst, sym, arith, chars, SyntaxMode, Place, moved, hull_of, CharClasses, ChainSet, Role, Point, Ask, Reading, Log, no_log, with_more, with_hull, with_note, logged, meaning_of, Guess, Level, Meaning, Outcome, apart, less, start_point, run, AfterName, Call, Answer, MarkupExpr, CodeExpr, MathExpr, Pattern, peek, math_reading, content_block, markup_reading, code_block, code_reading, after_paren, Sound, Parser, ◌>>◌, run-blind, sound-level, knows-none, View, Runs, Goes, Does, Makes, Calls, Frame, Fills, Fits, Bare, at, guesses, guessing_at, Note, ◌∷◌, IsSome, Result}
use Rattle.std.specs.declared.alloc.AllocError.{AllocError}
use denote.Ref.{MutBor}
use Rattle.typst_kinds.specs.declared.mode.SyntaxMode.TheVariants as mode
use Rattle.typst_language.specs.Ask.Ask.{looked, marked}
use Rattle.typst_language.specs.declared.reading.AtNewline.TheVariants as newline
use Rattle.typst_language.specs.Cursor.{IsStart}
use Rattle.typst_language.specs.Noted.{listed}
use Rattle.typst_language.specs.View.{given_by}
use Rattle.typst_code.specs.Outside.{Blocks}
use Rattle.typst_grammar.specs.Grammar.{rules, production, meaning, level_at, max_depth, start_of, parsed, parsed_in, whole, whole_code, whole_math, whole_in, log}
use Rattle.typst_grammar.specs.Read.{IsParsed}
use Rattle.typst_language.proofs.HintedNodes.{hinted-none}

pub sound-at : (k : CharClasses) (levels : ℕ) → Sound (guessing_at k levels)
sound-at k levels = let s = sound-level (rules k) k levels in record { within = s.within; backs = s.backs; within_block = s.within_block; backs_block = s.backs_block }

-- what is known of first readings changes nothing that is read
pub known-run : {A : Type 0} (k : CharClasses) (levels : ℕ) (p : Parser A) (z : Place) (s : Point) → run (guessing_at k levels) p z s ≡ run (level_at k levels) p z s
known-run {A = A} k levels p z s = ap {A = Meaning A} {B = Outcome A} (λ m. m z s) (run-blind (guesses k) (level_at k levels) p)

-- nor does it where no block may be read
known-block : (k : CharClasses) (levels : ℕ) (p : Parser (Unit {0})) (z : Place) (s : Point) → run (apart (level_at k levels)) p z s ≡ run (apart (guessing_at k levels)) p z s
known-block k levels p z s = sym (ap {A = Meaning (Unit {0})} {B = Outcome (Unit {0})} (λ m. m z s) (run-blind (guesses k) (apart (level_at k levels)) p))

-- each block may be read there, and what is known of first readings is what they find
pub blocks-at : (k : CharClasses) (levels : ℕ) → Blocks (guessing_at k levels)
blocks-at k levels = record {
  outside = record { content = record { has = refl; same = λ z s. known-block k levels (peek >> content_block) z s } };
  code = record { has = refl; same = λ z s. known-block k levels (peek >> code_block) z s };
  guess = λ z outer. ap {A = Outcome AfterName} {B = Guess} (λ o. record { after = o.value; asks = o.asks }) (sym (known-run k levels after_paren z _));
}

-- what is at hand doesn't depend on the level
fits-level : (k : CharClasses) (i j : ℕ) {v : View} → Fits (guessing_at k i) v → Fits (guessing_at k j) v
fits-level k i j c = record { known = c.known; hand = c.hand; own = c.own; here = c.here; there = c.there; log = c.log; knows = c.knows }

makes-production : (k : CharClasses) (levels : ℕ) {call : Call} {a : Answer call} {old new : View} → Does (guessing_at k levels) (production k call) a old new → Makes (guessing_at k (suc levels)) call a old new
unfolding meaning_of
makes-production k levels {call = call} {a = a} {old = old} {new = new} h =
    let e : levels ≡ suc levels - 1 = omega arith in
    record {
      ran = λ c. (let r = (h.ran (fits-level k (suc levels) levels c)).runs in
          let same = known-run k levels (production k call) old.place old.state in
          let runs = subst (λ (o : Outcome (Answer call)). Runs levels o a old new) same r in
          subst (λ (n : ℕ). Runs n (meaning k (suc levels) call old.place old.state) a old new) e runs);
      ready = λ c. fits-level k levels (suc levels) (h.ready (fits-level k (suc levels) levels c));
    }

-- a call does what its production does with one level less
pub makes-call : (k : CharClasses) (levels : ℕ) {call : Call} {a : Answer call} {old new : View} → 0 < levels → Does (guessing_at k (levels - 1)) (production k call) a old new → Makes (guessing_at k levels) call a old new
makes-call k levels {call = call} {a = a} {old = old} {new = new} below h =
    let e : suc (levels - 1) ≡ levels = omega arith in
    subst (λ (d : ℕ). Makes (guessing_at k d) call a old new) e (makes-production k (levels - 1) h)

-- what a call gives at references, it gives at what they point to
calls-at : (l : Level) (call : Call) (r : Result (Answer call) AllocError) {v w old new : View} → v ≡ old → w ≡ new → Calls l call v r w → Calls l call old r new
calls-at l call r {w = w} {old = old} e f h = subst (λ (y : View). Calls l call old r y) f (subst (λ (x : View). Calls l call x r w) e h)

-- calls fill a level where each gives what the level says
fills-level : (k : CharClasses) (levels : ℕ) {f : Frame} → k ≡ f.classes → levels ≡ f.levels
    → ((old new : View) (at_start : Bool) (nesting : ℕ) (r : Result ℕ AllocError) → f.gives (MarkupExpr at_start nesting) old r new → Calls (guessing_at k levels) (MarkupExpr at_start nesting) old r new)
    → ((old new : View) (atomic : Bool) (least : ℕ) (r : Result (Unit {0}) AllocError) → f.gives (CodeExpr atomic least) old r new → Calls (guessing_at k levels) (CodeExpr atomic least) old r new)
    → ((old new : View) (least : ℕ) (signs : ChainSet) (r : Result (Unit {0}) AllocError) → f.gives (MathExpr least signs) old r new → Calls (guessing_at k levels) (MathExpr least signs) old r new)
    → ((old new : View) (role : Role) (names : List (List ℕ)) (r : Result (List (List ℕ)) AllocError) → f.gives (Pattern role names) old r new → Calls (guessing_at k levels) (Pattern role names) old r new)
    → Fills (guessing_at k levels) f
fills-level k levels {f = f} classes same markup code math pattern = record { classes = classes; sound = sound-at k levels; levels = same; reads = reads }
  where
    reads : (old new : View) (call : Call) (r : Result (Answer call) AllocError) → f.gives call old r new → Calls (guessing_at k levels) call old r new
    reads old new (MarkupExpr at_start nesting) r h = markup old new at_start nesting r h
    reads old new (CodeExpr atomic least) r h = code old new atomic least r h
    reads old new (MathExpr least signs) r h = math old new least signs r h
    reads old new (Pattern role names) r h = pattern old new role names r h

-- the functions of the knot fill each level
pub knot-fills : (k : CharClasses) (levels : ℕ) {X : MutBor View → ℕ → ChainSet → Result (Unit {0}) AllocError → MutBor View → Type 0} {Y Z : MutBor View → Role → List (List ℕ) → Result (List (List ℕ)) AllocError → MutBor View → Type 0}
    → Fills (guessing_at k levels) (record {
      classes = k;
      levels = levels;
      gives = given_by (λ v n x y r w. Calls (guessing_at k levels) (MarkupExpr x y) v.now r w.now) (λ v n x y r w. Calls (guessing_at k levels) (CodeExpr x y) v.now r w.now)
          (λ v n x y r w. X v x y r w × Calls (guessing_at k levels) (MathExpr x y) v.now r w.now) (λ v n x y r w. Y v x y r w × Z v x y r w × Calls (guessing_at k levels) (Pattern x y) v.now r w.now) levels;
    })
knot-fills k levels =
    let l = guessing_at k levels in
    fills-level k levels refl refl (λ old new x y r q. calls-at l (MarkupExpr x y) r q.2 q.3 q.4) (λ old new x y r q. calls-at l (CodeExpr x y) r q.2 q.3 q.4) (λ old new x y r q. calls-at l (MathExpr x y) r q.2 q.3 q.4.1) (λ old new x y r q. calls-at l (Pattern x y) r q.2 q.3 q.4.2)

pub less-nil : {A : Type 0} (n : ℕ) → less {A = A} n [] ≡ []
unfolding less
less-nil n = let e : 0 - n ≡ 0 = omega arith in rw e refl

-- what the code read and noted from the start is what is read and noted of the text
pub parsed-is : (k : CharClasses) (keeps : Bool) (text : List ℕ) (reading : Reading) (p : Parser (Unit {0})) (v w : View) → IsStart text reading keeps v
    → Goes (guessing_at k max_depth) (Bare (guessing_at k max_depth)) (Fits (guessing_at k max_depth)) p tt v w → IsParsed keeps (chars text) (run (level_at k max_depth) p (start_of (chars text)) (start_point reading)) w
parsed-is k keeps text reading p v w h d =
    let l = level_at k max_depth in
    let bare : Bare (guessing_at k max_depth) v = record { known = ap (λ (s : Point). s.known) h.state; knows = knows-none h.memo } in
    let r : Runs max_depth (at l p v) tt v w = subst (λ (x : Outcome (Unit {0})). Runs max_depth x tt v w) (known-run k max_depth p v.place v.state) (d.ran bare).runs in
    grind (arith, less-nil, hinted-none)

-- and so of a text that is read in a mode
pub parsed-in : (k : CharClasses) (keeps : Bool) (text : List ℕ) (m : SyntaxMode) (v w : View) → IsStart text (record { mode = m; at_newline = newline.Continue }) keeps v
    → Goes (guessing_at k max_depth) (Bare (guessing_at k max_depth)) (Fits (guessing_at k max_depth)) (whole_in m) tt v w → IsParsed keeps (chars text) (parsed_in m k max_depth (chars text)) w
parsed-in k keeps text mode.Markup v w h d = parsed-is k keeps text markup_reading whole v w h d
parsed-in k keeps text mode.Code v w h d = parsed-is k keeps text code_reading whole_code v w h d
parsed-in k keeps text mode.Math v w h d = parsed-is k keeps text math_reading whole_math v w h d

-- where notes are kept, they are kept on
pub still-kept : (levels : ℕ) (z : Place) (h : Log) (asks : List Ask) → IsSome h.notes → IsSome (logged levels z h asks).notes
still-kept levels z h [] k = k
still-kept levels z h (looked at look ∷ asks) k = still-kept levels z (with_hull (hull_of look (moved at z)) h) asks k
still-kept levels z h (marked at gap fewer mark s ∷ asks) k = still-kept levels z (with_note gap (levels - fewer) mark s (moved at z) h) asks (more-kept h.notes _ k)
  where
    more-kept : (ns : Option (List Note)) (note : Note) → IsSome ns → IsSome (with_more note ns)
    more-kept ns note i = grind arith

pub log-is : (r l : ℕ) (ns : List Note) (notes : Option (List Note)) → IsSome notes → ns ≡ listed notes → ◌≡◌ {A = Log} (record { reach = r; least = l; notes = Some ns }) (record { reach = r; least = l; notes = notes })
log-is r l ns notes i e = grind arith

pub noted-log : (k : CharClasses) (text : List ℕ) (w : View) (ns : List Note) → IsParsed true text (parsed k max_depth text) w → ns ≡ listed w.log.notes
    → ◌≡◌ {A = Log} (record { reach = w.log.reach; least = w.log.least; notes = Some ns }) (log k text)
unfolding log
noted-log k text w ns p e = grind (arith, still-kept max_depth (start_of text) no_log (parsed k max_depth text).asks refl)
