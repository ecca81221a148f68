-- A stretch of a text replaced, inside some pieces of a content block's run.
use Rattle.std.specs.Prelude.{◌≡◌, ℕ, suc, ◌+◌, ◌-◌, ◌<◌, Bool, true, false, List, [], ◌∷◌, ◌++◌, length}
use Rattle.typst_kinds.specs.Kinds.{same}
use Rattle.typst_kinds.specs.declared.kind.SyntaxKind.TheVariants as kind
use Rattle.typst_lines.specs.Place.{Place, moved}
use Rattle.typst_lines.specs.Classes.{CharClasses}
use Rattle.typst_language.specs.declared.calls.Block.TheVariants as block
use Rattle.typst_language.specs.declared.calls.Mark.TheVariants as mark
use Rattle.typst_language.specs.Ask.{shift}
use Rattle.typst_language.specs.Ask.Ask.{marked}
use Rattle.typst_language.specs.Hand.{AtHand}
use Rattle.typst_language.specs.Knot.{meaning_of}
use Rattle.typst_language.specs.Point.{Point, point_of, state_of, pending, gap_of, is_nil}
use Rattle.typst_language.specs.Shape.{becomes, after_node, encloses}
use Rattle.typst_language.specs.Shape.Making.{itself}
use Rattle.typst_language.specs.Steps.{peek, flush_trivia, close_if}
use Rattle.typst_language.specs.Syntax.Op.{takes}
use Rattle.typst_language.specs.Meaning.{Outcome, Level, plain, joined, wrapped, blockless, entered, left_to, done, run}
use Rattle.typst_grammar.specs.Markup.{ends_block, markup_reading}
use Rattle.typst_grammar.specs.Grammar.{rules, max_depth}
use Rattle.typst_edits.specs.Edit.{Among, AllEndBy, AllBeginIn, Passes}
use Rattle.typst_edits.specs.Laws.{blocks_of_text, Kept}
use Rattle.typst_edits.specs.Sequence.{Sequence, first_of, first_end, then_of, then_end, rest_of, AllGo, asks_of, chain}
use Rattle.typst_edits.specs.Spot.{Spot, ended, last_node, unit_at}
use Rattle.typst_edits.specs.TextReplacement.{TextReplacement, text_before, start_before, start_after}

-- ---- a content block, where a given number of levels are left for what is called in it

module _ (k : CharClasses) (levels : ℕ) where
  -- where the block is read
  abbrev pub inner : Level
  inner = blockless k (suc levels) (meaning_of (rules k) k (suc levels))

  -- the first look at the block's bracket
  abbrev pub look_first : Place → Point → Outcome AtHand
  look_first z s = run inner peek z s

  -- the second look at it
  abbrev pub look_again : Place → Point → Outcome AtHand
  look_again z s = look_first z (look_first z s).state

  -- the bracket, taken
  abbrev pub bracket : Place → Point → Outcome (Unit {0})
  bracket z s = done inner (takes false itself) z (entered markup_reading (look_again z s).state)

  -- the look at the first token after the bracket
  abbrev pub inner_lead : Place → Point → Outcome AtHand
  inner_lead z s = let b = bracket z s in run inner peek (moved b.taken z) b.state

  -- the block's run
  abbrev pub inner_run : Place → Point → Sequence
  inner_run z s = record { level = inner; stops = ends_block; place = moved (bracket z s).taken z; point = (inner_lead z s).state }

  -- the trivia after the run, a given number of characters after the run's start
  abbrev pub inner_tail : ℕ → Point → Place → Outcome (Unit {0})
  inner_tail n s z = run inner flush_trivia (moved n z) s

  -- the bracket at the block's end, a given number of characters after the run's start
  abbrev pub inner_close : ℕ → Point → Place → Outcome Bool
  inner_close n s z = run inner (close_if (same kind.RightBracket)) (moved n z) (after_node false [] s)

-- a run with the trivia after it, by the point where it begins, the look at its first token, its
-- pieces, and these trivia; without the mark or the look `content-is` fails (see `content_of`)
abbrev pub run_of : Point → Outcome AtHand → Outcome (Bool × ℕ) → Outcome (Unit {0}) → Outcome (Unit {0})
run_of s first r behind =
    joined (joined (plain false s) (joined (record (plain (tt {0}) s) { asks = marked 0 (gap_of s.known) 0 (mark.Piece true 0) (state_of s) ∷ [] }) (joined first (joined r (plain (tt {0}) r.state))))) behind

-- a run as one node; answers whether the node has no children, as the grammar's `markup_is_empty` does
abbrev pub body_of : Outcome (Unit {0}) → Outcome Bool
body_of o = let w = wrapped (λ _. becomes kind.Markup) 0 o in joined (joined w (plain w.value.1 w.state)) (plain (is_nil w.value.1) w.state)

-- a content block, put together from its parts: two looks at its bracket, since the block and its
-- node each begin with one; the bracket; its run as one node; and the bracket at its end. In `[a ]`
-- the parts after the looks are `[`, the markup `a ` and `]`. That the grammar reads a block so is
-- proved (`content-is` in proofs/BlockRuns.antt); with a look less that equation fails
abbrev pub content_of : Outcome AtHand → Outcome AtHand → Outcome (Unit {0}) → Outcome Bool → Outcome Bool → Outcome (Unit {0})
content_of first second opening body close =
    let s = second.state in
    let w = wrapped (encloses kind.ContentBlock) (length (pending s.known)) (left_to s.reading (joined opening (joined body close))) in
    joined first (joined (joined second (joined w (plain w.value.0 w.state))) (plain (tt {0}) w.state))

-- a content block at a place and a point, by its run, the trivia after that, and the bracket at its
-- end
abbrev pub content_with : CharClasses → ℕ → Place → Point → Outcome (Bool × ℕ) → Outcome (Unit {0}) → Outcome Bool → Outcome (Unit {0})
content_with k levels z s r behind close =
    ended (content_of (look_first k levels z s) (look_again k levels z s) (bracket k levels z s) (body_of (run_of (bracket k levels z s).state (inner_lead k levels z s) r behind)) close)

-- ---- the law

-- the run of a block in a text, by the block's spot
abbrev pub run_at : {A : Type 0} → CharClasses → ℕ → Spot A → Place → Sequence
run_at k levels c z = inner_run k levels (moved c.at z) (point_of c.start)

-- how many characters come before a block's run
abbrev pub opened_at : {A : Type 0} → CharClasses → ℕ → Spot A → Place → ℕ
opened_at k levels c z = c.at + (bracket k levels (moved c.at z) (point_of c.start)).taken

-- the trivia after a block's run, which is the first i pieces, n more and the rest
abbrev pub tail_at : {A : Type 0} → CharClasses → ℕ → ℕ → ℕ → Spot A → Place → Outcome (Unit {0})
tail_at k levels i n c z =
    let r = run_at k levels c z in
    inner_tail k levels (((first_end i r).taken + (then_end i n r).taken) + (rest_of i n r).taken) (rest_of i n r).state r.place

-- the bracket at the end of a block whose run is these pieces
abbrev pub close_at : {A : Type 0} → CharClasses → ℕ → ℕ → ℕ → Spot A → Place → Outcome Bool
close_at k levels i n c z =
    let r = run_at k levels c z in
    let t = tail_at k levels i n c z in
    inner_close k levels ((((first_end i r).taken + (then_end i n r).taken) + (rest_of i n r).taken) + t.taken) t.state r.place

-- how many characters the block takes after the first i pieces and n more
abbrev pub left_at : {A : Type 0} → CharClasses → ℕ → ℕ → ℕ → Spot A → Place → ℕ
left_at k levels i n c z = (rest_of i n (run_at k levels c z)).taken + ((tail_at k levels i n c z).taken + (close_at k levels i n c z).taken)

-- What is looked at up to the first i pieces of a block's run ends at the stretch's start or before
-- it: before the block, at its bracket, and in these pieces.
pub record EndsBefore (k : CharClasses) (levels : ℕ) (edit : TextReplacement) (c : Spot (Unit {0})) (i : ℕ) : Type 0 where
  pub before : AllEndBy (length edit.front) c.before
  pub opens : (let z = moved c.at (start_before edit) in let s = point_of c.start in
      AllEndBy (length edit.front) (shift c.at ((look_first k levels z s).asks ++ ((look_again k levels z s).asks ++ (bracket k levels z s).asks))))
  pub before_run : 0 < i → (let z = start_before edit in
      AllEndBy (length edit.front) (shift (opened_at k levels c z) ((inner_lead k levels (moved c.at z) (point_of c.start)).asks ++ asks_of (first_of i (run_at k levels c z)))))

-- What is looked at after the n pieces that follow the first i, in the block and after it, begins
-- at the stretch's end or after it, if these pieces go on a given number of characters past it.
pub record BeginsAfter (k : CharClasses) (levels : ℕ) (edit : TextReplacement) (c : Spot (Unit {0})) (i n past : ℕ) : Type 0 where
  pub inside : (let z = start_before edit in let r = rest_of i n (run_at k levels c z) in let t = tail_at k levels i n c z in
      AllBeginIn past edit.rest (r.asks ++ shift r.taken (t.asks ++ shift t.taken (close_at k levels i n c z).asks)))
  pub behind : AllBeginIn (past + left_at k levels i n c (start_before edit)) edit.rest c.after

-- In a content block, n pieces that go on follow the first i of its run, and m pieces are to take
-- their place, where a stretch `old` becomes `new`: what was looked at before them ends at the
-- stretch or before it.
pub record TakesPlace (k : CharClasses) (levels : ℕ) (edit : TextReplacement) (c : Spot (Unit {0})) (i n m : ℕ) : Type 0 where
  -- a content block that is not the deepest
  pub name : c.name ≡ block.Content
  pub level : max_depth - c.fewer ≡ suc levels
  -- these are pieces of its run, in both texts
  pub first_go : AllGo (first_of i (run_at k levels c (start_before edit)))
  pub old_go : AllGo (then_of i n (run_at k levels c (start_before edit)))
  pub new_go : AllGo (then_of i m (run_at k levels c (start_after edit)))
  -- the block begins before the stretch, and what was looked at before it, at its bracket and in the pieces before ends at the stretch or before it
  pub starts : c.at < length edit.front
  pub looks : EndsBefore k levels edit c i

-- The test: in a content block, n pieces follow the first i of its run and go on a given number of characters
-- past a stretch `old`, which becomes `new`.
pub record PassesInner (k : CharClasses) (levels : ℕ) (edit : TextReplacement) (c : Spot (Unit {0})) (i n m past : ℕ) : Type 0 where
  pub pieces : TakesPlace k levels edit c i n m
  -- what was looked at after them, in the block and after it, begins at the stretch's end or after it
  pub ends : (let z = start_before edit in let r = run_at k levels c z in opened_at k levels c z + ((first_end i r).taken + (then_end i n r).taken) ≡ (length edit.front + length edit.old) + past)
  pub looks : BeginsAfter k levels edit c i n past
  pub goes_on : 0 < past + left_at k levels i n c (start_before edit)
  -- the new ones end at the shifted end, with what was carried there and in the same state
  pub shifted : (let z = start_after edit in let r = run_at k levels c z in opened_at k levels c z + ((first_end i r).taken + (then_end i m r).taken) ≡ (length edit.front + length edit.new) + past)
  pub value : (then_end i m (run_at k levels c (start_after edit))).value ≡ (then_end i n (run_at k levels c (start_before edit))).value
  pub state : (then_end i m (run_at k levels c (start_after edit))).state ≡ (then_end i n (run_at k levels c (start_before edit))).state

-- What the readings of the block are if the test is passed, and of both texts.
pub record KeptInner (k : CharClasses) (levels : ℕ) (edit : TextReplacement) (c : Spot (Unit {0})) (i n m past : ℕ) : Type 0 where
  -- in the old text all after them comes after the old pieces, and in the new text the same comes after the new ones
  pub was : (let z = start_before edit in
      let r = run_at k levels c z in
      unit_at c z ≡ content_with k levels (moved c.at z) (point_of c.start) (chain (first_of i r) (chain (then_of i n r) (rest_of i n r))) (tail_at k levels i n c z) (close_at k levels i n c z))
  pub now : (let z = start_before edit in
      let w = start_after edit in
      let r = run_at k levels c z in
      unit_at c w ≡ content_with k levels (moved c.at w) (point_of c.start) (chain (first_of i r) (chain (then_of i m (run_at k levels c w)) (rest_of i n r))) (tail_at k levels i n c z) (close_at k levels i n c z))
  -- and the edit passes the test of the block, so all around it is kept
  pub passes : Passes edit c (past + left_at k levels i n c (start_before edit))
  pub kept : Kept k edit c (last_node (unit_at c (start_after edit)).nodes)

-- The law of a run in a content block: where an edit inside some pieces of it passes the test, the new pieces take the place of the old ones, and all else in the block and around it is the same.
abbrev pub InnerLaw : Type 0
InnerLaw = (k : CharClasses) (levels : ℕ) (edit : TextReplacement) (c : Spot (Unit {0})) (i n m past : ℕ) → Among c (blocks_of_text k (text_before edit))
    → PassesInner k levels edit c i n m past → KeptInner k levels edit c i n m past
