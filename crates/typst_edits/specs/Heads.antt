-- Where nothing is taken back: an expression that isn't expected gives one error first, and only such a one takes back the empty errors before it.
use Rattle.std.specs.Prelude.{◌≡◌, ℕ, ◌<◌, Bool, true, false, List, [], ◌∷◌, ◌++◌, length, drop, Some}
use Rattle.typst_kinds.specs.Kinds.{is_error}
use Rattle.typst_tree.specs.Tree.{Tree}
use Rattle.typst_lines.specs.Place.{Place, moved}
use Rattle.typst_lines.specs.Classes.{CharClasses}
use Rattle.typst_language.specs.Point.{Trivia, Point, pending}
use Rattle.typst_language.specs.Meaning.{Outcome, hand_of}
use Rattle.typst_grammar.specs.Markup.{markup_head}
use Rattle.typst_edits.specs.Joins.{PassesJoint}
use Rattle.typst_edits.specs.Frame.{Run, read_as, is_over, Agrees}
use Rattle.typst_edits.specs.InnerJoint.{IsRun}
use Rattle.typst_edits.specs.Joint.{minds, onwards, is_over_at, Meets}
use Rattle.typst_edits.specs.Sequence.{Sequence, first_of, first_end, then_of, then_end, then_place, onwards_at, read_by, AllGo, End}
use Rattle.typst_edits.specs.TextReplacement.{TextReplacement, text_before, start_before, start_after}

-- whether several nodes begin with an error
abbrev pub begins_wrong : List Tree → Bool
begins_wrong [] = false
begins_wrong (t ∷ ts) = is_error t.head.kind

-- whether the expression where pieces end takes back the empty errors before it
abbrev pub minds_at : Sequence → Place → End (Bool × ℕ) → Bool
minds_at r z e = minds (markup_head e.value.0 e.value.1 (hand_of r.level z e.state).kind)

-- where the first i pieces of a run end
abbrev pub first_place : ℕ → Sequence → Place
first_place i r = moved (first_end i r).taken r.place

-- everything after the n pieces that follow the first i, as one outcome
abbrev pub onwards_by : ℕ → ℕ → Sequence → Outcome (Unit {0})
onwards_by i n r = let e = then_end i n r in onwards r e.value (then_place i n r) e.state

-- the nodes after the trivia that are known at a point
abbrev pub after_known : Point → List Tree → List Tree
after_known s ts = drop (length (pending s.known)) ts

-- What the first node of pieces, and the first after them, say of what is taken back.
pub record Headed (r : Sequence) (i n : ℕ) : Type 0 where
  -- pieces whose first node is no error begin with an expression that takes nothing back, and then they take nothing back
  pub first : 0 < n → begins_wrong (after_known (first_end i r).state (read_by i n r).nodes) ≡ false → minds_at r (first_place i r) (first_end i r) ≡ false
  pub pieces_back : minds_at r (first_place i r) (first_end i r) ≡ false → (read_by i n r).back ≡ 0
  -- the same of what comes after them
  pub next : begins_wrong (after_known (then_end i n r).state (onwards_by i n r).nodes) ≡ false → is_over_at r (then_place i n r) (then_end i n r) ≡ false → minds_at r (then_place i n r) (then_end i n r) ≡ false
  pub after_back : (is_over_at r (then_place i n r) (then_end i n r) ≡ false → minds_at r (then_place i n r) (then_end i n r) ≡ false) → (onwards_by i n r).back ≡ 0

-- The law of heads.
abbrev pub HeadLaw : Type 0
HeadLaw = (k : CharClasses) (r : Sequence) → IsRun k r → (i n : ℕ) → AllGo (first_of i r) → AllGo (then_of i n r) → Headed r i n

-- ---- an edit

-- neither outcome takes nodes back
pub record NoneBack (o n : Outcome (Unit {0})) : Type 0 where
  pub back : o.back ≡ 0
  pub back_now : n.back ≡ 0

-- where pieces stand before them, there are some, and the first of them takes no errors back
abbrev pub StartsWell : ℕ → ℕ → Sequence → Type 0
StartsWell i n r = 0 < i → (0 < n) × (minds_at r (first_place i r) (first_end i r) ≡ false)

-- The law of what pieces take back: where an edit inside some pieces passes the test of the joint, and the first of these takes no errors back or nothing stands before them, neither they nor the new ones take anything back.
abbrev pub NoneBackLaw : Type 0
NoneBackLaw = (k : CharClasses) (edit : TextReplacement) (r : Run k (text_before edit)) (i n m past : ℕ) (t u : Trivia) → PassesJoint k edit r i n m past t u
    → StartsWell i n (read_as r (start_before edit)) → NoneBack (read_by i n (read_as r (start_before edit))) (read_by i m (read_as r (start_after edit)))

-- where an expression follows, its first node is no error
abbrev pub GoesOnWell : ℕ → ℕ → Sequence → Type 0
GoesOnWell i n r = is_over_at r (then_place i n r) (then_end i n r) ≡ false → begins_wrong (after_known (then_end i n r).state (onwards_by i n r).nodes) ≡ false

-- The law of what is taken back after pieces: where such an edit passes the test of the joint, what comes after them takes nothing back in either text.
abbrev pub NoneAfterLaw : Type 0
NoneAfterLaw = (k : CharClasses) (edit : TextReplacement) (r : Run k (text_before edit)) (i n m past : ℕ) (t u : Trivia) → PassesJoint k edit r i n m past t u
    → GoesOnWell i n (read_as r (start_before edit)) → NoneBack (onwards_at i n (read_as r (start_before edit))) (onwards_at i m (read_as r (start_after edit)))

-- The law of what has to agree: where no error follows pieces of a run, they and others meet what is after them if what is carried agrees.
abbrev pub MeetsLaw : Type 0
MeetsLaw = (k : CharClasses) (text : List ℕ) (r : Run k text) (z : Place) (i n m : ℕ) (f : End (Bool × ℕ)) (t u : Trivia) → (let q = read_as r z in
    let e = then_end i n q in
    AllGo (first_of i q) → AllGo (then_of i n q) → GoesOnWell i n q → e.state.known ≡ Some t → f.state.known ≡ Some u
    → Agrees r (is_over i n q) m e.value f.value → Meets q (then_place i n q) e f t u)
