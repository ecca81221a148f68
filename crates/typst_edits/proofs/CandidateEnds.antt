-- Where a stretch of a run's children ends, and what of the run's pieces begins and ends there.
use Rattle.typst_edits.proofs.Cited.{◌≡◌, ℕ, zero, suc, ◌+◌, ◌-◌, ◌<◌, ◌≤◌, max, Bool, true, false, not, ◌&&◌, if◌then◌else◌, List, [], ◌∷◌, ◌++◌, length, drop, length-append, append_assoc, append-nil, Some, refl, ap, sym, ◌∙◌, subst, arith, encode_utf8_all, Option, inl, lt_of_not-le, pos_of_ne-zero, inr, nat_le, nat_lt, nat_tests, ltb-true, and_parts, same, is_trivia, is_error, Tree, text_of, error_of, leaf_of, Outcome, plain, less, Meaning, Trivia, Point, pending, less-none, Child, laid, first_near, end_near, is_among, ChildRange, begins, clings, is_hash, leads, holds_at, back_past, on_past, with_hash, together, Every, is_over, minds_at, first_place, read_by, onwards_by, GoesOnWell, begins_wrong, after_known, StartsWell, bytes_of, LeadsAt, StandsAt, Sequence, turn_of, first_end, then_end, SyntaxKind, SyntaxMode, Place, moved, CharClasses, Token, Reading, token_at, len_at, at_trivia, Ahead, direct, after_trivia, ahead_by, ahead, text_ahead, hand_at, token_node, is_raw, has_fields, peek, markup_turn, rules, max_depth, level_at, inner, bracket, inner_run, text_run, made, end_of, start, access_node, raw_node, false_from_ne_true, cases_lt, IsRun, is_text_run, is_block_run, is_end, ends_block, not-false, or_parts}
use Rattle.typst_candidates.specs.Candidates.{ended, around}
use Rattle.typst_candidates.proofs.Edges.{begins_least as begins-from}
use Rattle.typst_edits.proofs.CandidatePlaces.{length-laid, back-le, on-ge, on-le, hash-le, begun-le, begun-ended}
use Rattle.typst_edits.proofs.Leading.{bytes-append, bytes-first}
use Rattle.typst_edits.proofs.Heads.{MindsAlone, advised-error as advised-wrong}
use Rattle.typst_edits.proofs.Turns.{drop-front}
use Rattle.typst_edits.proofs.RunPieces.{same-place}
use Rattle.typst_edits.proofs.RunTrees.{standing-still}
use Rattle.typst_edits.proofs.Every.{neither}
use Rattle.typst_edits.proofs.Known.{Saying, Stays, holds-run, holds-meaning}
use Rattle.typst_candidates.specs.Candidates as candidate

-- ---- children

-- A node occupies bytes from a given one on.
abbrev pub child : ℕ → Tree → Child
child at t = record { start = at; end = at + length (text_of t); node = t }

-- the child of an index, with where it begins
pub record ChildAt (from : ℕ) (ts : List Tree) (index : ℕ) : Type 0 where
  pub left : List Tree
  pub node : Tree
  pub right : List Tree
  pub is : ts ≡ left ++ node ∷ right
  pub here : length left ≡ index
  pub at : ℕ
  pub at_is : from + bytes_of left ≡ at
  pub begin : begins from ts index ≡ at
  pub past : (n : ℕ) → index < n → at + length (text_of node) ≤ begins from ts n
  pub holds : (f : Child → Bool) → holds_at f (laid from ts) index ≡ f (child at node)

past-first : (from : ℕ) (t : Tree) (ts : List Tree) (n : ℕ) → 0 < n → from + length (text_of t) ≤ begins from (t ∷ ts) n
past-first from t ts n h = grind (arith, begins-from)

past-later : (from : ℕ) (t : Tree) (ts : List Tree) (b index n : ℕ) → suc index < n → ((m : ℕ) → index < m → b ≤ begins (from + length (text_of t)) ts m) → b ≤ begins from (t ∷ ts) n
past-later from t ts b index n h f = grind arith

pub child-at : (from : ℕ) (ts : List Tree) (index : ℕ) → index < length ts → ChildAt from ts index
child-at from [] index h = absurd (omega (arith, h))
child-at from (t ∷ ts) zero h = record { left = []; node = t; right = ts; is = refl; here = refl; at = from; at_is = omega arith; begin = refl; past = past-first from t ts; holds = λ f. refl }
child-at from (t ∷ ts) (suc index) h =
    let c = child-at (from + length (text_of t)) ts index (omega (arith, h)) in
    record {
      left = t ∷ c.left;
      node = c.node;
      right = c.right;
      is = ap (λ us. t ∷ us) c.is;
      here = ap suc c.here;
      at = c.at;
      at_is = omega (arith, c.at_is, bytes-first t c.left);
      begin = c.begin;
      past = λ n l. past-later from t ts _ index n l c.past;
      holds = λ f. c.holds f;
    }

-- after the last child
pub begins-last : (from : ℕ) (ts : List Tree) (n : ℕ) → length ts ≤ n → begins from ts n ≡ from + bytes_of ts
begins-last from [] n h = omega arith
begins-last from (t ∷ ts) zero h = absurd (omega (arith, h))
begins-last from (t ∷ ts) (suc n) h = let i = begins-last (from + length (text_of t)) ts n (omega (arith, h)) in let long = bytes-first t ts in omega (arith, i, long)

-- it ends before the last does
pub child-within : (from : ℕ) (ts : List Tree) (index : ℕ) (c : ChildAt from ts index) → c.at + length (text_of c.node) ≤ from + bytes_of ts
child-within from ts index c = grind (arith, bytes-append, bytes-first)

-- those that begin before a byte do
begun-before : (from rs : ℕ) (ts : List Tree) (n : ℕ) → n < candidate.begun rs (laid from ts) → begins from ts n < rs
begun-before from rs [] n h = absurd (omega (arith, h))
begun-before from rs (t ∷ ts) n h = by-test n (nat_lt from rs) refl h (begun-before (from + length (text_of t)) rs ts)
  where
    by-test : (n : ℕ) (b : Bool) → nat_lt from rs ≡ b → n < (if b then suc (candidate.begun rs (laid (from + length (text_of t)) ts)) else 0)
        → ((m : ℕ) → m < candidate.begun rs (laid (from + length (text_of t)) ts) → begins (from + length (text_of t)) ts m < rs) → begins from (t ∷ ts) n < rs
    by-test zero true e h next = ltb-true from rs e
    by-test (suc n) true e h next = next n (omega (arith, h))
    by-test n false e h next = absurd (omega (arith, h))

-- After those that end at a byte or before it, and one more, the byte is passed.
ended-behind : (from re : ℕ) (ts : List Tree) (n : ℕ) → ended re (laid from ts) < n → ended re (laid from ts) < length ts → re ≤ begins from ts n
ended-behind from re [] n h l = absurd (omega (arith, l))
ended-behind from re (t ∷ ts) zero h l = absurd (omega (arith, h))
ended-behind from re (t ∷ ts) (suc n) h l = by-test (nat_le (from + length (text_of t)) re) refl h l (ended-behind (from + length (text_of t)) re ts n)
  where
    by-test : (b : Bool) → nat_le (from + length (text_of t)) re ≡ b → (if b then suc (ended re (laid (from + length (text_of t)) ts)) else 0) < suc n → (if b then suc (ended re (laid (from + length (text_of t)) ts)) else 0) < suc (length ts)
        → (ended re (laid (from + length (text_of t)) ts) < n → ended re (laid (from + length (text_of t)) ts) < length ts → re ≤ begins (from + length (text_of t)) ts n) → re ≤ begins (from + length (text_of t)) ts n
    by-test true e h l next = next (omega (arith, h)) (omega (arith, l))
    by-test false e h l next = let past : re < from + length (text_of t) = grind (arith, nat_tests) in let least = begins-from (from + length (text_of t)) ts n in omega (arith, past, least)

-- Where it isn't empty, it occupies that byte.
pub stands : (from : ℕ) (ts : List Tree) (index : ℕ) (c : ChildAt from ts index) → 0 < length (text_of c.node) → StandsAt from ts index (begins from ts index)
stands from ts index c full = record { left = c.left; node = c.node; right = c.right; is = c.is; here = c.here; begins = c.at_is ∙ sym c.begin; full = full }

holds-behind : (f : Child → Bool) (from : ℕ) (us vs : List Tree) (n m : ℕ) → m ≡ length us + n → holds_at f (laid from (us ++ vs)) m ≡ holds_at f (laid (from + bytes_of us) vs) n
holds-behind f from [] vs n m e = let none : from ≡ from + bytes_of [] = omega arith in let same : m ≡ n = omega (arith, e) in ap (λ b. holds_at f (laid b vs) m) none ∙ ap (λ l. holds_at f (laid (from + bytes_of []) vs) l) same
holds-behind f from (u ∷ us) vs n zero e = absurd (omega (arith, e))
holds-behind f from (u ∷ us) vs n (suc m) e =
    let sum : (from + length (text_of u)) + bytes_of us ≡ from + bytes_of (u ∷ us) = omega (arith, bytes-first u us) in
    holds-behind f (from + length (text_of u)) us vs n m (omega (arith, e)) ∙ ap (λ b. holds_at f (laid b vs) n) sum

-- ---- from an index back and on

if-so : (f : ℕ → Bool) (n : ℕ) (b : Bool) → f (suc n) ≡ b → (0 < back_past f n → f (back_past f n) ≡ false) → 0 < (if b then back_past f n else suc n) → f (if b then back_past f n else suc n) ≡ false
if-so f n true e h l = h l
if-so f n false e h l = e

-- Back to one for which it doesn't hold.
pub back-stop : (f : ℕ → Bool) (n : ℕ) → 0 < back_past f n → f (back_past f n) ≡ false
back-stop f zero h = absurd (omega (arith, h))
back-stop f (suc n) h = if-so f n (f (suc n)) refl (back-stop f n) h

-- Past those for which it holds.
pub back-all : (f : ℕ → Bool) (n w : ℕ) → back_past f n < w → w ≤ n → f w ≡ true
back-all f zero w h l = absurd (omega (arith, h, l))
back-all f (suc n) w h l = by-test (f (suc n)) refl h (back-all f n w)
  where
    by-test : (b : Bool) → f (suc n) ≡ b → (if b then back_past f n else suc n) < w → (back_past f n < w → w ≤ n → f w ≡ true) → f w ≡ true
    by-test true e g ih = elim (cases_lt w (suc n)) [ inl less ↦ ih g (omega (arith, less)) | inr more ↦ (let last : suc n ≡ w = omega (arith, more, l) in subst (λ v. f v ≡ true) last e) ]
    by-test false e g ih = absurd (omega (arith, g, l))

-- On to one for which it doesn't hold.
pub on-stop : (f : ℕ → Bool) (limit n : ℕ) → on_past f limit n < n + limit → f (on_past f limit n) ≡ false
on-stop f zero n h = absurd (omega (arith, h))
on-stop f (suc limit) n h = by-test (f n) refl h (on-stop f limit (suc n))
  where
    by-test : (b : Bool) → f n ≡ b → (if b then on_past f limit (suc n) else n) < n + suc limit → (on_past f limit (suc n) < suc n + limit → f (on_past f limit (suc n)) ≡ false) → f (if b then on_past f limit (suc n) else n) ≡ false
    by-test true e l ih = ih (omega (arith, l))
    by-test false e l ih = e

-- ---- what clings

-- Trivia and errors cling to what stands before them, and are no hash.
abbrev pub Quiet : Tree → Type 0
Quiet t = (clings t ≡ true) × (is_hash t ≡ false)

pub error-quiet : (t : Tree) → is_error t.head.kind ≡ true → Quiet t
error-quiet t h = grind arith

every-at : (us vs : List Tree) (at n : ℕ) → Every Quiet us → n < length us → (holds_at (λ c. clings c.node) (laid at (us ++ vs)) n ≡ true) × (holds_at (λ c. is_hash c.node) (laid at (us ++ vs)) n ≡ false)
every-at [] vs at n q h = absurd (omega (arith, h))
every-at (u ∷ us) vs at zero q h = q.0
every-at (u ∷ us) vs at (suc n) q h = every-at us vs (at + length (text_of u)) n q.1 (omega (arith, h))

-- the first of several nodes leads there, if there is one
abbrev pub LeadsIf : List ℕ → ℕ → List Tree → Type 0
LeadsIf cuts at [] = Unit {0}
LeadsIf cuts at (t ∷ ts) = (0 < length (text_of t)) × (is_among at cuts ≡ true)

-- Of several nodes, the first of which begins at a byte, the one of an index clings, and so do all after it up to the next that leads.
pub record LoneError (cuts : List ℕ) (from : ℕ) (ts : List Tree) (index : ℕ) : Type 0 where
  pub left : List Tree
  pub error : Tree
  pub more : List Tree
  pub behind : List Tree
  pub is : ts ≡ left ++ ((error ∷ more) ++ behind)
  pub here : length left ≡ index
  pub each : Every Quiet (error ∷ more)
  pub next : LeadsIf cuts (from + bytes_of (left ++ (error ∷ more))) behind

leads-if : (cuts : List ℕ) (at : ℕ) (ts : List Tree) → LeadsIf cuts at ts → 0 < length ts → holds_at (λ c. not (leads cuts c)) (laid at ts) 0 ≡ false
leads-if cuts at ts h l = grind arith

-- What stands at it, or after it and before any that leads, clings.
quiet-until : (cuts : List ℕ) (from : ℕ) (ts : List Tree) (index w : ℕ) → LoneError cuts from ts index → index ≤ w → w < length ts → ((v : ℕ) → index < v → v ≤ w → holds_at (λ c. not (leads cuts c)) (laid from ts) v ≡ true)
    → (holds_at (λ c. clings c.node) (laid from ts) w ≡ true) × (holds_at (λ c. is_hash c.node) (laid from ts) w ≡ false)
quiet-until cuts from ts index w e from_here there none_lead = elim (cases_lt w past) [ inl before ↦ within before | inr over ↦ absurd (beyond over) ]
  where
    own : List Tree
    own = e.error ∷ e.more

    past : ℕ
    past = length e.left + length own

    all : ts ≡ (e.left ++ own) ++ e.behind
    all = e.is ∙ sym (append_assoc e.left own e.behind)

    within : w < past → (holds_at (λ c. clings c.node) (laid from ts) w ≡ true) × (holds_at (λ c. is_hash c.node) (laid from ts) w ≡ false)
    within before =
        let sum : w ≡ length e.left + (w - length e.left) = omega (arith, e.here, from_here) in
        let q = every-at own e.behind (from + bytes_of e.left) (w - length e.left) e.each (omega (arith, before, e.here, from_here)) in
        let moved-to = λ (f : Child → Bool). ap (λ us. holds_at f (laid from us) w) e.is ∙ holds-behind f from e.left (own ++ e.behind) (w - length e.left) w sum in
        (moved-to (λ c. clings c.node) ∙ q.0, moved-to (λ c. is_hash c.node) ∙ q.1)

    beyond : past ≤ w → ⊥
    beyond over =
        let front = length-append e.left own in
        let some : 0 < length e.behind = omega (arith, ap length all, length-append (e.left ++ own) e.behind, front, over, there) in
        let f = λ (c : Child). not (leads cuts c) in
        let leading : holds_at f (laid from ts) past ≡ false = ap (λ us. holds_at f (laid from us) past) all ∙ holds-behind f from (e.left ++ own) e.behind 0 past (omega (arith, front)) ∙ leads-if cuts (from + bytes_of (e.left ++ own)) e.behind e.next some in
        let d : true ≡ false = sym (none_lead past (omega (arith, e.here)) over) ∙ leading in
        cc

-- ---- a stretch around replaced bytes

cut-on : (b c : Bool) → not (b && c) ≡ false → (b ≡ true) × (c ≡ true)
cut-on b c e = and_parts b c (not-false (b && c) e)

-- one that leads isn't empty
leads-full : (cuts : List ℕ) (at : ℕ) (t : Tree) → not (leads cuts (child at t)) ≡ false → 0 < length (text_of t)
leads-full cuts at t e = let more : at < at + length (text_of t) = ltb-true at (at + length (text_of t)) (cut-on (nat_lt at (at + length (text_of t))) (is_among at cuts) e).0 in omega (arith, more)

module _ (cuts : List ℕ) (from : ℕ) (ts : List Tree) (rs re x : ℕ) (order : rs ≤ re) where
  abbrev cs : List Child
  cs = laid from ts

  abbrev pub stretch : ChildRange
  stretch = around cuts cs (first_near rs cs) (end_near re cs) x

  abbrev leading : Child → Bool
  leading c = not (leads cuts c)

  abbrev clinging : Child → Bool
  clinging c = clings c.node

  abbrev hash : Child → Bool
  hash c = is_hash c.node

  abbrev near : ℕ
  near = first_near rs cs - max x 2

  abbrev clung : ℕ
  clung = back_past (holds_at clinging cs) near

  abbrev hashed : ℕ
  hashed = with_hash cs clung

  from-hashed : stretch.from ≤ hashed
  from-hashed = back-le (holds_at leading cs) hashed

  hashed-clung : hashed ≤ clung
  hashed-clung = hash-le cs clung

  clung-near : clung ≤ near
  clung-near = back-le (holds_at clinging cs) near

  near-there : 0 < near → near < length ts
  near-there some = let l = begun-le rs cs in let same = length-laid from ts in omega (arith, l, same, some)

  pub from-there : 0 < stretch.from → stretch.from < length ts
  from-there some = omega (arith, from-hashed, hashed-clung, clung-near, near-there (omega (arith, some, from-hashed, hashed-clung, clung-near)))

  pub from-to : 0 < stretch.from → stretch.from < stretch.to
  from-to some = grind (arith, on-ge, begun-le, begun-ended, from-hashed, hashed-clung, clung-near)

  pub to-there : stretch.to ≤ length ts
  to-there = grind (arith, on-le, length-laid)

  -- where it doesn't begin with the first child, its first child isn't empty
  pub from-full : (some : 0 < stretch.from) → 0 < length (text_of (child-at from ts stretch.from (from-there some)).node)
  from-full some = grind (arith, child-at, from-there, leads-full, back-stop)

  pub from-stands : 0 < stretch.from → StandsAt from ts stretch.from (begins from ts stretch.from)
  from-stands some = stands from ts stretch.from (child-at from ts stretch.from (from-there some)) (from-full some)

  -- and begins at a cut
  pub from-cut : 0 < stretch.from → is_among (begins from ts stretch.from) cuts ≡ true
  from-cut some = grind (arith, child-at from ts stretch.from (from-there some), cut-on, back-stop)

  -- which lies before the bytes
  pub from-early : 0 < stretch.from → begins from ts stretch.from < rs
  from-early some = begun-before from rs ts stretch.from (omega (arith, some, from-hashed, hashed-clung, clung-near))

  -- it ends after the bytes, if all children do
  pub to-late : re ≤ from + bytes_of ts → re ≤ begins from ts stretch.to
  to-late all = grind (arith, on-ge, cases_lt, ended-behind, length-laid, begins-last)

  -- and so it ends after its start
  pub from-less : 0 < stretch.from → begins from ts stretch.from < begins from ts stretch.to
  from-less some = grind (arith, child-at from ts stretch.from (from-there some), from-full, from-to)

  -- where it doesn't end with the last child, the child after it is neither empty nor an error
  to-off : (more : stretch.to < length ts) → (let c = child-at from ts stretch.to more in (clings c.node ≡ false) × (not (leads cuts (child c.at c.node)) ≡ false))
  to-off more = grind (arith, child-at, on-stop, length-laid, or_parts)

  to-stop : (more : stretch.to < length ts) → (let c = child-at from ts stretch.to more in (clings c.node ≡ false) × (0 < length (text_of c.node)))
  to-stop more = let c = child-at from ts stretch.to more in let off = to-off more in (off.0, leads-full cuts c.at c.node off.1)

  -- and it begins at a cut
  pub to-cut : stretch.to < length ts → is_among (begins from ts stretch.to) cuts ≡ true
  to-cut more =
      let c = child-at from ts stretch.to more in
      ap (λ b. is_among b cuts) c.begin ∙ (cut-on (nat_lt c.at (c.at + length (text_of c.node))) (is_among c.at cuts) (to-off more).1).1

  pub to-stands : stretch.to < length ts → StandsAt from ts stretch.to (begins from ts stretch.to)
  to-stands more = stands from ts stretch.to (child-at from ts stretch.to more) (to-stop more).1

  pub to-right : (more : stretch.to < length ts) → is_error (child-at from ts stretch.to more).node.head.kind ≡ false
  to-right more = let t = (child-at from ts stretch.to more).node in (or_parts (is_error t.head.kind) _ (or_parts (is_trivia t.head.kind) _ (to-stop more).0).1).0

  -- where it ends with the last child's end, it ends with the last child
  pub to-last : begins from ts stretch.to ≡ from + bytes_of ts → stretch.to ≡ length ts
  to-last e = neither stretch.to (length ts) (λ more. (let c = child-at from ts stretch.to more in let full = (to-stop more).1 in let within = child-within from ts stretch.to c in let at = c.begin in omega (arith, e, full, within, at))) (λ over. (let t = to-there in omega (arith, over, t)))

  -- its first child isn't an error followed only by what clings, up to a child that leads
  pub not-lone : 0 < stretch.from → LoneError cuts from ts stretch.from → ⊥
  not-lone some e = by-test (nat_lt 0 clung && holds_at hash cs (clung - 1)) refl
    where
      quiet : (w : ℕ) → w ≡ hashed → (holds_at clinging cs w ≡ true) × (holds_at hash cs w ≡ false)
      quiet w is = quiet-until cuts from ts stretch.from w e (omega (arith, is, from-hashed)) (omega (arith, is, hashed-clung, clung-near, near-there (omega (arith, some, from-hashed, hashed-clung, clung-near))))
          (λ v more l. back-all (holds_at leading cs) hashed v more (omega (arith, is, l)))

      by-test : (b : Bool) → (nat_lt 0 clung && holds_at hash cs (clung - 1)) ≡ b → ⊥
      by-test true t =
          let is : clung - 1 ≡ hashed = sym (ap (λ (c : Bool). if c then clung - 1 else clung) t) in
          let d : true ≡ false = sym (and_parts (nat_lt 0 clung) (holds_at hash cs (clung - 1)) t).1 ∙ (quiet (clung - 1) is).1 in
          cc
      by-test false t =
          let is : clung ≡ hashed = sym (ap (λ (c : Bool). if c then clung - 1 else clung) t) in
          let d : true ≡ false = sym (quiet clung is).0 ∙ back-stop (holds_at clinging cs) near (omega (arith, some, from-hashed, hashed-clung)) in
          cc

-- ---- a run's pieces

-- A node leads at a byte, and is an error followed only by what clings, up to the next that leads.
pub record LoneAt (cuts : List ℕ) (from : ℕ) (ts : List Tree) (at : ℕ) : Type 0 where
  pub index : ℕ
  pub leads : LeadsAt from ts at index
  pub lone : LoneError cuts from ts index

-- The nodes after n pieces that follow the first i: the first of them leads at a byte.
pub record FollowsAt (r : Sequence) (i n : ℕ) (from : ℕ) (ts : List Tree) (at : ℕ) : Type 0 where
  pub front : List Tree
  pub back : List Tree
  pub is : ts ≡ front ++ back
  pub leads : LeadsAt from ts at (length front)
  pub wrong : begins_wrong (after_known (then_end i n r).state (onwards_by i n r).nodes) ≡ begins_wrong back

-- What n pieces that follow the first i say of the nodes that their run gives, the first of which begins at a byte; they begin and end at two others. What is said of their end may count on pieces being there if some stand before them.
pub record Parted (r : Sequence) (cuts : List ℕ) (from : ℕ) (ts : List Tree) (i n start end : ℕ) : Type 0 where
  pub empty : 0 < i → n ≡ 0 → end ≡ start
  pub minded : 0 < i → 0 < n → minds_at r (first_place i r) (first_end i r) ≡ true → LoneAt cuts from ts start
  pub next : (0 < i → 0 < n) → is_over i n r ≡ false → FollowsAt r i n from ts end
  pub last : (0 < i → 0 < n) → is_over i n r ≡ true → end ≡ from + bytes_of ts

-- A stretch of the nodes begins well.
pub record Begun (r : Sequence) (from : ℕ) (ts : List Tree) (i n start end : ℕ) (s : ChildRange) : Type 0 where
  pub starts : StartsWell i n r
  pub goes_on : GoesOnWell i n r
  pub first : 0 < i → StandsAt from ts s.from start
  pub next : is_over i n r ≡ false → StandsAt from ts s.to end
  pub last : is_over i n r ≡ true → s.to ≡ length ts

same-behind : (xs ys us vs : List Tree) → xs ++ ys ≡ us ++ vs → length xs ≡ length us → ys ≡ vs
same-behind xs ys us vs e l = sym (drop-front xs ys (length xs) refl) ∙ ap (λ ws. drop (length xs) ws) e ∙ drop-front us vs (length xs) l

module _ (cuts : List ℕ) (from : ℕ) (ts : List Tree) (rs re x : ℕ) (order : rs ≤ re) (r : Sequence) (i n start end : ℕ) (p : Parted r cuts from ts i n start end) where
  abbrev s : ChildRange
  s = stretch cuts from ts rs re x order

  module _ (led : 0 < i → 0 < s.from) (start_is : 0 < i → start ≡ begins from ts s.from) (end_is : end ≡ begins from ts s.to) where
    some : 0 < i → 0 < n
    some l = pos_of_ne-zero (λ none. (let same = p.empty l none in let less = from-less cuts from ts rs re x order (led l) in let a = start_is l in omega (arith, same, less, a, end_is)))

    first : 0 < i → StandsAt from ts s.from start
    first l = subst (λ b. StandsAt from ts s.from b) (sym (start_is l)) (from-stands cuts from ts rs re x order (led l))

    mild : 0 < i → minds_at r (first_place i r) (first_end i r) ≡ false
    mild l = false_from_ne_true _ (λ minds. (let e = p.minded l (some l) minds in not-lone cuts from ts rs re x order (led l) (subst (λ b. LoneError cuts from ts b) (sym (same-place from ts s.from start e.index (first l) e.leads)) e.lone)))

    to-more : (at index : ℕ) → LeadsAt from ts at index → end ≡ at → s.to < length ts
    to-more at index e same = lt_of_not-le (λ over. (omega (arith, begins-last from ts s.to over, ap bytes_of e.is, bytes-append e.left (e.node ∷ e.right), bytes-first e.node e.right, e.begins, e.full, same, end_is)))

    next : is_over i n r ≡ false → StandsAt from ts s.to end
    next over = let f = p.next some over in subst (λ b. StandsAt from ts s.to b) (sym end_is) (to-stands cuts from ts rs re x order (to-more end (length f.front) f.leads refl))

    goes-on : is_over i n r ≡ false → begins_wrong (after_known (then_end i n r).state (onwards_by i n r).nodes) ≡ false
    goes-on over =
        let f = p.next some over in
        let more = to-more end (length f.front) f.leads refl in
        let c = child-at from ts s.to more in
        let index = same-place from ts s.to end (length f.front) (next over) f.leads in
        let back : f.back ≡ c.node ∷ c.right = same-behind f.front f.back c.left (c.node ∷ c.right) (sym f.is ∙ c.is) (sym index ∙ sym c.here) in
        f.wrong ∙ ap begins_wrong back ∙ to-right cuts from ts rs re x order more

    -- So a stretch that begins and ends where they do begins well.
    pub begun : Begun r from ts i n start end s
    begun = record { starts = λ l. (some l, mild l); goes_on = goes-on; first = first; next = next; last = λ over. to-last cuts from ts rs re x order (sym end_is ∙ p.last some over) }

-- ---- what pieces give

-- Among the nodes of their run the n pieces that follow the first i stand like this, with the trivia after them, and begin and end at two bytes; those after them take back a given number of errors.
pub record GivesAt (r : Sequence) (from : ℕ) (ts : List Tree) (i n : ℕ) (t : Trivia) (start end : ℕ) : Type 0 where
  pub before : List Tree
  pub back : ℕ
  pub behind : List Tree
  pub children : ts ≡ before ++ ((less back (read_by i n r).nodes ++ t.nodes) ++ behind)
  pub few : back ≤ (then_end i n r).state.empties
  pub ends : from + bytes_of (before ++ (less back (read_by i n r).nodes ++ t.nodes)) ≡ end
  pub onwards : (onwards_by i n r).nodes ≡ t.nodes ++ behind
  pub first : 0 < n → LeadsAt from ts start (length before + length (pending (first_end i r).state.known))
  pub next : is_over i n r ≡ false → LeadsAt from ts end (length before + length (less back (read_by i n r).nodes ++ t.nodes))
  pub last : is_over i n r ≡ true → behind ≡ []

-- So does the one piece that follows the first i, whose trivia cling; where another follows, it ends at a cut.
pub record GivesOne (r : Sequence) (cuts : List ℕ) (from : ℕ) (ts : List Tree) (i start : ℕ) : Type 0 where
  pub trivia : Trivia
  pub end : ℕ
  pub gives : GivesAt r from ts i 1 trivia start end
  pub quiet : Every Quiet trivia.nodes
  pub cut : is_among end cuts ≡ true

one-node : (s : Point) (o : Outcome (Bool × (Bool × ℕ))) → (together s (o ∷ [])).nodes ≡ o.nodes
one-node s o = standing-still (plain (tt {0}) s) o.nodes refl refl refl

leads-next : (cuts : List ℕ) (from : ℕ) (ts front behind : List Tree) (at : ℕ) → ts ≡ front ++ behind → from + bytes_of front ≡ at → LeadsAt from ts at (length front) → is_among at cuts ≡ true → LeadsIf cuts (from + bytes_of front) behind
leads-next cuts from ts front behind at is ends l cut = grind (arith, same-behind)

module _ (r : Sequence) (cuts : List ℕ) (from : ℕ) (ts : List Tree) (i start : ℕ) (one : GivesOne r cuts from ts i start) (alone : MindsAlone (first_end i r).state (turn_of r (first_end i r).value (first_place i r) (first_end i r).state)) where
  -- A piece that minds errors is an error, followed only by its trivia.
  lone-at : LoneAt cuts from ts start
  lone-at =
      let g = one.gives in
      let t = one.trivia in
      let us = pending (first_end i r).state.known in
      let none : g.back ≡ 0 = omega (arith, g.few, alone.none) in
      let nodes : (read_by i 1 r).nodes ≡ us ++ alone.error ∷ [] = one-node (then_end i 1 r).state (turn_of r (first_end i r).value (first_place i r) (first_end i r).state) ∙ alone.nodes in
      let own : less g.back (read_by i 1 r).nodes ++ t.nodes ≡ us ++ alone.error ∷ t.nodes =
      ap (λ n. less n (read_by i 1 r).nodes ++ t.nodes) none ∙ ap (λ vs. vs ++ t.nodes) (less-none (read_by i 1 r).nodes ∙ nodes) ∙ append_assoc us (alone.error ∷ []) t.nodes in
      let left = g.before ++ us in
      let mine = alone.error ∷ t.nodes in
      let front : g.before ++ (less g.back (read_by i 1 r).nodes ++ t.nodes) ≡ left ++ mine = ap (λ vs. g.before ++ vs) own ∙ sym (append_assoc g.before us mine) in
      let all : ts ≡ (left ++ mine) ++ g.behind = g.children ∙ sym (append_assoc g.before _ g.behind) ∙ ap (λ vs. vs ++ g.behind) front in
      let count : length g.before + length us ≡ length left = sym (length-append g.before us) in
      let counts : length g.before + length (less g.back (read_by i 1 r).nodes ++ t.nodes) ≡ length (left ++ mine) = sym (length-append g.before _) ∙ ap length front in
      let ends : from + bytes_of (left ++ mine) ≡ one.end = ap (λ vs. from + bytes_of vs) (sym front) ∙ g.ends in
      let follows : (b : Bool) → is_over i 1 r ≡ b → LeadsIf cuts (from + bytes_of (left ++ mine)) g.behind =
      λ b. elim b as (λ b. is_over i 1 r ≡ b → LeadsIf cuts (from + bytes_of (left ++ mine)) g.behind) [
        | true ↦ λ over. subst (λ vs. LeadsIf cuts (from + bytes_of (left ++ mine)) vs) (sym (g.last over)) tt
        | false ↦ λ over. leads-next cuts from ts (left ++ mine) g.behind one.end all ends (subst (λ d. LeadsAt from ts one.end d) counts (g.next over)) one.cut
      ] in
      record {
        index = length left;
        leads = subst (λ d. LeadsAt from ts start d) count (g.first (omega arith));
        lone = record {
          left = left;
          error = alone.error;
          more = t.nodes;
          behind = g.behind;
          is = all ∙ append_assoc left mine g.behind;
          here = refl;
          each = (error-quiet alone.error alone.is, one.quiet);
          next = follows (is_over i 1 r) refl;
        };
      }

module _ (r : Sequence) (cuts : List ℕ) (from : ℕ) (ts : List Tree) (i n start end : ℕ) (t : Trivia) (known : (then_end i n r).state.known ≡ Some t) (own : (0 < i → 0 < n) → GivesAt r from ts i n t start end) where
  next-follows : (0 < i → 0 < n) → is_over i n r ≡ false → FollowsAt r i n from ts end
  next-follows some over =
      let g = own some in
      let nodes = less g.back (read_by i n r).nodes ++ t.nodes in
      record {
        front = g.before ++ nodes;
        back = g.behind;
        is = g.children ∙ sym (append_assoc g.before nodes g.behind);
        leads = subst (λ d. LeadsAt from ts end d) (sym (length-append g.before nodes)) (g.next over);
        wrong = ap (λ u. begins_wrong (drop (length (pending u)) (onwards_by i n r).nodes)) known ∙ ap (λ us. begins_wrong (drop (length t.nodes) us)) g.onwards ∙ ap begins_wrong (drop-front t.nodes g.behind (length t.nodes) refl);
      }

  ends-last : (0 < i → 0 < n) → is_over i n r ≡ true → end ≡ from + bytes_of ts
  ends-last some over = grind (arith, append-nil)

  -- So the ends of a run's pieces are known by what they give.
  pub parted : (0 < i → n ≡ 0 → end ≡ start) → (0 < i → 0 < n → GivesOne r cuts from ts i start)
      → (0 < i → 0 < n → minds_at r (first_place i r) (first_end i r) ≡ true → MindsAlone (first_end i r).state (turn_of r (first_end i r).value (first_place i r) (first_end i r).state))
      → Parted r cuts from ts i n start end
  parted empty one alone = record { empty = empty; minded = λ l some mind. lone-at r cuts from ts i start (one l some) (alone l some mind); next = next-follows; last = ends-last }

-- ---- what is known of the trivia at hand clings: it is trivia, or errors where they would stand

-- ---- the nodes of tokens

plain-quiet : (k : CharClasses) (i : SyntaxKind) (taken : List ℕ) → is_trivia i ≡ true
    → Quiet (if is_error i then error_of [] (encode_utf8_all taken) else (if is_raw i then raw_node taken else (if has_fields i then access_node taken else leaf_of i (encode_utf8_all taken))))
plain-quiet k i taken h = grind arith

token-quiet : (k : CharClasses) (t : Token) (taken : List ℕ) → is_trivia t.kind ≡ true → Quiet (token_node k t taken)
token-quiet k t taken h = grind (arith, plain-quiet, error-quiet, advised-wrong)

quiet-step : (k : CharClasses) (m : SyntaxMode) (z : Place) (taken : List ℕ) (b : Bool) (rest : Ahead) → at_trivia k m z ≡ b → Every Quiet rest.trivia
    → Every Quiet (if b then after_trivia (token_at k m z) (len_at k m z) (token_node k (token_at k m z) taken) rest else direct (token_at k m z) (len_at k m z)).trivia
quiet-step k m z taken true rest e h = (token-quiet k (token_at k m z) taken (and_parts (is_trivia (token_at k m z).kind) (nat_lt 0 (len_at k m z)) e).0, h)
quiet-step k m z taken false rest e h = tt

ahead-quiet : (k : CharClasses) (m : SyntaxMode) (n : ℕ) (z : Place) → Every Quiet (ahead_by k m n z).trivia
ahead-quiet k m zero z = tt
ahead-quiet k m (suc n) z = quiet-step k m z (text_ahead (len_at k m z) z) (at_trivia k m z) (ahead_by k m n (moved (len_at k m z) z)) refl (ahead-quiet k m n (moved (len_at k m z) z))

hand-quiet : (k : CharClasses) (held : Reading) (known : Option Trivia) (z : Place) → Every Quiet (pending known) → Every Quiet (hand_at k held known z).trivia
unfolding hand_at ahead
hand-quiet k held known z h = grind (arith, ahead-quiet)

-- ---- the invariant

abbrev Known_quiet : Saying
Known_quiet k m known z = Every Quiet (pending known)

stays : Stays Known_quiet
stays = record { none = λ k m z. tt; ask = λ k held known z h. hand-quiet k held known z h; flush = λ k held known z h. tt }

-- Trivia that are known where pieces end are quiet, if those are that are known where they begin.
made-quiet : {A : Type 0} (m : A → Meaning (Bool × A)) → ((x : A) (z : Place) (s : Point) → Every Quiet (pending s.known) → Every Quiet (pending (m x z s).state.known)) → (n : ℕ) (x : A) (z : Place) (s : Point) → Every Quiet (pending s.known)
    → Every Quiet (pending (end_of x s (made m n x z s)).state.known)
made-quiet m keeps zero x z s h = h
made-quiet m keeps (suc n) x z s h = let o = m x z s in made-quiet m keeps n o.value.1 (moved o.taken z) o.state (keeps x z s h)

module _ (r : Sequence) (keeps : (x : Bool × ℕ) (z : Place) (s : Point) → Every Quiet (pending s.known) → Every Quiet (pending (turn_of r x z s).state.known)) (start : Every Quiet (pending r.point.known)) where
  pub quiet-end : (i n : ℕ) → Every Quiet (pending (then_end i n r).state.known)
  quiet-end i n = let e = first_end i r in made-quiet (turn_of r) keeps n e.value (moved e.taken r.place) e.state (made-quiet (turn_of r) keeps i (true, 0) r.place r.point start)

pub run-quiet : (k : CharClasses) (r : Sequence) → IsRun k r → (i n : ℕ) → Every Quiet (pending (then_end i n r).state.known)
run-quiet k r (is_text_run z) i n =
    let l = level_at k max_depth in
    let d = holds-meaning Known_quiet stays (rules k) k max_depth in
    quiet-end (text_run k z) (λ x w s h. holds-run Known_quiet stays l d (markup_turn true is_end x) w s h) (holds-run Known_quiet stays l d peek z start tt) i n
run-quiet k r (is_block_run levels z s) i n =
    let l = inner k levels in
    let d = holds-meaning Known_quiet stays (rules k) k (suc levels) in
    let b = bracket k levels z s in
    quiet-end (inner_run k levels z s) (λ x w p h. holds-run Known_quiet stays l d (markup_turn true ends_block x) w p h) (holds-run Known_quiet stays l d peek (moved b.taken z) b.state tt) i n
