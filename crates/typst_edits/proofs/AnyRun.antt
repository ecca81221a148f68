-- What the entries say of a candidate that is pieces of a run, and a reading that begins with one candidate and serves another one: for any run.
use Rattle.typst_edits.proofs.Cited.{◌≡◌, ◌⊎◌, inl, inr, ◌↔◌, ℕ, zero, suc, ◌+◌, ◌-◌, ◌^◌, ◌<◌, ◌≤◌, ◌==◌, if◌then◌else◌, min, Bool, true, false, List, ◌++◌, length, take, length-append, Option, Some, refl, ap, sym, ◌∙◌, subst, arith, lt_of_not-le, eq-zero-or-pos, pos_of_ne-zero, eqb-true, eqb-false, take-append-le, Place, moved, CharClasses, Tree, bare, text_of, replaced_at, width, position, Trivia, gap_of, Note, ahead-left, Entry, Candidate, begins, entries_by, units_of, spliced, RunKind, start_of, log, tree, entries_in, front_in, rear_in, IsPieces, Run, read_as, opened_by, end_by, cut_at, is_over, nodes_now, Agrees, Before, After, PassesPieces, PassesJoint, Gives, of_pieces, path_to, bytes_of, TakesNone, ServesMore, listed, StandsAt, AllGo, End, notes_by, IsLast, BeginsAt, FoundRun, reading_on, nodes_by, SaysPiece, PassesRead, Sequence, first_of, first_end, then_of, then_end, then_place, entries_from, run_level, stops_of, end_on, kids_of_run, run_from, StandsBetween, Served, cases_eq, moved-min, begins_order, lt_of_le-ne, MeetsOn, PassesOn, reading_of, TextReplacement, text_before, text_after, start_before, start_after}
use Rattle.typst_edits.specs.RunTest.{Reading, pieces_by, carried_by, byte_after, Ends, LooksFrom, Meets}
use Rattle.typst_grammar.specs.declared.part.RunKind.TheVariants as of
use Rattle.typst_edits.specs.Joint.{Meets as MeetsAfter}
use Rattle.typst_edits.specs.RunTest.Ends.{some as apart, none as at_once}
use Rattle.typst_edits.specs.RunTest.LooksFrom.{pieces as from_pieces, closing as from_closing, nothing as from_nothing}
use Rattle.typst_edits.proofs.BlockTest.{byte-of, byte-at}
use Rattle.typst_edits.proofs.Boundary.{KnownAt}
use Rattle.typst_edits.proofs.CandidateEnds.{child-at, stands, from-there, from-full, from-early, to-late}
use Rattle.typst_edits.proofs.EntryNumbers.{some-number}
use Rattle.typst_edits.proofs.OneReading.{put-behind-law, first-split, end-split-at, later-place, go-first, go-second, go-both, one-reading-law}
use Rattle.typst_edits.proofs.MarkupCandidates.{OfStretch}
use Rattle.typst_edits.proofs.RunPieces.{take-past, cut-some}
use Rattle.typst_edits.proofs.RunOver.{ends-in}
use Rattle.typst_edits.proofs.Widths.{width-append, take-same, take-longer}
use Rattle.typst_edits.proofs.Every.{not-less, neither}

-- ---- among the children

-- A candidate is children of a run around a stretch; its first child isn't empty, unless it is the run's first.
pub record Seated (front old : List ℕ) (at : ℕ) (ts : List Tree) (c : Candidate) : Type 0 where
  pub there : 0 < c.from → c.from < length ts
  pub full : (some : 0 < c.from) → 0 < length (text_of (child-at at ts c.from (there some)).node)
  pub begin : c.start ≡ begins at ts c.from
  pub end : c.end ≡ begins at ts c.to
  pub early : 0 < c.from → c.start < width front
  pub late : width (front ++ old) ≤ c.end

pub seated : (front old : List ℕ) (path : List ℕ) (at : ℕ) (ts : List Tree) (cuts : List ℕ) (c : Candidate) → OfStretch (width front) (width (front ++ old)) path at ts cuts c → width (front ++ old) ≤ at + bytes_of ts → Seated front old at ts c
seated front old path at ts cuts c o all =
    let rs = width front in
    let re = width (front ++ old) in
    let order : rs ≤ re = omega (arith, width-append front old) in
    subst (λ d. Seated front old at ts d) (sym o.is) (record {
      there = from-there cuts at ts rs re o.more order;
      full = from-full cuts at ts rs re o.more order;
      begin = refl;
      end = refl;
      early = from-early cuts at ts rs re o.more order;
      late = to-late cuts at ts rs re o.more order all;
    })

module _ (front old : List ℕ) (at : ℕ) (ts : List Tree) (c d : Candidate) (s : Seated front old at ts c) (o : Seated front old at ts d) where
  -- A candidate ends after the child where another one begins.
  pub seats-in-order : d.from ≤ c.to
  seats-in-order = grind (arith, not-less, begins_order, width-append)

  not-before : c.start ≡ d.start → 0 < c.from → c.from < d.from → ⊥
  not-before same some l = grind (arith, child-at at ts c.from (s.there some))

pub seat-stands : (front old : List ℕ) (at : ℕ) (ts : List Tree) (c : Candidate) → Seated front old at ts c → 0 < c.from → StandsAt at ts c.from c.start
seat-stands front old at ts c s some = subst (λ b. StandsAt at ts c.from b) (sym s.begin) (stands at ts c.from (child-at at ts c.from (s.there some)) (s.full some))

-- ---- what entries say

-- An entry says one thing.
says-once : (es : List Entry) (a b : ℕ) (x y : Bool × ℕ) → SaysPiece es a x → SaysPiece es b y → a ≡ b → x ≡ y
says-once es a b x y s o e = grind arith

pub entries-listed : (at : ℕ) (ns : Option (List Note)) → entries_from at ns ≡ entries_by at (listed ns)
entries-listed at ns = grind arith

-- The entry from which on all looks have to begin after the stretch is the one after the pieces, or another one where there is none.
abbrev pub looks_by : ℕ → ℕ → ℕ → ℕ
looks_by zero alone to = alone
looks_by (suc n) alone to = to

-- Which pieces of a run a candidate is, and how far past a stretch they end.
pub record Span : Type 0 where
  pub i : ℕ
  pub n : ℕ
  pub past : ℕ
  pub trivia : Trivia

abbrev span : ℕ → ℕ → ℕ → Trivia → Span
span i n past t = record { i = i; n = n; past = past; trivia = t }

-- Pieces that are read like this, after a given number of characters, begin and end where a candidate does.
pub record Found (edit : TextReplacement) (c : Candidate) (q : Sequence) (opened i n past : ℕ) (t : Trivia) : Type 0 where
  pub go : AllGo (first_of i q)
  pub go_on : AllGo (then_of i n q)
  pub known : (then_end i n q).state.known ≡ Some t
  pub ends : (opened + ((first_end i q).taken + (then_end i n q).taken)) + t.gap ≡ (length edit.front + length edit.old) + past
  pub start : c.start ≡ width (take (opened + (if i == 0 then 0 else (first_end i q).taken + gap_of (first_end i q).state.known)) (text_before edit))
  pub end : c.end ≡ width (edit.front ++ (edit.old ++ take past edit.rest))

right-of : {A B : Type 0} → (A → ⊥) → A ⊎ B → B
right-of f h = grind arith

-- ---- pieces that end at the same place

-- Where as many pieces end is one end, however they are counted.
record SameEnd (q : Sequence) (i n j m : ℕ) : Type 0 where
  value : (then_end i n q).value ≡ (then_end j m q).value
  state : (then_end i n q).state ≡ (then_end j m q).state
  place : then_place i n q ≡ then_place j m q
  taken : (first_end i q).taken + (then_end i n q).taken ≡ (first_end j q).taken + (then_end j m q).taken

same-end : (q : Sequence) (i n j m : ℕ) → i + n ≡ j + m → SameEnd q i n j m
same-end q i n j m sum = let one = end-split-at q i n in grind (arith, end-split-at, later-place)

-- What agrees after them in two texts agrees however they are counted.
meets-too : (r : Sequence) (y x : Place) (e o f g : End (Bool × ℕ)) (t u : Trivia) → y ≡ x → e.value ≡ o.value → e.state ≡ o.state → f.value ≡ g.value → f.state ≡ g.state → MeetsAfter r y e f t u → MeetsAfter r x o g t u
meets-too r y x e o f g t u place value state value_now state_now h = grind arith

-- ---- a run, read by itself

module _ (k : CharClasses) (edit : TextReplacement) (r : Run k (text_before edit)) (which : RunKind) (levels : ℕ) where
  abbrev text : List ℕ
  text = text_before edit

  abbrev now : List ℕ
  now = text_after edit

  abbrev z : Place
  z = start_before edit

  abbrev w : Place
  w = start_after edit

  abbrev q : Sequence
  q = read_as r z

  abbrev v : Sequence
  v = read_as r w

  abbrev es : List Entry
  es = entries_in k text

  -- how the pieces after the first i are read by themselves in the new text
  abbrev pub read_from : ℕ → Reading
  read_from i = reading_on which levels (first_end i q).value (moved (cut_at r i z) w)

  -- A given number of characters stand before the token after m of them.
  abbrev pub far_by : ℕ → ℕ → ℕ
  far_by i m = let x = read_from i in let e = end_on (run_level k levels which) (stops_of which) x.carried m x.place in cut_at r i z + (e.taken + gap_of e.state.known)

  -- If m pieces are read by themselves, they are those of the new text's run.
  pub record AlikeBy (i m : ℕ) (u : Trivia) : Type 0 where
    pub go : AllGo (pieces_by k (read_from i) m)
    pub sum : end_by r i m u w ≡ far_by i m
    pub value : (then_end i m v).value ≡ carried_by k (read_from i) m
    pub nodes : nodes_now r i m u w ≡ nodes_by k (read_from i) m

  pub record ReadsFrom (i : ℕ) : Type 0 where
    pub go : (m : ℕ) → AllGo (pieces_by k (read_from i) m) → AllGo (then_of i m v)
    pub known : (m : ℕ) → AllGo (then_of i m v) → KnownAt (then_end i m v).state
    pub alike : (m : ℕ) (u : Trivia) → AllGo (then_of i m v) → (then_end i m v).state.known ≡ Some u → AlikeBy i m u

  abbrev pub FoundHere : Candidate → ℕ → ℕ → ℕ → Trivia → Type 0
  FoundHere c i n past t = Found edit c q (opened_by r z) i n past t

  pub found-by : (c : Candidate) (i n past : ℕ) (t : Trivia) → IsPieces k edit r c i n past t → FoundHere c i n past t
  found-by c i n past t p = record { go = p.go; go_on = p.go_on; known = p.known; ends = p.ends; start = p.start; end = p.end }

  pub begins-now : (c : Candidate) (i n past : ℕ) (t : Trivia) → IsPieces k edit r c i n past t → position (moved (cut_at r i z) w) ≡ c.start
  begins-now c i n past t p = grind (arith, byte-at, take-append-le)

  -- No pieces end after the text, with their trivia.
  abbrev pub AreWithin : Type 0
  AreWithin = (m : ℕ) → opened_by r z ≤ length text → opened_by r z + ((first_end m q).taken + gap_of (first_end m q).state.known) ≤ length text

  pub room-by : AreWithin → (c : Candidate) (i n past : ℕ) (t : Trivia) → FoundHere c i n past t → opened_by r z ≤ length edit.front → past ≤ length edit.rest
  room-by within c i n past t f early = let split = end-split-at q i n in grind (arith, length-append)

  -- What is known of a run's pieces by the numbers of their entries.
  pub record Entered (entry : ℕ) : Type 0 where
    pub number : ℕ → ℕ
    pub count : ℕ
    pub most : (i : ℕ) → AllGo (first_of i q) → i ≤ count
    pub over : (i n : ℕ) → i + n ≤ count → is_over i n q ≡ (i + n == count)
    pub begins : (i : ℕ) → i ≤ count → BeginsAt es entry (width (take (cut_at r i z) text)) (number i)
    pub goes_on : (i j : ℕ) → 0 < j → i ≤ j → j ≤ count → BeginsAt es (number i) (width (take (cut_at r j z) text)) (number j)
    pub rises : (i j : ℕ) → i < j → j ≤ count → number i < number j
    pub last : IsLast es (number count)
    pub not_last : (i : ℕ) → i < count → IsLast es (number i) → ⊥
    pub says : (i : ℕ) → i ≤ count → SaysPiece es (number i) (first_end i q).value
    pub cuts : (i j : ℕ) → i < j → AllGo (first_of j q) → width (take (cut_at r i z) text) < width (take (cut_at r j z) text)
    pub known : (i : ℕ) → AllGo (first_of i q) → KnownAt (first_end i q).state
    -- where its end is met
    pub meets : (m : ℕ) (x y : Bool × ℕ) → (which ≡ of.Block → y.1 ≡ x.1) → Agrees r true m x y
    pub met : (m : ℕ) (x y : Bool × ℕ) → Agrees r true m x y → which ≡ of.Block → y.1 ≡ x.1
    -- the entry from which on looks have to begin after the stretch, where the run has no expression
    pub alone : ℕ
    pub alone_from : (to : ℕ) → LooksFrom es which (number count) to alone
    pub within : AreWithin
    -- As many as end at one place are as many.
    pub counts : (i n m : ℕ) → AllGo (first_of i q) → AllGo (then_of i n q) → AllGo (then_of i m q)
        → (then_end i n q).taken + gap_of (then_end i n q).state.known ≡ (then_end i m q).taken + gap_of (then_end i m q).state.known → n ≡ m
    -- More pieces that are read by themselves end further on.
    pub further : (i m j : ℕ) → m < j → AllGo (pieces_by k (read_from i) j) → far_by i m < far_by i j
    -- of a candidate that is pieces of it
    pub before : (c : Candidate) (i n past : ℕ) (t : Trivia) → IsPieces k edit r c i n past t → number i < front_in k edit ↔ Before k edit r i
    pub behind : (c : Candidate) (i n past : ℕ) (t : Trivia) → IsPieces k edit r c i n past t → 0 < n → rear_in k edit ≤ number (i + n) ↔ After k edit r i n past t
    pub alone_behind : (c : Candidate) (i n past : ℕ) (t : Trivia) → IsPieces k edit r c i n past t → n ≡ 0 → rear_in k edit ≤ alone ↔ After k edit r i n past t
    pub reads : (c : Candidate) (i n past : ℕ) (t : Trivia) → IsPieces k edit r c i n past t → Before k edit r i → ReadsFrom i
    -- Where it and new pieces are joined to what follows them, its entries are exchanged for theirs.
    pub exchanged : width now < 2 ^ 64 - 1 → (c : Candidate) (i n m past : ℕ) (t u : Trivia) → IsPieces k edit r c i n past t → PassesJoint k edit r i n m past t u → 0 < i + n → 0 < i + m
        → units_of (log k now) ≡ spliced (number i) (number (i + n)) (entries_by c.start (notes_by k (read_from i) m)) (units_of (log k text))

  -- What is known of one candidate that is pieces of the run.
  pub record Chosen (entry : ℕ) (e : Entered entry) (c : Candidate) (i n past : ℕ) (t : Trivia) : Type 0 where
    pub is : IsPieces k edit r c i n past t
    pub whole : c.is_block ≡ false
    pub path : path_to r ≡ c.path
    pub seat : Seated edit.front edit.old (run_from r) (kids_of_run r) c
    -- However it passes, its pieces are these.
    pub passes : (ts : List Tree) → Gives k edit c ts → ((m : ℕ) × (u : Trivia) × PassesPieces k edit r i n m past t u × (ts ≡ nodes_now r i m u w))
    -- Where pieces pass in its place, they are joined to what follows them.
    pub joint : (m : ℕ) (u : Trivia) → PassesPieces k edit r i n m past t u → PassesJoint k edit r i n m past t u

  -- ---- bytes

  byte-is : (i m : ℕ) → byte_after k (read_from i) m ≡ width (take (far_by i m) now)
  byte-is i m = grind (arith, byte-of)

  far-within : (i m : ℕ) → cut_at r i z ≤ length edit.front → far_by i m ≤ length now
  far-within i m early =
      omega (arith, ends-in k (read_from i) m, ahead-left (cut_at r i z) w, length-append edit.front (edit.new ++ edit.rest), early)

  -- how far pieces of both texts go, by bytes
  module _ (c : Candidate) (past : ℕ) (end : c.end ≡ width (edit.front ++ (edit.old ++ take past edit.rest))) where
    stop-width : width (take ((length edit.front + length edit.new) + past) now) + width edit.old ≡ c.end + width edit.new
    stop-width = grind (arith, ap width (take-past edit.front edit.new edit.rest past ((length edit.front + length edit.new) + past) refl), width-append)

    to-shifted : (i m : ℕ) → far_by i m ≡ (length edit.front + length edit.new) + past → byte_after k (read_from i) m + width edit.old ≡ c.end + width edit.new
    to-shifted i m e = grind (arith, byte-is, stop-width)

    from-shifted : (i m : ℕ) → cut_at r i z ≤ length edit.front → past ≤ length edit.rest → byte_after k (read_from i) m + width edit.old ≡ c.end + width edit.new → far_by i m ≡ (length edit.front + length edit.new) + past
    from-shifted i m early room e = grind (arith, length-append, take-same, far-within, byte-is, stop-width)

  -- ---- which pieces a candidate is

  module _ (entry : ℕ) (e : Entered entry) (c : Candidate) (i n past : ℕ) (t : Trivia) (f : FoundHere c i n past t) (j m far : ℕ) (u : Trivia) (g : FoundHere c j m far u) (early : opened_by r z ≤ length edit.front) where
    same-first : i ≡ j
    same-first =
        let cut : width (take (cut_at r i z) text) ≡ width (take (cut_at r j z) text) = sym f.start ∙ g.start in
        neither i j (λ l. (let rise = e.cuts i j l g.go in omega (arith, rise, cut))) (λ l. (let rise = e.cuts j i l f.go in omega (arith, rise, cut)))

    pub one-span : span i n past t ≡ span j m far u
    one-span =
        let first = same-first in
        let room : past ≡ far = take-same past far edit.rest (room-by e.within c i n past t f early) (room-by e.within c j m far u g early)
        (omega (arith, width-append edit.front (edit.old ++ take past edit.rest), width-append edit.old (take past edit.rest), width-append edit.front (edit.old ++ take far edit.rest), width-append edit.old (take far edit.rest), f.end, g.end)) in
        grind arith

    -- So however it passes, these pieces do.
    pub passes-too : (d : ℕ) (b : Trivia) (ts : List Tree) → PassesPieces k edit r j m d far u b → ts ≡ nodes_now r j d b w → ((d : ℕ) × (b : Trivia) × PassesPieces k edit r i n d past t b × (ts ≡ nodes_now r i d b w))
    passes-too d b ts h made = grind (arith, one-span)

  -- ---- the numbers that are found

  module _ (entry : ℕ) (e : Entered entry) (c : Candidate) (i n past : ℕ) (t : Trivia) (p : IsPieces k edit r c i n past t) where
    room-here : past ≤ length edit.rest
    room-here = let early = p.early in room-by e.within c i n past t (found-by c i n past t p) (omega (arith, early))

    first-go : AllGo (first_of (i + n) q)
    first-go = subst (λ os. AllGo os) (sym (first-split q i n)) (go-both (first_of i q) (then_of i n q) p.go p.go_on)

    fits : i + n ≤ e.count
    fits = e.most (i + n) first-go

    -- Without a piece it is the run's end.
    pub none-last : n ≡ 0 → IsLast es (e.number i)
    none-last none = grind (arith, eqb-true)

    none-more : IsLast es (e.number i) → n ≡ 0
    none-more last = elim (eq-zero-or-pos n) [ inl is ↦ is | inr some ↦ (let all = fits in absurd (e.not_last i (omega (arith, all, some)) last)) ]

    end-byte : 0 < i + n → c.end ≡ width (take (cut_at r (i + n) z) text)
    end-byte some = p.end ∙ sym (ap width (take-past edit.front edit.old edit.rest past (cut_at r (i + n) z) (omega (arith, ap (λ (u : End (Bool × ℕ)). u.taken) (end-split-at q i n), ap (λ (u : End (Bool × ℕ)). gap_of u.state.known) (end-split-at q i n) ∙ ap gap_of p.known, p.ends, cut-some r (i + n) z some))))

    begins-there : BeginsAt es entry c.start (e.number i)
    begins-there = let all = fits in subst (λ d. BeginsAt es entry d (e.number i)) (sym p.start) (e.begins i (omega (arith, all)))

    ends-there : 0 < n → BeginsAt es (e.number i) c.end (e.number (i + n))
    ends-there some = let all = fits in subst (λ d. BeginsAt es (e.number i) d (e.number (i + n))) (sym (end-byte (omega (arith, some)))) (e.goes_on i (i + n) (omega (arith, some)) (omega arith) all)

    ends-of : (d : ℕ) → n ≡ d → Ends es entry c (e.number i) (e.number (i + n))
    ends-of zero is = let same : i ≡ i + n = omega (arith, is) in subst (λ j. Ends es entry c (e.number i) (e.number j)) same (at_once (e.number i) begins-there (none-last is))
    ends-of (suc d) is =
        let some : 0 < n = omega (arith, is) in
        let all = fits in
        apart (e.number i) (e.number (i + n)) begins-there (e.not_last i (omega (arith, all, some))) (ends-there some) (e.rises i (i + n) (omega (arith, some)) all)

    ends-are : (a b : ℕ) → Ends es entry c a b → (a ≡ e.number i) × (b ≡ e.number (i + n))
    ends-are a b (apart from to at more behind less) = grind (arith, some-number, begins-there, ends-there, pos_of_ne-zero, none-last)
    ends-are a b (at_once from at last) = grind (arith, some-number, begins-there, none-more)

    looks-are : (from to a : ℕ) → LooksFrom es which from to a → from ≡ e.number i → 0 < n → a ≡ to
    looks-are from to a (from_pieces more) is some = refl
    looks-are from to a (from_closing number last block closes) is some = let none = none-more (subst (λ j. IsLast es j) is last) in absurd (omega (arith, none, some))
    looks-are from to a (from_nothing number last own far) is some = let none = none-more (subst (λ j. IsLast es j) is last) in absurd (omega (arith, none, some))

    looks-of : (d : ℕ) → n ≡ d → LooksFrom es which (e.number i) (e.number (i + n)) (looks_by d e.alone (e.number (i + n)))
    looks-of zero is = grind (arith, eqb-true)
    looks-of (suc d) is = let all = fits in from_pieces (e.not_last i (omega (arith, all, is)))

    behind-is : (d : ℕ) → n ≡ d → rear_in k edit ≤ looks_by d e.alone (e.number (i + n)) ↔ After k edit r i n past t
    behind-is zero is = e.alone_behind c i n past t p is
    behind-is (suc d) is = e.behind c i n past t p (omega (arith, is))

    -- ---- what agrees at their end

    value-is : (then_end i n q).value ≡ (first_end (i + n) q).value
    value-is = sym (ap (λ (u : End (Bool × ℕ)). u.value) (end-split-at q i n))

    over-is : is_over i n q ≡ (i + n == e.count)
    over-is = e.over i n fits

    last-to : (i + n == e.count) ≡ true → IsLast es (e.number (i + n))
    last-to is = subst (λ x. IsLast es (e.number x)) (sym (eqb-true (i + n) e.count is)) e.last

    on-to : (i + n == e.count) ≡ false → IsLast es (e.number (i + n)) → ⊥
    on-to is = e.not_last (i + n) (lt_of_le-ne fits (eqb-false (i + n) e.count is))

    agrees-by : (m : ℕ) (y : Bool × ℕ) → ((IsLast es (e.number (i + n)) → ⊥) → (0 < m) × (y ≡ (first_end (i + n) q).value)) → (IsLast es (e.number (i + n)) → which ≡ of.Block → y.1 ≡ (first_end (i + n) q).value.1)
        → Agrees r (is_over i n q) m (then_end i n q).value y
    agrees-by m y on last = by (i + n == e.count) refl
      where
        by : (s : Bool) → (i + n == e.count) ≡ s → Agrees r (is_over i n q) m (then_end i n q).value y
        by true is = subst (λ s. Agrees r s m (then_end i n q).value y) (sym (over-is ∙ is)) (e.meets m (then_end i n q).value y (λ block. last (last-to is) block ∙ sym (ap (λ (x : Bool × ℕ). x.1) value-is)))
        by false is = let h = on (on-to is) in subst (λ s. Agrees r s m (then_end i n q).value y) (sym (over-is ∙ is)) (h.0, h.1 ∙ sym value-is)

    meets-by : (m : ℕ) (y : Bool × ℕ) → Agrees r (is_over i n q) m (then_end i n q).value y → Meets es which (e.number (i + n)) m (first_end (i + n) q).value y
    meets-by m y h = by (i + n == e.count) refl
      where
        by : (s : Bool) → (i + n == e.count) ≡ s → Meets es which (e.number (i + n)) m (first_end (i + n) q).value y
        by true is = record {
          goes_on = λ no. absurd (no (last-to is));
          block_end = λ last block. e.met m (then_end i n q).value y (subst (λ s. Agrees r s m (then_end i n q).value y) (over-is ∙ is) h) block ∙ ap (λ (x : Bool × ℕ). x.1) value-is;
        }
        by false is = record {
          goes_on = λ no. ((subst (λ s. Agrees r s m (then_end i n q).value y) (over-is ∙ is) h).0, (subst (λ s. Agrees r s m (then_end i n q).value y) (over-is ∙ is) h).1 ∙ value-is);
          block_end = λ last block. absurd (on-to is last);
        }

    -- ---- what passes

    abbrev pub Read : ℕ → Type 0
    Read m = PassesRead k edit c (read_from i) (e.number i) (e.number (i + n)) (looks_by n e.alone (e.number (i + n))) (first_end (i + n) q).value m

    -- If m pieces pass the test, their nodes are those that are read.
    pub record Given (m : ℕ) : Type 0 where
      pub behind : Trivia
      pub passes : PassesPieces k edit r i n m past t behind
      pub nodes : nodes_now r i m behind w ≡ nodes_by k (read_from i) m

    pub given-by : (m : ℕ) → Read m → Given m
    given-by m h =
        let looks = (e.before c i n past t p).0 h.before in
        let reads = e.reads c i n past t p looks in
        let go = reads.go m h.go in
        let u = reads.known m go in
        let x = reads.alike m u.trivia go u.is in
        record {
          behind = u.trivia;
          passes = record {
            first_go = p.go;
            old_go = p.go_on;
            new_go = go;
            before = looks;
            after = (behind-is n refl).0 h.behind;
            known = p.known;
            known_now = u.is;
            ends = p.ends;
            shifted = x.sum ∙ from-shifted c past p.end i m p.early room-here h.shifted;
            agrees = agrees-by m (then_end i m v).value (λ no. ((h.meets.goes_on no).0, x.value ∙ (h.meets.goes_on no).1)) (λ last block. ap (λ (y : Bool × ℕ). y.1) x.value ∙ h.meets.block_end last block);
          };
          nodes = x.nodes;
        }

    pub read-by : (m : ℕ) (u : Trivia) → PassesPieces k edit r i n m past t u → Read m × (nodes_now r i m u w ≡ nodes_by k (read_from i) m)
    read-by m u h =
        let x = (e.reads c i n past t p h.before).alike m u h.new_go h.known_now in (
          record {
            before = (e.before c i n past t p).1 h.before;
            behind = (behind-is n refl).1 h.after;
            go = x.go;
            shifted = to-shifted c past p.end i m (sym x.sum ∙ h.shifted);
            meets = subst (λ y. Meets es which (e.number (i + n)) m (first_end (i + n) q).value y) x.value (meets-by m (then_end i m v).value h.agrees);
          },
          x.nodes,
        )

    rises-by : e.number i < front_in k edit → (m j : ℕ) → m < j → AllGo (pieces_by k (read_from i) j) → byte_after k (read_from i) m < byte_after k (read_from i) j
    rises-by early m j l go = grind (arith, byte-is, take-longer, far-within)

    -- how its entries are exchanged for those of m pieces that are read
    abbrev pub UnitsBy : ℕ → Type 0
    UnitsBy m = units_of (log k now) ≡ spliced (e.number i) (e.number (i + n)) (entries_by c.start (notes_by k (read_from i) m)) (units_of (log k text))

    pub found : ((ts : List Tree) → Gives k edit c ts → ((m : ℕ) × (u : Trivia) × PassesPieces k edit r i n m past t u × (ts ≡ nodes_now r i m u w))) → c.is_block ≡ false → path_to r ≡ c.path
        → ((m : ℕ) → Read m → (which ≡ of.Block → (IsLast es (e.number i) → ⊥) × (0 < m)) → UnitsBy m) → FoundRun k edit c which levels entry
    found passes whole path units = record {
      from = e.number i;
      to = e.number (i + n);
      looks = looks_by n e.alone (e.number (i + n));
      carried = (first_end i q).value;
      carried_end = (first_end (i + n) q).value;
      ends = ends-of n refl;
      looks_from = looks-of n refl;
      says = (let all = fits in e.says i (omega (arith, all)));
      says_end = e.says (i + n) fits;
      at = cut_at r i z;
      start = p.start;
      start_now = λ early. begins-now c i n past t p;
      gives = λ ts. (
        (λ h. (let g = passes ts h in let x = read-by g.0 g.1 g.2 in (g.0, x.0, g.3 ∙ x.1))),
        (λ h. (let g = given-by h.0 h.1 in of_pieces r i n h.0 past t g.behind whole path p.start p.led p.end g.passes (h.2 ∙ sym g.nodes))),
      );
      rises = rises-by;
      units = units;
    }

  -- ---- the reading begins after d more pieces

  -- what a reading says of a candidate, by numbers
  pub record Keys : Type 0 where
    pub reading : Reading
    pub mid : ℕ
    pub from : ℕ
    pub to : ℕ
    pub looks : ℕ
    pub carried_end : Bool × ℕ

  pub record ServedBy (root : Tree) (first c : Candidate) (x : Keys) : Type 0 where
    pub earlier : x.from ≤ x.mid
    pub until : x.mid ≤ x.to
    pub gives : (ts : List Tree) → Gives k edit c ts
        → ((m : ℕ) × PassesOn k edit first c x.reading x.to x.looks x.carried_end m × (replaced_at c.path c.from c.to ts root ≡ replaced_at c.path first.from c.to (nodes_by k x.reading m) root))
    pub gives_too : (m : ℕ) → PassesOn k edit first c x.reading x.to x.looks x.carried_end m
        → ((ts : List Tree) × Gives k edit c ts × (replaced_at c.path c.from c.to ts root ≡ replaced_at c.path first.from c.to (nodes_by k x.reading m) root))
    pub units : (m : ℕ) → PassesOn k edit first c x.reading x.to x.looks x.carried_end m
        → (which ≡ of.Block → (IsLast es x.from → ⊥) × ((c.start < first.start) ⊎ (0 < m)))
        → units_of (log k now) ≡ spliced x.mid x.to (entries_by first.start (notes_by k x.reading m)) (units_of (log k text))

  module _ (entry : ℕ) (e : Entered entry) (root : Tree) (same : bare root ≡ bare (tree k (text_before edit))) (first c : Candidate) (i j n past n0 past0 : ℕ) (t t0 : Trivia)
      (a : Chosen entry e c i n past t) (b : Chosen entry e first (i + suc j) n0 past0 t0) (begun : e.number (i + suc j) < front_in k edit) (big_new : width now < 2 ^ 64 - 1) where
    -- A given number of pieces stand before the reading begins.
    abbrev d : ℕ
    d = suc j

    abbrev mid : ℕ
    mid = i + suc j

    looks : Before k edit r mid
    looks = (e.before first mid n0 past0 t0 b.is).0 begun

    clear : TakesNone mid q
    clear = b.is.none (omega arith)

    starts-later : c.start < first.start
    starts-later = let l = e.cuts i mid (omega arith) b.is.go in let one = a.is.start in let two = b.is.start in omega (arith, l, one, two)

    in-order : mid < i + n
    in-order = lt_of_not-le (λ l.
        (let early : first.start < width edit.front = b.seat.early (b.is.led.0 (omega arith)) in
        by-order l (omega (arith, early, a.seat.late, width-append edit.front edit.old, b.is.start, end-byte entry e c i n past t a.is (omega (arith, some-pieces))))))
      where
        -- A candidate without a piece is the whole run.
        some-pieces : 0 < n
        some-pieces = pos_of_ne-zero (λ is.
            (let over = sym (e.over 0 0 (omega arith)) ∙ (a.is.empty is).1 in
            let none : 0 ≡ e.count = eqb-true 0 e.count over in
            omega (arith, none, e.most mid b.is.go)))

        by-order : i + n ≤ mid → width (take (cut_at r mid z) text) < width (take (cut_at r (i + n) z) text) → ⊥
        by-order l less = elim (cases_eq (i + n) mid) [
          | inl same ↦ (let cut = ap (λ x. width (take (cut_at r x z) text)) same in omega (arith, less, cut))
          | inr other ↦ (let more = e.cuts (i + n) mid (lt_of_le-ne l other) b.is.go in omega (arith, less, more))
        ]

    abbrev left : ℕ
    left = n - d

    left-is : n ≡ d + left
    left-is = let l = in-order in omega (arith, l)

    left-some : 0 < left
    left-some = let l = in-order in omega (arith, l)

    sum-is : mid + left ≡ i + n
    sum-is = let l = left-is in omega (arith, l)

    -- the candidate's pieces from there on
    abbrev rest_of_it : Candidate
    rest_of_it = record c { start = first.start; from = first.from }

    rest-is : IsPieces k edit r rest_of_it mid left past t
    rest-is =
        let here = subst (λ m. AllGo (first_of m q)) (sym sum-is) (first-go entry e c i n past t a.is) in
        grind (arith, end-split-at, sum-is, go-second, first-split, left-some)

    -- ---- what passes

    serves : ServesMore k edit r i d
    serves = one-reading-law k edit r i d b.is.go looks

    reads : ReadsFrom mid
    reads = e.reads first mid n0 past0 t0 b.is looks

    abbrev On : ℕ → Type 0
    On m = PassesOn k edit first c (read_from mid) (e.number (i + n)) (e.number (i + n)) (first_end (i + n) q).value m

    abbrev Test : ℕ → Trivia → Type 0
    Test m u = PassesPieces k edit r i n (d + m) past t u

    some-n : 0 < n
    some-n = let l = left-is in omega (arith, l)

    -- A given number of pieces of the reading pass where the old ones together with them do.
    record Passed (m : ℕ) : Type 0 where
      behind : Trivia
      go : AllGo (then_of mid m v)
      known : (then_end mid m v).state.known ≡ Some behind
      test : Test m behind
      nodes : nodes_now r mid m behind w ≡ nodes_by k (read_from mid) m

    to-test : (m : ℕ) → On m → Passed m
    to-test m h =
        let go = reads.go m h.go in
        let u = reads.known m go in
        let x = reads.alike m u.trivia go u.is in
        record {
          behind = u.trivia;
          go = go;
          known = u.is;
          test = (serves.passes n m past t u.trivia).1 (
            record { old_go = a.is.go_on; after = (e.behind c i n past t a.is some-n).0 h.behind; known = a.is.known; ends = a.is.ends },
            record {
              new_go = go;
              known_now = u.is;
              shifted = x.sum ∙ from-shifted c past a.is.end mid m b.is.early (room-here entry e c i n past t a.is) h.shifted;
              agrees = (let met = subst (λ y. MeetsOn es which (e.number (i + n)) (c.start < first.start) m (first_end (i + n) q).value y) (sym x.value) h.meets in
                  agrees-by entry e c i n past t a.is (d + m) (then_end mid m v).value (λ no. (omega arith, (met.goes_on no).1)) met.block_end);
            },
          );
          nodes = x.nodes;
        }

    from-test : (m : ℕ) (u : Trivia) → Test m u → On m × (nodes_now r mid m u w ≡ nodes_by k (read_from mid) m)
    from-test m u h =
        let parts = (serves.passes n m past t u).0 h in
        let x = reads.alike m u parts.1.new_go parts.1.known_now in (
          record {
            behind = (e.behind c i n past t a.is some-n).1 parts.0.after;
            go = x.go;
            shifted = to-shifted c past a.is.end mid m (sym x.sum ∙ parts.1.shifted);
            meets = (let met = meets-by entry e c i n past t a.is (d + m) (carried_by k (read_from mid) m) (subst (λ y. Agrees r (is_over i n q) (d + m) (then_end i n q).value y) x.value parts.1.agrees) in
                record { goes_on = λ no. (inl starts-later, (met.goes_on no).1); block_end = met.block_end });
          },
          x.nodes,
        )

    -- ---- the tree

    first-more : AllGo (first_of (suc mid) q)
    first-more = let sum : i + n ≡ suc mid + ((i + n) - suc mid) = omega (arith, in-order) in grind (arith, first-go entry e c i n past t a.is, go-first, first-split)

    between : StandsBetween k (text_before edit) r i d c.from first.from
    between = record {
      first = λ none. none-led none;
      starts = λ some. subst (λ x. StandsAt (run_from r) (kids_of_run r) c.from x) a.is.start (seat-stands edit.front edit.old (run_from r) (kids_of_run r) c a.seat (a.is.led.0 some));
      ends = subst (λ x. StandsAt (run_from r) (kids_of_run r) first.from x) b.is.start (seat-stands edit.front edit.old (run_from r) (kids_of_run r) first b.seat (b.is.led.0 (omega arith)));
    }
      where
        none-led : i ≡ 0 → c.from ≡ 0
        none-led none = elim (eq-zero-or-pos c.from) [ inl is ↦ is | inr some ↦ (let more = a.is.led.1 some in absurd (omega (arith, more, none))) ]

    put : (m : ℕ) (u : Trivia) → AllGo (then_of mid m v) → (then_end mid m v).state.known ≡ Some u
        → replaced_at c.path c.from c.to (nodes_now r i (d + m) u w) root ≡ replaced_at c.path first.from c.to (nodes_now r mid m u w) root
    put m u go known =
        let x = e.known mid b.is.go in
        let order = seats-in-order edit.front edit.old (run_from r) (kids_of_run r) c first a.seat b.seat in
        subst (λ path. replaced_at path c.from c.to (nodes_now r i (d + m) u w) root ≡ replaced_at path first.from c.to (nodes_now r mid m u w) root) a.path
        (put-behind-law k edit r i d m x.trivia u c.from first.from c.to root same (omega arith) first-more looks x.is clear between order go known)

    pub later : ServedBy root first c (record { reading = read_from mid; mid = e.number mid; from = e.number i; to = e.number (i + n); looks = e.number (i + n); carried_end = (first_end (i + n) q).value })
    later = record {
      earlier = (let l = e.rises i mid (omega arith) (e.most mid b.is.go) in omega (arith, l));
      until = (let l = e.rises mid (i + n) in-order (fits entry e c i n past t a.is) in omega (arith, l));
      gives = λ ts h.
          (let p = a.passes ts h in
          let m = p.0 - d in
          let sum : p.0 ≡ d + m = omega (arith, serves.least n p.0 past t p.1 p.2) in
          let test : Test m p.1 = subst (λ x. PassesPieces k edit r i n x past t p.1) sum p.2 in
          let on = from-test m p.1 test in
          let parts = ((serves.passes n m past t p.1).0 test).1 in
          (m, on.0, ap (λ us. replaced_at c.path c.from c.to us root) (p.3 ∙ ap (λ x. nodes_now r i x p.1 w) sum) ∙ put m p.1 parts.new_go parts.known_now ∙ ap (λ us. replaced_at c.path first.from c.to us root) on.1));
      gives_too = λ m h.
          (let p = to-test m h in
          let ts = nodes_now r i (d + m) p.behind w in
          (ts, of_pieces r i n (d + m) past t p.behind a.whole a.path a.is.start a.is.led a.is.end p.test refl, put m p.behind p.go p.known ∙ ap (λ us. replaced_at c.path first.from c.to us root) p.nodes));
      units = λ m h some.
          (let p = to-test m h in
          let all = a.joint (d + m) p.behind p.test in
          let was = same-end q i n mid left (sym sum-is) in
          let ends = same-end v i (d + m) mid m (omega arith) in
          let joint : PassesJoint k edit r mid left m past t p.behind = record {
            encloses = all.encloses;
            first_go = rest-is.go;
            old_go = rest-is.go_on;
            new_go = p.go;
            before = looks;
            after = (e.behind rest_of_it mid left past t rest-is left-some).0 (subst (λ x. rear_in k edit ≤ e.number x) (sym sum-is) ((e.behind c i n past t a.is some-n).1 p.test.after));
            ends = rest-is.ends;
            shifted = omega (arith, ends.taken, all.shifted);
            meets = meets-too q _ _ (then_end i n q) (then_end mid left q) (then_end i (d + m) v) (then_end mid m v) t p.behind was.place was.value was.state ends.value ends.state all.meets;
          } in
          e.exchanged big_new rest_of_it mid left m past t p.behind rest-is joint (omega arith) (omega arith)
          ∙ ap (λ x. spliced (e.number mid) (e.number x) (entries_by first.start (notes_by k (read_from mid) m)) (units_of (log k text))) sum-is);
    }

  -- ---- where the reading begins with the candidate

  module _ (entry : ℕ) (root : Tree) (first c : Candidate) (g : FoundRun k edit c which levels entry) (starts : c.start ≡ first.start) (from : c.from ≡ first.from) (begun : g.from < front_in k edit) where
    abbrev OnOwn : ℕ → Type 0
    OnOwn m = PassesOn k edit first c (reading_of g) g.to g.looks g.carried_end m

    abbrev Own : ℕ → Type 0
    Own m = PassesRead k edit c (reading_of g) g.from g.to g.looks g.carried_end m

    not-led : c.start < first.start → ⊥
    not-led l = omega (arith, l, starts)

    own-from : (m : ℕ) → OnOwn m → Own m
    own-from m h = grind arith

    own-to : (m : ℕ) → Own m → OnOwn m
    own-to m h = record { behind = h.behind; go = h.go; shifted = h.shifted; meets = record { goes_on = λ more. (let x = h.meets.goes_on more in (inr x.0, x.1)); block_end = h.meets.block_end } }

    put-there : (m : ℕ) → replaced_at c.path c.from c.to (nodes_by k (reading_of g) m) root ≡ replaced_at c.path first.from c.to (nodes_by k (reading_of g) m) root
    put-there m = ap (λ x. replaced_at c.path x c.to (nodes_by k (reading_of g) m) root) from

    ends-rise : (a b : ℕ) → Ends es entry c a b → a ≤ b
    ends-rise a b h = grind arith

    at-start : ServedBy root first c (record { reading = reading_of g; mid = g.from; from = g.from; to = g.to; looks = g.looks; carried_end = g.carried_end })
    at-start = record {
      earlier = omega arith;
      until = ends-rise g.from g.to g.ends;
      gives = λ ts h. (let p = (g.gives ts).0 h in (p.0, own-to p.0 p.1, ap (λ us. replaced_at c.path c.from c.to us root) p.2 ∙ put-there p.0));
      gives_too = λ m h. (let ts = nodes_by k (reading_of g) m in (ts, (g.gives ts).1 (m, own-from m h, refl), put-there m));
      units = λ m h some.
          g.units m (own-from m h) (λ block. (let x = some block in (x.0, right-of not-led x.1)))
          ∙ ap (λ b. spliced g.from g.to (entries_by b (notes_by k (reading_of g) m)) (units_of (log k text))) starts;
    }

  -- ---- both

  -- What is found of a candidate is what its pieces say.
  module _ (entry : ℕ) (e : Entered entry) (c : Candidate) (i n past : ℕ) (t : Trivia) (p : IsPieces k edit r c i n past t) (g : FoundRun k edit c which levels entry) where
    found-from : g.from ≡ e.number i
    found-from = (ends-are entry e c i n past t p g.from g.to g.ends).0

    found-reading : g.from < front_in k edit → reading_of g ≡ read_from i
    found-reading begun =
        let carried = says-once es g.from (e.number i) g.carried (first_end i q).value g.says (e.says i (omega (arith, fits entry e c i n past t p))) found-from in
        let cut = cut_at r i z in
        let early = p.early in
        let bytes : width (take cut text) ≡ width (take cut now) = ap width (take-append-le cut edit.front (edit.old ++ edit.rest) early ∙ sym (take-append-le cut edit.front (edit.new ++ edit.rest) early)) in
        let there = moved-min g.at (start_of now) in
        let same = take-same (min g.at (length now)) cut now (omega arith) (omega (arith, early, length-append edit.front (edit.new ++ edit.rest))) (sym (byte-at (min g.at (length now)) now) ∙ ap position there ∙ (g.start_now begun ∙ p.start ∙ bytes)) in
        let place = sym there ∙ ap (λ n. moved n (start_of now)) same in
        (λ x. reading_on which levels (carried x) (place x))

  module _ (entry : ℕ) (e : Entered entry) (root : Tree) (same : bare root ≡ bare (tree k (text_before edit))) (first c : Candidate) (i n past n0 past0 : ℕ) (t t0 : Trivia) (a : Chosen entry e c i n past t)
      (f : FoundRun k edit first which levels entry) (g : FoundRun k edit c which levels entry) (begun : f.from < front_in k edit) (big_new : width now < 2 ^ 64 - 1) where
    served-by : (d : ℕ) → Chosen entry e first (i + d) n0 past0 t0 → ServedBy root first c (record { reading = reading_of f; mid = f.from; from = g.from; to = g.to; looks = g.looks; carried_end = g.carried_end })
    served-by zero b =
        let none : i + zero ≡ i = omega arith in
        let starts = a.is.start ∙ ap (λ m. width (take (cut_at r m z) text)) (sym none) ∙ sym b.is.start in
        let led : 0 < c.from ↔ 0 < first.from = ((λ l. b.is.led.0 (subst (λ m. 0 < m) (sym none) (a.is.led.1 l))), (λ l. a.is.led.0 (subst (λ m. 0 < m) none (b.is.led.1 l)))) in
        let from =
        neither c.from first.from (λ l. not-before edit.front edit.old (run_from r) (kids_of_run r) c first a.seat b.seat starts (led.1 (omega (arith, l))) l) (λ l. not-before edit.front edit.old (run_from r) (kids_of_run r) first c b.seat a.seat (sym starts) (led.0 (omega (arith, l))) l) in
        let mid : g.from ≡ f.from = found-from entry e c i n past t a.is g ∙ ap e.number (sym none) ∙ sym (found-from entry e first (i + zero) n0 past0 t0 b.is f) in
        let there : g.from < front_in k edit = omega (arith, begun, mid) in
        let reading : reading_of g ≡ reading_of f = found-reading entry e c i n past t a.is g there ∙ ap read_from (sym none) ∙ sym (found-reading entry e first (i + zero) n0 past0 t0 b.is f begun) in
        subst (λ x. ServedBy root first c x) (λ x. record { reading = reading x; mid = mid x; from = g.from; to = g.to; looks = g.looks; carried_end = g.carried_end }) (at-start entry root first c g starts from there)
    served-by (suc j) b =
        let mid = found-from entry e first (i + suc j) n0 past0 t0 b.is f in
        let there : e.number (i + suc j) < front_in k edit = omega (arith, begun, mid) in
        let reading = found-reading entry e first (i + suc j) n0 past0 t0 b.is f begun in
        let from = found-from entry e c i n past t a.is g in
        let to = (ends-are entry e c i n past t a.is g.from g.to g.ends).1 in
        let end = says-once es g.to (e.number (i + n)) g.carried_end (first_end (i + n) q).value g.says_end (e.says (i + n) (fits entry e c i n past t a.is)) to in
        let looks = looks-are entry e c i n past t a.is g.from g.to g.looks g.looks_from from (some-n entry e root same first c i j n past n0 past0 t t0 a b there big_new) ∙ to in
        subst (λ x. ServedBy root first c x) (λ x. record { reading = sym reading x; mid = sym mid x; from = sym from x; to = sym to x; looks = sym looks x; carried_end = sym end x }) (later entry e root same first c i j n past n0 past0 t t0 a b there big_new)

    -- A reading that begins with one candidate serves each that begins there or earlier.
    pub served : (i0 : ℕ) → Chosen entry e first i0 n0 past0 t0 → c.start ≤ first.start → Served k edit root which levels entry first c f g
    served i0 b l =
        let sum : i0 ≡ i + (i0 - i) = (let most = not-less i i0 (λ less. (let more = e.cuts i0 i less a.is.go in let one = a.is.start in let two = b.is.start in omega (arith, more, one, two, l))) in omega (arith, most)) in
        let s = served-by (i0 - i) (subst (λ m. Chosen entry e first m n0 past0 t0) sum b) in
        record { earlier = s.earlier; until = s.until; order = seats-in-order edit.front edit.old (run_from r) (kids_of_run r) c first a.seat b.seat; gives = s.gives; gives_too = s.gives_too; units = s.units }
