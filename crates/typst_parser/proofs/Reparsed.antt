-- A tree that answers an edit.
use Rattle.typst_parser.proofs.Cited.{◌≡◌, ℕ, zero, suc, ◌+◌, ◌-◌, ◌<◌, ◌≤◌, ◌^◌, Bool, true, IsTrue, List, [], ◌∷◌, ◌++◌, length, take, drop, length-append, length-take-le, length-drop, Option, Some, None, ap, sym, subst, ◌∙◌, arith, chars, Range, encodes-chars, Tree, bare, forest, joined, text_of, start_at, start_in, or_none, At, Reaches, kids_of, replaced_at, replaces_text, start_le, text_bare, CharClasses, width, Candidate, IsAnswer, part, whole, StandsIn, Every, tree, log, listed, candidate-places-law, tree-inner, leaves, width-append, TextReplacement, text_before, text_after, Makes, Holds, candidates, Units, units_of, NonePasses, Takes, Reread, Replacement, Held, AreNumbered, AreOrdered, file_of, numbered_in, Answers, change_of, Edits, IsEdited, IsPlaced, IsPlacedBy, KeepsRecords, ReadsWhole, change_by, AreInOrder, IsNumbered, numbers_of}
use Rattle.std.specs.Prelude.{IfSome, slice_get}
use Rattle.typst_parser.proofs.Changed.{after, before, long-now, makes, utf8-now, width-chars}
use Rattle.typst_parser.proofs.Fresh.{fresh-file, fresh-numbers, placed-new}
use Rattle.typst_parser.proofs.Replaced.{Stays, replaced-stays, few-nodes}

-- ---- numbers after an answer

-- the numbers of a tree, and those of its root, are in order in the file of another
record IsHeldAs (was now : Tree) : Type 0 where
  file : file_of now ≡ file_of was
  numbers : AreNumbered (file_of was) now
  placed : IsPlaced (file_of was) now

abbrev pub KeepsNumbers : Tree → Tree → Type 0
KeepsNumbers was now = IsNumbered was → IsNumbered now × AreInOrder (numbers_of now)

placed-part : (file : Option ℕ) (was now : Tree) → Stays was now → KeepsNumbers was now → IsPlaced file was → IsPlaced file now
placed-part file was now s order p = grind arith

numbers-part : (file : Option ℕ) (was now : Tree) → Stays was now → KeepsNumbers was now → AreNumbered file was → IsPlaced file was → AreNumbered file now
numbers-part None was now s order a p = absurd (s.numbered a)
numbers-part (Some file) was now s order a p =
    let placed = placed-part (Some file) was now s order p in
    record { spans = s.spans file a.spans; order = (order p.0).1; few = few-nodes now placed.0 placed.1 placed.2 }

ordered-whole : (file : Option ℕ) (was now : Tree) → KeepsNumbers was now → IsPlaced file was → AreOrdered file now
ordered-whole file was now order p = grind arith

placed-whole : (file : Option ℕ) (was now : Tree) → KeepsNumbers was now → IsPlaced file was → IsPlacedBy file now
placed-whole file was now order p = grind arith

-- ---- where a candidate's children stand

joined-rises : (i j : ℕ) (ts : List Tree) → i ≤ j → length (joined (forest (take i ts))) ≤ length (joined (forest (take j ts)))
joined-rises zero j ts h = omega arith
joined-rises (suc i) zero ts h = absurd (omega (arith, h))
joined-rises (suc i) (suc j) [] h = omega arith
joined-rises (suc i) (suc j) (t ∷ ts) h =
    omega (arith, joined-rises i j ts (omega (arith, h)), length-append t.head.text (joined t.kids ++ joined (forest (take i ts))), length-append t.head.text (joined t.kids ++ joined (forest (take j ts))), length-append (joined t.kids) (joined (forest (take i ts))), length-append (joined t.kids) (joined (forest (take j ts))))

start-rises : (path : List ℕ) (i j : ℕ) (t : Tree) → Reaches path i j t → start_at path i t ≤ start_at path j t
start-rises [] i j t r = omega (arith, joined-rises i j (kids_of t) r.1)
start-rises (n ∷ path) i j t r = below (slice_get (kids_of t) n) r (start-rises path i j)
  where
    below : (o : Option Tree) → At (Reaches path i j) o → ((k : Tree) → Reaches path i j k → start_at path i k ≤ start_at path j k) → start_in n t + or_none (start_at path i) o ≤ start_in n t + or_none (start_at path j) o
    below o q f = grind arith

middle-of : {X : Type 0} (P : X → Type 0) (earlier : List X) (x : X) (later : List X) → Every P (earlier ++ x ∷ later) → P x
middle-of P [] x later h = h.0
middle-of P (y ∷ earlier) x later h = middle-of P earlier x later h.1

-- ---- what answers an edit

module _ (k : CharClasses) (edit : TextReplacement) (was now : Tree) (range : Range ℕ) (same : bare was ≡ bare (tree k (text_before edit))) (is_now : bare now ≡ bare (tree k (text_after edit))) where
  abbrev cs : List Candidate
  cs = candidates k edit was

  inner : IsTrue was.head.is_inner
  inner = subst (λ (b : Bool). IsTrue b) (sym (ap (λ (t : Tree). t.head.is_inner) same)) (tree-inner k (text_before edit))

  stands : (earlier : List Candidate) (c : Candidate) (later : List Candidate) → cs ≡ earlier ++ c ∷ later → StandsIn was c
  stands earlier c later split =
      grind (arith, candidate-places-law (listed (log k (text_before edit)).notes) (width edit.front) (width (edit.front ++ edit.old)) was inner (omega (arith, width-append edit.front edit.old)), middle-of)

  held-part : (path : List ℕ) (from to : ℕ) (ts : List Tree) → Reaches path from to was → replaced_at path from to ts was ≡ Some now → KeepsNumbers was now → AreNumbered (file_of was) was → IsPlaced (file_of was) was → IsHeldAs was now
  held-part path from to ts reaches put order numbers placed = grind (arith, replaced-stays, numbers-part, order, placed-part)

  held : IsAnswer k edit cs was now range → KeepsNumbers was now → AreNumbered (file_of was) was → IsPlaced (file_of was) was → IsHeldAs was now
  held (part earlier c later ts split refused gives put start end) order numbers placed = held-part c.path c.from c.to ts (stands earlier c later split).reaches put order numbers placed
  held (whole refused is bytes) order numbers placed = grind (arith, fresh-file, fresh-numbers, ordered-whole, order, placed-new, tree-inner, placed-whole)

  -- ---- its range

  record Lies (n : ℕ) : Type 0 where
    ordered : range.start ≤ range.end
    within : range.end ≤ n

  lies : IsAnswer k edit cs was now range → length (text_of was) ≡ width (text_before edit) → length (text_of now) ≡ width (text_after edit) → Lies (width (text_after edit))
  lies (part earlier c later ts split refused gives put start end) long long_now =
      let s = stands earlier c later split in
      let from = start_at c.path c.from was in
      let to = start_at c.path c.to was in
      let rises = start-rises c.path c.from c.to was s.reaches in
      let within = start_le c.path c.to was in
      let text = ap length (replaces_text c.path c.from c.to ts was now s.reaches put) in
      let sum : length (text_of now) + to ≡ from + length (joined (forest ts)) + length (text_of was) = omega (arith, text, rises, within, length-append (take from (text_of was)) (joined (forest ts) ++ drop to (text_of was)), length-append (joined (forest ts)) (drop to (text_of was)), length-take-le from (text_of was) (omega (arith, rises, within)), length-drop to (text_of was)) in
      let widths : width (text_before edit) + width edit.new ≡ width (text_after edit) + width edit.old = omega (arith, width-append edit.front (edit.old ++ edit.rest), width-append edit.old edit.rest, width-append edit.front (edit.new ++ edit.rest), width-append edit.new edit.rest) in
      grind arith
  lies (whole refused is bytes) long long_now = record { ordered = omega (arith, ap (λ (r : Range ℕ). r.start) bytes); within = omega (arith, ap (λ (r : Range ℕ). r.end) bytes) }

-- ---- a source whose text was edited

module _ {C : Type 0} (k : CharClasses) (old now : Held C) (e : Replacement) (h : IsEdited old.text now.text e) (units : Units) (had : KeepsRecords k old units) where
  abbrev c : TextReplacement
  c = change_by h

  tree-was : bare old.root ≡ bare (tree k (text_before c))
  tree-was = had.headline.tree ∙ ap (λ s. bare (tree k s)) (sym (before old.text now.text e h))

  -- its tree and its units are those of the edit
  pub holds : Holds k c old.root units
  holds = record { tree_is = tree-was; units_are = had.are.are ∙ ap (λ s. units_of (log k s)) (sym (before old.text now.text e h)) }

  -- a text that is as the new one
  module _ (text : List ℕ) (is : text ≡ now.text) (fits : length now.text < 2 ^ 64 - 1) where
    -- it is what the edit makes
    pub makes-text : Makes c text e
    makes-text = subst (λ t. Makes c t e) (sym is) (makes old.text now.text e h had.are.fits fits)

    -- where a part was read
    module _ (units_now : Units) (read : Reread) (outcome : Option Reread) (some : outcome ≡ Some read)
        (part : (x : TextReplacement) → Makes x text e → Holds k x old.root units → IfSome outcome (λ r. Takes k x old.root now.root units_now r.range)) (ordered : IfSome outcome (λ r. KeepsNumbers old.root now.root)) where
      takes : Takes k c old.root now.root units_now read.range
      takes = subst (λ (o : Option Reread). IfSome o (λ r. Takes k c old.root now.root units_now r.range)) some (part c makes-text holds)

      order : KeepsNumbers old.root now.root
      order = subst (λ (o : Option Reread). IfSome o (λ r. KeepsNumbers old.root now.root)) some ordered

      tree-again : bare now.root ≡ bare (tree k (chars now.text))
      tree-again = takes.tree_is ∙ ap (λ s. bare (tree k s)) (sym (after old.text now.text e h))

      leaves-again : text_of now.root ≡ now.text
      leaves-again = sym (text_bare now.root) ∙ ap text_of tree-again ∙ text_bare (tree k (chars now.text)) ∙ leaves k (chars now.text) ∙ encodes-chars now.text (utf8-now old.text now.text e h)

      held-again : IsHeldAs old.root now.root
      held-again = held k c old.root now.root read.range tree-was takes.tree_is takes.answer order had.headline.numbers had.placed

      -- the records are those of the text now
      pub records-again : KeepsRecords k now units_now
      records-again = record {
        headline = record {
          tree = tree-again;
          leaves = leaves-again;
          numbers = subst (λ f. AreNumbered f now.root) (sym held-again.file) held-again.numbers;
        };
        placed = subst (λ f. IsPlaced f now.root) (sym held-again.file) held-again.placed;
        are = record { are = takes.units_are ∙ ap (λ s. units_of (log k s)) (sym (after old.text now.text e h)); fits = fits };
      }

      range-again : Lies k c old.root now.root read.range tree-was takes.tree_is (width (text_after c))
      range-again =
          lies k c old.root now.root read.range tree-was takes.tree_is takes.answer
          (ap length had.headline.leaves ∙ sym (width-chars old.text h.utf8_old) ∙ ap width (sym (before old.text now.text e h)))
          (ap length leaves-again ∙ sym (long-now old.text now.text e h))

      pub edits-again : now.id ≡ old.id → now.classes ≡ old.classes → now.has_records ≡ true → Edits k old now now.text read.range
      edits-again id classes has = grind (arith, records-again, held-again, range-again, long-now)

      pub answer-again : IsAnswer k c (candidates k c old.root) old.root now.root read.range
      answer-again = takes.answer

-- ---- what an edit of a source answers

module _ {C : Type 0} (k : CharClasses) (old now : Held C) (with : List ℕ) (r : Range ℕ) (n : ℕ) (lines : List ℕ) (h : IsEdited old.text lines (record { start = r.start; old_end = r.end; new_end = n })) (same : h.with ≡ with) (range : Range ℕ) where
  abbrev Answered : List ℕ → Type 0
  Answered new = let c = change_of old.text r new in IsAnswer k c (candidates k c old.root) old.root now.root range

  is-whole : ReadsWhole k old now lines range → NonePasses k (change_by h) old.root → Answered h.with
  is-whole w none =
      let text = after old.text lines (record { start = r.start; old_end = r.end; new_end = n }) h in
      let long = long-now old.text lines (record { start = r.start; old_end = r.end; new_end = n }) h in
      grind arith

  -- the whole was read
  pub answers-whole : now.text ≡ lines → ReadsWhole k old now lines range → (old.has_records ≡ true → length lines < 2 ^ 64 - 1 → NonePasses k (change_by h) old.root) → Answers k old now r with range
  answers-whole is w none = record {
    recorded = λ has. subst Answered same (is-whole w (none has w.fits));
    unrecorded = λ has. (w.range_is ∙ ap (λ (t : List ℕ). record { start = 0; end = length t }) (sym is), ap (λ (t : List ℕ). numbered_in (file_of old.root) (tree k (chars t))) is ∙ w.root);
  }
