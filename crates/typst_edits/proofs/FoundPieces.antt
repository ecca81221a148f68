-- What the entries of notes say of the pieces of a run, whose notes stand among others, nested in each other.
use Rattle.typst_edits.proofs.Cited.{◌≡◌, ℕ, suc, ◌+◌, ◌<◌, ◌==◌, ne_eqb, eq-eqb, Bool, true, false, ◌&&◌, if◌then◌else◌, List, [], ◌∷◌, ◌++◌, length, take, drop, length-append, append_assoc, Option, Some, None, refl, ap, sym, ◌∙◌, subst, arith, ◌≤◌, Mark, Note, EntryKind, closing_of, entry_kind_of, entries_by, last_start, count_of, entry_of, Nested, IsRising, closing-found, Every, of_level, Numbered, cut_after, SaysOf, width, Entry, End, IsLast, BeginsAt, SaysPiece, if-true, if-false, token-of}
use Rattle.typst_candidates.specs.Cursors.{leads, inside_after, piece_of, first_piece}
use Rattle.typst_candidates.specs.Entries.{end_of}
use Rattle.typst_candidates.specs.Nested.{none, piece, block}
use Rattle.typst_edits.proofs.Every.{first_or}
use Rattle.typst_edits.proofs.InnerNumbers.{behind-first}
use Rattle.typst_edits.proofs.NestedInner.{longer}
use Rattle.typst_edits.proofs.NumberedNotes.{level-append, level-at, level-long, numbered-at}
use Rattle.typst_edits.proofs.EntryNumbers.{got-entry, past-entry}
use Rattle.typst_language.specs.declared.calls.Mark.TheVariants as mark

-- ---- the pieces of a run among the entries of nested notes: they begin at the notes of the run's level, one after the other

-- ---- by the notes

-- what comes after a note, in a given number of blocks of a run, unless the run's own block ends there
abbrev further : EntryKind → ℕ → (ℕ → Option ℕ) → Option ℕ
further t inside f = elim (inside_after t inside) as (λ _. Option ℕ) [ None ↦ None | Some m ↦ f m ]

-- The number of the first of some notes that has a property and at which a piece of a run begins, in a given number of blocks of the run.
abbrev pub first_own : (Note → Bool) → ℕ → ℕ → List Note → Option ℕ
first_own p inside number [] = None
first_own p inside number (n ∷ ns) =
    let t = entry_kind_of n.mark n.state in
    if leads t inside && p n then Some number else further t inside (λ m. first_own p m (suc number) ns)

same-further : (o : Option ℕ) (f g : ℕ → Option ℕ) → ((m : ℕ) → f m ≡ g m) → elim o as (λ _. Option ℕ) [ None ↦ None | Some m ↦ f m ] ≡ elim o as (λ _. Option ℕ) [ None ↦ None | Some m ↦ g m ]
same-further o f g h = grind arith

-- The entries say the same.
pub piece-found : (at inside start number : ℕ) (ns : List Note) → IsRising start ns → piece_of at inside start number (entries_by start ns) ≡ first_own (λ n. n.start == at) inside number ns
piece-found at inside start number [] r = refl
piece-found at inside start number (n ∷ ns) r =
    let t = entry_kind_of n.mark n.state in
    let es = entries_by n.start ns in
    ap (λ (here : ℕ). if leads t inside && here == at then Some number else further t inside (λ m. piece_of at m here (suc number) es)) (token-of start n r.0 r.1)
    ∙ ap (λ u. if leads t inside && n.start == at then Some number else u) (same-further (inside_after t inside) (λ m. piece_of at m n.start (suc number) es) _ (λ m. piece-found at m n.start (suc number) ns r.2))

if-and : (b : Bool) (x y : Option ℕ) → (if b then x else y) ≡ (if b && true then x else y)
if-and true x y = refl
if-and false x y = refl

pub first-found : (inside start number : ℕ) (ns : List Note) → first_piece inside number (entries_by start ns) ≡ first_own (λ n. true) inside number ns
first-found inside start number [] = refl
first-found inside start number (n ∷ ns) =
    let t = entry_kind_of n.mark n.state in
    let es = entries_by n.start ns in
    if-and (leads t inside) (Some number) _
    ∙ ap (λ u. if leads t inside && true then Some number else u) (same-further (inside_after t inside) (λ m. first_piece m (suc number) es) _ (λ m. first-found m n.start (suc number) ns))

-- ---- of a level

level-other : (lv : ℕ) (n : Note) (ns : List Note) → n.levels < lv → of_level lv (n ∷ ns) ≡ of_level lv ns
level-other lv n ns l = if-false (n.levels == lv) _ _ (ne_eqb n.levels lv (λ e. omega (arith, e, l)))

-- A block says none of it whose notes say none.
level-block : (lv : ℕ) (o c : Note) (inner later : List Note) → c.levels ≡ o.levels → o.levels < lv → of_level lv inner ≡ [] → of_level lv (o ∷ (inner ++ c ∷ later)) ≡ of_level lv later
level-block lv o c inner later same less alone = grind (arith, level-other, level-append)

-- Notes in fewer levels say none.
level-none : (lv deep : ℕ) (ns : List Note) → Nested deep ns → deep < lv → of_level lv ns ≡ []
level-none lv deep ns (none _) l = refl
level-none lv deep ns (piece _ n ms line brackets m e more) l = level-other lv n ms (omega (arith, e, l)) ∙ level-none lv deep ms more l
level-none lv deep ns (block _ o c inner later b m n same less nest rest) l =
    let low : o.levels < lv = omega (arith, less, l) in level-block lv o c inner later same low (level-none lv o.levels inner nest low) ∙ level-none lv deep later rest l

-- ---- past nested notes

own-by : (p : Note → Bool) (inside number : ℕ) (n : Note) (ns : List Note) (m : Mark) → n.mark ≡ m
    → first_own p inside number (n ∷ ns) ≡ (let t = entry_kind_of m n.state in if leads t inside && p n then Some number else further t inside (λ i. first_own p i (suc number) ns))
own-by p inside number n ns m e = cc

flat-block : (o c : Note) (inner later ms : List Note) → (o ∷ (inner ++ c ∷ later)) ++ ms ≡ o ∷ (inner ++ (c ∷ (later ++ ms)))
flat-block o c inner later ms = ap (λ vs. o ∷ vs) (append_assoc inner (c ∷ later) ms)

long-block : (number : ℕ) (o c : Note) (inner later : List Note) → suc (suc number + length inner) + length later ≡ number + length (o ∷ (inner ++ c ∷ later))
long-block number o c inner later = let long = length-append inner (c ∷ later) in omega (arith, long)

module _ (p : Note → Bool) where
  -- In a block of the run no piece of the run begins.
  past-inner : (lv inside number : ℕ) (ns ms : List Note) → Nested lv ns → first_own p (suc inside) number (ns ++ ms) ≡ first_own p (suc inside) (number + length ns) ms
  past-inner lv inside number ns ms (none _) = ap (λ j. first_own p (suc inside) j ms) (omega arith)
  past-inner lv inside number ns ms (piece _ n us line brackets m e more) =
      own-by p (suc inside) number n (us ++ ms) (mark.Piece line brackets) m
      ∙ if-false (suc inside == 0 && p n) _ _ (ap (λ b. b && p n) (ne_eqb (suc inside) 0 (λ e. omega (arith, e))))
      ∙ past-inner lv inside (suc number) us ms more
      ∙ ap (λ j. first_own p (suc inside) j ms) (omega arith)
  past-inner lv inside number ns ms (block _ o c inner later b m n same less nest rest) =
      ap (first_own p (suc inside) number) (flat-block o c inner later ms)
      ∙ own-by p (suc inside) number o (inner ++ (c ∷ (later ++ ms))) (mark.Opens b) m
      ∙ past-inner o.levels (suc inside) (suc number) inner (c ∷ (later ++ ms)) nest
      ∙ own-by p (suc (suc inside)) (suc number + length inner) c (later ++ ms) mark.Closes n
      ∙ past-inner lv inside (suc (suc number + length inner)) later ms rest
      ∙ ap (λ j. first_own p (suc inside) j ms) (long-block number o c inner later)

  -- None begins where it holds of no note of the level.
  pub past-nested : (lv number : ℕ) (ns ms : List Note) → Nested lv ns → Every (λ n. p n ≡ false) (of_level lv ns) → first_own p 0 number (ns ++ ms) ≡ first_own p 0 (number + length ns) ms
  past-nested lv number ns ms (none _) h = ap (λ j. first_own p 0 j ms) (omega arith)
  past-nested lv number ns ms (piece _ n us line brackets m e more) h =
      let h_all = subst (λ ls. Every (λ n. p n ≡ false) ls) (if-true (n.levels == lv) (n ∷ of_level lv us) (of_level lv us) (eq-eqb n.levels lv e)) h in
      own-by p 0 number n (us ++ ms) (mark.Piece line brackets) m
      ∙ if-false (p n) _ _ h_all.0
      ∙ past-nested lv (suc number) us ms more h_all.1
      ∙ ap (λ j. first_own p 0 j ms) (omega arith)
  past-nested lv number ns ms (block _ o c inner later b m n same less nest rest) h =
      ap (first_own p 0 number) (flat-block o c inner later ms)
      ∙ own-by p 0 number o (inner ++ (c ∷ (later ++ ms))) (mark.Opens b) m
      ∙ past-inner o.levels 0 (suc number) inner (c ∷ (later ++ ms)) nest
      ∙ own-by p 1 (suc number + length inner) c (later ++ ms) mark.Closes n
      ∙ past-nested lv (suc (suc number + length inner)) later ms rest (subst (λ ls. Every (λ n. p n ≡ false) ls) (level-block lv o c inner later same less (level-none lv o.levels inner nest less)) h)
      ∙ ap (λ j. first_own p 0 j ms) (long-block number o c inner later)

  pub own-here : (number : ℕ) (n : Note) (ns : List Note) (line : Bool) (brackets : ℕ) → n.mark ≡ mark.Piece line brackets → p n ≡ true → first_own p 0 number (n ∷ ns) ≡ Some number
  own-here number n ns line brackets m e = own-by p 0 number n ns (mark.Piece line brackets) m ∙ if-true (p n) _ _ e

  pub own-none : (number : ℕ) (c : Note) (ns : List Note) → c.mark ≡ mark.Closes → first_own p 0 number (c ∷ ns) ≡ None
  own-none number c ns m = own-by p 0 number c ns mark.Closes m

-- Where one of them is of the level, a piece of the run begins.
pub some-own : (lv number : ℕ) (ns ms : List Note) → Nested lv ns → 0 < length (of_level lv ns) → first_own (λ n. true) 0 number (ns ++ ms) ≡ None → ⊥
some-own lv number ns ms (none _) some e = absurd (omega (arith, some))
some-own lv number ns ms (piece _ n us line brackets m f more) some e = let no = sym (own-here (λ n. true) number n (us ++ ms) line brackets m refl) ∙ e in cc
some-own lv number ns ms (block _ o c inner later b m n same less nest rest) some e =
    let p : Note → Bool = λ n. true in
    let past : first_own p 0 number ((o ∷ (inner ++ c ∷ later)) ++ ms) ≡ first_own p 0 (suc (suc number + length inner)) (later ++ ms) =
    ap (first_own p 0 number) (flat-block o c inner later ms)
    ∙ own-by p 0 number o (inner ++ (c ∷ (later ++ ms))) (mark.Opens b) m
    ∙ past-inner p o.levels 0 (suc number) inner (c ∷ (later ++ ms)) nest
    ∙ own-by p 1 (suc number + length inner) c (later ++ ms) mark.Closes n in
    some-own lv (suc (suc number + length inner)) later ms rest (subst (λ (ls : List Note). 0 < length ls) (level-block lv o c inner later same less (level-none lv o.levels inner nest less)) some) (sym past ∙ e)

-- ---- apart at a note of the level

pub record Apart (lv : ℕ) (es ls : List Note) : Type 0 where
  pub before : Nested lv es
  pub behind : Nested lv ls

pub head-same : (x y : Note) (us vs : List Note) → x ∷ us ≡ y ∷ vs → x ≡ y
head-same x y us vs e = ap (first_or x) e

pub tail-same : (x y : Note) (us vs : List Note) → x ∷ us ≡ y ∷ vs → us ≡ vs
tail-same x y us vs e = ap (λ ws. drop 1 ws) e

pub apart : (lv : ℕ) (ns es : List Note) (n : Note) (ls : List Note) → Nested lv ns → n.levels ≡ lv → ns ≡ es ++ n ∷ ls → Apart lv es ls
apart lv ns es n ls (none _) own e = absurd (let long = ap length e in let sum = length-append es (n ∷ ls) in omega (arith, long, sum))
apart lv ns [] n ls (piece _ x us line brackets m f more) own e = record { before = none lv; behind = subst (Nested lv) (tail-same x n us ls e) more }
apart lv ns (y ∷ es) n ls (piece _ x us line brackets m f more) own e =
    let i = apart lv us es n ls more own (tail-same x y us (es ++ n ∷ ls) e) in
    record { before = subst (λ z. Nested lv (z ∷ es)) (head-same x y us (es ++ n ∷ ls) e) (piece lv x es line brackets m f i.before); behind = i.behind }
apart lv ns [] n ls (block _ o c inner later b m k same less nest rest) own e = grind arith
apart lv ns (y ∷ es) n ls (block _ o c inner later b m k same less nest rest) own e =
    let f = behind-first inner c later es n ls (tail-same o y (inner ++ c ∷ later) (es ++ n ∷ ls) e) (λ xs ys g. omega (arith, longer lv xs ys inner n own g, ap length (level-none lv o.levels inner nest less)))
    (λ g. (let there = ap (λ (x : Note). x.levels) g in omega (arith, there, own, less, same))) in
    let i = apart lv later f.mid n ls rest own f.is in
    record {
      before = subst (λ z. Nested lv (z ∷ es)) (head-same o y (inner ++ c ∷ later) (es ++ n ∷ ls) e) (subst (λ us. Nested lv (o ∷ us)) (sym f.earlier) (block lv o c inner f.mid b m k same less nest i.before));
      behind = i.behind;
    }

-- ---- entries by number

pub rising-behind : (start : ℕ) (ms ns : List Note) → IsRising start (ms ++ ns) → IsRising (last_start start ms) ns
rising-behind start [] ns r = r
rising-behind start (m ∷ ms) ns r = rising-behind m.start ms ns r.2

pub entries-behind : (start : ℕ) (ms ns : List Note) → drop (length ms) (entries_by start (ms ++ ns)) ≡ entries_by (last_start start ms) ns
entries-behind start [] ns = refl
entries-behind start (m ∷ ms) ns = entries-behind m.start ms ns

pub entries-end : (start : ℕ) (ms ns : List Note) → IsRising start (ms ++ ns) → end_of start (take (length ms) (entries_by start (ms ++ ns))) ≡ last_start start ms
entries-end start [] ns r = refl
entries-end start (m ∷ ms) ns r = ap (λ (here : ℕ). end_of here (take (length ms) (entries_by m.start (ms ++ ns)))) (token-of start m r.0 r.1) ∙ entries-end m.start ms ns r.2

-- ---- notes by numbers

-- A note of a level among some notes, with a given number of notes before it; among all entries, which have those of other notes before these, a given number come first.
pub record NoteAt (lv before : ℕ) (ns : List Note) (i number : ℕ) : Type 0 where
  pub earlier : List Note
  pub note : Note
  pub later : List Note
  pub is : ns ≡ earlier ++ note ∷ later
  pub own : note.levels ≡ lv
  pub index : length (of_level lv earlier) ≡ i
  pub all : before + length earlier ≡ number

-- The note of a number says what the notes of the level do.
pub says-by : (lv : ℕ) (ns : List Note) (text : List ℕ) (e : ℕ → End (Bool × ℕ)) (ms : List Note) (n : Note) (ls : List Note) (i : ℕ) → Numbered (SaysOf text e) 0 (of_level lv ns) → ns ≡ ms ++ n ∷ ls → n.levels ≡ lv
    → length (of_level lv ms) ≡ i → SaysOf text e i n
says-by lv ns text e ms n ls i each is own index = grind (arith, numbered-at, level-at)

numbered-first : (P : ℕ → Note → Type 0) (i : ℕ) (xs ys : List Note) → Numbered P i (xs ++ ys) → Numbered P i xs
numbered-first P i [] ys h = tt
numbered-first P i (x ∷ xs) ys h = (h.0, numbered-first P (suc i) xs ys h.1)

every-numbered : (P : ℕ → Note → Type 0) (Q : Note → Type 0) (i end : ℕ) (xs : List Note) → ((m : ℕ) (n : Note) → m < end → P m n → Q n) → i + length xs ≤ end → Numbered P i xs → Every Q xs
every-numbered P Q i end [] f l h = tt
every-numbered P Q i end (x ∷ xs) f l h = (f i x (omega (arith, l)) h.0, every-numbered P Q (suc i) end xs f (omega (arith, l)) h.1)

every-second : (Q : Note → Type 0) (xs ys : List Note) → Every Q (xs ++ ys) → Every Q ys
every-second Q [] ys h = h
every-second Q (x ∷ xs) ys h = every-second Q xs ys h.1

every-none : (Q : Note → Type 0) (xs : List Note) → length xs ≡ 0 → Every Q xs
every-none Q [] e = tt
every-none Q (x ∷ xs) e = absurd (omega (arith, e))

few-level : (lv : ℕ) (xs : List Note) → length (of_level lv xs) ≤ length xs
few-level lv [] = omega arith
few-level lv (x ∷ xs) = grind (arith, few-level lv xs)

-- ---- from one note up to another

record Between (es : List Note) (o : Note) (ahead fs : List Note) (p : Note) (beyond : List Note) : Type 0 where
  mids : List Note
  earlier : fs ≡ es ++ mids
  behind : o ∷ ahead ≡ mids ++ p ∷ beyond

few-tail : (lv : ℕ) (x y : Note) (us vs : List Note) → x ≡ y → length (of_level lv (x ∷ us)) ≤ length (of_level lv (y ∷ vs)) → length (of_level lv us) ≤ length (of_level lv vs)
few-tail lv x y us vs e l = grind arith

-- Of two notes of a level the one with no more of them before it comes first.
between : (lv : ℕ) (es : List Note) (o : Note) (ahead fs : List Note) (p : Note) (beyond : List Note) → es ++ o ∷ ahead ≡ fs ++ p ∷ beyond → p.levels ≡ lv → length (of_level lv es) ≤ length (of_level lv fs) → Between es o ahead fs p beyond
between lv [] o ahead fs p beyond e own l = record { mids = fs; earlier = refl; behind = e }
between lv (x ∷ es) o ahead [] p beyond e own l = grind arith
between lv (x ∷ es) o ahead (y ∷ fs) p beyond e own l =
    let same = head-same x y (es ++ o ∷ ahead) (fs ++ p ∷ beyond) e in
    let i = between lv es o ahead fs p beyond (tail-same x y (es ++ o ∷ ahead) (fs ++ p ∷ beyond) e) own (few-tail lv x y es fs same l) in
    record { mids = i.mids; earlier = ap (λ u. u ∷ fs) (sym same) ∙ ap (λ us. x ∷ us) i.earlier; behind = i.behind }

-- What is nested up to a note of the level is nested from another one on.
nested-mids : (lv : ℕ) (fs es mids : List Note) (o : Note) (ahead : List Note) (p : Note) (beyond : List Note) (line : Bool) (brackets : ℕ) → Nested lv fs → fs ≡ es ++ mids → o ∷ ahead ≡ mids ++ p ∷ beyond
    → o.levels ≡ lv → o.mark ≡ mark.Piece line brackets → Nested lv mids
nested-mids lv fs es [] o ahead p beyond line brackets nest e f own says = none lv
nested-mids lv fs es (m ∷ ms) o ahead p beyond line brackets nest e f own says =
    let same = head-same o m ahead (ms ++ p ∷ beyond) f in
    let own_too : m.levels ≡ lv = ap (λ (n : Note). n.levels) (sym same) ∙ own in
    piece lv m ms line brackets (ap (λ (n : Note). n.mark) (sym same) ∙ says) own_too (apart lv fs es m ms nest own_too e).behind

-- ---- among entries

begins-at : (at : ℕ) (ms ns : List Note) (number : ℕ) → IsRising 0 (ms ++ ns) → first_own (λ n. n.start == at) 0 (length ms) ns ≡ Some number → BeginsAt (entries_by 0 (ms ++ ns)) (length ms) at number
begins-at at ms ns number r h = grind (arith, entries-end, entries-behind, piece-found, rising-behind)

-- What entries say of a given number of pieces of a run, by the numbers of its entries and the bytes at which the tokens after the pieces begin.
pub record FoundPieces (es : List Entry) (number cut : ℕ → ℕ) (value : ℕ → Bool × ℕ) (count : ℕ) : Type 0 where
  pub goes_on : (i j : ℕ) → i ≤ j → j ≤ count → BeginsAt es (number i) (cut j) (number j)
  pub rises : (i j : ℕ) → i < j → j ≤ count → number i < number j
  pub last : IsLast es (number count)
  pub not_last : (i : ℕ) → i < count → IsLast es (number i) → ⊥
  pub says : (i : ℕ) → i ≤ count → SaysPiece es (number i) (value i)

-- The notes of a run, nested among others: a given number of pieces, each with a note of the level whose token comes after it, and no piece of the run after them all.
pub record RunAmong (lv : ℕ) (pre ns suf : List Note) (text : List ℕ) (e : ℕ → End (Bool × ℕ)) (count : ℕ) (number : ℕ → ℕ) : Type 0 where
  pub nested : Nested lv ns
  pub rising : IsRising 0 (pre ++ (ns ++ suf))
  pub each : Numbered (SaysOf text e) 0 (of_level lv ns)
  pub long : length (of_level lv ns) ≡ suc count
  pub at : (i : ℕ) → i ≤ count → NoteAt lv (length pre) ns i (number i)
  pub cuts_rise : (i j : ℕ) → i < j → j ≤ count → width (take (cut_after i (e i)) text) < width (take (cut_after j (e j)) text)
  pub over : (number : ℕ) → first_own (λ n. true) 0 number suf ≡ None

module _ (lv : ℕ) (pre ns suf : List Note) (text : List ℕ) (e : ℕ → End (Bool × ℕ)) (count : ℕ) (number : ℕ → ℕ) (h : RunAmong lv pre ns suf text e count number) where
  abbrev all : List Note
  all = pre ++ (ns ++ suf)

  abbrev cut : ℕ → ℕ
  cut i = width (take (cut_after i (e i)) text)

  says-at : (i : ℕ) (l : i ≤ count) → SaysOf text e i (h.at i l).note
  says-at i l = let n = h.at i l in says-by lv ns text e n.earlier n.note n.later i h.each n.is n.own n.index

  -- all before the note of a number, and all from it on
  abbrev firsts_of : (i : ℕ) → i ≤ count → List Note
  firsts_of i l = pre ++ (h.at i l).earlier

  abbrev behind_of : (i : ℕ) → i ≤ count → List Note
  behind_of i l = (h.at i l).later ++ suf

  split-at : (i : ℕ) (l : i ≤ count) → all ≡ firsts_of i l ++ (h.at i l).note ∷ behind_of i l
  split-at i l = grind (arith, append_assoc)

  firsts-long : (i : ℕ) (l : i ≤ count) → length (firsts_of i l) ≡ number i
  firsts-long i l = length-append pre (h.at i l).earlier ∙ (h.at i l).all

  up-to : (i j : ℕ) (l : i ≤ count) (m : j ≤ count) → i ≤ j → Between (h.at i l).earlier (h.at i l).note (h.at i l).later (h.at j m).earlier (h.at j m).note (h.at j m).later
  up-to i j l m few =
      let a = h.at i l in
      let b = h.at j m in
      between lv a.earlier a.note a.later b.earlier b.note b.later (sym a.is ∙ b.is) b.own (omega (arith, few, a.index, b.index))

  -- None of the run's notes before one has its token where that has it.
  none-there : (i j : ℕ) (l : i ≤ count) (m : j ≤ count) (few : i ≤ j) → Every (λ n. (n.start == cut j) ≡ false) (of_level lv (up-to i j l m few).mids)
  none-there i j l m few =
      let b = h.at j m in
      let f = up-to i j l m few in
      let firsts = numbered-first (SaysOf text e) 0 (of_level lv b.earlier) (b.note ∷ of_level lv b.later) (subst (λ us. Numbered (SaysOf text e) 0 us) (ap (of_level lv) b.is ∙ level-at lv b.earlier b.note b.later b.own) h.each) in
      let apart_all : Every (λ n. (n.start == cut j) ≡ false) (of_level lv b.earlier) =
      every-numbered (SaysOf text e) (λ n. (n.start == cut j) ≡ false) 0 j (of_level lv b.earlier)
      (λ d n less says. ne_eqb n.start (cut j) (λ same. (let start = says.start in let rise = h.cuts_rise d j less m in omega (arith, same, start, rise)))) (omega (arith, b.index)) firsts in
      grind (arith, every-second, level-append)

  mids-nested : (i j : ℕ) (l : i ≤ count) (m : j ≤ count) (few : i ≤ j) → Nested lv (up-to i j l m few).mids
  mids-nested i j l m few =
      let a = h.at i l in
      let b = h.at j m in
      let f = up-to i j l m few in
      let v = (e i).value in
      nested-mids lv b.earlier a.earlier f.mids a.note a.later b.note b.later v.0 v.1 (apart lv ns b.earlier b.note b.later h.nested b.own b.is).before f.earlier f.behind a.own (says-at i l).says.mark

  mids-long : (i j : ℕ) (l : i ≤ count) (m : j ≤ count) (few : i ≤ j) → number i + length (up-to i j l m few).mids ≡ number j
  mids-long i j l m few = grind (arith, up-to, length-append)

  goes-on : (i j : ℕ) → i ≤ j → j ≤ count → BeginsAt (entries_by 0 all) (number i) (cut j) (number j)
  goes-on i j few m =
      let l : i ≤ count = omega (arith, few, m) in
      let b = h.at j m in
      let f = up-to i j l m few in
      let p : Note → Bool = λ n. n.start == cut j in
      let before = firsts_of i l in
      let behind = (h.at i l).note ∷ behind_of i l in
      let says = says-at j m in
      let v = (e j).value in
      let parts : behind ≡ f.mids ++ b.note ∷ behind_of j m = ap (λ us. us ++ suf) f.behind ∙ append_assoc f.mids (b.note ∷ b.later) suf in
      let long_i = firsts-long i l in
      let same : length before + length f.mids ≡ number j = (let sum = mids-long i j l m few in omega (arith, sum, long_i)) in
      let found : first_own p 0 (length before) behind ≡ Some (number j) =
      ap (first_own p 0 (length before)) parts
      ∙ past-nested p lv (length before) f.mids (b.note ∷ behind_of j m) (mids-nested i j l m few) (none-there i j l m few)
      ∙ own-here p (length before + length f.mids) b.note (behind_of j m) v.0 v.1 says.says.mark (eq-eqb b.note.start (cut j) says.start)
      ∙ ap Some same in
      let split = split-at i l in
      subst (λ us. BeginsAt (entries_by 0 us) (number i) (cut j) (number j)) (sym split)
      (subst (λ d. BeginsAt (entries_by 0 (before ++ behind)) d (cut j) (number j)) long_i (begins-at (cut j) before behind (number j) (subst (IsRising 0) split h.rising) found))

  -- the entries after one of the run
  pub drop-at : (i : ℕ) (l : i ≤ count) → drop (suc (number i)) (entries_by 0 all) ≡ entries_by (h.at i l).note.start (behind_of i l)
  drop-at i l =
      let n = h.at i l in
      ap (λ us. drop (suc (number i)) (entries_by 0 us)) (split-at i l) ∙ ap (λ d. drop (suc d) (entries_by 0 (firsts_of i l ++ n.note ∷ behind_of i l))) (sym (firsts-long i l)) ∙ past-entry 0 (firsts_of i l) n.note (behind_of i l)

  first-drop : (i : ℕ) (l : i ≤ count) → first_piece 0 (suc (number i)) (drop (suc (number i)) (entries_by 0 all)) ≡ first_own (λ n. true) 0 (suc (number i)) (behind_of i l)
  first-drop i l = ap (first_piece 0 (suc (number i))) (drop-at i l) ∙ first-found 0 (h.at i l).note.start (suc (number i)) (behind_of i l)

  pub later-nested : (i : ℕ) (l : i ≤ count) → Nested lv (h.at i l).later
  later-nested i l = let n = h.at i l in (apart lv ns n.earlier n.note n.later h.nested n.own n.is).behind

  is-last : IsLast (entries_by 0 all) (number count)
  is-last =
      let l : count ≤ count = omega arith in
      let n = h.at count l in
      let p : Note → Bool = λ n. true in
      let k = suc (number count) in
      let nothing : length (of_level lv n.later) ≡ 0 = omega (arith, ap (λ us. length (of_level lv us)) n.is, level-long lv n.earlier n.note n.later n.own, n.index, h.long) in
      first-drop count l ∙ past-nested p lv k n.later suf (later-nested count l) (every-none (λ n. p n ≡ false) (of_level lv n.later) nothing) ∙ h.over (k + length n.later)

  rises : (i j : ℕ) → i < j → j ≤ count → number i < number j
  rises i j less m =
      let l : i ≤ count = omega (arith, less, m) in
      let few : i ≤ j = omega (arith, less) in
      let f = up-to i j l m few in
      let sum = ap (λ us. length (of_level lv us)) f.earlier ∙ ap length (level-append lv (h.at i l).earlier f.mids) ∙ length-append (of_level lv (h.at i l).earlier) (of_level lv f.mids) in
      omega (arith, less, (h.at i l).index, (h.at j m).index, sum, few-level lv f.mids, mids-long i j l m few)

  not-last : (i : ℕ) → i < count → IsLast (entries_by 0 all) (number i) → ⊥
  not-last i less nothing =
      let l : i ≤ count = omega (arith, less) in
      let n = h.at i l in
      let few = ap (λ us. length (of_level lv us)) n.is in
      some-own lv (suc (number i)) n.later suf (later-nested i l) (omega (arith, few, level-long lv n.earlier n.note n.later n.own, n.index, h.long, less)) (sym (first-drop i l) ∙ nothing)

  says-piece : (i : ℕ) → i ≤ count → SaysPiece (entries_by 0 all) (number i) (e i).value
  says-piece i l =
      let n = h.at i l in
      let says = (says-at i l).says in
      let own : SaysPiece (entries_by 0 (firsts_of i l ++ n.note ∷ behind_of i l)) (length (firsts_of i l)) (e i).value = record {
        entry = entry_of (last_start 0 (firsts_of i l)) n.note;
        is = got-entry 0 (firsts_of i l) n.note (behind_of i l);
        kind = ap (λ (m : Mark). entry_kind_of m n.note.state) says.mark;
        count = ap (λ (m : Mark). count_of m n.note.levels) says.mark;
      } in
      subst (λ us. SaysPiece (entries_by 0 us) (number i) (e i).value) (sym (split-at i l)) (subst (λ d. SaysPiece (entries_by 0 (firsts_of i l ++ n.note ∷ behind_of i l)) d (e i).value) (firsts-long i l) own)

  pub found-pieces : FoundPieces (entries_by 0 all) number cut (λ i. (e i).value) count
  found-pieces = record { goes_on = goes-on; rises = rises; last = is-last; not_last = not-last; says = says-piece }

  -- A block ends after its run's last piece.
  pub closing : (c : Note) (later : List Note) → suf ≡ c ∷ later → c.mark ≡ mark.Closes → closing_of 0 (suc (number count)) (drop (suc (number count)) (entries_by 0 all)) ≡ Some (length pre + length ns)
  closing c later is says =
      let l : count ≤ count = omega arith in
      let n = h.at count l in
      let k = suc (number count) in
      let same : k + length n.later ≡ length pre + length ns = omega (arith, n.all, ap length n.is, length-append n.earlier (n.note ∷ n.later)) in
      ap (closing_of 0 k) (drop-at count l ∙ ap (λ us. entries_by n.note.start (n.later ++ us)) is) ∙ closing-found lv k n.note.start n.later c later (later-nested count l) says ∙ ap Some same
