-- What the entries of nested notes say without their levels: where the pieces of a run begin, and where a block ends.
use Rattle.typst_candidates.proofs.Cited.{◌≡◌, ℕ, suc, ◌+◌, ◌<◌, ◌≤◌, ◌&&◌, if◌then◌else◌, List, [], ◌∷◌, ◌++◌, append_assoc, length, length-append, None, Some, refl, ap, sym, subst, ◌∙◌, arith, nat_tests, append-nil, Note, SyntaxKind, Entry, EntryKind, run_in, entries_by, entry_of, last_start, entry_kind_of, IsRising, starts, up_to_end, after_first, top_cuts, cuts_in, same}
use Rattle.typst_language.specs.declared.calls.Mark.TheVariants as mark
use Rattle.typst_kinds.specs.declared.kind.SyntaxKind.TheVariants as kind
use Rattle.typst_candidates.specs.Cursors.{inside_after, leads, pieces_of, pieces_in, piece_run, closing_of, token_at}
use Rattle.typst_candidates.specs.Nested.{Nested, none, piece, block, Written}

-- ---- a note and its entry

-- a note's token begins where its entry says, after one before it
pub token-of : (start : ℕ) (n : Note) → start ≤ n.before → n.before ≤ n.start → token_at start (entry_of start n) ≡ n.start
token-of start n a b = omega (arith, a, b)

-- what comes after an entry, where it stands in a given number of blocks of a run
abbrev after : EntryKind → ℕ → ℕ → List Entry → List ℕ
after t inside start es = elim (inside_after t inside) as (λ _. List ℕ) [ None ↦ [] | Some further ↦ pieces_of further start es ]

pieces-here : (inside start : ℕ) (n : Note) (t : EntryKind) (es : List Entry) → start ≤ n.before → n.before ≤ n.start → entry_kind_of n.mark n.state ≡ t
    → pieces_of inside start (entry_of start n ∷ es) ≡ (if leads t inside then n.start ∷ after t inside n.start es else after t inside n.start es)
pieces-here inside start n t es a b e = grind arith

-- ---- rising notes

pub rising-second : (start : ℕ) (ns ms : List Note) → IsRising start (ns ++ ms) → IsRising (last_start start ns) ms
rising-second start [] ms h = h
rising-second start (n ∷ ns) ms h = rising-second n.start ns ms h.2

pub last-both : (start : ℕ) (ns ms : List Note) → last_start start (ns ++ ms) ≡ last_start (last_start start ns) ms
last-both start [] ms = refl
last-both start (n ∷ ns) ms = last-both n.start ns ms

-- ---- the levels

starts-both : (levels : ℕ) (ns ms : List Note) → starts levels (ns ++ ms) ≡ starts levels ns ++ starts levels ms
starts-both levels [] ms = refl
starts-both levels (n ∷ ns) ms = grind (arith, starts-both levels ns ms)

-- notes in fewer levels have no piece that says these
none-deeper : (levels deep : ℕ) (ns : List Note) → Nested deep ns → deep < levels → starts levels ns ≡ []
none-deeper levels deep ns (none l) h = refl
none-deeper levels deep ns (piece l n ms line brackets m e more) h = grind (arith, nat_tests, none-deeper levels deep ms more h)
none-deeper levels deep ns (block l o c inner later b m n same less nest rest) h =
    grind (arith, nat_tests, starts-both levels inner (c ∷ later), none-deeper levels o.levels inner nest (omega arith), none-deeper levels deep later rest h)

-- nested notes end no block that is read with as many levels
up-passes : (levels deep : ℕ) (ns ms : List Note) → Nested deep ns → deep ≤ levels → up_to_end levels (ns ++ ms) ≡ ns ++ up_to_end levels ms
up-passes levels deep ns ms (none l) h = refl
up-passes levels deep ns ms (piece l n us line brackets m e more) h = grind (arith, up-passes levels deep us ms more h)
up-passes levels deep ns ms (block l o c inner later b m n same less nest rest) h =
    rw append_assoc (grind (arith, nat_tests, append_assoc, up-passes levels o.levels inner (c ∷ (later ++ ms)) nest (omega arith), up-passes levels deep later ms rest h))

pub up-to-own-end : (levels : ℕ) (inner : List Note) (c : Note) (later : List Note) → Nested levels inner → c.mark ≡ mark.Closes → c.levels ≡ levels → up_to_end levels (inner ++ c ∷ later) ≡ inner
up-to-own-end levels inner c later nest m e = grind (arith, nat_tests, append-nil, up-passes levels levels inner (c ∷ later) nest)

-- ---- the brackets

abbrev made : ℕ → List Note → List Entry
made start ns = entries_by start ns

pub flat-block : (o c : Note) (inner later ms : List Note) → (o ∷ (inner ++ c ∷ later)) ++ ms ≡ o ∷ (inner ++ (c ∷ (later ++ ms)))
flat-block o c inner later ms = ap (λ vs. o ∷ vs) (append_assoc inner (c ∷ later) ms)

last-block : (start : ℕ) (o c : Note) (inner later : List Note) → last_start start (o ∷ (inner ++ c ∷ later)) ≡ last_start c.start later
last-block start o c inner later = last-both o.start inner (c ∷ later)

-- within a block of the run no piece of the run begins
passed : (levels inside start : ℕ) (ns ms : List Note) → Nested levels ns → IsRising start (ns ++ ms)
    → pieces_of (suc inside) start (made start (ns ++ ms)) ≡ pieces_of (suc inside) (last_start start ns) (made (last_start start ns) ms)
passed levels inside start ns ms (none l) r = refl
passed levels inside start ns ms (piece l n us line brackets m e more) r = grind (arith, passed levels inside n.start us ms more r.2)
passed levels inside start ns ms (block l o c inner later b m n same less nest rest) r =
    let rising = subst (IsRising start) (flat-block o c inner later ms) r in
    let after_inner = rising-second o.start inner (c ∷ (later ++ ms)) rising.2 in
    ap (λ us. pieces_of (suc inside) start (made start us)) (flat-block o c inner later ms)
    ∙ (grind (arith, last-both o.start inner (c ∷ later), passed o.levels (suc inside) o.start inner (c ∷ (later ++ ms)) nest rising.2, passed levels inside c.start later ms rest after_inner.2))

-- the pieces of nested notes are those that say their levels
pub found-pieces : (levels start : ℕ) (ns ms : List Note) → Nested levels ns → IsRising start (ns ++ ms)
    → pieces_of 0 start (made start (ns ++ ms)) ≡ starts levels ns ++ pieces_of 0 (last_start start ns) (made (last_start start ns) ms)
found-pieces levels start ns ms (none l) r = refl
found-pieces levels start ns ms (piece l n us line brackets m e more) r = grind (arith, nat_tests, found-pieces levels n.start us ms more r.2)
found-pieces levels start ns ms (block l o c inner later b m n same less nest rest) r =
    let rising = subst (IsRising start) (flat-block o c inner later ms) r in
    let after_inner = rising-second o.start inner (c ∷ (later ++ ms)) rising.2 in
    let own : starts levels (o ∷ (inner ++ c ∷ later)) ≡ starts levels later = grind (arith, nat_tests, starts-both levels inner (c ∷ later), none-deeper levels o.levels inner nest less) in
    ap (λ us. pieces_of 0 start (made start us)) (flat-block o c inner later ms)
    ∙ (grind (arith, last-both o.start inner (c ∷ later), passed o.levels 0 o.start inner (c ∷ (later ++ ms)) nest rising.2, found-pieces levels c.start later ms rest after_inner.2))

-- and in a block they end where the block does
pub found-in : (levels start : ℕ) (inner : List Note) (c : Note) (later : List Note) → Nested levels inner → c.mark ≡ mark.Closes → IsRising start (inner ++ c ∷ later)
    → pieces_of 0 start (made start (inner ++ c ∷ later)) ≡ starts levels inner
found-in levels start inner c later nest m r = grind (arith, rising-second, append-nil, found-pieces)

pub top-pieces : (ns : List Note) → Nested 256 ns → IsRising 0 ns → after_first (pieces_of 0 0 (entries_by 0 ns)) ≡ top_cuts ns
top-pieces ns h r =
    ap after_first (ap (λ us. pieces_of 0 0 (made 0 us)) (sym (append-nil ns)) ∙ found-pieces 256 0 ns [] h (subst (IsRising 0) (sym (append-nil ns)) r) ∙ append-nil (starts 256 ns))

-- ---- the block that begins at a byte

found-block : (levels at start : ℕ) (ns ms : List Note) → Nested levels ns → IsRising start (ns ++ ms) → pieces_in at (last_start start ns) (made (last_start start ns) ms) ≡ cuts_in at ms
    → pieces_in at start (made start (ns ++ ms)) ≡ cuts_in at (ns ++ ms)
found-block levels at start ns ms (none l) r h = h
found-block levels at start ns ms (piece l n us line brackets m e more) r h = grind (arith, nat_tests, found-block levels at n.start us ms more r.2 h)
found-block levels at start ns ms (block l o c inner later b m n same less nest rest) r h =
    let flat = flat-block o c inner later ms in
    let tail = c ∷ (later ++ ms) in
    let rising = subst (IsRising start) flat r in
    let after_inner = rising-second o.start inner tail rising.2 in
    let later_same = found-block levels at c.start later ms rest after_inner.2 (ap (λ (s : ℕ). pieces_in at s (made s ms)) (sym (last-block start o c inner later)) ∙ h) in
    let tail_same : pieces_in at (last_start o.start inner) (made (last_start o.start inner) tail) ≡ cuts_in at tail = grind arith in
    let inside_same = found-block o.levels at o.start inner tail nest rising.2 tail_same in
    let own = found-in o.levels o.start inner c (later ++ ms) nest n rising.2 in
    let upto = up-to-own-end o.levels inner c (later ++ ms) nest n same in
    subst (λ us. pieces_in at start (made start us) ≡ cuts_in at us) (sym flat) (grind arith)

pub inner-pieces : (levels at : ℕ) (ns : List Note) → Nested levels ns → IsRising 0 ns → pieces_in at 0 (entries_by 0 ns) ≡ cuts_in at ns
inner-pieces levels at ns h r =
    ap (λ us. pieces_in at 0 (made 0 us)) (sym (append-nil ns)) ∙ found-block levels at 0 ns [] h (subst (IsRising 0) (sym (append-nil ns)) r) refl ∙ ap (cuts_in at) (append-nil ns)

pub piece-run : (es : List Entry) (ns : List Note) (at : ℕ) (parent child : SyntaxKind) → Written es ns → piece_run es at parent child ≡ run_in ns at parent child
piece-run es ns at parent child w = ap (λ o. if same kind.ContentBlock parent && same kind.Markup child then o else None) (ap (pieces_in at 0) w.entries ∙ inner-pieces 256 at ns w.nested w.rising)

pub top-run : (es : List Entry) (ns : List Note) → Written es ns → after_first (pieces_of 0 0 es) ≡ top_cuts ns
top-run es ns w = ap (λ us. after_first (pieces_of 0 0 us)) w.entries ∙ top-pieces ns w.nested w.rising

-- ---- where a block ends

-- nested notes end no block that stands around them
pub closing-passes : (levels inside number start : ℕ) (ns ms : List Note) → Nested levels ns
    → closing_of inside number (made start (ns ++ ms)) ≡ closing_of inside (number + length ns) (made (last_start start ns) ms)
closing-passes levels inside number start ns ms (none l) = ap (λ (j : ℕ). closing_of inside j (made start ms)) (omega arith)
closing-passes levels inside number start ns ms (piece l n us line brackets m e more) = grind (arith, closing-passes levels inside (suc number) n.start us ms more)
closing-passes levels inside number start ns ms (block l o c inner later b m n same less nest rest) =
    ap (λ us. closing_of inside number (made start us)) (flat-block o c inner later ms)
    ∙ (grind (arith, last-both o.start inner (c ∷ later), length-append inner (c ∷ later), closing-passes o.levels (suc inside) (suc number) o.start inner (c ∷ (later ++ ms)) nest, closing-passes levels inside (suc (suc number + length inner)) c.start later ms rest))

-- a block ends with the note after those in it
pub closing-found : (levels number start : ℕ) (inner : List Note) (c : Note) (later : List Note) → Nested levels inner → c.mark ≡ mark.Closes
    → closing_of 0 number (entries_by start (inner ++ c ∷ later)) ≡ Some (number + length inner)
closing-found levels number start inner c later nest m = grind (arith, closing-passes levels 0 number start inner (c ∷ later) nest)
