-- What loops over lines keep.
use Rattle.typst_lexer.proofs.Cited.{◌≡◌, ℕ, ◌+◌, min, Bool, true, false, not, ◌&&◌, ◌==◌, if◌then◌else◌, List, [], ◌∷◌, ◌++◌, length, take, drop, reverse, slice_get, Some, is_none, refl, sym, ap, ◌∙◌, arith, append_assoc, append-nil, take-add, take-append-drop, reverse-reverse, reverse-append, is_whitespace, prefix_len, nat_tests, chars-nil, encodes-chars, chars, IsUtf8, in_line, is_newline, line_end_len, Place, moved, scout, passes, past, run, IsAfter, moved_back, place, Tree, RawLine, leaf, trimmed, is_tick, first_line, later_lines, last_of, last_raw_line, is_blank, has_spare_space, indent, least_indent, dedent, closing, front, between, line_leaves, first_leaves, block_leaves, inline_leaves, find, encode_utf8_all}
use Rattle.typst_kinds.specs.declared.kind.SyntaxKind.TheVariants as kind
use Rattle.typst_lexer.specs.LastLine.{IsLastLine}
use Rattle.typst_lexer.specs.declared.raw_lines.LastLine.{LastLine}
use Rattle.typst_lexer.proofs.Rows.{row, chars_of, later-none, front-is, front-closing, ends-closing}
use Rattle.typst_lexer.proofs.Moves.{moved-ahead, moved-more, moved-whole, past-run, run-cut, past-end, later-past, later-step, end-next, nothing-left, between-is, between-none}

-- ---- leaves of lines

-- the leaves so far, and those of the lines from a place on with what stands before them
abbrev pub all_leaves : ℕ → List Tree → Place → Place → List Tree
all_leaves d leaves from s = leaves ++ line_leaves d (between from s) (later_lines s.ahead) []

pub record IsOnWay (d : ℕ) (leaves : List Tree) (from s : Place) (first : List Tree) (start begin : Place) : Type 0 where
  pub after : IsAfter from s
  pub at_end : prefix_len in_line s.ahead ≡ 0
  pub held : s.ahead ≡ [] → between from s ≡ []
  pub same : all_leaves d leaves from s ≡ all_leaves d first start begin

pub way-step : (d : ℕ) (leaves once twice first : List Tree) (from s q r t start begin : Place) (gap line : List ℕ)
    → IsOnWay d leaves from s first start begin → passes is_newline (scout 0 s) ≡ true → q ≡ moved (line_end_len s) s
    → r ≡ moved (min d (prefix_len in_line q.ahead)) q → ((n : ℕ) → r ≡ moved n from → gap ≡ take n from.ahead) → t ≡ past in_line r → line ≡ run in_line r
    → once ≡ leaves ++ leaf kind.RawTrimmed gap ∷ [] → twice ≡ once ++ leaf kind.Text line ∷ [] → IsOnWay d twice t t first start begin
way-step d leaves once twice first from s q r t start begin gap line w n eq er is et il e f =
    record {
      after = (0, refl);
      at_end = ap (λ p. prefix_len in_line p.ahead) et ∙ ap (prefix_len in_line) (moved-ahead (prefix_len in_line r.ahead) r) ∙ past-run in_line r.ahead;
      held = λ _. between-none t;
      same = joined ∙ w.same;
    }
  where
    k : ℕ
    k = min d (prefix_len in_line q.ahead)

    e_len : ℕ
    e_len = line_end_len s

    cut : (take k q.ahead ≡ take d (first_line q.ahead)) × (first_line (drop k q.ahead) ≡ drop d (first_line q.ahead)) × (drop (prefix_len in_line (drop k q.ahead)) (drop k q.ahead) ≡ drop (prefix_len in_line q.ahead) q.ahead)
    cut = run-cut in_line d q.ahead

    after : r ≡ moved (w.after.0 + e_len + k) from
    after = er ∙ ap (moved k) (eq ∙ ap (moved e_len) w.after.1 ∙ moved-more w.after.0 e_len from) ∙ moved-more (w.after.0 + e_len) k from

    s_ahead : s.ahead ≡ drop w.after.0 from.ahead
    s_ahead = ap (λ p. p.ahead) w.after.1 ∙ moved-ahead w.after.0 from

    q_ahead : q.ahead ≡ drop e_len s.ahead
    q_ahead = ap (λ p. p.ahead) eq ∙ moved-ahead e_len s

    r_ahead : r.ahead ≡ drop k q.ahead
    r_ahead = ap (λ p. p.ahead) er ∙ moved-ahead k q

    gap_is : gap ≡ between from s ++ (take e_len s.ahead ++ take d (first_line q.ahead))
    gap_is =
        let sum : w.after.0 + e_len + k ≡ w.after.0 + (e_len + k) = omega arith in
        is (w.after.0 + e_len + k) after ∙ ap (λ n. take n from.ahead) sum ∙ take-add w.after.0 (e_len + k) from.ahead
        ∙ ap (λ x. x ++ take (e_len + k) (drop w.after.0 from.ahead)) (sym (between-is w.after.0 from s w.after.1))
        ∙ ap (λ x. between from s ++ take (e_len + k) x) (sym s_ahead)
        ∙ ap (λ x. between from s ++ x) (take-add e_len k s.ahead ∙ ap (λ x. take e_len s.ahead ++ take k x) (sym q_ahead) ∙ ap (λ x. take e_len s.ahead ++ x) cut.0)

    line_is : line ≡ drop d (first_line q.ahead)
    line_is = il ∙ ap (λ x. take (prefix_len in_line x) x) r_ahead ∙ cut.1

    t_ahead : t.ahead ≡ drop (prefix_len in_line q.ahead) q.ahead
    t_ahead = ap (λ p. p.ahead) et ∙ moved-ahead (prefix_len in_line r.ahead) r ∙ ap (λ x. drop (prefix_len in_line x) x) r_ahead ∙ cut.2

    rest : List Tree
    rest = line_leaves d [] (later_lines q.ahead) []

    joined : all_leaves d twice t t ≡ all_leaves d leaves from s
    joined = grind (arith, between-none, t_ahead, later-past, append_assoc, gap_is, e_len, line_is, later-step)

pub way-end : (d : ℕ) (leaves first : List Tree) (from s start begin : Place) → IsOnWay d leaves from s first start begin → passes is_newline (scout 0 s) ≡ false → leaves ≡ all_leaves d first start begin
way-end d leaves first from s start begin w n = grind (arith, nothing-left, append-nil, later-none)

-- ---- the least indent

pub least-step : (n m : ℕ) (blank : Bool) (line : List ℕ) (s q t : Place) → passes is_newline (scout 0 s) ≡ true → q ≡ moved (line_end_len s) s → t ≡ past in_line q → line ≡ run in_line q
    → blank ≡ is_blank line → m ≡ (if blank then n else min n (indent line)) → least_indent m (later_lines t.ahead) ≡ least_indent n (later_lines s.ahead)
least-step n m blank line s q t nl eq et il b e = grind (arith, moved-ahead, later-past, later-step)

-- ---- the last line

-- a line between two places, the first before its line end, with those after it
pub record IsAtRow (cs : List ℕ) (start : Place) (line : List ℕ) (s : Place) : Type 0 where
  pub ending : List ℕ
  pub from_start : start.ahead ≡ (ending ++ line) ++ s.ahead
  pub whole : reverse start.before ++ start.ahead ≡ cs
  pub after : reverse s.before ++ s.ahead ≡ cs
  pub at_end : prefix_len in_line s.ahead ≡ 0
  pub last : last_of (row ending line) (later_lines s.ahead) ≡ last_raw_line cs

pub row-step : (cs line next : List ℕ) (start s q t : Place) → IsAtRow cs start line s → is_none (scout 0 s) ≡ false → passes is_newline (scout 0 s) ≡ true → q ≡ moved (line_end_len s) s → t ≡ past in_line q → next ≡ run in_line q
    → IsAtRow cs s next t
row-step cs line next start s q t h some nl eq et il = record {
  ending = take (line_end_len s) s.ahead;
  from_start =
      sym (take-append-drop (line_end_len s) s.ahead) ∙ ap (λ x. take (line_end_len s) s.ahead ++ x) (sym (moved-ahead (line_end_len s) s) ∙ sym (ap (λ p. p.ahead) eq) ∙ sym (take-append-drop (prefix_len in_line q.ahead) q.ahead)
      ∙ ap (λ x. x ++ drop (prefix_len in_line q.ahead) q.ahead) (sym il) ∙ ap (λ x. next ++ x) (sym t_ahead)) ∙ sym (append_assoc (take (line_end_len s) s.ahead) next t.ahead);
  whole = h.after;
  after = ap (λ p. reverse p.before ++ p.ahead) (et ∙ ap (λ p. past in_line p) eq) ∙ moved-whole (prefix_len in_line (moved (line_end_len s) s).ahead) (moved (line_end_len s) s) ∙ moved-whole (line_end_len s) s ∙ h.after;
  at_end = ap (prefix_len in_line) t_ahead ∙ past-run in_line q.ahead;
  last =
      ap (last_of (row (take (line_end_len s) s.ahead) next)) (ap later_lines t_ahead ∙ later-past q.ahead)
      ∙ ap (λ x. last_of (row (take (line_end_len s) s.ahead) x) (later_lines q.ahead)) il
      ∙ ap (λ p. last_of (row h.ending line) (row (take (line_end_len s) s.ahead) (first_line p.ahead) ∷ later_lines p.ahead)) eq
      ∙ ap (last_of (row h.ending line)) (sym (later-step s nl)) ∙ h.last;
}
  where
    t_ahead : t.ahead ≡ drop (prefix_len in_line q.ahead) q.ahead
    t_ahead = ap (λ p. p.ahead) et ∙ moved-ahead (prefix_len in_line q.ahead) q

pub row-first : (cs line : List ℕ) (start s : Place) → start.before ≡ [] → start.ahead ≡ cs → s ≡ past in_line start → line ≡ run in_line start → IsAtRow cs start line s
unfolding last_raw_line
row-first cs line start s b a es il = record {
  ending = [];
  from_start = sym (take-append-drop (prefix_len in_line start.ahead) start.ahead) ∙ ap (λ x. x ++ drop (prefix_len in_line start.ahead) start.ahead) (sym il) ∙ ap (λ x. line ++ x) (sym s_ahead);
  whole = whole;
  after = ap (λ p. reverse p.before ++ p.ahead) es ∙ moved-whole (prefix_len in_line start.ahead) start ∙ whole;
  at_end = ap (prefix_len in_line) s_ahead ∙ past-run in_line start.ahead;
  last = ap (last_of (row [] line)) (ap later_lines s_ahead ∙ later-past start.ahead ∙ ap later_lines a) ∙ ap (λ x. last_of (row [] x) (later_lines cs)) (il ∙ ap first_line a);
}
  where
    s_ahead : s.ahead ≡ drop (prefix_len in_line start.ahead) start.ahead
    s_ahead = ap (λ p. p.ahead) es ∙ moved-ahead (prefix_len in_line start.ahead) start

    whole : reverse start.before ++ start.ahead ≡ cs
    whole = ap (λ x. reverse x ++ start.ahead) b ∙ a

-- ---- a space at a line's end

pub spare-no : (line before : List ℕ) → before ≡ reverse line → false ≡ passes (λ c. c == 32) (slice_get before 0) → false ≡ has_spare_space line
spare-no line before e f = ap (λ b. b && passes is_tick (find (λ c. not (is_whitespace c)) (reverse line))) (f ∙ ap (λ x. passes (λ c. c == 32) (slice_get x 0)) e)

pub spare-found : (line : List ℕ) (p : Place) (c : ℕ) → find (λ c. not (is_whitespace c)) p.before ≡ find (λ c. not (is_whitespace c)) (reverse line)
    → true ≡ passes (λ c. c == 32) (slice_get (reverse line) 0) → Some c ≡ slice_get p.before 0 → is_whitespace c ≡ false → (c == 96) ≡ has_spare_space line
spare-found line p c h f e w =
    found p.before (sym e) ∙ ap (passes is_tick) h ∙ ap (λ b. b && passes is_tick (find (λ c. not (is_whitespace c)) (reverse line))) f
  where
    found : (xs : List ℕ) → slice_get xs 0 ≡ Some c → (c == 96) ≡ passes is_tick (find (λ c. not (is_whitespace c)) xs)
    found [] g = absurd (cc)
    found (x ∷ xs) g = let is : x ≡ c = cc in rw (is, w) refl

-- ---- what is trimmed at the end

module _ (cs : List ℕ) (l : LastLine) (h : IsLastLine cs l) where
  row_end : (blank spare : Bool) → is_blank (chars l.line.now) ≡ blank → has_spare_space (chars l.line.now) ≡ spare
      → closing cs ≡ (if blank then (last_raw_line cs).ending ++ (last_raw_line cs).line else (if spare then 32 ∷ [] else []))
  unfolding closing
  row_end blank spare b e = rw (sym (ap is_blank h.line) ∙ b, sym (ap has_spare_space h.line) ∙ e) refl

  pub trim-blank : true ≡ is_blank (chars l.line.now) → (reverse (place l.start).before ≡ front cs) × ((place l.start).ahead ≡ closing cs)
  trim-blank b =
      let is : (place l.start).ahead ≡ closing cs = h.from_start ∙ sym (row_end true (has_spare_space (chars l.line.now)) (sym b) refl) in
      (sym (front-is cs (reverse (place l.start).before) (sym h.whole ∙ ap (λ x. reverse (place l.start).before ++ x) is)), is)

  pub trim-none : false ≡ is_blank (chars l.line.now) → false ≡ has_spare_space (chars l.line.now) → (reverse (place l.end).before ≡ front cs) × ((place l.end).ahead ≡ closing cs)
  trim-none b e =
      let none = row_end false false (sym b) (sym e) in
      (ap reverse h.to_end ∙ reverse-reverse cs ∙ sym (front-is cs cs (sym (append-nil cs) ∙ ap (λ x. cs ++ x) (sym none))), h.nothing_left ∙ sym none)

  pub trim-spare : false ≡ is_blank (chars l.line.now) → true ≡ has_spare_space (chars l.line.now) → (q : Place) → q ≡ moved_back (place l.end) → (reverse q.before ≡ front cs) × (q.ahead ≡ closing cs)
  trim-spare b e q m =
      let one = row_end false true (sym b) (sym e) in
      let ends = ends-closing cs in
      grind (arith, reverse-append, reverse-reverse, front-is)

pub last-line : (cs line : List ℕ) (start s : Place) → IsAtRow cs start line s → is_none (scout 0 s) ≡ true
    → (line ≡ (last_raw_line cs).line) × (start.ahead ≡ (last_raw_line cs).ending ++ (last_raw_line cs).line) × (reverse start.before ++ start.ahead ≡ cs) × (s.before ≡ reverse cs) × (s.ahead ≡ [])
last-line cs line start s h n =
    let none : s.ahead ≡ [] = nothing s.ahead n in
    let last : row h.ending line ≡ last_raw_line cs = sym (ap (last_of (row h.ending line)) (ap later_lines none ∙ later-none)) ∙ h.last in (
      ap (λ r. r.line) last,
      h.from_start ∙ ap (λ x. (h.ending ++ line) ++ x) none ∙ append-nil (h.ending ++ line) ∙ ap chars_of last,
      h.whole,
      sym (reverse-reverse s.before) ∙ ap reverse (sym (append-nil (reverse s.before)) ∙ ap (λ x. reverse s.before ++ x) (sym none) ∙ h.after),
      none,
    )
  where
    nothing : (xs : List ℕ) → is_none (slice_get xs 0) ≡ true → xs ≡ []
    nothing [] e = refl
    nothing (x ∷ xs) e = absurd (cc)

-- ---- a first line

pub lead-none : (line : List ℕ) → false ≡ passes (λ c. c == 32) (slice_get line 0) → first_leaves line ≡ leaf kind.Text line ∷ []
lead-none line e = grind arith

pub lead-one : (line : List ℕ) → true ≡ passes (λ c. c == 32) (slice_get line 0) → first_leaves line ≡ leaf kind.RawTrimmed (take 1 line) ∷ (leaf kind.Text (drop 1 line) ∷ [])
lead-one line e = grind arith

pub pushed-two : (old once twice : List Tree) (a b : Tree) → once ≡ old ++ a ∷ [] → twice ≡ once ++ b ∷ [] → twice ≡ old ++ (a ∷ (b ∷ []))
pushed-two old once twice a b e f = f ∙ ap (λ x. x ++ b ∷ []) e ∙ append_assoc old (a ∷ []) (b ∷ [])

-- ---- what is trimmed, where it is anything

pub trimmed-none : (text : List ℕ) → (length text == 0) ≡ true → trimmed (chars text) ≡ []
trimmed-none [] e = ap trimmed chars-nil
trimmed-none (c ∷ text) e = absurd (grind (arith, nat_tests))

pub trimmed-some : (text : List ℕ) → IsUtf8 text → (length text == 0) ≡ false → trimmed (chars text) ≡ leaf kind.RawTrimmed (chars text) ∷ []
trimmed-some text u e = cases (chars text) refl
  where
    cases : (cs : List ℕ) → chars text ≡ cs → trimmed cs ≡ leaf kind.RawTrimmed cs ∷ []
    cases [] f = let none : text ≡ [] = sym (encodes-chars text u) ∙ ap encode_utf8_all f in let bad : true ≡ false = sym (ap (λ t. length t == 0) none) ∙ e in absurd (cc)
    cases (c ∷ cs) f = refl

-- ---- the leaves of a block

-- the closing stands after the leaves of the lines
lines-closing : (d : ℕ) (rs : List RawLine) (end : List ℕ) → line_leaves d [] rs end ≡ line_leaves d [] rs [] ++ trimmed end
lines-closing d [] end = refl
lines-closing d (r ∷ rs) end = ap (λ t. leaf kind.RawTrimmed (r.ending ++ take d r.line) ∷ (leaf kind.Text (drop d r.line) ∷ t)) (lines-closing d rs end)

held-closing : (d : ℕ) (held : List ℕ) (r : RawLine) (rs all : List RawLine) (end : List ℕ) → all ≡ r ∷ rs → line_leaves d held all end ≡ line_leaves d held all [] ++ trimmed end
held-closing d held r rs all end e = grind (arith, lines-closing)

module _ (cs : List ℕ) (d : ℕ) (start s : Place) (first end : List ℕ) (begin : start.ahead ≡ front cs) (moves : s ≡ past in_line start) (line : first ≡ run in_line start) (least : d ≡ dedent cs) (closes : end ≡ closing cs) where
  first_is : first ≡ first_line (front cs)
  first_is = line ∙ ap first_line begin

  rows_are : later_lines s.ahead ≡ later_lines (front cs)
  rows_are = ap (λ p. later_lines p.ahead) moves ∙ ap later_lines (moved-ahead (prefix_len in_line start.ahead) start) ∙ later-past start.ahead ∙ ap later_lines begin

  -- what the definition says, by what the code has
  block_is : (b : Bool) → b ≡ is_blank first → block_leaves cs ≡ (if b then line_leaves d first (later_lines s.ahead) end else first_leaves first ++ line_leaves d [] (later_lines s.ahead) end)
  unfolding block_leaves
  block_is b e = grind (arith, first_is, rows_are)

  pub block-first : (old one two three : List Tree) → false ≡ is_blank first → one ≡ old ++ first_leaves first → two ≡ one ++ line_leaves d (between s s) (later_lines s.ahead) [] → three ≡ two ++ trimmed end → three ≡ old ++ block_leaves cs
  block-first old one two three b e f g =
      let rest = line_leaves d [] (later_lines s.ahead) [] in
      g ∙ ap (λ x. x ++ trimmed end) (f ∙ ap (λ x. one ++ line_leaves d x (later_lines s.ahead) []) (between-none s) ∙ ap (λ x. x ++ rest) e ∙ append_assoc old (first_leaves first) rest)
      ∙ append_assoc old (first_leaves first ++ rest) (trimmed end)
      ∙ ap (λ x. old ++ x) (append_assoc (first_leaves first) rest (trimmed end) ∙ ap (λ x. first_leaves first ++ x) (sym (lines-closing d (later_lines s.ahead) end)) ∙ sym (block_is false b))

  pub block-held : (old two three : List Tree) → true ≡ is_blank first → is_none (scout 0 s) ≡ false → two ≡ old ++ line_leaves d (between start s) (later_lines s.ahead) [] → three ≡ two ++ trimmed end → three ≡ old ++ block_leaves cs
  block-held old two three b some f g =
      let held = between-is (prefix_len in_line start.ahead) start s moves ∙ sym line in
      let next = end-next s.ahead (past-end start s moves) some in
      let rows = later_lines s.ahead in
      g ∙ ap (λ x. x ++ trimmed end) (f ∙ ap (λ x. old ++ line_leaves d x rows []) held) ∙ append_assoc old (line_leaves d first rows []) (trimmed end)
      ∙ ap (λ x. old ++ x) (sym (held-closing d first (row (take (line_end_len s) s.ahead) (first_line (moved (line_end_len s) s).ahead)) (later_lines (moved (line_end_len s) s).ahead) rows end (later-step s next)) ∙ sym (block_is true b))

  pub block-blank : (old one : List Tree) → true ≡ is_blank first → is_none (scout 0 s) ≡ true → one ≡ old ++ trimmed cs → one ≡ old ++ block_leaves cs
  block-blank old one b none f =
      let left : s.ahead ≡ [] = nothing s.ahead none in
      let whole : first ≡ front cs =
      line ∙ sym (append-nil (run in_line start)) ∙ ap (λ x. run in_line start ++ x) (sym (sym (ap (λ p. p.ahead) moves ∙ moved-ahead (prefix_len in_line start.ahead) start) ∙ left)) ∙ take-append-drop (prefix_len in_line start.ahead) start.ahead ∙ begin in
      f ∙ ap (λ x. old ++ trimmed x) (sym (front-closing cs) ∙ ap (λ x. x ++ closing cs) (sym whole) ∙ ap (λ x. first ++ x) (sym closes))
      ∙ ap (λ x. old ++ x) (sym (ap (λ x. line_leaves d first x end) (ap later_lines left ∙ later-none)) ∙ sym (block_is true b))
    where
      nothing : (xs : List ℕ) → is_none (slice_get xs 0) ≡ true → xs ≡ []
      nothing [] e = refl
      nothing (x ∷ xs) e = absurd (cc)

pub dedent-is : (cs line : List ℕ) (n : ℕ) → line ≡ (last_raw_line cs).line → n ≡ least_indent (indent line) (later_lines cs) → n ≡ dedent cs
unfolding dedent
dedent-is cs line n e f = f ∙ ap (λ x. least_indent (indent x) (later_lines cs)) e

pub inline-is : (cs : List ℕ) (start s : Place) (first : List ℕ) (old one two : List Tree) → start.ahead ≡ cs → s ≡ past in_line start → first ≡ run in_line start
    → one ≡ old ++ leaf kind.Text first ∷ [] → two ≡ one ++ line_leaves 0 (between s s) (later_lines s.ahead) [] → two ≡ old ++ inline_leaves cs
unfolding inline_leaves
inline-is cs start s first old one two begin moves line e f = grind (arith, moved-ahead, later-past, between-none, append_assoc)
