-- Facts on the lines of characters.
use Rattle.typst_lexer.proofs.Cited.{◌≡◌, ℕ, suc, ◌+◌, ◌-◌, Bool, true, false, ◌==◌, List, [], ◌∷◌, ◌++◌, drop, reverse, slice_get, refl, sym, ap, ◌∙◌, arith, append_assoc, append-nil, take_at, length-append, nat_tests, reverse-reverse, reverse-append, prefix_len, in_line, passes, RawLine, paired, first_line, later_lines, last_of, last_raw_line, is_blank, has_spare_space, end_of, closing, front, and_parts}
use Rattle.typst_lines.specs.Newline.{is_newline, stretches, line_ends, onto_first}
use Rattle.typst_lines.proofs.SplitLaw.{both-ends, crlf, lone-ends, lone-stretch, plain-ends, plain-stretch}

abbrev pub row : List ℕ → List ℕ → RawLine
row ending line = record { ending = ending; line = line }

-- ---- the first line

pub first-plain : (c : ℕ) (cs : List ℕ) → is_newline c ≡ false → first_line (c ∷ cs) ≡ c ∷ first_line cs
first-plain c cs n = let more : 1 + prefix_len in_line cs ≡ suc (prefix_len in_line cs) = omega arith in rw (n, more) refl

pub first-end : (c : ℕ) (cs : List ℕ) → is_newline c ≡ true → first_line (c ∷ cs) ≡ []
first-end c cs n = rw n refl

-- ---- one character before others

stretch-both : (c : ℕ) (cs : List ℕ) → is_newline c ≡ true → crlf c (10 ∷ cs) ≡ true → stretches (c ∷ 10 ∷ cs) ≡ [] ∷ stretches cs
stretch-both c cs n e = rw (n, e) refl

-- a property of all texts, by what their first characters are
pub by_lines : (P : List ℕ → Type 0) → P [] → ((c : ℕ) (cs : List ℕ) → is_newline c ≡ false → P cs → P (c ∷ cs))
    → ((c : ℕ) (cs : List ℕ) → is_newline c ≡ true → crlf c cs ≡ false → P cs → P (c ∷ cs))
    → ((c : ℕ) (cs : List ℕ) → is_newline c ≡ true → crlf c (10 ∷ cs) ≡ true → P cs → P (c ∷ 10 ∷ cs)) → (cs : List ℕ) → P cs
by_lines P none plain lone both [] = none
by_lines P none plain lone both (c ∷ []) = grind arith
by_lines P none plain lone both (c ∷ d ∷ cs) = ending (is_newline c) (crlf c (d ∷ cs)) refl refl (by_lines P none plain lone both (d ∷ cs)) (by_lines P none plain lone both cs)
  where
    ending : (n b : Bool) → is_newline c ≡ n → crlf c (d ∷ cs) ≡ b → P (d ∷ cs) → P cs → P (c ∷ d ∷ cs)
    ending false b n e h k = plain c (d ∷ cs) n h
    ending true false n e h k = lone c (d ∷ cs) n e h
    ending true true n e h k = grind arith

-- the stretches begin with the first line
pub stretches-first : (cs : List ℕ) → stretches cs ≡ first_line cs ∷ drop 1 (stretches cs)
stretches-first = by_lines (λ cs. stretches cs ≡ first_line cs ∷ drop 1 (stretches cs)) refl
    (λ c cs n h. plain-stretch c cs n ∙ ap (onto_first c) h ∙ ap (λ l. l ∷ drop 1 (stretches cs)) (sym (first-plain c cs n)) ∙ ap (λ t. first_line (c ∷ cs) ∷ t) (sym (ap (drop 1) (plain-stretch c cs n ∙ ap (onto_first c) h))))
    (λ c cs n e h. lone-stretch c cs n e ∙ ap (λ t. t ∷ stretches cs) (sym (first-end c cs n)) ∙ ap (λ t. first_line (c ∷ cs) ∷ t) (sym (ap (drop 1) (lone-stretch c cs n e))))
    (λ c cs n e h. stretch-both c cs n e ∙ ap (λ t. t ∷ stretches cs) (sym (first-end c (10 ∷ cs) n)) ∙ ap (λ t. first_line (c ∷ 10 ∷ cs) ∷ t) (sym (ap (drop 1) (stretch-both c cs n e))))

pub later-none : later_lines [] ≡ []
unfolding later_lines
later-none = refl

drop-onto : (c : ℕ) (texts : List (List ℕ)) → drop 1 (onto_first c texts) ≡ drop 1 texts
drop-onto c texts = grind arith

pub later-plain : (c : ℕ) (cs : List ℕ) → is_newline c ≡ false → later_lines (c ∷ cs) ≡ later_lines cs
unfolding later_lines
later-plain c cs n = ap (λ t. paired t (drop 1 (stretches (c ∷ cs)))) (plain-ends c cs n) ∙ ap (λ t. paired (line_ends cs) (drop 1 t)) (plain-stretch c cs n) ∙ ap (paired (line_ends cs)) (drop-onto c (stretches cs))

pub later-lone : (c : ℕ) (cs : List ℕ) → is_newline c ≡ true → crlf c cs ≡ false → later_lines (c ∷ cs) ≡ row (c ∷ []) (first_line cs) ∷ later_lines cs
unfolding later_lines
later-lone c cs n e = ap (λ t. paired t (drop 1 (stretches (c ∷ cs)))) (lone-ends c cs n e) ∙ ap (λ t. paired ((c ∷ []) ∷ line_ends cs) (drop 1 t)) (lone-stretch c cs n e) ∙ ap (paired ((c ∷ []) ∷ line_ends cs)) (stretches-first cs)

pub later-both : (c : ℕ) (cs : List ℕ) → is_newline c ≡ true → crlf c (10 ∷ cs) ≡ true → later_lines (c ∷ 10 ∷ cs) ≡ row (c ∷ 10 ∷ []) (first_line cs) ∷ later_lines cs
unfolding later_lines
later-both c cs n e = ap (λ t. paired t (drop 1 (stretches (c ∷ 10 ∷ cs)))) (both-ends c cs n e) ∙ ap (λ t. paired ((c ∷ 10 ∷ []) ∷ line_ends cs) (drop 1 t)) (stretch-both c cs n e) ∙ ap (paired ((c ∷ 10 ∷ []) ∷ line_ends cs)) (stretches-first cs)

-- ---- the lines joined

abbrev pub row_chars : List RawLine → List ℕ
row_chars [] = []
row_chars (r ∷ rs) = r.ending ++ (r.line ++ row_chars rs)

-- the lines with their line ends are the characters
pub lines-joined : (cs : List ℕ) → first_line cs ++ row_chars (later_lines cs) ≡ cs
lines-joined = by_lines (λ cs. first_line cs ++ row_chars (later_lines cs) ≡ cs) (ap row_chars later-none)
    (λ c cs n h. ap (λ t. first_line (c ∷ cs) ++ row_chars t) (later-plain c cs n) ∙ ap (λ t. t ++ row_chars (later_lines cs)) (first-plain c cs n) ∙ ap (λ t. c ∷ t) h)
    (λ c cs n e h. ap (λ t. first_line (c ∷ cs) ++ row_chars t) (later-lone c cs n e) ∙ ap (λ t. t ++ (c ∷ (first_line cs ++ row_chars (later_lines cs)))) (first-end c cs n) ∙ ap (λ t. c ∷ t) h)
    (λ c cs n e h. ap (λ t. first_line (c ∷ 10 ∷ cs) ++ row_chars t) (later-both c cs n e) ∙ ap (λ t. t ++ (c ∷ 10 ∷ (first_line cs ++ row_chars (later_lines cs)))) (first-end c (10 ∷ cs) n) ∙ ap (λ t. c ∷ 10 ∷ t) h)

-- a list ends in another
pub record EndsIn (cs end : List ℕ) : Type 0 where
  pub before : List ℕ
  pub is : cs ≡ before ++ end

abbrev pub chars_of : RawLine → List ℕ
chars_of r = r.ending ++ r.line

pub last-ends : (r : RawLine) (rs : List RawLine) → EndsIn (chars_of r ++ row_chars rs) (chars_of (last_of r rs))
last-ends r [] = record { before = []; is = append-nil (chars_of r) }
last-ends r (s ∷ rs) =
    let h = last-ends s rs in
    record { before = chars_of r ++ h.before; is = ap (λ t. chars_of r ++ t) (sym (append_assoc s.ending s.line (row_chars rs)) ∙ h.is) ∙ sym (append_assoc (chars_of r) h.before (chars_of (last_of s rs))) }

-- characters end in their last line with the line end before it
pub ends-row : (cs : List ℕ) → EndsIn cs (chars_of (last_raw_line cs))
unfolding last_raw_line
ends-row cs = let h = last-ends (row [] (first_line cs)) (later_lines cs) in record { before = h.before; is = sym (lines-joined cs) ∙ h.is }

-- ---- what is trimmed at the end

pub spare-is : (line : List ℕ) → has_spare_space line ≡ true → (rest : List ℕ) × (reverse line ≡ 32 ∷ rest)
spare-is line e = head-is (reverse line) (and_parts _ _ e).0
  where
    head-is : (xs : List ℕ) → passes (λ c. c == 32) (slice_get xs 0) ≡ true → (rest : List ℕ) × (xs ≡ 32 ∷ rest)
    head-is [] e = absurd (cc)
    head-is (x ∷ xs) e = let is : x ≡ 32 = grind (arith, nat_tests) in (xs, ap (λ y. y ∷ xs) is)

ends-space : (cs ending line : List ℕ) → has_spare_space line ≡ true → EndsIn cs (ending ++ line) → EndsIn cs (32 ∷ [])
ends-space cs ending line e h =
    let t = spare-is line e in
    let is : line ≡ reverse t.0 ++ 32 ∷ [] = sym (reverse-reverse line) ∙ ap reverse t.1 ∙ reverse-cons 32 t.0 in
    record { before = h.before ++ (ending ++ reverse t.0); is = h.is ∙ ap (λ l. h.before ++ (ending ++ l)) is ∙ ap (λ l. h.before ++ l) (sym (append_assoc ending (reverse t.0) (32 ∷ []))) ∙ sym (append_assoc h.before (ending ++ reverse t.0) (32 ∷ [])) }
  where
    reverse-cons : (c : ℕ) (xs : List ℕ) → reverse (c ∷ xs) ≡ reverse xs ++ c ∷ []
    reverse-cons c xs = reverse-append (c ∷ []) xs

ends-of : (cs : List ℕ) (r : RawLine) (blank spare : Bool) → is_blank r.line ≡ blank → has_spare_space r.line ≡ spare → EndsIn cs (chars_of r) → EndsIn cs (end_of r)
ends-of cs r true spare b e h = rw b h
ends-of cs r false true b e h = rw (b, e) (ends-space cs r.ending r.line e h)
ends-of cs r false false b e h = rw (b, e) (record { before = cs; is = sym (append-nil cs) })

pub ends-closing : (cs : List ℕ) → EndsIn cs (closing cs)
unfolding closing
ends-closing cs = ends-of cs (last_raw_line cs) (is_blank (last_raw_line cs).line) (has_spare_space (last_raw_line cs).line) refl refl (ends-row cs)

-- what stands before the closing is the front
pub front-is : (cs before : List ℕ) → cs ≡ before ++ closing cs → front cs ≡ before
unfolding front
front-is cs before e = grind (arith, length-append, take_at)

pub front-closing : (cs : List ℕ) → front cs ++ closing cs ≡ cs
front-closing cs = let h = ends-closing cs in ap (λ t. t ++ closing cs) (front-is cs h.before h.is) ∙ sym h.is
