-- The leaves of a raw text joined.
use Rattle.typst_lexer.proofs.Cited.{◌≡◌, ℕ, zero, suc, ◌+◌, Bool, true, false, ◌&&◌, ◌==◌, nat_lt, if◌then◌else◌, List, [], ◌∷◌, ◌++◌, length, take, drop, reverse, Option, Some, None, option_map, refl, sym, ap, ◌∙◌, arith, append_assoc, append-nil, nat_tests, take-append-drop, reverse-reverse, reverse-append, encodes-append, prefix_len, RawLine, leaf, trimmed, is_tick, first_line, later_lines, is_blank, dedent, closing, front, line_leaves, first_leaves, block_leaves, inline_leaves, in_tag, tag, warned, ticks, past_ticks, before_ticks, tag_leaves, delimited, inline_node, block_node, closed_node, two_delimiters, delimited_node, raw_node, encode_utf8_all, codes}
use Rattle.typst_kinds.specs.declared.kind.SyntaxKind.TheVariants as kind
use Rattle.typst_tree.specs.Tree.{Tree, forest, joined, text_of, error_of}
use Rattle.typst_lexer.specs.RawLaws.{RawLeaves}
use Rattle.typst_lexer.proofs.Rows.{row_chars, lines-joined, front-closing}
pub use Rattle.typst_tree.proofs.ReplacesChildren.{joined-append as texts-append}
use Rattle.typst_lexer.proofs.Clusters.{take-again}

-- the texts of some trees
abbrev pub texts : List Tree → List ℕ
texts ts = joined (forest ts)

texts-trimmed : (cs : List ℕ) → texts (trimmed cs) ≡ encode_utf8_all cs
texts-trimmed cs = grind (arith, append-nil)

both : (xs ys : List ℕ) → encode_utf8_all xs ++ encode_utf8_all ys ≡ encode_utf8_all (xs ++ ys)
both xs ys = sym (encodes-append xs ys)

-- a line cut in two
cut : (held ending line rest : List ℕ) (d : ℕ) → (held ++ (ending ++ take d line)) ++ (drop d line ++ rest) ≡ held ++ (ending ++ (line ++ rest))
cut held ending line rest d =
    append_assoc held (ending ++ take d line) (drop d line ++ rest)
    ∙ ap (λ t. held ++ t) (append_assoc ending (take d line) (drop d line ++ rest))
    ∙ ap (λ t. held ++ (ending ++ t)) (sym (append_assoc (take d line) (drop d line) rest) ∙ ap (λ l. l ++ rest) (take-append-drop d line))

texts-lines : (d : ℕ) (held : List ℕ) (rs : List RawLine) (end : List ℕ) → texts (line_leaves d held rs end) ≡ encode_utf8_all (held ++ (row_chars rs ++ end))
texts-lines d held [] end = texts-trimmed (held ++ end)
texts-lines d held (r ∷ rs) end =
    let first = held ++ (r.ending ++ take d r.line) in
    let second = drop d r.line in
    let rest = row_chars rs ++ end in
    ap (λ t. encode_utf8_all first ++ (encode_utf8_all second ++ t)) (texts-lines d [] rs end)
    ∙ ap (λ t. encode_utf8_all first ++ t) (both second rest) ∙ both first (second ++ rest)
    ∙ ap encode_utf8_all (cut held r.ending r.line rest d ∙ ap (λ t. held ++ t) (ap (λ t. r.ending ++ t) (sym (append_assoc r.line (row_chars rs) end)) ∙ sym (append_assoc r.ending (r.line ++ row_chars rs) end)))

texts-first : (line : List ℕ) → texts (first_leaves line) ≡ encode_utf8_all line
texts-first [] = refl
texts-first (c ∷ cs) = cases (c == 32)
  where
    cases : (b : Bool) → texts (if b then leaf kind.RawTrimmed (c ∷ []) ∷ (leaf kind.Text cs ∷ []) else leaf kind.Text (c ∷ cs) ∷ []) ≡ encode_utf8_all (c ∷ cs)
    cases true = ap (λ t. encode_utf8_all (c ∷ []) ++ t) (append-nil (encode_utf8_all cs)) ∙ both (c ∷ []) cs
    cases false = append-nil (encode_utf8_all (c ∷ cs))

texts-of : (b : Bool) (d : ℕ) (first : List ℕ) (rs : List RawLine) (end : List ℕ)
    → texts (if b then line_leaves d first rs end else first_leaves first ++ line_leaves d [] rs end) ≡ encode_utf8_all (first ++ (row_chars rs ++ end))
texts-of true d first rs end = texts-lines d first rs end
texts-of false d first rs end =
    texts-append (first_leaves first) (line_leaves d [] rs end) ∙ ap (λ t. t ++ texts (line_leaves d [] rs end)) (texts-first first)
    ∙ ap (λ t. encode_utf8_all first ++ t) (texts-lines d [] rs end) ∙ both first (row_chars rs ++ end)

texts-block : (cs : List ℕ) → texts (block_leaves cs) ≡ encode_utf8_all cs
unfolding block_leaves
texts-block cs =
    texts-of (is_blank (first_line (front cs))) (dedent cs) (first_line (front cs)) (later_lines (front cs)) (closing cs)
    ∙ ap encode_utf8_all (sym (append_assoc (first_line (front cs)) (row_chars (later_lines (front cs))) (closing cs)) ∙ ap (λ t. t ++ closing cs) (lines-joined (front cs)) ∙ front-closing cs)

texts-inline : (cs : List ℕ) → texts (inline_leaves cs) ≡ encode_utf8_all cs
unfolding inline_leaves
texts-inline cs =
    ap (λ t. encode_utf8_all (first_line cs) ++ t) (texts-lines 0 [] (later_lines cs) [] ∙ ap encode_utf8_all (append-nil (row_chars (later_lines cs))))
    ∙ both (first_line cs) (row_chars (later_lines cs)) ∙ ap encode_utf8_all (lines-joined cs)

-- ---- delimiters

texts-tag : (cs : List ℕ) → texts (tag_leaves cs) ≡ encode_utf8_all cs
texts-tag cs = grind (arith, append-nil)

text-delimited : (delim inner : List ℕ) (leaves : List Tree) → texts leaves ≡ encode_utf8_all inner → text_of (delimited delim leaves) ≡ encode_utf8_all (delim ++ (inner ++ delim))
text-delimited delim inner leaves e =
    ap (λ t. encode_utf8_all delim ++ t) (texts-append leaves (leaf kind.RawDelim delim ∷ []) ∙ ap (λ t. texts leaves ++ t) (append-nil (encode_utf8_all delim)) ∙ ap (λ t. t ++ encode_utf8_all delim) e ∙ both inner delim)
    ∙ both delim (inner ++ delim)

-- n backticks
abbrev tick_row : ℕ → List ℕ
tick_row zero = []
tick_row (suc n) = 96 ∷ tick_row n

tick-last : (n : ℕ) → tick_row n ++ 96 ∷ [] ≡ 96 ∷ tick_row n
tick-last zero = refl
tick-last (suc n) = ap (λ t. 96 ∷ t) (tick-last n)

tick-reverse : (n : ℕ) → reverse (tick_row n) ≡ tick_row n
tick-reverse zero = refl
tick-reverse (suc n) = reverse-append (96 ∷ []) (tick_row n) ∙ ap (λ t. t ++ 96 ∷ []) (tick-reverse n) ∙ tick-last n

tick-is : (c : ℕ) → is_tick c ≡ true → c ≡ 96
tick-is c e = grind (arith, nat_tests)

ticks-row : (cs : List ℕ) → (n : ℕ) × (ticks cs ≡ tick_row n)
ticks-row [] = (0, refl)
ticks-row (c ∷ cs) = cases (is_tick c) refl (ticks-row cs)
  where
    cases : (b : Bool) → is_tick c ≡ b → (n : ℕ) × (ticks cs ≡ tick_row n) → (n : ℕ) × (ticks (c ∷ cs) ≡ tick_row n)
    cases true e h =
        let more : 1 + prefix_len is_tick cs ≡ suc (prefix_len is_tick cs) = omega arith in
        (suc h.0, rw (e, more) (ap (λ x. x ∷ ticks cs) (tick-is c e) ∙ ap (λ t. 96 ∷ t) h.1))
    cases false e h = (0, rw e refl)

length-row : (n : ℕ) → length (tick_row n) ≡ n
length-row zero = refl
length-row (suc n) = omega (arith, length-row n)

past-is : (n : ℕ) (cs rest : List ℕ) → past_ticks n cs ≡ Some rest → cs ≡ tick_row n ++ rest
past-is zero cs rest e = cc
past-is (suc n) [] rest e = absurd (cc)
past-is (suc n) (c ∷ cs) rest e = cases (is_tick c) refl e (past-is n cs rest)
  where
    cases : (b : Bool) → is_tick c ≡ b → (if b then past_ticks n cs else None) ≡ Some rest → (past_ticks n cs ≡ Some rest → cs ≡ tick_row n ++ rest) → c ∷ cs ≡ 96 ∷ (tick_row n ++ rest)
    cases true t e h = ap (λ x. x ∷ cs) (tick-is c t) ∙ ap (λ x. 96 ∷ x) (h e)
    cases false t e h = absurd (cc)

before-is : (n : ℕ) (cs inner : List ℕ) → before_ticks n cs ≡ Some inner → cs ≡ inner ++ tick_row n
before-is n cs inner e = cases (past_ticks n (reverse cs)) refl e
  where
    cases : (o : Option (List ℕ)) → past_ticks n (reverse cs) ≡ o → option_map reverse o ≡ Some inner → cs ≡ inner ++ tick_row n
    cases None f e = absurd (cc)
    cases (Some back) f e =
        let is : reverse back ≡ inner = cc in
        sym (reverse-reverse cs) ∙ ap reverse (past-is n (reverse cs) back f) ∙ reverse-append (tick_row n) back ∙ ap (λ t. t ++ reverse (tick_row n)) is ∙ ap (λ t. inner ++ t) (tick-reverse n)

-- ---- warnings are no text

text-warned : (n : ℕ) (tag inner : List ℕ) (t : Tree) → text_of (warned n tag inner t) ≡ text_of t
unfolding warned
text-warned n tag inner t = grind arith

-- ---- the node

front-joined : (n : ℕ) (cs : List ℕ) → take n cs ++ drop (length (take n cs)) cs ≡ cs
front-joined n cs = ap (λ t. t ++ drop (length (take n cs)) cs) (sym (take-again n cs)) ∙ take-append-drop (length (take n cs)) cs

tag-front : (cs : List ℕ) → tag cs ++ drop (length (tag cs)) cs ≡ cs
unfolding tag
tag-front cs = front-joined (prefix_len in_tag cs) cs

text-closed : (delim inner : List ℕ) (b : Bool) → text_of (if b then block_node delim inner else inline_node delim inner) ≡ encode_utf8_all (delim ++ (inner ++ delim))
text-closed delim inner true =
    let t = tag inner in
    let rest = drop (length t) inner in
    text-warned (length delim) t inner (delimited delim (tag_leaves t ++ block_leaves rest))
    ∙ text-delimited delim inner (tag_leaves t ++ block_leaves rest)
    (texts-append (tag_leaves t) (block_leaves rest) ∙ ap (λ x. x ++ texts (block_leaves rest)) (texts-tag t) ∙ ap (λ x. encode_utf8_all t ++ x) (texts-block rest) ∙ both t rest ∙ ap encode_utf8_all (tag-front inner))
text-closed delim inner false = text-delimited delim inner (inline_leaves inner) (texts-inline inner)

two-ticks : (n : ℕ) (rest : List ℕ) → (length (tick_row n) == 2 && length rest == 0) ≡ true → tick_row n ++ rest ≡ 96 ∷ 96 ∷ []
two-ticks zero rest e = absurd (cc)
two-ticks (suc zero) rest e = absurd (cc)
two-ticks (suc (suc zero)) [] e = refl
two-ticks (suc (suc zero)) (c ∷ rest) e = absurd (grind (arith, nat_tests))
two-ticks (suc (suc (suc n))) rest e = absurd (grind (arith, nat_tests))

text-node : (cs delim rest : List ℕ) (n : ℕ) → delim ≡ tick_row n → delim ++ rest ≡ cs → text_of (delimited_node cs delim rest) ≡ encode_utf8_all cs
text-node cs delim rest n d e = cases (length delim == 2 && length rest == 0) (before_ticks (length delim) rest) refl refl
  where
    cases : (b : Bool) (o : Option (List ℕ)) → (length delim == 2 && length rest == 0) ≡ b → before_ticks (length delim) rest ≡ o
        → text_of (if b then two_delimiters else (elim o [ None ↦ error_of (codes "unclosed raw text") (encode_utf8_all cs) | Some inner ↦ closed_node delim inner ])) ≡ encode_utf8_all cs
    cases true o f g =
        let is : cs ≡ 96 ∷ 96 ∷ [] = sym e ∙ ap (λ t. t ++ rest) d ∙ two-ticks n rest (ap (λ t. length t == 2 && length rest == 0) (sym d) ∙ f) in
        ap (λ t. encode_utf8_all (96 ∷ []) ++ t) (append-nil (encode_utf8_all (96 ∷ []))) ∙ both (96 ∷ []) (96 ∷ []) ∙ ap encode_utf8_all (sym is)
    cases false None f g = append-nil (encode_utf8_all cs)
    cases false (Some inner) f g =
        let size : tick_row (length delim) ≡ delim = ap (λ t. tick_row (length t)) d ∙ ap tick_row (length-row n) ∙ sym d in
        text-closed delim inner (nat_lt 2 (length delim)) ∙ ap encode_utf8_all (ap (λ t. delim ++ t) (ap (λ t. inner ++ t) (sym size) ∙ sym (before-is (length delim) rest inner g)) ∙ e)

pub raw-leaves : RawLeaves
unfolding raw_node
raw-leaves cs = let h = ticks-row cs in grind (arith, text-node, front-joined)
