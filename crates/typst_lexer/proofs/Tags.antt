-- Facts on tags, and on what is warned of.
use Rattle.typst_lexer.proofs.Cited.{◌≡◌, ◌<◌, ℕ, suc, ◌+◌, ◌-◌, Bool, true, false, ◌==◌, List, [], ◌∷◌, length, take, drop, reverse, slice_get, Some, None, refl, sym, ap, ◌∙◌, arith, length-take-le, nat_tests, chars-nil, encodes-chars, prefix_len, chars, IsUtf8, Place, place_at, moved_back, passes, past, run, Tree, error_of, remarked, advised, leaf, is_tick, past_ticks, before_ticks, tag_leaves, is_pair, two_delimiters, closed_node, delimited_node, raw_node, in_tag, tag, width, stretch, treated, is_whole, only_tag, warned, Bytes, codes, encode_utf8_all, ahead-text}
use Rattle.std.proofs.lemmas.List.Sums.{prefix_len-le-length}
use Rattle.typst_lines.proofs.AsciiRuns.{run-width}
use Rattle.typst_kinds.specs.declared.kind.SyntaxKind.TheVariants as kind
use Rattle.typst_tree.specs.Diagnostic.{warning_with, hint_with}
use Rattle.typst_lexer.proofs.Moves.{at, start-before, moved-ahead, moved-before}

-- ---- where the tag ends

pub drop-taken : (test : ℕ → Bool) (cs : List ℕ) → drop (length (take (prefix_len test cs) cs)) cs ≡ drop (prefix_len test cs) cs
drop-taken test cs = ap (λ n. drop n cs) (length-take-le (prefix_len test cs) cs (prefix_len-le-length test cs))

module _ (text : List ℕ) (p q : Place) (start : p ≡ place_at text 0) (moves : q ≡ past in_tag p) where
  ahead-is : p.ahead ≡ chars text
  ahead-is = ap (λ x. x.ahead) start ∙ ahead-text text

  before-is : p.before ≡ []
  before-is = ap (λ x. x.before) start ∙ start-before text

  pub tag-before : reverse q.before ≡ tag (chars text)
  unfolding tag
  tag-before = grind (arith, moved-before, before-is, ahead-is)

  pub tag-ahead : q.ahead ≡ drop (length (tag (chars text))) (chars text)
  unfolding tag
  tag-ahead = grind (arith, moved-ahead, ahead-is, drop-taken)

-- ---- texts and their characters

pub width-is : (text : List ℕ) → IsUtf8 text → width (chars text) ≡ length text
width-is text u = ap length (encodes-chars text u)

pub tag_leaves-none : (text : List ℕ) → (length text == 0) ≡ true → tag_leaves (chars text) ≡ []
tag_leaves-none [] e = ap tag_leaves chars-nil
tag_leaves-none (c ∷ text) e = absurd (grind (arith, nat_tests))

pub tag_leaves-some : (text : List ℕ) → IsUtf8 text → (length text == 0) ≡ false → tag_leaves (chars text) ≡ leaf kind.RawLang (chars text) ∷ []
tag_leaves-some text u e = cases (chars text) refl
  where
    cases : (cs : List ℕ) → chars text ≡ cs → tag_leaves cs ≡ leaf kind.RawLang cs ∷ []
    cases [] f = let none : text ≡ [] = sym (encodes-chars text u) ∙ ap encode_utf8_all f in let bad : true ≡ false = sym (ap (λ t. length t == 0) none) ∙ e in absurd (cc)
    cases (c ∷ cs) f = refl

pub tick-chars : chars (96 ∷ []) ≡ 96 ∷ []
unfolding chars
tick-chars = refl

-- backticks take a byte each
pub ticks-width : (cs : List ℕ) → length (encode_utf8_all (take (prefix_len is_tick cs) cs)) ≡ length (take (prefix_len is_tick cs) cs)
ticks-width cs = run-width is_tick small cs
  where
    small : (c : ℕ) → is_tick c ≡ true → c < 128
    small c e = let is : c ≡ 96 = grind (arith, nat_tests) in omega (arith, is)

-- ---- warnings

module _ (n : ℕ) (tag : List ℕ) (node t1 t2 t3 : Tree) (r : Bytes) (m : List ℕ) where
  pub only_tag-is : r ≡ stretch n tag → m ≡ treated tag → t1 ≡ remarked (warning_with None (codes "empty raw text")) node
      → t2 ≡ advised (hint_with None m) t1 → t3 ≡ advised (hint_with (Some r) (codes "to treat this as text, add a space after the initial backticks")) t2 → t3 ≡ only_tag n tag node
  only_tag-is a d f g h = cc

pub warned-only : (n : ℕ) (tag inner : List ℕ) (t : Tree) → is_whole tag inner ≡ true → warned n tag inner t ≡ only_tag n tag t
unfolding warned
warned-only n tag inner t e = rw e refl

pub warned-not : (n : ℕ) (tag inner : List ℕ) (t : Tree) → is_whole tag inner ≡ false → warned n tag inner t ≡ t
unfolding warned
warned-not n tag inner t e = rw e refl

-- ---- backticks at the end

pub ticks-step : (count i : ℕ) (p q : Place) → i < count → passes (λ c. c == 96) (slice_get p.before 0) ≡ true → q ≡ moved_back p → past_ticks (count - (i + 1)) q.before ≡ past_ticks (count - i) p.before
ticks-step count i p q lt e m = ap (λ x. past_ticks (count - (i + 1)) x.before) m ∙ from p.before p.ahead e
  where
    from : (xs ys : List ℕ) → passes (λ c. c == 96) (slice_get xs 0) ≡ true → past_ticks (count - (i + 1)) (moved_back (at xs ys)).before ≡ past_ticks (count - i) xs
    from [] ys e = absurd (cc)
    from (c ∷ xs) ys e = let more : count - i ≡ suc (count - (i + 1)) = omega arith in rw (more, e) refl

-- ---- the node

pub pair-is : (delim rest : List ℕ) → length delim ≡ 2 → (length rest == 0) ≡ is_pair delim rest
pair-is delim rest e = rw e refl

pub node-is : (cs delim rest : List ℕ) → delim ≡ take (prefix_len is_tick cs) cs → rest ≡ drop (prefix_len is_tick cs) cs → raw_node cs ≡ delimited_node cs delim rest
unfolding raw_node
node-is cs delim rest d r = grind (arith, drop-taken)

pub node-pair : (cs delim rest : List ℕ) → is_pair delim rest ≡ true → delimited_node cs delim rest ≡ two_delimiters
node-pair cs delim rest e = rw e refl

pub node-open : (cs delim rest : List ℕ) (n : ℕ) → is_pair delim rest ≡ false → n ≡ length delim → before_ticks n rest ≡ None → delimited_node cs delim rest ≡ error_of (codes "unclosed raw text") (encode_utf8_all cs)
node-open cs delim rest n e f g = rw (e, ap (λ m. before_ticks m rest) (sym f) ∙ g) refl

pub node-closed : (cs delim rest inner : List ℕ) (n : ℕ) → is_pair delim rest ≡ false → n ≡ length delim → before_ticks n rest ≡ Some inner → delimited_node cs delim rest ≡ closed_node delim inner
node-closed cs delim rest inner n e f g = rw (e, ap (λ m. before_ticks m rest) (sym f) ∙ g) refl

-- what a text's start is split into
pub record IsSplit (text delim rest : List ℕ) : Type 0 where
  pub ascii : length delim ≡ length (chars delim)
  pub whole : raw_node (chars text) ≡ delimited_node (chars text) (chars delim) (chars rest)

pub split-is : (text delim rest : List ℕ) (p q : Place) → IsUtf8 delim → p ≡ place_at text 0 → q ≡ past is_tick p → chars delim ≡ run is_tick p → chars rest ≡ q.ahead → IsSplit text delim rest
split-is text delim rest p q u start moves taken left =
    let cs = chars text in
    let all : p.ahead ≡ cs = ap (λ x. x.ahead) start ∙ ahead-text text in
    let d : chars delim ≡ take (prefix_len is_tick cs) cs = taken ∙ ap (λ x. take (prefix_len is_tick x) x) all in
    let r : chars rest ≡ drop (prefix_len is_tick cs) cs = left ∙ ap (λ x. x.ahead) moves ∙ moved-ahead (prefix_len is_tick p.ahead) p ∙ ap (λ x. drop (prefix_len is_tick x) x) all in
    record {
      ascii = sym (width-is delim u) ∙ ap width d ∙ ticks-width cs ∙ ap length (sym d);
      whole = node-is cs (chars delim) (chars rest) d r;
    }
