-- The texts and the tokens on both sides of a window, before an edit and after it.
use Rattle.typst_styles.proofs.Cited.{◌≡◌, ℕ, ◌+◌, ◌-◌, ◌^◌, ◌<◌, ◌≤◌, ◌⊎◌, List, [], length, take, drop, ap, sym, subst, arith, inl, inr, Range, Tree, text_of, all_tokens, merged, tokens_in, touching, IsEdit, IsWindow, range_of, Token}
use Rattle.typst_styles.proofs.EachToken.{AllBefore, AllFrom, Between, IsBetween, merged_each, touching_each}
use Rattle.typst_styles.proofs.EditedKids.{edited}
use Rattle.typst_styles.proofs.RenewedTokens.{end_from}
use Rattle.typst_styles.proofs.TokenSeams.{all_between, parted_at, touching_before}
use Rattle.typst_styles.proofs.WindowTokens.{AtEndLine, AtLine, IsFeed, ends, no_end, none_at_start, starts}

-- what stays on both sides of a window
pub record Sides (text was_text : List ℕ) (was : Tree) (a e from : ℕ) : Type 0 where
  pub front : take a text ≡ take a was_text
  pub line : AtLine text a
  pub line_was : AtLine was_text a
  pub low : a ≤ length text
  pub low_was : a ≤ length was_text
  pub back : drop e text ≡ drop from was_text
  pub rest : (tokens_in (range_of from (length was_text)) was_text was ≡ []) ⊎ (IsFeed text e × IsFeed was_text from)
  pub begun : AllBefore a (tokens_in (range_of 0 a) was_text was)
  pub ended : AllFrom from (tokens_in (range_of from (length was_text)) was_text was)
  pub counted : Between 0 (length was_text) (tokens_in (range_of from (length was_text)) was_text was)

begun_at : (text : List ℕ) (root : Tree) (a : ℕ) → a ≤ 2 ^ 64 - 1 → text ≡ text_of root → AtLine text a → AllBefore a (tokens_in (range_of 0 a) text root)
begun_at text root a few w (inl zero_is) = subst (λ z. AllBefore z (tokens_in (range_of 0 z) text root)) (sym zero_is) (subst (AllBefore 0) (sym (ap merged (none_at_start (all_tokens text root)))) tt)
begun_at text root a few w (inr line) =
    merged_each (λ (t : Token). t.start + t.len < a) (λ t u at v w. omega arith) (touching (range_of 0 a) (all_tokens text root)) (touching_before 0 a (length text) (all_tokens text root) (parted_at text root a w line.0 line.1))

rest_is : (text was_text : List ℕ) (was : Tree) (e from : ℕ) → was_text ≡ text_of was → from + length text ≡ e + length was_text → AtEndLine text e → AtEndLine was_text from → (tokens_in (range_of from (length was_text)) was_text was ≡ []) ⊎ (IsFeed text e × IsFeed was_text from)
rest_is text was_text was e from w shift h g = grind (arith, no_end)

pub sides : (text was_text : List ℕ) (was now : Tree) (read window : Range ℕ) (from : ℕ) → IsEdit text was_text was now read → IsWindow now text read window → from + length text ≡ window.end + length was_text → Sides text was_text was window.start window.end from
sides text was_text was now read window from w is shift =
    let start = starts (edited w) is.start in
    let end = ends (edited w) shift is.end in
    let low_was : window.start ≤ length was_text = omega (arith, start.bound, end.there, end.within_was) in
    let rest : Range ℕ = range_of from (length was_text) in
    record {
      front = start.same;
      line = start.line;
      line_was = start.line_was;
      low = omega (arith, start.bound, end.here, end.within);
      low_was = low_was;
      back = end.same;
      rest = rest_is text was_text was window.end from w.whole_was shift end.line end.line_was;
      begun = begun_at was_text was window.start (omega (arith, low_was, w.few_was)) w.whole_was start.line_was;
      ended = end_from was_text was from w.whole_was end.line_was;
      counted =
          merged_each (IsBetween 0 (length was_text)) (λ t u at v z. (omega arith, omega (arith, w.few_was))) (touching rest (all_tokens was_text was))
          (touching_each (IsBetween 0 (length was_text)) (IsBetween 0 (length was_text)) rest (λ t is hit. is) (all_tokens was_text was) (all_between was_text was w.whole_was));
    }
