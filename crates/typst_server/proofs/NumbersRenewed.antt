-- The numbers of all tokens after an edit: those outside of its window stay, but for the first one behind it.
use Rattle.typst_server.proofs.Cited.{◌≡◌, ℕ, suc, ◌+◌, ◌-◌, ◌*◌, ◌^◌, ◌<◌, ◌≤◌, ◌⊎◌, List, [], ◌∷◌, ◌++◌, length, map, take, drop, get_or, refl, ap, sym, subst, ◌∙◌, arith, inl, inr, Range, Tree, position_of, Encoding, tokens_in, IsEdit, IsWindow, Stays, moved, range_of, Token, encoded, shown_each, SameEnds, AllBefore, AllFrom, Between}
use Rattle.typst_styles.proofs.WindowSides.{Sides, sides}
use Rattle.typst_styles.proofs.WindowTokens.{AtLine, IsFeed, window_law}
use Rattle.typst_server.proofs.SamePlaces.{SameBehind, first_line, lines_to}
use Rattle.typst_server.proofs.SplicedNumbers.{AllFrom as AllDown, down}
use Rattle.typst_server.proofs.SplicedSent.{numbers_stay}
use Rattle.typst_server.proofs.SplicedTokens.{back-shown, front-shown, shown-append}

pub length_shown : (e : Encoding) (text : List ℕ) (ts : List Token) → length (shown_each e text ts) ≡ length ts
length_shown e text [] = refl
length_shown e text (t ∷ ts) = ap suc (length_shown e text ts)

none_before : (ts : List Token) → AllBefore 0 ts → ts ≡ []
none_before [] h = refl
none_before (t ∷ ts) h = let first = h.0 in absurd (omega (arith, first))

-- before the window
front_shown : (e : Encoding) (u t : List ℕ) (a : ℕ) (fs : List Token) → take a u ≡ take a t → AtLine t a → a ≤ length u → a ≤ length t → length t ≤ 2 ^ 64 - 1 → AllBefore a fs → shown_each e u fs ≡ shown_each e t fs
front_shown e u t a fs same h low low_was few w = grind (arith, none_before, front-shown)

-- behind it they are shown as many lines further
pub record Behind (e : Encoding) (u t : List ℕ) (m n : ℕ) (bs : List Token) : Type 0 where
  pub l : ℕ
  pub k : ℕ
  pub same : shown_each e u (map (moved m n) bs) ≡ map (down l k) (shown_each e t bs)
  pub low : AllDown l (shown_each e t bs)

none_behind : (e : Encoding) (u t : List ℕ) (m n : ℕ) (bs : List Token) → bs ≡ [] → Behind e u t m n bs
none_behind e u t m n bs none = subst (Behind e u t m n) (sym none) (record { l = 0; k = 0; same = refl; low = tt })

lines_from : (e : Encoding) (t u : List ℕ) (b c : ℕ) (w : SameBehind t u b c) (ts : List Token) → AllFrom b ts → Between 0 (length t) ts → AllDown (lines_to t (b - 1)) (shown_each e t ts)
lines_from e t u b c w [] v q = tt
lines_from e t u b c w (x ∷ ts) v q =
    let from = v.0 in
    let ends = q.0.1 in
    let here : x.start ≡ b + (x.start - b) = omega (arith, from) in
    (subst (λ z. lines_to t (b - 1) ≤ (position_of e t z).line) (sym here) (first_line t u b c w e (x.start - b) (omega (arith, from, ends))), lines_from e t u b c w ts v.1 q.1)

behind_line : (e : Encoding) (u t : List ℕ) (m n from to : ℕ) (bs : List Token) → drop to u ≡ drop from t → (0 < to) × (get_or u (to - 1) 0 ≡ 10) → (0 < from) × (get_or t (from - 1) 0 ≡ 10) → to + m ≡ from + n → m ≤ from → length t ≤ 2 ^ 64 - 1
    → length u ≤ 2 ^ 64 - 1 → from + length u ≡ to + length t → AllFrom from bs → Between 0 (length t) bs → Behind e u t m n bs
behind_line e u t m n from to bs same line line_was by low few few_now shift ended counted =
    let w : SameBehind t u from to = record { drops = sym same; some = line_was.0; some_too = line.0; feed = line_was.1; feed_too = line.1 } in
    record {
      l = lines_to t (from - 1);
      k = lines_to u (to - 1);
      same = back-shown e t u from to m n w by low few few_now (omega (arith, shift)) bs ended counted;
      low = lines_from e t u from to w bs ended counted;
    }

behind : (e : Encoding) (u t : List ℕ) (was : Tree) (m n a to from : ℕ) → Sides u t was a to from → to + m ≡ from + n → m ≤ from → length t ≤ 2 ^ 64 - 1 → length u ≤ 2 ^ 64 - 1 → from + length u ≡ to + length t
    → (tokens_in (range_of from (length t)) t was ≡ []) ⊎ (IsFeed u to × IsFeed t from) → Behind e u t m n (tokens_in (range_of from (length t)) t was)
behind e u t was m n a to from x by low few few_now shift (inl none) = none_behind e u t m n (tokens_in (range_of from (length t)) t was) none
behind e u t was m n a to from x by low few few_now shift (inr lines) =
    behind_line e u t m n from to (tokens_in (range_of from (length t)) t was) x.back lines.0 lines.1 by low few few_now shift x.ended x.counted

-- THE NUMBERS BEFORE AND AFTER AN EDIT have the same ends: those of the tokens before its window, and of those behind it but the first
pub numbers_renewed : (e : Encoding) (u t : List ℕ) (was now : Tree) (read window : Range ℕ) (from : ℕ) → IsEdit u t was now read → IsWindow now u read window → from + length u ≡ window.end + length t
    → SameEnds (encoded 0 0 (shown_each e t (tokens_in (range_of 0 (length t)) t was))) (encoded 0 0 (shown_each e u (tokens_in (range_of 0 (length u)) u now))) (5 * length (tokens_in (range_of 0 window.start) t was))
    (5 * (length (tokens_in (range_of from (length t)) t was) - 1))
numbers_renewed e u t was now read window from w is shift =
    let s : Stays u t was now window from = window_law u t was now read window from w is shift in
    let x : Sides u t was window.start window.end from = sides u t was now read window from w is shift in
    let fs : List Token = tokens_in (range_of 0 window.start) t was in
    let ms : List Token = tokens_in (range_of window.start from) t was in
    let bs : List Token = tokens_in (range_of from (length t)) t was in
    let ws : List Token = tokens_in (range_of window.start window.end) u now in
    let rest = behind e u t was s.back.m s.back.n window.start window.end from x s.back.by s.back.low w.few_was w.few_now shift x.rest in
    let first : shown_each e u fs ≡ shown_each e t fs = front_shown e u t window.start fs x.front x.line_was x.low x.low_was w.few_was x.begun in
    let old : shown_each e t (tokens_in (range_of 0 (length t)) t was) ≡ shown_each e t fs ++ (shown_each e t ms ++ shown_each e t bs) =
    ap (shown_each e t) s.parts_was ∙ (shown-append e t fs (ms ++ bs) ∙ ap (λ ss. shown_each e t fs ++ ss) (shown-append e t ms bs)) in
    let parts : tokens_in (range_of 0 (length u)) u now ≡ fs ++ (ws ++ map (moved s.back.m s.back.n) bs) = s.parts ∙ (λ i. s.front i ++ (ws ++ s.back.same i)) in
    let new : shown_each e u (tokens_in (range_of 0 (length u)) u now) ≡ shown_each e t fs ++ (shown_each e u ws ++ map (down rest.l rest.k) (shown_each e t bs)) =
    ap (shown_each e u) parts
    ∙ (shown-append e u fs (ws ++ map (moved s.back.m s.back.n) bs) ∙ (ap (λ ss. shown_each e u fs ++ ss) (shown-append e u ws (map (moved s.back.m s.back.n) bs)) ∙ (λ i. first i ++ (shown_each e u ws ++ rest.same i)))) in
    let stay = numbers_stay rest.l rest.k (shown_each e t fs) (shown_each e t ms) (shown_each e u ws) (shown_each e t bs) rest.low in
    let at_front : SameEnds (encoded 0 0 (shown_each e t fs ++ (shown_each e t ms ++ shown_each e t bs))) (encoded 0 0 (shown_each e t fs ++ (shown_each e u ws ++ map (down rest.l rest.k) (shown_each e t bs)))) (5 * length fs) (5 * (length bs - 1)) =
    subst (λ k. SameEnds (encoded 0 0 (shown_each e t fs ++ (shown_each e t ms ++ shown_each e t bs))) (encoded 0 0 (shown_each e t fs ++ (shown_each e u ws ++ map (down rest.l rest.k) (shown_each e t bs)))) (5 * k) (5 * (length bs - 1)))
    (length_shown e t fs)
    (subst (λ k. SameEnds (encoded 0 0 (shown_each e t fs ++ (shown_each e t ms ++ shown_each e t bs))) (encoded 0 0 (shown_each e t fs ++ (shown_each e u ws ++ map (down rest.l rest.k) (shown_each e t bs)))) (5 * length (shown_each e t fs)) (5 * (k - 1)))
    (length_shown e t bs) stay) in
    grind arith
