-- The tokens that an edit leaves as they were, picked from all by where they begin.
use Rattle.typst_styles.proofs.Cited.{◌≡◌, ℕ, zero, suc, ◌+◌, ◌-◌, ◌%◌, ◌^◌, ◌<◌, ◌≤◌, max, true, false, List, [], ◌∷◌, ◌++◌, length, map, take, drop, get_or, refl, ap, sym, subst, ◌∙◌, arith, inl, inr, append_assoc, length-append, length-drop, length-take-le, take_at, drop_at, Range, ltb-false, ltb-true, nat_tests, take-append-drop, IsPartitionedBy-ltb, Tree, text_of, AreOutside, AreRenewed, IsOutside, IsParted, begun_before, begun_from, carried, replaced, AreOrdered, all_tokens, tokens_in, touching, IsEdit, IsWindow, Stays, moved, range_of, Token, Outside, nat_lt}
use Rattle.std.specs.List.{AllWithin}
use Rattle.std.specs.List.Sorted.{IsPartitionPoint, IsPartitionedBy}
use Rattle.typst_styles.proofs.EachToken.{AllFrom, AllUnder, each_both, each_of, each_so, merged_each, touching_each}
use Rattle.typst_styles.proofs.EditedKids.{at_end, bytes_append, bytes_is, edited}
use Rattle.typst_styles.proofs.TokenOrder.{merged-ordered, touching-ordered}
use Rattle.typst_styles.proofs.TokenSeams.{parted_at, touching_from}
use Rattle.typst_styles.proofs.TokensApart.{list_length}
use Rattle.typst_styles.proofs.WindowTokens.{AtEndLine, AtLine, IsFeed, all_ordered, ends, no_end, starts, window_law}

-- ---- where the tokens with a byte of a range begin

tokens_under : (text : List ℕ) (root : Tree) (a b : ℕ) → AllUnder b (tokens_in (range_of a b) text root)
tokens_under text root a b =
    merged_each (λ (t : Token). t.start < b) (λ t u at v w. v) (touching (range_of a b) (all_tokens text root))
    (touching_each (λ (t : Token). 0 ≤ t.start) (λ (t : Token). t.start < b) (range_of a b) (λ t w hit. grind (arith, nat_tests)) (all_tokens text root) (each_of (λ (t : Token). 0 ≤ t.start) (λ t. omega arith) (all_tokens text root)))

line_from : (text : List ℕ) (root : Tree) (m b : ℕ) → text ≡ text_of root → IsFeed text m → AllFrom m (tokens_in (range_of m b) text root)
line_from text root m b w line =
    merged_each (λ (t : Token). m ≤ t.start) (λ t u at v w. v) (touching (range_of m b) (all_tokens text root)) (touching_from m b (length text) (all_tokens text root) (parted_at text root m w line.0 line.1))

start_from : (text : List ℕ) (root : Tree) (m b : ℕ) → text ≡ text_of root → AtLine text m → AllFrom m (tokens_in (range_of m b) text root)
start_from text root m b w h = grind (arith, each_of, line_from)

pub end_from : (text : List ℕ) (root : Tree) (m : ℕ) → text ≡ text_of root → AtEndLine text m → AllFrom m (tokens_in (range_of m (length text)) text root)
end_from text root m w h = grind (arith, no_end, line_from)

-- they are in order
pub tokens_ordered : (text : List ℕ) (root : Tree) (range : Range ℕ) → AreOrdered 0 (tokens_in range text root)
tokens_ordered text root range = merged-ordered 0 (touching range (all_tokens text root)) (touching-ordered range 0 (all_tokens text root) (all_ordered text root))

-- ---- those that are picked

none_begun : (a : ℕ) (ts : List Token) → AllFrom a ts → begun_before a ts ≡ []
none_begun a [] w = refl
none_begun a (t ∷ ts) w = grind (arith, nat_tests, none_begun a ts w.1)

all_begun : (a : ℕ) (xs ys : List Token) → AllUnder a xs → AllFrom a ys → begun_before a (xs ++ ys) ≡ xs
all_begun a [] ys v w = none_begun a ys w
all_begun a (t ∷ xs) ys v w = grind (arith, nat_tests, all_begun a xs ys v.1 w)

rest_begun : (a : ℕ) (ts : List Token) → AllFrom a ts → begun_from a ts ≡ ts
rest_begun a [] w = refl
rest_begun a (t ∷ ts) w = grind (arith, nat_tests, rest_begun a ts w.1)

all_behind : (a : ℕ) (xs ys : List Token) → AllUnder a xs → AllFrom a ys → begun_from a (xs ++ ys) ≡ ys
all_behind a [] ys v w = rest_begun a ys w
all_behind a (t ∷ xs) ys v w = grind (arith, nat_tests, all_behind a xs ys v.1 w)

-- a token is moved as far, whichever bytes tell how far
carried_moved : (from to m n e : ℕ) (ts : List Token) → from < 2 ^ 64 → m ≤ from → to + m ≡ from + n → e - from + to ≤ 2 ^ 64 - 1 → AllFrom from ts → AllUnder e ts → map (carried from to) ts ≡ map (moved m n) ts
carried_moved from to m n e [] small low by few v w = refl
carried_moved from to m n e (t ∷ ts) small low by few v w =
    let same : (t.start + (to + (2 ^ 64 - from)) % 2 ^ 64) % 2 ^ 64 ≡ t.start - m + n = omega (arith, v.0, w.0) in
    grind (arith, carried_moved from to m n e ts small low by few v.1 w.1)

-- ---- the law

-- where the window ended in the old text: what stands behind it stood there too
pub window_shift : (text was_text : List ℕ) (was now : Tree) (read window : Range ℕ) (from : ℕ) → IsEdit text was_text was now read → IsWindow now text read window → from ≡ length was_text - (length text - window.end)
    → from + length text ≡ window.end + length was_text
window_shift text was_text was now read window from w is there = elim is.end [
  | inl whole ↦ omega arith
  | inr s ↦
      let edge = at_end (edited w) s in
      omega (arith, edge.here, s.within, bytes_is edge.after, bytes_append edge.ys (edge.b ∷ edge.r), bytes_is edge.before, bytes_append edge.xs (edge.b ∷ edge.r), list_length edge.b edge.r)
]

-- what a window leaves, by where tokens begin
pub record Leaves (text was_text : List ℕ) (was now : Tree) (window : Range ℕ) (from : ℕ) (ts : List Token) : Type 0 where
  pub ordered : window.start ≤ from
  pub all : replaced window.start from window.end (tokens_in window text now) ts ≡ tokens_in (range_of 0 (length text)) text now
  pub front : begun_before window.start ts ≡ tokens_in (range_of 0 window.start) was_text was
  pub back : begun_from from ts ≡ tokens_in (range_of from (length was_text)) was_text was

pub renewed_law : (text was_text : List ℕ) (was now : Tree) (read window : Range ℕ) (from : ℕ) (ts : List Token) → IsEdit text was_text was now read → IsWindow now text read window → from ≡ length was_text - (length text - window.end)
    → ts ≡ tokens_in (range_of 0 (length was_text)) was_text was → Leaves text was_text was now window from ts
renewed_law text was_text was now read window from ts w is there all =
    let shift : from + length text ≡ window.end + length was_text = window_shift text was_text was now read window from w is there in
    let s : Stays text was_text was now window from = window_law text was_text was now read window from w is shift in
    let start = starts (edited w) is.start in
    let end = ends (edited w) shift is.end in
    let fs : List Token = tokens_in (range_of 0 window.start) was_text was in
    let ms : List Token = tokens_in (range_of window.start from) was_text was in
    let bs : List Token = tokens_in (range_of from (length was_text)) was_text was in
    let parts : ts ≡ fs ++ (ms ++ bs) = all ∙ s.parts_was in
    let first : AllUnder window.start fs = tokens_under was_text was 0 window.start in
    let behind : AllFrom from bs = end_from was_text was from w.whole_was end.line_was in
    let before : AllFrom window.start (ms ++ bs) =
    each_both (λ (t : Token). window.start ≤ t.start) ms bs (start_from was_text was window.start from w.whole_was start.line_was) (each_so (λ (t : Token). from ≤ t.start) (λ (t : Token). window.start ≤ t.start) (λ t l. omega (arith, l, s.ordered_was)) bs behind) in
    let under : AllUnder from (fs ++ ms) =
    each_both (λ (t : Token). t.start < from) fs ms (each_so (λ (t : Token). t.start < window.start) (λ (t : Token). t.start < from) (λ t l. omega (arith, l, s.ordered_was)) fs first) (tokens_under was_text was window.start from) in
    let front : begun_before window.start ts ≡ fs = ap (begun_before window.start) parts ∙ all_begun window.start fs (ms ++ bs) first before in
    let picked : begun_from from ts ≡ bs = ap (begun_from from) (parts ∙ sym (append_assoc fs ms bs)) ∙ all_behind from (fs ++ ms) bs under behind in
    let back : map (carried from window.end) (begun_from from ts) ≡ map (moved s.back.m s.back.n) bs =
    ap (map (carried from window.end)) picked
    ∙ carried_moved from window.end s.back.m s.back.n (length was_text) bs (omega (arith, there, w.few_was)) s.back.low s.back.by (omega (arith, shift, w.few_now, end.within_was)) behind (tokens_under was_text was from (length was_text)) in
    let new : tokens_in (range_of 0 (length text)) text now ≡ fs ++ (tokens_in window text now ++ map (moved s.back.m s.back.n) bs) =
    s.parts ∙ (λ i. s.front i ++ (tokens_in window text now ++ s.back.same i)) in
    record { ordered = s.ordered_was; all = (λ i. front i ++ (tokens_in window text now ++ back i)) ∙ sym new; front = front; back = picked }

-- tokens that were replaced in the lines of a window are all
pub renewed : (text : List ℕ) (now : Tree) (window : Range ℕ) (was : List Token) (was_len from : ℕ) (made whole : List Token) → from ≡ was_len - (length text - window.end) → made ≡ tokens_in window text now
    → (AreOrdered 0 was → window.start ≤ from → whole ≡ replaced window.start from window.end made was) → AreRenewed text now window was was_len whole
renewed text now window was was_len from made whole there made_is put = λ was_text was_root read w is long all.
    let at : from ≡ length was_text - (length text - window.end) = there ∙ ap (λ n. n - (length text - window.end)) long in
    let law = renewed_law text was_text was_root now read window from was w is at all in
    let ordered : AreOrdered 0 was = subst (AreOrdered 0) (sym all) (tokens_ordered was_text was_root (range_of 0 (length was_text))) in
    put ordered law.ordered ∙ (ap (λ ms. replaced window.start from window.end ms was) made_is ∙ law.all)

-- those that begin before a window and behind it are counted
pub outside : (text : List ℕ) (window : Range ℕ) (was : List Token) (was_len from before : ℕ) (counts : Outside) → from ≡ was_len - (length text - window.end) → counts.front ≤ length was → (AreOrdered 0 was → IsParted window.start was counts.front) → (AreOrdered 0 was → IsParted from was before)
    → counts.back ≡ length was - before → AreOutside text window was was_len counts
outside text window was was_len from before counts there within one two back_is = λ was_text was_root root read w is long all.
    let at : from ≡ length was_text - (length text - window.end) = there ∙ ap (λ n. n - (length text - window.end)) long in
    let law = renewed_law text was_text was_root root read window from was w is at all in
    let ordered : AreOrdered 0 was = subst (AreOrdered 0) (sym all) (tokens_ordered was_text was_root (range_of 0 (length was_text))) in
    let first = one ordered in
    let last = two ordered in
    let counted : IsOutside was_text was_root window.start from counts = record {
      front = sym (length-take-le counts.front was within) ∙ (ap length first.before ∙ ap length law.front);
      back = back_is ∙ (sym (length-drop before was) ∙ (ap length last.behind ∙ ap length law.back));
    } in
    subst (λ k. IsOutside was_text was_root window.start k counts) at counted

-- ---- where tokens in order part

pub ordered_from : (a b : ℕ) (ts : List Token) → a ≤ b → AreOrdered b ts → AllFrom a ts
ordered_from a b [] le w = tt
ordered_from a b (t ∷ ts) le w = (omega (arith, w.0), ordered_from a t.start ts (omega (arith, w.0)) w.1)

-- tokens that are in order where f moves them, by where they begin then
rising : (f : Token → Token) (a : ℕ) (ts : List Token) → AreOrdered a (map f ts) → (i j : ℕ) (d : Token) → i ≤ j → j < length ts → a ≤ (f (get_or ts j d)).start × (f (get_or ts i d)).start ≤ (f (get_or ts j d)).start
rising f a [] w i j d le within = absurd (omega arith)
rising f a (t ∷ ts) w zero zero d le within = (w.0, omega arith)
rising f a (t ∷ ts) w zero (suc j) d le within = let later = (rising f (f t).start ts w.1 j j d (omega arith) (omega arith)).0 in (omega (arith, w.0), later)
rising f a (t ∷ ts) w (suc i) zero d le within = absurd (omega arith)
rising f a (t ∷ ts) w (suc i) (suc j) d le within = let later = rising f (f t).start ts w.1 i j d (omega arith) (omega arith) in (omega (arith, w.0, later.0), later.1)

-- where a test of order parts them
pub parting : (f : Token → Token) (byte : ℕ) (ts : List Token) → AreOrdered 0 (map f ts) → IsPartitionedBy (λ (t : Token). nat_lt (f t).start byte) ts
parting f byte ts w = IsPartitionedBy-ltb (λ (t : Token). (f t).start) ts byte (λ i j d le within. (rising f 0 ts w i j d le within).1)

abbrev pub Halves : (Token → Token) → ℕ → List Token → ℕ → Type 0
Halves f byte ts i = IsPartitionPoint (λ (t : Token). nat_lt (f t).start byte ≡ true) (λ (t : Token). nat_lt (f t).start byte ≡ false) ts i

halves_under : (f : Token → Token) (byte : ℕ) (ts : List Token) (i : ℕ) → AllWithin (λ (t : Token). nat_lt (f t).start byte ≡ true) ts 0 i → AllUnder byte (take i (map f ts))
halves_under f byte ts zero h = tt
halves_under f byte [] (suc i) h = tt
halves_under f byte (t ∷ ts) (suc i) h = (ltb-true (f t).start byte (h 0 t (omega arith) (omega arith)), halves_under f byte ts i (λ k d lo hi. h (suc k) d (omega arith) (omega arith)))

halves_from : (f : Token → Token) (byte : ℕ) (ts : List Token) (i : ℕ) → AllWithin (λ (t : Token). nat_lt (f t).start byte ≡ false) ts i (length ts) → AllFrom byte (drop i (map f ts))
halves_from f byte [] zero h = tt
halves_from f byte [] (suc i) h = tt
halves_from f byte (t ∷ ts) zero h = (ltb-false (f t).start byte (h 0 t (omega arith) (omega arith)), halves_from f byte ts zero (λ k d lo hi. h (suc k) d (omega arith) (omega arith)))
halves_from f byte (t ∷ ts) (suc i) h = halves_from f byte ts i (λ k d lo hi. h (suc k) d (omega arith) (omega arith))

pub parted_by : (byte : ℕ) (ts : List Token) (i : ℕ) → AllUnder byte (take i ts) → AllFrom byte (drop i ts) → IsParted byte ts i
parted_by byte ts i v w = grind (arith, all_begun, take-append-drop, all_behind)

pub parted : (f : Token → Token) (byte : ℕ) (ts : List Token) (i : ℕ) → Halves f byte ts i → IsParted byte (map f ts) i
parted f byte ts i h = parted_by byte (map f ts) i (halves_under f byte ts i h.0) (halves_from f byte ts i h.1)

-- ---- those that are put in the place of others

begun_more : (a b : ℕ) (ts : List Token) → a ≤ b → length (begun_before a ts) ≤ length (begun_before b ts)
begun_more a b [] le = omega arith
begun_more a b (t ∷ ts) le = grind (arith, nat_tests, begun_more a b ts le)

-- the greater of two counts is that of the greater byte
later_is : (a b : ℕ) (ts : List Token) (first last : ℕ) → a ≤ b → first ≤ length ts → last ≤ length ts → IsParted a ts first → IsParted b ts last → max last first ≡ last
later_is a b ts first last le within within_last one two =
    omega (arith, length-take-le first ts within, ap length one.before, length-take-le last ts within_last, ap length two.before, begun_more a b ts le)

-- what is put into a list, with all behind it moved
pub put_moved : (f : Token → Token) (xs ys zs : List Token) (i j k : ℕ) → i ≤ length xs → k ≡ i + length ys → zs ≡ take i xs ++ (ys ++ drop j xs) → take k zs ++ map f (drop k zs) ≡ take i xs ++ (ys ++ map f (drop j xs))
put_moved f xs ys zs i j k h behind put =
    let front = take i xs in
    let size : length (front ++ ys) ≡ k = omega (arith, length-append front ys, length-take-le i xs h, behind) in
    grind (arith, append_assoc, take_at, drop_at)

pub put_between : (start end to : ℕ) (was made whole : List Token) (first last at : ℕ) → first ≤ length was → last ≤ length was → (AreOrdered 0 was → IsParted start was first) → (AreOrdered 0 was → IsParted end was last)
    → at ≡ max last first → whole ≡ take first was ++ (made ++ map (carried end to) (drop at was)) → AreOrdered 0 was → start ≤ end → whole ≡ replaced start end to made was
put_between start end to was made whole first last at within within_last one two at_is whole_is ordered le = grind (arith, later_is)
