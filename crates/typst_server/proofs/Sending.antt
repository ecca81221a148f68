-- The numbers that are sent of tokens: all, or those that make them of the ones that were sent last.
use Rattle.typst_server.proofs.Cited.{◌≡◌, ℕ, zero, suc, ◌+◌, ◌-◌, ◌*◌, ◌^◌, ◌<◌, ◌≤◌, min, List, [], ◌∷◌, ◌++◌, length, take, drop, get_or, Option, None, Some, Result, IfOk, MatchResult, String, Global, refl, ap, sym, ◌∙◌, append_assoc, arith, length-drop, length-take-le, take-append-drop, slice_get, IsUtf8, get_or_from_slice_get, string_bytes, Data, byte_at, position_of, Encoding, Position, IsJsonOf, stretch_in, Refusal, OutOfMemory, Opened, Token, Shown, all_shown, decoded, encoded, numbers_of, shown, shown_each, InStretch, TellsTokens, TellsWithin, AreTokens, IsSince, SameEnds, WritesTokens, Tokens, tokens_ordered}
use Rattle.typst_protocol.specs.declared.params.Stretch.{Stretch}
use Rattle.typst_server.specs.declared.tracked.Ends.{Ends}
use Rattle.typst_server.proofs.Decoding.{tokens-back}
use Rattle.typst_server.proofs.NumbersRenewed.{length_shown}
use Rattle.typst_server.proofs.SameEnds.{ends_less, ends_made}
use Rattle.typst_server.proofs.SplicedNumbers.{encoded-length, last_column, last_line}
use Rattle.typst_server.proofs.SplicedSent.{numbers_between}
use Rattle.typst_server.proofs.SplicedTokens.{shown-append}

-- ---- all numbers

-- they are those of the tokens of the present tree
pub told_tokens : (document : Opened) → IsUtf8 document.source.text → TellsTokens document (numbers_of document)
told_tokens document utf8 = grind (arith, tokens-back, tokens_ordered)

pub numbers_are : (document : Opened) (ts : List Token) → AreTokens document (Some ts) → encoded 0 0 (shown_each document.encoding document.source.text ts) ≡ numbers_of document
numbers_are document ts all = ap (λ (us : List Token). encoded 0 0 (shown_each document.encoding document.source.text us)) all

pub numbers_count : (document : Opened) (ts : List Token) → AreTokens document (Some ts) → length (numbers_of document) ≡ 5 * length ts
numbers_count document ts all = grind (arith, numbers_are, encoded-length, length_shown)

-- ---- some of them

last_line_at : (e : Encoding) (text : List ℕ) (ts : List Token) (k : ℕ) (d : Token) (line : ℕ) → k < length ts → last_line line (shown_each e text (take (suc k) ts)) ≡ (position_of e text (get_or ts k d).start).line
last_line_at e text [] k d line within = absurd (omega (arith, within))
last_line_at e text (t ∷ ts) zero d line within = refl
last_line_at e text (t ∷ ts) (suc k) d line within = last_line_at e text ts k d (shown e text t).line (omega (arith, within))

last_column_at : (e : Encoding) (text : List ℕ) (ts : List Token) (k : ℕ) (d : Token) (column : ℕ) → k < length ts → last_column column (shown_each e text (take (suc k) ts)) ≡ (position_of e text (get_or ts k d).start).column
last_column_at e text [] k d column within = absurd (omega (arith, within))
last_column_at e text (t ∷ ts) zero d column within = refl
last_column_at e text (t ∷ ts) (suc k) d column within = last_column_at e text ts k d (shown e text t).column (omega (arith, within))

-- the numbers of a part of tokens, by the one before it
part_numbers : (e : Encoding) (text : List ℕ) (ts : List Token) (start end : ℕ) → start ≤ end → end ≤ length ts
    → encoded (last_line 0 (shown_each e text (take start ts))) (last_column 0 (shown_each e text (take start ts))) (shown_each e text (take (end - start) (drop start ts)))
    ≡ take (5 * (end - start)) (drop (5 * start) (encoded 0 0 (shown_each e text ts)))
part_numbers e text ts start end low within =
    let k : ℕ = end - start in
    let xs : List Token = take start ts in
    let ys : List Token = take k (drop start ts) in
    let zs : List Token = drop k (drop start ts) in
    let fs : List Shown = shown_each e text xs in
    let ms : List Shown = shown_each e text ys in
    let bs : List Shown = shown_each e text zs in
    let parts : xs ++ (ys ++ zs) ≡ ts = ap (λ us. xs ++ us) (take-append-drop k (drop start ts)) ∙ take-append-drop start ts in
    let whole : shown_each e text ts ≡ fs ++ (ms ++ bs) = ap (shown_each e text) (sym parts) ∙ (shown-append e text xs (ys ++ zs) ∙ ap (λ ss. fs ++ ss) (shown-append e text ys zs)) in
    let first : length fs ≡ start = length_shown e text xs ∙ length-take-le start ts (omega (arith, low, within)) in
    let middle : length ms ≡ k = length_shown e text ys ∙ length-take-le k (drop start ts) (omega (arith, low, within, length-drop start ts)) in
    grind (arith, numbers_between)

pub first_numbers : (e : Encoding) (text : List ℕ) (ts : List Token) (start end : ℕ) → start ≡ 0 → start ≤ end → end ≤ length ts
    → encoded 0 0 (shown_each e text (take (end - start) (drop start ts))) ≡ take (5 * (end - start)) (drop (5 * start) (encoded 0 0 (shown_each e text ts)))
first_numbers e text ts start end none low within =
    let rest : List Shown = shown_each e text (take (end - start) (drop start ts)) in
    sym (ap (λ n. encoded (last_line 0 (shown_each e text (take n ts))) (last_column 0 (shown_each e text (take n ts))) rest) none) ∙ part_numbers e text ts start end low within

pub later_numbers : (e : Encoding) (text : List ℕ) (ts : List Token) (start end line column : ℕ) (last : Token) → 0 < start → start ≤ end → end ≤ length ts → slice_get ts (start - 1) ≡ Some last
    → (let p : Position = record { line = line; column = column } in p) ≡ position_of e text last.start
    → encoded line column (shown_each e text (take (end - start) (drop start ts))) ≡ take (5 * (end - start)) (drop (5 * start) (encoded 0 0 (shown_each e text ts)))
later_numbers e text ts start end line column last some low within is at =
    let token : get_or ts (start - 1) last ≡ last = get_or_from_slice_get ts (start - 1) last last is in
    let place : (let p : Position = record { line = line; column = column } in p) ≡ position_of e text (get_or ts (start - 1) last).start = at ∙ ap (λ (t : Token). position_of e text t.start) (sym token) in
    let here : suc (start - 1) ≡ start = omega (arith, some) in
    let inside : start - 1 < length ts = omega (arith, some, low, within) in
    let rest : List Shown = shown_each e text (take (end - start) (drop start ts)) in
    let first : last_line 0 (shown_each e text (take start ts)) ≡ line =
    ap (λ n. last_line 0 (shown_each e text (take n ts))) (sym here) ∙ (last_line_at e text ts (start - 1) last 0 inside ∙ sym (ap (λ (p : Position). p.line) place)) in
    let second : last_column 0 (shown_each e text (take start ts)) ≡ column =
    ap (λ n. last_column 0 (shown_each e text (take n ts))) (sym here) ∙ (last_column_at e text ts (start - 1) last 0 inside ∙ sym (ap (λ (p : Position). p.column) place)) in
    sym (λ i. encoded (first i) (second i) rest) ∙ part_numbers e text ts start end low within

-- ---- by what they are made of those that were sent last

-- the numbers of what stands between ends that are the same take the place of what stood there
pub made_since : (now was : Opened) (ends : Ends) (ts : List Token) (len most front back start removed : ℕ) (numbers : List ℕ) → AreTokens now (Some ts) → IsSince now was ends → len ≡ length ts → most ≡ min ends.count len → front ≡ min ends.front most → back ≡ min ends.back (most - front)
    → start ≡ min (front * 5) (2 ^ 64 - 1) → removed ≡ min ((ends.count - front - back) * 5) (2 ^ 64 - 1) → numbers ≡ take (5 * (len - back - front)) (drop (5 * front) (encoded 0 0 (shown_each now.encoding now.source.text ts)))
    → take start (numbers_of was) ++ numbers ++ drop (start + removed) (numbers_of was) ≡ numbers_of now
made_since now was ends ts len most front back start removed numbers all since len_is most_is front_is back_is start_is removed_is are =
    let old : List ℕ = numbers_of was in
    let new : List ℕ = numbers_of now in
    let counted = since.counted in
    let few = since.few in
    let size : length new ≡ 5 * length ts = numbers_count now ts all in
    let least : front ≤ ends.front = omega (arith, front_is) in
    let last : back ≤ ends.back = omega (arith, back_is) in
    let fits : front + back ≤ most = omega (arith, front_is, back_is) in
    let fits_old : front + back ≤ ends.count = omega (arith, most_is, fits) in
    let fits_new : front + back ≤ length ts = omega (arith, len_is, most_is, fits) in
    let first : start ≡ 5 * front = omega (arith, start_is, fits_old, few) in
    let gone : removed ≡ 5 * (ends.count - front - back) = omega (arith, removed_is, fits_old, few) in
    let rest : start + removed ≡ length old - 5 * back = omega (arith, first, gone, fits_old, counted) in
    let between : 5 * (len - back - front) ≡ length new - 5 * front - 5 * back = omega (arith, len_is, size, fits_new) in
    let same : SameEnds old new (5 * front) (5 * back) = ends_less old new (5 * ends.front) (5 * ends.back) (5 * front) (5 * back) (omega (arith, least)) (omega (arith, last)) since.same in
    let middle : numbers ≡ take (length new - 5 * front - 5 * back) (drop (5 * front) new) =
    are
    ∙ (ap (λ n. take n (drop (5 * front) (encoded 0 0 (shown_each now.encoding now.source.text ts)))) between
    ∙ ap (λ ns. take (length new - 5 * front - 5 * back) (drop (5 * front) ns)) (numbers_are now ts all)) in
    grind (arith, append_assoc, ends_made)

-- ---- what a client makes of them

-- ---- as they are written

-- those of a stretch
pub within_written : (params : Option Data) (document : Opened) (stretch : Stretch) (start end : ℕ) (tokens : Tokens) (result : Result (String Global) Refusal) → stretch_in params ≡ Some stretch
    → start ≡ byte_at document.encoding document.source.text stretch.start → end ≡ byte_at document.encoding document.source.text stretch.end → tokens.result_id ≡ None
    → (length document.source.text < 2 ^ 32 → decoded 0 0 tokens.data.now ≡ all_shown document (record { start = start; end = end }))
    → MatchResult result (λ text. IsJsonOf (WritesTokens tokens) (string_bytes text)) (λ why. why ≡ OutOfMemory) → IfOk result (λ text. InStretch params document (λ range. TellsWithin document range (string_bytes text)))
within_written params document stretch start end tokens result named first last unnamed numbers json = grind arith
