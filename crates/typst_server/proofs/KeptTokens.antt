-- The tokens that are kept with a document, from one time that they are asked for to the next.
use Rattle.typst_server.proofs.Cited.{◌≡◌, ℕ, ◌-◌, ◌*◌, ◌^◌, ◌≤◌, min, List, length, Option, None, Some, is_some, option_and_then, option_map, Result, IfOk, refl, ap, sym, subst, ◌∙◌, arith, result_ok, Range, IsReadAgain, Opened, all_bytes, Tree, Encoding, tokens_in, IsOfBoth, IsWindow, range_of, Token, encoded, numbers_of, shown_each, Followed, IsCarriedBy, IsCarriedOver, IsKeptBy, IsLast, IsLastAfter, IsPresent, IsShortened, IsSince, IsTracked, MayStay, SameEnds, StaysKept, TellsSince, WasBefore, ends_by, ends_if, if_named, is_edited, sent_by, shortened, Kept, AreOutside, AreRenewed, IsOutside, window_shift, Carried}
use Rattle.typst_document.specs.Headline.{Headline}
use Rattle.typst_document.specs.UnicodeTables.{unicode_classes}
use Rattle.typst_styles.specs.declared.renewed.Outside.{Outside}
use Rattle.typst_server.specs.declared.tracked.Ends.{Ends}
use Rattle.typst_server.specs.declared.tracked.Last.{Last}
use Rattle.typst_server.proofs.NumbersRenewed.{numbers_renewed}
use Rattle.typst_server.proofs.SameEnds.{ends_both, ends_itself, ends_less, no_ends}
use Rattle.typst_server.proofs.Sending.{numbers_count}

-- ---- what was sent last

-- of tokens that were sent nothing need be known
since_none : (now was other : Opened) (ends : Ends) → IsSince other was ends → IsSince now was (shortened 0 0 ends)
since_none now was other ends w =
    record { counted = w.counted; few = w.few; same = ends_less (numbers_of was) (numbers_of now) 0 0 (5 * min ends.front 0) (5 * min ends.back 0) (omega arith) (omega arith) (no_ends (numbers_of was) (numbers_of now)) }

since_read : (was document : Opened) (read : Option (Range ℕ)) (last : Last) → WasBefore was document read → IsSince was last.of.value last.ends → IsSince document last.of.value (ends_if (is_some read) last.ends)
since_read was document None last is w = subst (λ (d : Opened). IsSince d last.of.value last.ends) is w
since_read was document (Some read) last is w = since_none document last.of.value was last.ends w

-- where edits came since tokens were kept nothing is known of those that were sent, and else what was known
since_if : (document : Opened) (kept : Option Kept) (last : Last) → IsTracked document kept (Some last) → IsSince document last.of.value (ends_if (is_edited kept) last.ends)
since_if document None last w = w
since_if document (Some kept) last w = since_read w.was document kept.read last w.of.since w.last

told_of : (document : Opened) (kept : Option Kept) (last : Option Last) (name : List ℕ) → IsTracked document kept last → TellsSince document (if_named name (option_map sent_by last)) (option_and_then (ends_by name (is_edited kept)) last)
told_of document kept last name h = grind (arith, since_if)

-- a document tells how its tokens stand to those that were sent last
pub told_since : (now : Followed) (document : Opened) (kept : Option Kept) (last : Option Last) (name : List ℕ) (ends : Option Ends) → document ≡ now.document → option_map sent_by last ≡ now.sent → IsTracked document kept last
    → ends ≡ option_and_then (ends_by name (is_edited kept)) last → TellsSince now.document (if_named name now.sent) ends
told_since now document kept last name ends document_is sent_is tracked ends_are = grind (arith, told_of)

-- ---- tokens that are at hand

-- where no edit came they are of the present document
present_read : (was document : Opened) (read : Option (Range ℕ)) → read ≡ None → WasBefore was document read → was ≡ document
present_read was document read none is = subst (WasBefore was document) none is

-- tokens of the present document stand as it does to those that were sent last
pub present_stand : (document : Opened) (kept : Option Kept) (last : Option Last) → IsPresent document kept → IsLast document last → IsTracked document kept last
present_stand document kept last is since = grind arith

-- ---- when tokens were sent

-- ---- from one change to the next

shortened_since : (was now : Opened) (front back : ℕ) (last short : Last) → SameEnds (numbers_of was) (numbers_of now) (5 * front) (5 * back) → IsSince was last.of.value last.ends → IsShortened last short front back → IsSince now short.of.value short.ends
shortened_since was now front back last short same since is =
    let sent : List ℕ = numbers_of last.of.value in
    let ends : Ends = shortened front back last.ends in
    let first : SameEnds sent (numbers_of was) (5 * ends.front) (5 * ends.back) =
    ends_less sent (numbers_of was) (5 * last.ends.front) (5 * last.ends.back) (5 * ends.front) (5 * ends.back) (omega arith) (omega arith) since.same in
    let second : SameEnds (numbers_of was) (numbers_of now) (5 * ends.front) (5 * ends.back) =
    ends_less (numbers_of was) (numbers_of now) (5 * front) (5 * back) (5 * ends.front) (5 * ends.back) (omega arith) (omega arith) same in
    let here : IsSince now last.of.value ends =
    record { counted = since.counted; few = since.few; same = ends_both sent (numbers_of was) (numbers_of now) (5 * ends.front) (5 * ends.back) first second } in
    subst (λ (d : Opened). IsSince now d short.ends) (sym is.of) (subst (IsSince now last.of.value) (sym is.ends) here)

last_since : (was now : Opened) (front back : ℕ) (last after : Option Last) → SameEnds (numbers_of was) (numbers_of now) (5 * front) (5 * back) → IsLast was last → IsLastAfter last front back after → IsLast now after
last_since was now front back None None same w is = tt
last_since was now front back None (Some short) same w is = cc
last_since was now front back (Some last) None same w is = absurd is
last_since was now front back (Some last) (Some short) same w is = shortened_since was now front back last short same w is

none_same : (was now : Opened) → SameEnds (numbers_of was) (numbers_of now) (5 * 0) (5 * 0)
none_same was now = ends_less (numbers_of was) (numbers_of now) 0 0 (5 * 0) (5 * 0) (omega arith) (omega arith) (no_ends (numbers_of was) (numbers_of now))

-- where no tokens are kept nothing is known of them
pub dropped_stand : (old new : Opened) (kept : Option Kept) (last after : Option Last) → IsTracked old kept last → IsLastAfter last 0 0 after → IsTracked new None after
dropped_stand old new None last after w is = last_since old new 0 0 last after (none_same old new) w is
dropped_stand old new (Some kept) last after w is = last_since w.was new 0 0 last after (none_same w.was new) w.last is

-- kept tokens stand as they did
pub stays_stand : (old new : Opened) (kept : Option Kept) (new_kept : Kept) (read : Option (Range ℕ)) (last : Option Last) (before after : ℕ) → Headline unicode_classes old.source → Headline unicode_classes new.source → new.encoding ≡ old.encoding → IsReadAgain old new read
    → before ≡ length old.source.text → after ≡ length new.source.text → MayStay kept read before after (Some new_kept) → IsTracked old kept last → IsTracked new (Some new_kept) last
stays_stand old new None new_kept read last before after line_was line_now encoding again long long_now stays w = absurd stays
stays_stand old new (Some kept) new_kept None last before after line_was line_now encoding again long long_now stays w = absurd stays
stays_stand old new (Some kept) new_kept (Some read) last before after line_was line_now encoding again long long_now stays w = grind arith

-- what a document read again is an edit
edited : (old new : Opened) (read : Range ℕ) (before after : ℕ) → Headline unicode_classes old.source → Headline unicode_classes new.source → IsReadAgain old new (Some read) → before ≡ length old.source.text → after ≡ length new.source.text → before ≤ 2 ^ 64 - 1 → after ≤ 2 ^ 64 - 1
    → WasBefore old new (Some read)
edited old new read before after line_was line_now again long long_now few few_now = grind arith

-- tokens that are kept through one more edit: the first one since they were made, or a later one
pub through_first : (kept new_kept : Kept) (read : Range ℕ) (before after : ℕ) → before ≤ 2 ^ 64 - 1 → after ≤ 2 ^ 64 - 1 → kept.read ≡ None → new_kept.tokens ≡ kept.tokens → new_kept.was_len ≡ kept.was_len → new_kept.read ≡ Some read → StaysKept kept read before after new_kept
through_first kept new_kept read before after few few_now none tokens len is = grind arith

pub through_later : (kept new_kept : Kept) (first read both : Range ℕ) (before after : ℕ) → before ≤ 2 ^ 64 - 1 → after ≤ 2 ^ 64 - 1 → IsOfBoth first read before after both → kept.read ≡ Some first → new_kept.tokens ≡ kept.tokens → new_kept.was_len ≡ kept.was_len → new_kept.read ≡ Some both
    → StaysKept kept read before after new_kept
through_later kept new_kept first read both before after few few_now joins some tokens len is = λ was old new line_was line_now encoding again long long_now w.
    let since : WasBefore was old (Some first) = subst (WasBefore was old) some w.since in
    let one : WasBefore old new (Some read) = edited old new read before after line_was line_now again long long_now few few_now in
    record {
      encoding = encoding ∙ w.encoding;
      tokens = tokens ∙ w.tokens;
      len = len ∙ w.len;
      since = subst (WasBefore was new) (sym is) (joins was.source.text old.source.text new.source.text was.source.root old.source.root new.source.root long long_now since one);
    }

-- ---- tokens that are made again

-- what holds of tokens that are made holds of those that were
pub made_if : {E : Type 0} (made : Result (List Token) E) (tokens : List Token) (Q : List Token → Type 0) → result_ok made ≡ Some tokens → IfOk made Q → Q tokens
made_if made tokens Q is h = grind arith

-- those that are renewed are of the present document too
pub renewed_present : (document : Opened) (text : List ℕ) (root : Tree) (window : Range ℕ) (was : List Token) (was_len : ℕ) (kept : Kept) → text ≡ document.source.text → root ≡ document.source.root → AreRenewed text root window was was_len kept.tokens → kept.was_len ≡ length text → kept.read ≡ None
    → IsKeptBy document window was was_len (Some kept)
renewed_present document text root window was was_len kept text_is root_is renewed len none = λ was_text was_root read edit is long all.
    let there : AreRenewed document.source.text document.source.root window was was_len kept.tokens =
    subst (λ (t : List ℕ). AreRenewed t document.source.root window was was_len kept.tokens) text_is (subst (λ (r : Tree). AreRenewed text r window was was_len kept.tokens) root_is renewed) in
    record { tokens = there was_text was_root read edit is long all; len = len ∙ ap length text_is; unread = none }

-- the numbers outside of the window stay, except those of the first token after it
pub edits_carried : (document : Opened) (text : List ℕ) (root : Tree) (read window : Range ℕ) (was : List Token) (was_len : ℕ) (outside : Outside) (carried : Carried) → text ≡ document.source.text → root ≡ document.source.root → IsWindow root text read window → AreOutside text window was was_len outside
    → IsKeptBy document window was was_len carried.kept → carried.front ≡ outside.front → carried.back ≡ outside.back - 1 → IsCarriedBy document read was was_len carried
edits_carried document text root read window was was_len outside carried text_is root_is is counts by front_is back_is = λ old same_encoding all long edit.
    let e : Encoding = old.encoding in
    let u : List ℕ = document.source.text in
    let t : List ℕ = old.source.text in
    let window_is : IsWindow document.source.root u read window = subst (λ (text : List ℕ). IsWindow document.source.root text read window) text_is (subst (λ (r : Tree). IsWindow r text read window) root_is is) in
    let counts_now : AreOutside u window was was_len outside = subst (λ (text : List ℕ). AreOutside text window was was_len outside) text_is counts in
    let from : ℕ = length t - (length u - window.end) in
    let counted : IsOutside t old.source.root window.start from outside = counts_now t old.source.root document.source.root read edit window_is long all in
    let first : outside.front ≡ length (tokens_in (range_of 0 window.start) t old.source.root) = counted.front in
    let last : outside.back ≡ length (tokens_in (range_of from (length t)) t old.source.root) = counted.back in
    let law = numbers_renewed e u t old.source.root document.source.root read window from edit window_is (window_shift u t old.source.root document.source.root read window from edit window_is refl) in
    let shown : SameEnds (numbers_of old) (encoded 0 0 (shown_each e u (tokens_in (all_bytes document) u document.source.root))) (5 * carried.front) (5 * carried.back) =
    ends_less (numbers_of old) (encoded 0 0 (shown_each e u (tokens_in (all_bytes document) u document.source.root))) (5 * length (tokens_in (range_of 0 window.start) t old.source.root))
    (5 * (length (tokens_in (range_of from (length t)) t old.source.root) - 1)) (5 * carried.front) (5 * carried.back) (omega (arith, first, front_is)) (omega (arith, last, back_is)) law in
    let same : SameEnds (numbers_of old) (numbers_of document) (5 * carried.front) (5 * carried.back) =
    subst (λ (c : Encoding). SameEnds (numbers_of old) (encoded 0 0 (shown_each c u (tokens_in (all_bytes document) u document.source.root))) (5 * carried.front) (5 * carried.back)) (sym same_encoding) shown in
    record { kept = by t old.source.root read edit window_is long all; same = same }

-- where no edit came all stay
pub all_carried : (document : Opened) (kept : Kept) (carried : Carried) → kept.read ≡ None → carried.kept ≡ Some kept → carried.front ≡ length kept.tokens → carried.back ≡ length kept.tokens → IsCarriedOver document (Some kept) carried
all_carried document kept carried none kept_is front back = grind (arith, present_read, numbers_count, ends_less, ends_itself)

-- what is at hand then stands so to what was sent last
pub carried_stand : (document : Opened) (kept : Option Kept) (last after : Option Last) (carried : Carried) → IsTracked document kept last → IsCarriedOver document kept carried → IsLastAfter last carried.front carried.back after → IsTracked document carried.kept after
carried_stand document kept last after carried w over is = grind (arith, present_stand, last_since)
