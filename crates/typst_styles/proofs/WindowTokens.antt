-- What an edit of a root's children leaves of the text and of the tokens outside of its window.
use Rattle.typst_styles.proofs.Cited.{◌≡◌, ℕ, ◌+◌, ◌-◌, ◌^◌, ◌<◌, ◌≤◌, ◌⊎◌, List, [], ◌∷◌, ◌++◌, length, map, take, drop, get_or, None, Some, refl, ap, sym, ◌∙◌, arith, inl, inr, append-nil, Range, drop-append-add, nat_tests, drop_all, get_or-drop, get_or-take, take-append-le, none, more, Tree, forest, joined, text_of, joined-append, bytes_of, root_context, roles, AreOrdered, all_tokens, merged, tokens_in, touching, StartsBefore, StartsBehind, IsWindow, IsEdit, AreKept, InThree, Stays, moved, range_of, Token, joined_root}
use Rattle.typst_kinds.specs.declared.kind.SyntaxKind.TheVariants as kind
use Rattle.typst_highlight.specs.declared.context.Context.{Context as Around}
use Rattle.typst_highlight.specs.Stretches as tagged
use Rattle.typst_names.specs.declared.contexts.Context.TheVariants as context
use Rattle.typst_styles.proofs.EditedKids.{AtEnd, AtFront, Edited, IsOf, at_end, at_front, bytes_append, bytes_is, edited, joined_is}
use Rattle.typst_styles.proofs.TokenOrder.{stretches-ordered}
use Rattle.typst_styles.proofs.TokenSeams.{all_between, merged_moved, parted_at, split}
use Rattle.typst_styles.proofs.TokensApart.{AreMoved, list_length, names_after, shown_after, shown_before}
use Rattle.typst_styles.proofs.TokensByWalk.{all_shown, shown, shown_bare}
use Rattle.typst_styles.proofs.TokensTouching.{aside}

-- ---- the children of a root of markup

-- what is round the first of them
abbrev pub top : Around
top = record { parent = Some kind.Markup; outer = None; offset = 0; trail = record { before = None; name = None; earlier = None }; ahead = None }

-- the tokens of such children
abbrev top_tokens : List Tree → List Token
top_tokens ts = shown top None context.Value (forest ts)

root_tokens : (t : Tree) → t.head.kind ≡ kind.Markup → t.head.text ≡ [] → shown root_context None context.Value (more t.head t.kids none) ≡ shown top None context.Value t.kids
root_tokens t e f = (λ i. shown root_context None context.Value (more (record t.head { kind = e i; text = f i }) t.kids none)) ∙ append-nil (shown top None context.Value t.kids)

-- all tokens of a tree whose root's children are these, spans aside
by_children : {text : List ℕ} {root : Tree} {ts : List Tree} → IsOf text root ts → all_tokens text root ≡ top_tokens ts
by_children {text} {root} w =
    all_shown text root w.whole w.few ∙ (root_tokens root w.kind w.own ∙ (sym (shown_bare top None context.Value root.kids) ∙ ap (shown top None context.Value) w.kids))

-- the text before some of them, and from there on
split_text : {text : List ℕ} {root : Tree} (xs ys : List Tree) → IsOf text root (xs ++ ys) → text ≡ joined (forest xs) ++ joined (forest ys)
split_text xs ys w = joined_is w ∙ joined-append xs ys

-- ---- before the window

-- an LF stands before a byte
abbrev pub IsFeed : List ℕ → ℕ → Type 0
IsFeed text at = (0 < at) × (get_or text (at - 1) 0 ≡ 10)

-- a line starts there, or the text
abbrev pub AtLine : List ℕ → ℕ → Type 0
AtLine text at = (at ≡ 0) ⊎ IsFeed text at

-- what is before a window in both texts
pub record Starts (text was_text : List ℕ) (was now : Tree) (most at : ℕ) : Type 0 where
  pub bound : at ≤ most
  pub same : take at text ≡ take at was_text
  pub line : AtLine text at
  pub line_was : AtLine was_text at
  pub tokens : tokens_in (range_of 0 at) text now ≡ tokens_in (range_of 0 at) was_text was

front_text : {text was_text : List ℕ} {was now : Tree} {most at : ℕ} → AtFront text was_text was now most at → take at text ≡ take at was_text
front_text {at = at} w =
    let here : at ≤ length (joined (forest w.p)) = w.within in
    let rest : List Tree → List ℕ = λ ts. joined (forest (w.b ∷ ts)) in
    ap (take at) (split_text w.p (w.b ∷ w.r) w.after)
    ∙ (take-append-le at (joined (forest w.p)) (rest w.r) here ∙ sym (ap (take at) (split_text w.p (w.b ∷ w.s) w.before) ∙ take-append-le at (joined (forest w.p)) (rest w.s) here))

front_tokens : {text was_text : List ℕ} {was now : Tree} {most at : ℕ} → AtFront text was_text was now most at → tokens_in (range_of 0 at) text now ≡ tokens_in (range_of 0 at) was_text was
front_tokens {at = at} w =
    let counted : at ≤ 2 ^ 64 - 1 = omega (arith, w.within, w.after.few, bytes_is w.after, bytes_append w.p (w.b ∷ w.r)) in
    ap (λ ts. merged (touching (range_of 0 at) ts)) (by_children w.after)
    ∙ (ap merged (shown_before (range_of 0 at) top None context.Value w.p w.b w.r w.s w.parts (omega (arith, w.within)) counted) ∙ sym (ap (λ ts. merged (touching (range_of 0 at) ts)) (by_children w.before)))

pub none_at_start : (ts : List Token) → touching (range_of 0 0) ts ≡ []
none_at_start [] = refl
none_at_start (t ∷ ts) = grind (arith, nat_tests, none_at_start ts)

pub starts : {text was_text : List ℕ} {was now : Tree} {read : Range ℕ} {at : ℕ} (w : Edited text was_text was now read) → ((at ≡ 0) ⊎ StartsBefore now text read at) → Starts text was_text was now (bytes_of w.front) at
starts {text} {was_text} {was} {now} w (inl zero_is) = grind (arith, none_at_start)
starts {text} {was_text} {at = at} w (inr s) =
    let edge = at_front w s in
    let less : at - 1 < at = omega (arith, s.line.some) in
    let same = front_text edge in
    record {
      bound = edge.bound;
      same = same;
      line = inr (s.line.some, s.line.feed);
      line_was = inr (s.line.some, sym (get_or-take at was_text (at - 1) 0 less) ∙ (sym (ap (λ bs. get_or bs (at - 1) 0) same) ∙ (get_or-take at text (at - 1) 0 less ∙ s.line.feed)));
      tokens = front_tokens edge;
    }

-- ---- behind it

-- a line starts there, or the text ends
abbrev pub AtEndLine : List ℕ → ℕ → Type 0
AtEndLine text at = (at ≡ length text) ⊎ IsFeed text at

-- what is from a window's end on in both texts
pub record Ends (text was_text : List ℕ) (was now : Tree) (least e from : ℕ) : Type 0 where
  pub here : least ≤ e
  pub there : least ≤ from
  pub within : e ≤ length text
  pub within_was : from ≤ length was_text
  pub same : drop e text ≡ drop from was_text
  pub line : AtEndLine text e
  pub line_was : AtEndLine was_text from
  pub kept : AreKept text was_text was now e from

-- behind the edge the texts are the same
back_text : {text was_text : List ℕ} {was now : Tree} {least at : ℕ} (w : AtEnd text was_text was now least at) (e from i : ℕ) → e ≡ bytes_of w.ys + i → from ≡ bytes_of w.xs + i → drop e text ≡ drop from was_text
back_text {text} {was_text} w e from i here there =
    let rest = joined (forest (w.b ∷ w.r)) in
    (λ j. drop (here j) (split_text w.ys (w.b ∷ w.r) w.after j)) ∙ (drop-append-add (joined (forest w.ys)) rest i ∙ sym ((λ j. drop (there j) (split_text w.xs (w.b ∷ w.r) w.before j)) ∙ drop-append-add (joined (forest w.xs)) rest i))

names_value : (ts : List Tree) → names_after context.Value ts ≡ context.Value
names_value [] = refl
names_value (t ∷ ts) = names_value ts

back_kept : {text was_text : List ℕ} {was now : Tree} {least : ℕ} (at from : ℕ) (w : AtEnd text was_text was now least at) → from + length text ≡ at + length was_text → AreKept text was_text was now at from
back_kept {text} {was_text} {was} {now} at from w shift =
    let m : ℕ = 0 + bytes_of w.xs in
    let n : ℕ = 0 + bytes_of w.ys in
    let old : Range ℕ = range_of from (length was_text) in
    let new : Range ℕ = range_of at (length text) in
    let long_was : length was_text ≡ bytes_of w.xs + (length (text_of w.b) + bytes_of w.r) = omega (arith, bytes_is w.before, bytes_append w.xs (w.b ∷ w.r), list_length w.b w.r) in
    let long_now : length text ≡ bytes_of w.ys + (length (text_of w.b) + bytes_of w.r) = omega (arith, bytes_is w.after, bytes_append w.ys (w.b ∷ w.r), list_length w.b w.r) in
    let all : AreMoved m n (0 + (bytes_of w.xs + (length (text_of w.b) + bytes_of w.r))) (touching old (top_tokens (w.xs ++ w.b ∷ w.r))) (touching new (top_tokens (w.ys ++ w.b ∷ w.r))) =
    shown_after top None context.Value w.xs w.ys w.b w.r old new w.parts refl (names_value w.xs ∙ sym (names_value w.ys))
    (record { ended = omega (arith, w.here); counted = omega (arith, w.before.few) })
    (record { ended = omega (arith, w.here); counted = omega (arith, w.after.few) })
    (record { start = omega arith; end = omega arith }) in
    record {
      m = m;
      n = n;
      low = omega (arith, w.here);
      by = omega arith;
      same =
          cc
          (by_children w.after, all.same, merged_moved m n (0 + (bytes_of w.xs + (length (text_of w.b) + bytes_of w.r))) (touching old (top_tokens (w.xs ++ w.b ∷ w.r))) all.counted all.counted_moved all.between, by_children w.before);
    }

pub no_end : (text : List ℕ) (root : Tree) (e : ℕ) → text ≡ text_of root → e ≡ length text → tokens_in (range_of e (length text)) text root ≡ []
no_end text root e w whole = ap merged (aside (range_of e (length text)) 0 (length text) (all_tokens text root) (all_between text root w) (inr (omega arith)))

pub ends : {text was_text : List ℕ} {was now : Tree} {read : Range ℕ} {e from : ℕ} (w : Edited text was_text was now read) → from + length text ≡ e + length was_text → ((e ≡ length text) ⊎ StartsBehind now text read e) → Ends text was_text was now (bytes_of w.front) e from
ends {text} {was_text} {was} {now} {e = e} {from = from} w shift (inl whole) =
    let whole_was : from ≡ length was_text = omega arith in
    record {
      here = omega (arith, bytes_is w.after, bytes_append w.front (w.new ++ w.back));
      there = omega (arith, bytes_is w.before, bytes_append w.front (w.old ++ w.back));
      within = omega arith;
      within_was = omega arith;
      same = drop_all e text (omega arith) ∙ sym (drop_all from was_text (omega arith));
      line = inl whole;
      line_was = inl whole_was;
      kept = record {
        m = from;
        n = e;
        low = omega arith;
        by = omega arith;
        same = no_end text now e w.after.whole whole ∙ sym (ap (map (moved from e)) (no_end was_text was from w.before.whole whole_was));
      };
    }
ends {text} {was_text} {e = e} {from = from} w shift (inr s) =
    let edge = at_end w s in
    let by : from + bytes_of edge.ys ≡ e + bytes_of edge.xs = omega (arith, bytes_is edge.before, bytes_is edge.after, bytes_append edge.xs (edge.b ∷ edge.r), bytes_append edge.ys (edge.b ∷ edge.r)) in
    let last : drop (e - 1) text ≡ drop (from - 1) was_text = back_text edge (e - 1) (from - 1) (e - 1 - bytes_of edge.ys) (omega (arith, edge.here, edge.some)) (omega (arith, edge.here, edge.some)) in
    let byte : (bs : List ℕ) (n : ℕ) → get_or (drop n bs) 0 0 ≡ get_or bs n 0 = λ bs n. get_or-drop n bs 0 0 ∙ ap (λ k. get_or bs k 0) (omega arith) in
    record {
      here = omega (arith, edge.here, edge.least_ys);
      there = omega (arith, edge.here, edge.least_xs);
      within = s.within;
      within_was = omega (arith, s.within);
      same = back_text edge e from (e - bytes_of edge.ys) (omega (arith, edge.here)) (omega (arith, edge.here));
      line = inr (s.line.some, s.line.feed);
      line_was = inr (omega (arith, edge.here, edge.some), sym (byte was_text (from - 1)) ∙ (sym (ap (λ bs. get_or bs 0 0) last) ∙ (byte text (e - 1) ∙ s.line.feed)));
      kept = back_kept e from edge shift;
    }

-- ---- the parts of all tokens

pub all_ordered : (text : List ℕ) (root : Tree) → AreOrdered 0 (all_tokens text root)
all_ordered text root = stretches-ordered text 0 _ (tagged.stretches root) (roles root) (joined_root root)

-- tokens up to a line's start, and from there on
line_split : (text : List ℕ) (root : Tree) (a m b : ℕ) → text ≡ text_of root → a ≤ m → m ≤ b → m ≤ length text → length text ≤ 2 ^ 64 - 1 → IsFeed text m
    → tokens_in (range_of a b) text root ≡ tokens_in (range_of a m) text root ++ tokens_in (range_of m b) text root
line_split text root a m b w l k within few line = split a m b (length text) 0 (all_tokens text root) l k few (omega arith) (all_ordered text root) (parted_at text root m w line.0 line.1)

three : (text : List ℕ) (root : Tree) (a e : ℕ) → text ≡ text_of root → a ≤ e → e ≤ length text → length text ≤ 2 ^ 64 - 1 → AtLine text a → AtEndLine text e → InThree text root a e
three text root a e w l k few first last = grind (arith, none_at_start, line_split, append-nil, no_end)

pub window_law : (text was_text : List ℕ) (was now : Tree) (read window : Range ℕ) (from : ℕ) → IsEdit text was_text was now read → IsWindow now text read window → from + length text ≡ window.end + length was_text → Stays text was_text was now window from
window_law text was_text was now read window from w is shift =
    let start = starts (edited w) is.start in
    let end = ends (edited w) shift is.end in
    let ordered : window.start ≤ window.end = omega (arith, start.bound, end.here) in
    let ordered_was : window.start ≤ from = omega (arith, start.bound, end.there) in
    record {
      ordered = ordered;
      ordered_was = ordered_was;
      front = start.tokens;
      back = end.kept;
      parts = three text now window.start window.end w.whole_now ordered end.within w.few_now start.line end.line;
      parts_was = three was_text was window.start from w.whole_was ordered_was end.within_was w.few_was start.line_was end.line_was;
    }
