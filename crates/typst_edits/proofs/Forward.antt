-- Trivia look only ahead, and so does a token at which a content block's run ends.
use Rattle.typst_edits.proofs.Cited.{◌≡◌, ◌+◌, ℕ, zero, suc, Bool, true, false, not, ◌||◌, ◌&&◌, ◌==◌, nat_lt, if◌then◌else◌, List, [], ◌∷◌, length, slice_get, Some, None, refl, ap, sym, ◌∙◌, subst, arith, and_parts, SyntaxKind, is_trivia, Place, moved, CharClasses, Look, look, no_look, token, Token, near, stretch, Ask, shift, looked, marked, token_at, len_at, at_trivia, Ahead, ahead_by, ahead, asks_by, ahead_asks, hand_at, hand_asks, Trivia, gap_of, moved-sum, on_both, ends_block, AllFrom, lead, codes, is_none, Reader, Turn, from_before, skip_look, place, spanned, span_look, at_word, exec, of_mode, hash, slash, star, backtick, is_space, is_u64, is_code_point, code_point, backslash, whitespace, shebang, line_comment, block_comment, comment_end, comment_step, in_comment, line_ends, sign, text, text_from, in_link, link_end, link, link_or_text, label_or_text, ref_marker, ref_or_text, label, in_raw, raw_end, raw}
use Rattle.typst_lines.specs.Place.{scout, passes, run, past}
use Rattle.std.specs.Char.{is_ascii_digit, is_whitespace}
use Rattle.typst_kinds.specs.declared.kind.SyntaxKind.TheVariants as kind
use Rattle.typst_kinds.specs.declared.mode.SyntaxMode.TheVariants.{Markup}
use Rattle.typst_lines.specs.Sets.{among}
use Rattle.typst_tokens.specs.Markup.{dot, marker_or_text, marker, hyphen, minus, emphasis, heading, numbering, markup}
use Rattle.typst_tokens.specs.Memory.Memory.{blank, comment, fence, brackets, quoted}
use Rattle.typst_tokens.specs.Reader.Turn.{leave, last, go}
use Rattle.typst_tokens.specs.Reader.Reader.{answer, peek, skip}
use Rattle.typst_lines.specs.Identifiers.{is_id_continue}
use Rattle.typst_lines.specs.Labels.{is_name}
use Rattle.typst_tokens.specs.Token.{plain}
use Rattle.typst_tokens.specs.Memory.{Memory}
use Rattle.typst_language.specs.Meaning.{run as read}
use Rattle.typst_grammar.proofs.Fine.{or-left as or-first, or-right as or-second}
use Rattle.typst_edits.proofs.Looks.{OfLooks, looks-both, looks-by, looks-shifted}

-- ---- what is read is no trivia, and ends no block

-- trivia, or a token at which a content block's run ends
abbrev is_still : SyntaxKind → Bool
is_still s = is_trivia s || ends_block s

abbrev Bare : Reader Memory Token → Place → Type 0
Bare r p = is_still (exec r p).0.kind ≡ false

bare-if : (b : Bool) (x y : Reader Memory Token) (p : Place) → Bare x p → Bare y p → Bare (if b then x else y) p
bare-if b x y p h i = on_both (λ (r : Reader Memory Token). Bare r p) b x y h i

word-bare : (n : ℕ) (word : List ℕ) (x y : Reader Memory Token) (p : Place) → Bare x p → Bare y p → Bare (at_word n word x y) p
word-bare n [] x y p h i = h
word-bare n (c ∷ word) x y p h i = bare-if (passes (λ d. d == c) (scout n p)) (at_word (suc n) word x y) y p (word-bare (suc n) word x y p h i) i

point-bare : (digits : List ℕ) (p : Place) → Bare (code_point digits) p
unfolding code_point
point-bare digits p = bare-if (passes (λ c. c == 125) (scout 0 p)) _ _ p (on_both (λ (t : Token). is_still t.kind ≡ false) (is_code_point digits) _ _ refl refl) refl

backslash-bare : (p : Place) → Bare backslash p
unfolding backslash
backslash-bare p =
    let q = moved 1 p in
    bare-if (passes (λ d. d == 117) (scout 0 q)) _ _ q
    (bare-if (passes (λ d. d == 123) (scout 1 q)) _ _ q (point-bare _ _) (bare-if (passes (λ c. not (is_whitespace c)) (scout 0 q)) _ _ q refl refl))
    (bare-if (passes (λ c. not (is_whitespace c)) (scout 0 q)) _ _ q refl refl)

text-bare : (k : CharClasses) (p : Place) → Bare (text k) p
unfolding text
text-bare k p = refl

abbrev ends : CharClasses → SyntaxKind → Bool → Reader Memory Token
ends k s b = if b then answer (plain s) else text k

ends-bare : (k : CharClasses) (s : SyntaxKind) (p : Place) → is_still s ≡ false → (b : Bool) → Bare (ends k s b) p
ends-bare k s p h b = bare-if b (answer (plain s)) (text k) p h (text-bare k p)

marker-bare : (k : CharClasses) (s : SyntaxKind) (p : Place) → is_still s ≡ false → Bare (marker_or_text k s) p
unfolding marker_or_text
marker-bare k s p h =
    elim (scout 0 p) as (λ o. Bare (elim o as (λ _. Reader Memory Token) [
      | None ↦ ends k s true
      | Some c ↦ if c == 47 then peek 1 (λ d. ends k s (passes (among (codes "/*")) d)) else ends k s (is_whitespace c)
    ]) p) [
      | None ↦ h
      | Some c ↦ bare-if (c == 47) (peek 1 (λ d. ends k s (passes (among (codes "/*")) d))) (ends k s (is_whitespace c)) p
          (ends-bare k s p h (passes (among (codes "/*")) (scout 1 p))) (ends-bare k s p h (is_whitespace c))
    ]

dot-bare : (k : CharClasses) (p : Place) → Bare (dot k) p
unfolding dot
dot-bare k p =
    let q = moved 1 p in
    bare-if (passes (λ d. d == 46) (scout 0 q)) _ _ q (bare-if (passes (λ d. d == 46) (scout 1 q)) _ _ q refl (text-bare k q)) (text-bare k q)

minus-bare : (k : CharClasses) (p : Place) → Bare (minus k) p
unfolding minus hyphen
minus-bare k p =
    let q = moved 1 p in
    bare-if (passes (λ c. c == 45) (scout 0 q)) _ _ q (bare-if (passes (λ c. c == 45) (scout 0 (moved 1 q))) _ _ (moved 1 q) refl refl)
    (bare-if (passes (λ c. c == 63) (scout 0 q)) _ _ q refl
    (bare-if (passes k.numeric (scout 0 q)) _ _ q refl (marker-bare k kind.ListMarker q refl)))

emphasis-bare : (k : CharClasses) (s : SyntaxKind) (p : Place) → is_still s ≡ false → Bare (emphasis k s) p
unfolding emphasis sign text_from
emphasis-bare k s p h =
    bare-if (passes k.word (slice_get p.before 0)) _ _ p (bare-if (passes k.word (scout 1 p)) _ _ p (text-bare k (moved 1 p)) h) h

heading-bare : (k : CharClasses) (p : Place) → Bare (heading k) p
unfolding heading
heading-bare k p = marker-bare k kind.HeadingMarker (past (λ c. c == 61) p) refl

numbering-bare : (k : CharClasses) (p : Place) → Bare (numbering k) p
unfolding numbering
numbering-bare k p =
    let q = past is_ascii_digit p in
    bare-if (passes (λ c. c == 46) (scout 0 q)) _ _ q
    (bare-if (is_u64 (run is_ascii_digit p)) _ _ (moved 1 q) (marker-bare k kind.EnumMarker (moved 1 q) refl) (text-bare k (moved 1 q))) (text-bare k q)

link-end-bare : (m : Memory) → is_still (link_end m).kind ≡ false
link-end-bare blank = refl
link-end-bare (comment a b) = refl
link-end-bare (fence a b) = refl
link-end-bare (brackets []) = refl
link-end-bare (brackets (c ∷ cs)) = refl
link-end-bare (quoted e) = refl

link-bare : (p : Place) → Bare link p
unfolding link
link-bare p = link-end-bare (spanned in_link (brackets []) p.before p.ahead).1

link-or-text-bare : (k : CharClasses) (p : Place) → Bare (link_or_text k) p
unfolding link_or_text
link-or-text-bare k p =
    let q = moved 1 p in
    word-bare 0 (codes "ttp://") (skip 6 link) (at_word 0 (codes "ttps://") (skip 7 link) (text k)) q (link-bare (moved 6 q))
    (word-bare 0 (codes "ttps://") (skip 7 link) (text k) q (link-bare (moved 7 q)) (text-bare k q))

label-bare : (k : CharClasses) (p : Place) → Bare (label_or_text k) p
unfolding label_or_text label text_from
label-bare k p =
    let q = past (is_name k) (moved 1 p) in
    bare-if (passes (is_id_continue k) (scout 1 p)) _ _ p (bare-if (passes (λ c. c == 62) (scout 0 q)) _ _ q refl refl) (text-bare k (moved 1 p))

ref-bare : (k : CharClasses) (p : Place) → Bare (ref_or_text k) p
unfolding ref_or_text ref_marker text_from
ref-bare k p = bare-if (passes (is_id_continue k) (scout 1 p)) _ _ p refl (text-bare k (moved 1 p))

raw-end-bare : (m : Memory) → is_still (raw_end m).kind ≡ false
raw-end-bare blank = refl
raw-end-bare (comment a b) = refl
raw-end-bare (fence a b) = refl
raw-end-bare (brackets cs) = refl
raw-end-bare (quoted e) = refl

raw-bare : (p : Place) → Bare raw p
unfolding raw
raw-bare p =
    let ticks = run (λ c. c == 96) p in
    let q = past (λ c. c == 96) p in
    bare-if (length ticks == 2) _ _ q refl (raw-end-bare (spanned in_raw (fence (length ticks) 0) q.before q.ahead).1)

-- A token of markup or a closing bracket is one.
markup-each : (P : Reader Memory Token → Type 0) (k : CharClasses) (c : ℕ) (p : Place) → ((r : Reader Memory Token) → Bare r p → P r) → P (sign kind.RightBracket) → P (markup k c)
unfolding markup sign marker text_from
markup-each P k c p bare bracket =
    on_both P (c == 92) _ _ (bare _ (backslash-bare p))
    (on_both P (c == 104) _ _ (bare _ (link-or-text-bare k p))
    (on_both P (c == 60) _ _ (bare _ (label-bare k p))
    (on_both P (c == 64) _ _ (bare _ (ref-bare k p))
    (on_both P (c == 46) _ _ (bare _ (dot-bare k p))
    (on_both P (c == 45) _ _ (bare _ (minus-bare k p))
    (on_both P (c == 42) _ _ (bare _ (emphasis-bare k kind.Star p refl))
    (on_both P (c == 95) _ _ (bare _ (emphasis-bare k kind.Underscore p refl))
    (on_both P (c == 35) _ _ (bare _ refl)
    (on_both P (c == 91) _ _ (bare _ refl)
    (on_both P (c == 93) _ _ bracket
    (on_both P (c == 39 || c == 34) _ _ (bare _ refl)
    (on_both P (c == 36) _ _ (bare _ refl)
    (on_both P (c == 126) _ _ (bare _ refl)
    (on_both P (c == 58) _ _ (bare _ refl)
    (on_both P (c == 61) _ _ (bare _ (heading-bare k p))
    (on_both P (c == 43) _ _ (bare _ (marker-bare k kind.EnumMarker (moved 1 p) refl))
    (on_both P (c == 47) _ _ (bare _ (marker-bare k kind.TermMarker (moved 1 p) refl))
    (on_both P (is_ascii_digit c) _ _ (bare _ (numbering-bare k p))
    (bare _ (text-bare k (moved 1 p)))))))))))))))))))))

-- ---- what is trivia looks only ahead

abbrev Fore : Reader Memory Token → Place → Type 0
Fore r p = is_trivia (exec r p).0.kind ≡ true → (look r p).back ≡ 0

bare-fore : (r : Reader Memory Token) (p : Place) → Bare r p → Fore r p
bare-fore r p h e = let f : true ≡ false = sym e ∙ or-first (is_trivia (exec r p).0.kind) (ends_block (exec r p).0.kind) h in cc

markup-fore : (k : CharClasses) (c : ℕ) (p : Place) → Fore (markup k c) p
unfolding sign
markup-fore k c p = markup-each (λ r. Fore r p) k c p (λ r h. bare-fore r p h) (λ e. absurd (cc))

fore-if : (b : Bool) (x y : Reader Memory Token) (p : Place) → Fore x p → Fore y p → Fore (if b then x else y) p
fore-if b x y p h i = on_both (λ (r : Reader Memory Token). Fore r p) b x y h i

turn-back : (t : Turn Memory) (c : ℕ) (b a : List ℕ) → ((m : Memory) → (span_look in_comment m (c ∷ b) a).back ≡ 0)
    → (elim t as (λ _. Look) [ leave ↦ no_look | last after ↦ no_look | go after ↦ from_before (c ∷ a) (span_look in_comment after (c ∷ b) a) ]).back ≡ 0
turn-back leave c b a h = refl
turn-back (last after) c b a h = refl
turn-back (go after) c b a h = let i = h after in omega (arith, i)

comment-back : (a b : List ℕ) (m : Memory) → (span_look in_comment m b a).back ≡ 0
comment-back [] b m = refl
comment-back (c ∷ a) b m = let i = turn-back (comment_step m c) c b a (comment-back a (c ∷ b)) in omega (arith, i)

skip-back : (n : ℕ) (a : List ℕ) (l : Look) → l.back ≡ 0 → (skip_look n a l).back ≡ 0
skip-back zero a l h = h
skip-back (suc n) [] l h = h
skip-back (suc n) (c ∷ a) l h = let i = skip-back n a l h in omega (arith, i)

space-fore : (p : Place) → (look (whitespace Markup) p).back ≡ 0
unfolding whitespace
space-fore p = omega arith

line-fore : (p : Place) → (look line_comment p).back ≡ 0
unfolding line_comment
line-fore p = omega arith

block-fore : (p : Place) → (look block_comment p).back ≡ 0
unfolding block_comment
block-fore p =
    let q = moved 2 p in
    skip-back 2 p.ahead _ (omega (arith, comment-back q.ahead q.before (comment 0 0), skip-back (length (spanned in_comment (comment 0 0) q.before q.ahead).0) q.ahead no_look refl))

hash-bare : (k : CharClasses) (p : Place) → Bare (hash k Markup) p
unfolding hash shebang of_mode markup sign
hash-bare k p = bare-if (is_none (slice_get p.before 0)) _ _ p (bare-if (passes (λ d. d == 33) (scout 1 p)) _ _ p refl refl) refl

slash-fore : (k : CharClasses) (p : Place) → Fore (slash k Markup) p
unfolding slash of_mode
slash-fore k p =
    let x = if passes (λ d. d == 42) (scout 1 p) then block_comment else markup k 47 in
    let y = if passes (λ d. d == 47) (scout 1 p) then line_comment else x in
    let own : Fore y p = fore-if (passes (λ d. d == 47) (scout 1 p)) line_comment x p (λ e. line-fore p)
    (fore-if (passes (λ d. d == 42) (scout 1 p)) block_comment (markup k 47) p (λ e. block-fore p) (markup-fore k 47 p)) in
    λ e. (let i = own e in omega (arith, i))

star-bare : (k : CharClasses) (p : Place) → Bare (star k Markup) p
unfolding star comment_end of_mode markup
star-bare k p = bare-if (passes (λ d. d == 47) (scout 1 p)) _ _ p refl (emphasis-bare k kind.Star p refl)

tick-bare : (k : CharClasses) (p : Place) → Bare (backtick k Markup) p
unfolding backtick
tick-bare k p = raw-bare p

token-fore : (k : CharClasses) (b a : List ℕ) → Fore (token k Markup) (place b a)
unfolding token of_mode
token-fore k b [] = λ e. refl
token-fore k b (c ∷ a) =
    let p = place b (c ∷ a) in
    let own = fore-if (is_space Markup c) (whitespace Markup) _ p (λ e. space-fore p)
    (fore-if (c == 35) (hash k Markup) _ p (bare-fore (hash k Markup) p (hash-bare k p))
    (fore-if (c == 47) (slash k Markup) _ p (slash-fore k p)
    (fore-if (c == 42) (star k Markup) _ p (bare-fore (star k Markup) p (star-bare k p))
    (fore-if (c == 96) (backtick k Markup) (of_mode k Markup c) p (bare-fore (backtick k Markup) p (tick-bare k p)) (markup-fore k c p))))) in
    λ e. (let i = own e in omega (arith, i))

-- ---- what ends a content block's run looks only ahead

abbrev Still : Reader Memory Token → Place → Type 0
Still r p = ends_block (exec r p).0.kind ≡ true → (look r p).back ≡ 0

none-still : (r : Reader Memory Token) (p : Place) → ends_block (exec r p).0.kind ≡ false → Still r p
none-still r p h e = let f : true ≡ false = sym e ∙ h in cc

bare-still : (r : Reader Memory Token) (p : Place) → Bare r p → Still r p
bare-still r p h = none-still r p (or-second (is_trivia (exec r p).0.kind) (ends_block (exec r p).0.kind) h)

space-still : (p : Place) → ends_block (exec (whitespace Markup) p).0.kind ≡ false
unfolding whitespace
space-still p = on_both (λ (s : SyntaxKind). ends_block s ≡ false) (nat_lt 1 (line_ends false (run (is_space Markup) p))) kind.Parbreak kind.Space refl refl

slash-still : (k : CharClasses) (p : Place) → ends_block (exec (slash k Markup) p).0.kind ≡ false
unfolding slash of_mode markup marker line_comment block_comment
slash-still k p =
    on_both (λ (r : Reader Memory Token). ends_block (exec r p).0.kind ≡ false) (passes (λ d. d == 47) (scout 1 p)) line_comment _ refl
    (on_both (λ (r : Reader Memory Token). ends_block (exec r p).0.kind ≡ false) (passes (λ d. d == 42) (scout 1 p)) block_comment (markup k 47) refl
    (or-second (is_trivia (exec (markup k 47) p).0.kind) (ends_block (exec (markup k 47) p).0.kind) (marker-bare k kind.TermMarker (moved 1 p) refl)))

bracket-still : (b : List ℕ) (c : ℕ) (a : List ℕ) → Still (sign kind.RightBracket) (place b (c ∷ a))
unfolding sign
bracket-still b c a e = omega arith

pub token-still : (k : CharClasses) (b a : List ℕ) → Still (token k Markup) (place b a)
unfolding token of_mode
token-still k b [] = λ e. refl
token-still k b (c ∷ a) =
    let p = place b (c ∷ a) in
    let P = λ (r : Reader Memory Token). Still r p in
    let own = on_both P (is_space Markup c) (whitespace Markup) _ (none-still (whitespace Markup) p (space-still p))
    (on_both P (c == 35) (hash k Markup) _ (bare-still (hash k Markup) p (hash-bare k p))
    (on_both P (c == 47) (slash k Markup) _ (none-still (slash k Markup) p (slash-still k p))
    (on_both P (c == 42) (star k Markup) _ (bare-still (star k Markup) p (star-bare k p))
    (on_both P (c == 96) (backtick k Markup) (of_mode k Markup c) (bare-still (backtick k Markup) p (tick-bare k p)) (markup-each P k c p (λ r h. bare-still r p h) (bracket-still b c a)))))) in
    λ e. (let i = own e in omega (arith, i))

-- ---- the look at the token at hand

-- Each look is only ahead.
abbrev pub AllAhead : List Ask → Type 0
AllAhead [] = Unit {0}
AllAhead (looked at seen ∷ asks) = (seen.back ≡ 0) × AllAhead asks
AllAhead (marked at gap fewer m s ∷ asks) = AllAhead asks

abbrev only-ahead : OfLooks AllAhead
only-ahead = record { P = λ at look. look.back ≡ 0; none = tt; put = λ at look ls p h. (p, h); own = λ at look ls h. h.0; rest = λ at look ls h. h.1; note = λ at gap fewer m s ls h. h; past = λ at gap fewer m s ls h. h }

pub ahead-from : (z : Place) (asks : List Ask) → AllAhead asks → AllFrom 0 z asks
unfolding near stretch
ahead-from z [] h = tt
ahead-from z (looked at seen ∷ asks) h =
    let is : near seen.back (moved at z) ≡ near 0 (moved at z) = ap (λ n. near n (moved at z)) h.0 in
    (omega (arith, is), ahead-from z asks h.1)
ahead-from z (marked at gap fewer m s ∷ asks) h = ahead-from z asks h

-- the trivia, and the token after them if that looks only ahead
trivia-by : (k : CharClasses) (z : Place) (b : Bool) (a c : Ahead) (gap : ℕ) (later : List Ask) → at_trivia k Markup z ≡ b → a.gap ≡ len_at k Markup z + gap → c.gap ≡ 0
    → ((look (token k Markup) (moved gap (moved (len_at k Markup z) z))).back ≡ 0 → AllAhead later) → (look (token k Markup) (moved (if b then a else c).gap z)).back ≡ 0
    → AllAhead (looked 0 (look (token k Markup) z) ∷ (if b then shift (len_at k Markup z) later else []))
trivia-by k z true a c gap later e f g more h =
    let l = len_at k Markup z in
    let own = token-fore k z.before z.ahead (and_parts (is_trivia (token_at k Markup z).kind) (nat_lt 0 l) e).0 in
    let there : moved a.gap z ≡ moved gap (moved l z) = ap (λ n. moved n z) f ∙ moved-sum l gap z in
    (own, looks-by only-ahead (looks-shifted only-ahead l) (λ at look p. p) later (more (subst (λ p. (look (token k Markup) p).back ≡ 0) there h)))
trivia-by k z false a c gap later e f g more h = (subst (λ n. (look (token k Markup) (moved n z)).back ≡ 0) g h, tt)

trivia-ahead : (k : CharClasses) (n : ℕ) (z : Place) → (look (token k Markup) (moved (ahead_by k Markup n z).gap z)).back ≡ 0 → AllAhead (asks_by k Markup n z)
trivia-ahead k zero z h = (h, tt)
trivia-ahead k (suc n) z h =
    let y = moved (len_at k Markup z) z in
    trivia-by k z (at_trivia k Markup z) _ _ (ahead_by k Markup n y).gap (asks_by k Markup n y) refl refl refl (trivia-ahead k n y) h

column-ahead : (b : Bool) (ask : Ask) → AllAhead (if b && false then ask ∷ [] else [])
column-ahead true ask = tt
column-ahead false ask = tt

-- the look at a text's first token, if that looks only ahead
pub lead-ahead : (k : CharClasses) (z : Place) (t : Trivia) → (lead k z).state.known ≡ Some t → (look (token k Markup) (moved t.gap z)).back ≡ 0 → AllAhead (lead k z).asks
unfolding read hand_at hand_asks ahead ahead_asks
lead-ahead k z t known h =
    let a = ahead_by k Markup (length z.ahead) z in
    let gap : a.gap ≡ t.gap = ap gap_of known in
    looks-both only-ahead (asks_by k Markup (length z.ahead) z) _ (trivia-ahead k (length z.ahead) z (ap (λ n. (look (token k Markup) (moved n z)).back) gap ∙ h)) (column-ahead a.newlines.any _)
