-- Reading trivia one after the other.
use Rattle.typst_language.proofs.Cited.{encode, Option, Some, None, ◌≡◌, ℕ, zero, suc, ◌+◌, ◌-◌, ◌<◌, ◌≤◌, Bool, true, false, ◌&&◌, nat_lt, List, [], ◌∷◌, ◌++◌, length, take, slice_get, reverse, append_assoc, append-nil, refl, ap, sym, ◌∙◌, subst, arith, ltb-true, chars-nil, chars, SyntaxMode, SyntaxKind, Place, moved, place_at, scout, Tree, leaf_of, CharClasses, token_node, Hull, Token, Newlines, Reading, is_trivia, Trivia, gap_of, no_newlines, Hand, Ahead, text_ahead, token_at, len_at, at_trivia, both_newlines, newlines_of, direct, after_trivia, ahead_by, ahead, column_at, judged, hand_at, known_by, joined_hull, token_hull, tokens_by, tokens_at, column_hull, whole_at, exec, eaten, token, place, Scanner, IsAhead, distance, bytes_left, exec-moved}
use Rattle.std.proofs.Math.Bool.{or_assoc}
use Rattle.typst_kinds.specs.declared.kind.SyntaxKind.TheVariants as kind
use Rattle.typst_tokens.specs.Token.{plain}
use Rattle.typst_language.specs.declared.ahead.ReadAhead.{ReadAhead as Front}
use Rattle.typst_language.proofs.Bytes.{none-bytes}
use Rattle.typst_language.proofs.Hulls.{In, second-in, first-in, same-hull}
use Rattle.typst_language.proofs.Places.{moved-sum, moved-min, moved-before, ahead-left}
use Rattle.typst_language.proofs.Within.{if-same, and-second, on_both, on_if}
use Rattle.typst_tree.proofs.PathMarks.{or_false}

and-none : (b : Bool) (n : ℕ) → n ≡ 0 → (b && nat_lt 0 n) ≡ false
and-none b n e = grind arith

same-newlines : (a b c d : Bool) → a ≡ c → b ≡ d → ◌≡◌ {A = Newlines} (record { any = a; parbreak = b }) (record { any = c; parbreak = d })
same-newlines a b c d e f = rw (e, f) refl

pub both-none : (a : Newlines) → both_newlines a no_newlines ≡ a
both-none a = same-newlines _ _ _ _ (or_false a.any) (or_false a.parbreak)

both-assoc : (a b c : Newlines) → both_newlines a (both_newlines b c) ≡ both_newlines (both_newlines a b) c
both-assoc a b c = same-newlines _ _ _ _ (sym (or_assoc a.any b.any c.any)) (sym (or_assoc a.parbreak b.parbreak c.parbreak))

module _ (k : CharClasses) (m : SyntaxMode) where
  pub none-left : (z : Place) → length z.ahead ≡ 0 → at_trivia k m z ≡ false
  none-left z e = and-none (is_trivia (token_at k m z).kind) (len_at k m z) (omega arith)

  pub some-left : (z : Place) → at_trivia k m z ≡ true → 0 < len_at k m z
  some-left z h = ltb-true 0 (len_at k m z) (and-second (is_trivia (token_at k m z).kind) (nat_lt 0 (len_at k m z)) h)

  pub enough : (n p : ℕ) (z : Place) → length z.ahead ≤ n → length z.ahead ≤ p → ahead_by k m n z ≡ ahead_by k m p z
  enough zero zero z a b = refl
  enough zero (suc p) z a b = rw (none-left z (omega arith)) refl
  enough (suc n) zero z a b = rw (none-left z (omega arith)) refl
  enough (suc n) (suc p) z a b =
      if-same (at_trivia k m z) _ _ _ (λ h.
      let l = len_at k m z in
      let some = some-left z h in
      let left = ahead-left l z in
      ap (after_trivia (token_at k m z) l (token_node k (token_at k m z) (text_ahead l z))) (enough n p (moved l z) (omega arith) (omega arith)))

  pub ahead-step : (z : Place) → at_trivia k m z ≡ true
      → ahead k m z ≡ after_trivia (token_at k m z) (len_at k m z) (token_node k (token_at k m z) (text_ahead (len_at k m z) z)) (ahead k m (moved (len_at k m z) z))
  unfolding ahead
  ahead-step z h =
      let l = len_at k m z in
      let left = ahead-left l z in
      let w = moved l z in
      enough (length z.ahead) (suc (length z.ahead)) z (omega arith) (omega arith)
      ∙ (rw h (ap (after_trivia (token_at k m z) l (token_node k (token_at k m z) (text_ahead l z))) (enough (length z.ahead) (length w.ahead) w (omega arith) (omega arith))))

  pub ahead-stop : (z : Place) → at_trivia k m z ≡ false → ahead k m z ≡ direct (token_at k m z) (len_at k m z)
  unfolding ahead
  ahead-stop z h = enough (length z.ahead) (suc (length z.ahead)) z (omega arith) (omega arith) ∙ (rw h refl)

  -- from one place a given number of nodes were read, up to another
  pub record Along (now : Newlines) (ts : List Tree) (from z : Place) : Type 0 where
    pub gap : ℕ
    pub fits : gap ≤ length from.ahead
    pub place : z ≡ moved gap from
    pub trivia : (ahead k m from).trivia ≡ ts ++ (ahead k m z).trivia
    pub gaps : (ahead k m from).gap ≡ gap + (ahead k m z).gap
    pub newlines : (ahead k m from).newlines ≡ both_newlines now (ahead k m z).newlines
    pub token : (ahead k m from).token ≡ (ahead k m z).token
    pub len : (ahead k m from).len ≡ (ahead k m z).len

  pub along-start : (z : Place) → Along no_newlines [] z z
  along-start z = record { gap = 0; fits = omega arith; place = refl; trivia = refl; gaps = omega arith; newlines = refl; token = refl; len = refl }

  pub along-next : (now : Newlines) (ts : List Tree) (from z w : Place) (node : Tree) → Along now ts from z → at_trivia k m z ≡ true
      → w ≡ moved (len_at k m z) z → node ≡ token_node k (token_at k m z) (text_ahead (len_at k m z) z)
      → Along (both_newlines now (newlines_of (token_at k m z))) (ts ++ node ∷ []) from w
  along-next now ts from z w node a h e f =
      let l = len_at k m z in
      let t = token_at k m z in
      let step : ahead k m z ≡ after_trivia t l node (ahead k m w) = ahead-step z h ∙ (rw (e, f) refl) in
      let left = ap (λ (p : Place). length p.ahead) a.place ∙ ahead-left a.gap from in
      let g = a.fits in
      record {
        gap = a.gap + l;
        fits = omega arith;
        place = e ∙ ap (moved l) a.place ∙ sym (moved-sum a.gap l from);
        trivia = a.trivia ∙ ap (λ (x : Ahead). ts ++ x.trivia) step ∙ sym (append_assoc ts (node ∷ []) (ahead k m w).trivia);
        gaps = let s : (ahead k m z).gap ≡ l + (ahead k m w).gap = ap (λ (x : Ahead). x.gap) step in omega (arith, a.gaps, s);
        newlines = a.newlines ∙ ap (λ (x : Ahead). both_newlines now x.newlines) step ∙ both-assoc now (newlines_of t) (ahead k m w).newlines;
        token = a.token ∙ ap (λ (x : Ahead). x.token) step;
        len = a.len ∙ ap (λ (x : Ahead). x.len) step;
      }

pub same-hand : (i j : SyntaxKind) (ts us : List Tree) (g h l n : ℕ) (a b : Newlines) (t u : Token) → i ≡ j → ts ≡ us → g ≡ h → l ≡ n → a ≡ b → t ≡ u
    → ◌≡◌ {A = Hand} (record { kind = i; trivia = ts; gap = g; len = l; newlines = a; token = t }) (record { kind = j; trivia = us; gap = h; len = n; newlines = b; token = u })
same-hand i j ts us g h l n a b t u p q r s v w = rw (p, q, r, s, v, w) refl

-- after all trivia the hand is whole
pub along-end : (k : CharClasses) (held : Reading) (now : Newlines) (ts : List Tree) (from z : Place) (a : Along k held.mode now ts from z) → at_trivia k held.mode z ≡ false
    → record { kind = judged held now (token_at k held.mode z).kind (column_at z); trivia = ts; gap = a.gap; len = len_at k held.mode z; newlines = now; token = token_at k held.mode z } ≡ hand_at k held None from
unfolding hand_at
along-end k held now ts from z a h = grind (arith, ahead-stop, both-none, append-nil, same-hand)

-- ---- what is known of trivia

again-direct : (k : CharClasses) (m : SyntaxMode) (p : ℕ) (z : Place) → at_trivia k m z ≡ false → ahead_by k m p z ≡ direct (token_at k m z) (len_at k m z)
again-direct k m p z h = grind arith

-- after the trivia at a place no trivia comes
again-stop : (k : CharClasses) (m : SyntaxMode) (n : ℕ) (z : Place) → length z.ahead ≤ n → at_trivia k m (moved (ahead_by k m n z).gap z) ≡ false
again-stop k m zero z s = none-left k m z (omega arith)
again-stop k m (suc n) z s = on_if (λ (a : Ahead). at_trivia k m (moved a.gap z) ≡ false) (at_trivia k m z) _ _
    (λ t.
    let l = len_at k m z in
    let w = moved l z in
    let some = some-left k m z t in
    let left = ahead-left l z in
    ap (at_trivia k m) (moved-sum l (ahead_by k m n w).gap z) ∙ again-stop k m n w (omega arith))
    (λ t. t)

abbrev Again : CharClasses → SyntaxMode → Place → Ahead → Type 0
Again k m z a = (p : ℕ) → length (moved a.gap z).ahead ≤ p → ahead_by k m p (moved a.gap z) ≡ direct a.token a.len

again : (k : CharClasses) (m : SyntaxMode) (n : ℕ) (z : Place) → length z.ahead ≤ n → Again k m z (ahead_by k m n z)
again k m zero z s = λ p h. again-direct k m p z (none-left k m z (omega arith))
again k m (suc n) z s = on_if (Again k m z) (at_trivia k m z) _ _
    (λ t p h.
    let l = len_at k m z in
    let w = moved l z in
    let rest = ahead_by k m n w in
    let some = some-left k m z t in
    let left = ahead-left l z in
    let sum = moved-sum l rest.gap z in
    let fits : length (moved rest.gap w).ahead ≤ p = subst (λ (y : Place). length y.ahead ≤ p) sum h in
    ap (ahead_by k m p) sum ∙ again k m n w (omega arith) p fits)
    (λ t p h. again-direct k m p z t)

-- after the trivia at a place stands the token after them
token-after : (k : CharClasses) (m : SyntaxMode) (z : Place) → direct (token_at k m (moved (ahead k m z).gap z)) (len_at k m (moved (ahead k m z).gap z)) ≡ direct (ahead k m z).token (ahead k m z).len
unfolding ahead
token-after k m z =
    let n = length z.ahead in
    let w = moved (ahead_by k m n z).gap z in
    sym (again-direct k m (length w.ahead) w (again-stop k m n z (omega arith))) ∙ again k m n z (omega arith) (length w.ahead) (omega arith)

-- where the trivia are known the same token is at hand
pub hand-known : (k : CharClasses) (held : Reading) (known : Option Trivia) (z : Place) → hand_at k held (known_by (hand_at k held known z)) z ≡ hand_at k held known z
unfolding hand_at
hand-known k held known z = grind (arith, token-after, same-hand)

-- no more trivia are known than there are characters
gap-by : (k : CharClasses) (m : SyntaxMode) (n : ℕ) (z : Place) → (ahead_by k m n z).gap ≤ length z.ahead
gap-by k m zero z = omega arith
gap-by k m (suc n) z =
    let l = len_at k m z in
    let w = moved l z in
    let left = ahead-left l z in
    let rest = gap-by k m n w in
    on_both (λ (a : Ahead). a.gap ≤ length z.ahead) (at_trivia k m z) _ _ (omega arith) (omega arith)

pub gap-there : (k : CharClasses) (held : Reading) (known : Option Trivia) (z : Place) → gap_of known ≤ length z.ahead → (hand_at k held known z).gap ≤ length z.ahead
unfolding hand_at ahead
gap-there k held known z h = grind (arith, gap-by)

-- ---- what the lexer of the code says

pub read-place : (k : CharClasses) (m : SyntaxMode) (z w : Place) (t : Token) → exec (token k m) z ≡ (t, w) → w ≡ moved (len_at k m z) z
read-place k m z w t e = sym (ap (λ (p : Token × Place). p.1) e) ∙ exec-moved (token k m) z ∙ sym (moved-min (eaten (token k m) z) z)

pub len-most : (k : CharClasses) (m : SyntaxMode) (z : Place) → len_at k m z ≤ length z.ahead
len-most k m z = omega arith

pub no-trivia : (k : CharClasses) (m : SyntaxMode) (z w : Place) (t : Token) → exec (token k m) z ≡ (t, w) → is_trivia t.kind ≡ false → at_trivia k m z ≡ false
no-trivia k m z w t e h = cc

pub no-more : (k : CharClasses) (m : SyntaxMode) (z w : Place) (t : Token) → exec (token k m) z ≡ (t, w) → bytes_left z ≤ bytes_left w → at_trivia k m z ≡ false
no-more k m z w t e h = grind (arith, ap bytes_left (read-place k m z w t e), and-none, none-bytes, len-most)

pub some-trivia : (k : CharClasses) (m : SyntaxMode) (z w : Place) (t : Token) → exec (token k m) z ≡ (t, w) → is_trivia t.kind ≡ true → bytes_left w < bytes_left z → at_trivia k m z ≡ true
some-trivia k m z w t e h b = let p = ap bytes_left (read-place k m z w t e) in grind arith

-- a space that stands alone is a token of trivia, which takes that character
pub record Lone (k : CharClasses) (m : SyntaxMode) (z w : Place) : Type 0 where
  pub token : token_at k m z ≡ plain kind.Space
  pub trivia : at_trivia k m z ≡ true
  pub next : w ≡ moved (len_at k m z) z
  pub text : text_ahead (len_at k m z) z ≡ 32 ∷ []
  pub fewer : length w.ahead < length z.ahead

one-ahead : (a : List ℕ) → slice_get a 0 ≡ Some 32 → (take 1 a ≡ 32 ∷ []) × (1 ≤ length a)
one-ahead [] e = absurd (cc)
one-ahead (d ∷ a) e = let f : d ≡ 32 = cc in (rw f refl, omega arith)

pub lone-is : (k : CharClasses) (m : SyntaxMode) (z w : Place) (t : Token) → exec (token k m) z ≡ (t, w) → (scout 0 z ≡ Some 32) × (t ≡ plain kind.Space) × (w ≡ moved 1 z) → Lone k m z w
lone-is k m z w t e s =
    let n = len_at k m z in
    let a = one-ahead z.ahead s.0 in
    let there = read-place k m z w t e in
    let one : n ≡ 1 = omega (arith, ap (λ (p : Place). length p.ahead) (sym there ∙ s.2), ahead-left n z, ahead-left 1 z, len-most k m z, a.1) in
    grind arith

-- the node of one space is a leaf
pub space-node : (k : CharClasses) → token_node k (plain kind.Space) (32 ∷ []) ≡ leaf_of kind.Space (32 ∷ [])
unfolding encode
space-node k = refl

pub distance-is : (from to : Place) (n : ℕ) → n ≤ length from.ahead → to ≡ moved n from → length to.before - length from.before ≡ n
distance-is from to n h e = let b = ap (λ (p : Place). length p.before) e ∙ moved-before n from h in omega arith

-- what was looked at for the tokens that were read one after the other
pub tokens-stop : (k : CharClasses) (m : SyntaxMode) (z : Place) → at_trivia k m z ≡ false → tokens_at k m z ≡ token_hull k m z
unfolding tokens_at
tokens-stop k m z h = grind arith

tokens-enough : (k : CharClasses) (m : SyntaxMode) (n p : ℕ) (z : Place) → length z.ahead ≤ n → length z.ahead ≤ p → tokens_by k m n z ≡ tokens_by k m p z
tokens-enough k m zero zero z a b = refl
tokens-enough k m zero (suc p) z a b = rw (none-left k m z (omega arith)) refl
tokens-enough k m (suc n) zero z a b = rw (none-left k m z (omega arith)) refl
tokens-enough k m (suc n) (suc p) z a b =
    if-same (at_trivia k m z) _ _ _ (λ h.
    let l = len_at k m z in
    let some = some-left k m z h in
    let left = ahead-left l z in
    ap (joined_hull (token_hull k m z)) (tokens-enough k m n p (moved l z) (omega arith) (omega arith)))

tokens-step : (k : CharClasses) (m : SyntaxMode) (z : Place) → at_trivia k m z ≡ true → tokens_at k m z ≡ joined_hull (token_hull k m z) (tokens_at k m (moved (len_at k m z) z))
unfolding tokens_at
tokens-step k m z h = grind (arith, ahead-left, tokens-enough)

-- what was looked at so far, up to a token that was read
pub record Looking (k : CharClasses) (m : SyntaxMode) (from z : Place) (tokens : Hull) : Type 0 where
  pub all : tokens_at k m from ≡ joined_hull tokens (tokens_at k m z)
  pub last : In (token_hull k m z) tokens

pub looking-start : (k : CharClasses) (m : SyntaxMode) (z : Place) → Looking k m z z (token_hull k m z)
unfolding tokens_at
looking-start k m z = grind arith

-- before anything was looked at
pub looking-first : (k : CharClasses) (m : SyntaxMode) (z : Place) (most : ℕ) → (token_hull k m z).least ≤ most → Looking k m z z (joined_hull (record { reach = 0; least = most }) (token_hull k m z))
looking-first k m z most h = subst (Looking k m z z) (same-hull _ _ _ _ (omega arith) (omega (arith, h))) (looking-start k m z)

tokens-first : (k : CharClasses) (m : SyntaxMode) (w : Place) → In (token_hull k m w) (tokens_at k m w)
unfolding tokens_at
tokens-first k m w = first-in k m (length w.ahead) w

pub looking-next : (k : CharClasses) (m : SyntaxMode) (from z w : Place) (tokens : Hull) → Looking k m from z tokens → at_trivia k m z ≡ true → w ≡ moved (len_at k m z) z
    → Looking k m from w (joined_hull tokens (token_hull k m w))
looking-next k m from z w tokens h t e = grind (arith, tokens-step, tokens-first, same-hull, second-in)

pub looking-end : (k : CharClasses) (m : SyntaxMode) (from z : Place) (tokens : Hull) → Looking k m from z tokens → at_trivia k m z ≡ false → tokens_at k m from ≡ tokens
looking-end k m from z tokens h t = h.all ∙ ap (joined_hull tokens) (tokens-stop k m z t) ∙ same-hull _ _ _ _ (omega (arith, h.last.reach)) (omega (arith, h.last.least))

pub is-ahead : (k : CharClasses) (held : Reading) (from : Scanner) (ts : List Tree) (a : Front) → a.before ≡ from → a.is_read ≡ true
    → a.own ≡ token_hull k held.mode (place a.start) → a.here ≡ column_hull held a.newlines (place a.start) a.own → Along k held.mode a.newlines ts (place a.before) (place a.start)
    → at_trivia k held.mode (place a.start) ≡ false → exec (token k held.mode) (place a.start) ≡ (a.token, place a.after)
    → a.kind ≡ judged held a.newlines a.token.kind (column_at (place a.start)) → a.start.text.now ≡ a.before.text.now → a.after.text.now ≡ a.start.text.now → a.line.text.now ≡ a.before.text.now
    → IsAhead k held from ts a
is-ahead k held begin ts a same is_read own-is here-is along stop read kind-is one two three =
    let m = held.mode in
    let from = place a.before in
    let z = place a.start in
    let t : token_at k m z ≡ a.token = ap (λ (p : Token × Place). p.0) read in
    let after-is = read-place k m z (place a.after) a.token read in
    let gap-is = distance-is from z along.gap along.fits along.place in
    let len-is = distance-is z (place a.after) (len_at k m z) (len-most k m z) after-is in
    let start-at = along.place ∙ ap (λ n. moved n from) (sym gap-is) in
    record {
      before = same;
      is_read = is_read;
      stands = record { start = start-at; after = after-is ∙ ap (λ n. moved n z) (sym len-is); start_text = one; after_text = two; line_text = three };
      hand = same-hand _ _ _ _ _ _ _ _ _ _ _ _ (kind-is ∙ ap (λ (u : Token). judged held a.newlines u.kind (column_at z)) (sym t)) refl gap-is len-is refl (sym t) ∙ along-end k held a.newlines ts from z along stop ∙ ap (λ (s : Scanner). hand_at k held None (place s)) same;
      own = own-is ∙ ap (token_hull k m) start-at ∙ ap (λ (s : Scanner). token_hull k m (moved (distance a.before a.start) (place s))) same;
      here = here-is ∙ ap (λ (p : Place). column_hull held a.newlines p a.own) start-at ∙ ap (λ (s : Scanner). column_hull held a.newlines (moved (distance a.before a.start) (place s)) a.own) same;
    }

-- all that was looked at for it
pub whole-is : (k : CharClasses) (held : Reading) (now : Newlines) (ts : List Tree) (from z : Place) (tokens : Hull) → Along k held.mode now ts from z → at_trivia k held.mode z ≡ false
    → Looking k held.mode from z tokens → joined_hull tokens (column_hull held now z (token_hull k held.mode z)) ≡ whole_at k held from
unfolding whole_at
whole-is k held now ts from z tokens a h l = grind (arith, ahead-stop, both-none, looking-end)

pub start-is : (text : List ℕ) → place_at text 0 ≡ record { before = []; ahead = chars text }
unfolding place_at
start-is text = ap (λ xs. record { before = reverse xs; ahead = chars text }) chars-nil
