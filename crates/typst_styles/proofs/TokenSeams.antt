-- No token goes over a line end, so the tokens in a range are those before a line's start and those from there on.
use Rattle.typst_styles.proofs.Cited.{◌≡◌, ℕ, suc, ◌+◌, ◌-◌, ◌^◌, ◌<◌, ◌≤◌, ◌⊎◌, true, List, [], ◌∷◌, ◌++◌, length, map, drop, get_or, Option, None, Some, ap, sym, subst, ◌∙◌, arith, refl, inl, inr, length-append, length-take, slice_range, cond_both, nat_tests, get_or-drop, get_or-take, none, more, Tree, joined, text_of, Tagged, roles, Role, style_of, AreOrdered, all_tokens, both, ends_line, first_role, lines, merged, merged_after, stretch, stretches, token, touching, moved, range_of, Style, Token}
use Rattle.typst_highlight.specs.Stretches as tagged
use Rattle.typst_names.specs.declared.contexts.Context.TheVariants as context
use Rattle.typst_styles.proofs.EachToken.{AllBefore, AllFrom, Between, Each, each_both, touching_each}
use Rattle.typst_styles.proofs.TokenOrder.{lower}
use Rattle.typst_styles.proofs.TokensByNode.{by_node}
use Rattle.typst_styles.proofs.TokensTouching.{row_between}
use Rattle.typst_highlight.proofs.MovedRows.{row_length}

-- ---- no token has a byte that ends a line

-- a token has a byte, and not the byte p
pub record IsOff (p : ℕ) (t : Token) : Type 0 where
  pub some : 0 < t.len
  pub off : (t.start + t.len ≤ p) ⊎ (p < t.start)

-- the byte p ends a line, if it is one of these bytes, which begin at byte a
abbrev EndsAt : ℕ → ℕ → List ℕ → Type 0
EndsAt p a bs = (i : ℕ) → a + i ≡ p → i < length bs → ends_line (get_or bs i 0) ≡ true

lines_off : (p : ℕ) (s : Style) (a k : ℕ) (bs : List ℕ) → ((a + k ≤ p) ⊎ (p < a)) → EndsAt p (a + k) bs → Each (IsOff p) (lines s a k bs)
lines_off p s a k [] o h = grind (arith, nat_tests)
lines_off p s a k (z ∷ bs) o h =
    let first : a + k ≡ p → ends_line z ≡ true = λ e. h 0 (omega arith) (omega arith) in
    let later : EndsAt p (a + k + 1) bs = λ i e l. h (suc i) (omega arith) (omega arith) in
    cond_both (ends_line z) (token s a k ++ lines s (a + k + 1) 0 bs) (lines s a (k + 1) bs) (Each (IsOff p))
    (λ e. each_both (IsOff p) (token s a k) (lines s (a + k + 1) 0 bs) (grind (arith, nat_tests)) (lines_off p s (a + k + 1) 0 bs (grind arith) (λ i e. later i (omega (arith, e)))))
    (λ e. lines_off p s a (k + 1) bs (grind arith) (λ i e. later i (omega (arith, e))))

stretch_off : (text : List ℕ) (p a e : ℕ) (o : Option Style) → ends_line (get_or text p 0) ≡ true → Each (IsOff p) (stretch text a e o)
stretch_off text p a e None h = tt
stretch_off text p a e (Some s) h =
    lines_off p s a 0 (slice_range text a e) (grind arith)
    (λ i at l.
    let within : i < e - a = omega (arith, l, length-take (e - a) (drop a text)) in
    let there : a + i ≡ p = omega (arith, at) in
    ap ends_line (get_or-take (e - a) (drop a text) i 0 within ∙ (get_or-drop a text i 0 ∙ ap (λ j. get_or text j 0) there)) ∙ h)

stretches_off : (text : List ℕ) (p : ℕ) (ss : List Tagged) (rs : List (Option Role)) → ends_line (get_or text p 0) ≡ true → Each (IsOff p) (stretches text ss rs)
stretches_off text p [] rs h = tt
stretches_off text p (s ∷ ss) rs h =
    each_both (IsOff p) (stretch text s.range.start s.range.end (style_of s.tag (first_role rs))) (stretches text ss (drop 1 rs)) (stretch_off text p s.range.start s.range.end (style_of s.tag (first_role rs)) h) (stretches_off text p ss (drop 1 rs) h)

-- ---- tokens before a line's start, and from there on

-- all tokens are in the text
pub all_between : (text : List ℕ) (root : Tree) → text ≡ text_of root → Between 0 (length text) (all_tokens text root)
all_between text root w =
    subst (Between 0 (length text)) (sym (by_node text root))
    (row_between 0 (length text) text root 0 0 None context.Value (more root.head root.kids none) (λ o. omega arith) (omega (arith, ap length w, row_length root.head root.kids none, length-append root.head.text (joined root.kids))))

-- a token has a byte, ends by byte e, and ends before the end of a line that ends at byte m, or begins behind it
pub record IsParted (m e : ℕ) (t : Token) : Type 0 where
  pub some : 0 < t.len
  pub last : t.start + t.len ≤ e
  pub aside : (t.start + t.len < m) ⊎ (m ≤ t.start)

abbrev pub AreParted : ℕ → ℕ → List Token → Type 0
AreParted m e = Each (IsParted m e)

are_parted : (m e : ℕ) (ts : List Token) → 0 < m → Each (IsOff (m - 1)) ts → Between 0 e ts → AreParted m e ts
are_parted m e [] l o w = tt
are_parted m e (t ∷ ts) l o w = (record { some = o.0.some; last = w.0.1; aside = grind (arith, o.0.off) }, are_parted m e ts l o.1 w.1)

-- so are all of a text, where a line starts at byte m
pub parted_at : (text : List ℕ) (root : Tree) (m : ℕ) → text ≡ text_of root → 0 < m → get_or text (m - 1) 0 ≡ 10 → AreParted m (length text) (all_tokens text root)
parted_at text root m w some feed = are_parted m (length text) (all_tokens text root) some (stretches_off text (m - 1) (tagged.stretches root) (roles root) (ap ends_line feed)) (all_between text root w)

-- tokens that begin behind the end of a line
none_before : (a m : ℕ) (ts : List Token) → AreOrdered m ts → touching (range_of a m) ts ≡ []
none_before a m [] o = refl
none_before a m (t ∷ ts) o = grind (arith, nat_tests, none_before a m ts (lower m t.start ts o.0 o.1))

all_behind : (a m b e : ℕ) (ts : List Token) → a ≤ m → e ≤ 2 ^ 64 - 1 → AreOrdered m ts → AreParted m e ts → touching (range_of a b) ts ≡ touching (range_of m b) ts
all_behind a m b e [] l k o w = refl
all_behind a m b e (t ∷ ts) l k o w = grind (arith, nat_tests, w.0.some, w.0.last, all_behind a m b e ts l k (lower m t.start ts o.0 o.1) w.1)

-- the tokens with a byte of a range are those with one before the line's start and those with one from there on
touching_split : (a m b e z : ℕ) (ts : List Token) → a ≤ m → m ≤ b → e ≤ 2 ^ 64 - 1 → AreOrdered z ts → AreParted m e ts → touching (range_of a b) ts ≡ touching (range_of a m) ts ++ touching (range_of m b) ts
touching_split a m b e z [] l k h o w = refl
touching_split a m b e z (t ∷ ts) l k h o w = elim w.0.aside [
  | inl left ↦ grind (arith, nat_tests, touching_split a m b e t.start ts l k h o.1 w.1)
  | inr right ↦
      let from : AreOrdered m (t ∷ ts) = (right, o.1) in
      all_behind a m b e (t ∷ ts) l h from w ∙ ap (λ xs. xs ++ touching (range_of m b) (t ∷ ts)) (sym (none_before a m (t ∷ ts) from))
]

-- ---- merged apart

pub touching_before : (a m e : ℕ) (ts : List Token) → AreParted m e ts → AllBefore m (touching (range_of a m) ts)
touching_before a m e = touching_each (IsParted m e) (λ (t : Token). t.start + t.len < m) (range_of a m) (λ t w hit. grind (arith, nat_tests, w.aside))

pub touching_from : (m b e : ℕ) (ts : List Token) → AreParted m e ts → AllFrom m (touching (range_of m b) ts)
touching_from m b e = touching_each (IsParted m e) (λ (t : Token). m ≤ t.start) (range_of m b) (λ t w hit. grind (arith, nat_tests, w.aside))

after_apart : (m : ℕ) (t : Token) (xs ys : List Token) → m ≤ 2 ^ 64 - 1 → t.start + t.len < m → AllBefore m xs → AllFrom m ys → merged_after (Some t) (xs ++ ys) ≡ merged_after (Some t) xs ++ merged_after None ys
after_apart m t [] [] h l v w = refl
after_apart m t [] (u ∷ us) h l v w = grind (arith, nat_tests)
after_apart m t (x ∷ xs) ys h l v w =
    grind (arith, nat_tests, (λ (k : (both t x).start + (both t x).len < m). after_apart m (both t x) xs ys h k v.1 w), after_apart m x xs ys h v.0 v.1 w)

pub merged_apart : (m : ℕ) (xs ys : List Token) → m ≤ 2 ^ 64 - 1 → AllBefore m xs → AllFrom m ys → merged (xs ++ ys) ≡ merged xs ++ merged ys
merged_apart m [] ys h v w = refl
merged_apart m (x ∷ xs) ys h v w = after_apart m x xs ys h v.0 v.1 w

-- the tokens shown in a range
pub split : (a m b e z : ℕ) (ts : List Token) → a ≤ m → m ≤ b → e ≤ 2 ^ 64 - 1 → m ≤ 2 ^ 64 - 1 → AreOrdered z ts → AreParted m e ts → merged (touching (range_of a b) ts) ≡ merged (touching (range_of a m) ts) ++ merged (touching (range_of m b) ts)
split a m b e z ts l k h g o w =
    ap merged (touching_split a m b e z ts l k h o w) ∙ merged_apart m (touching (range_of a m) ts) (touching (range_of m b) ts) g (touching_before a m e ts w) (touching_from m b e ts w)

-- ---- merged and moved

after_moved : (m n e : ℕ) (t : Token) (ts : List Token) → e ≤ 2 ^ 64 - 1 → e - m + n ≤ 2 ^ 64 - 1 → m ≤ t.start → t.start + t.len ≤ e → Between m e ts → merged_after (Some (moved m n t)) (map (moved m n) ts) ≡ map (moved m n) (merged_after (Some t) ts)
after_moved m n e t [] g h l k w = refl
after_moved m n e t (u ∷ us) g h l k w =
    grind (arith, nat_tests, (λ (j : (both t u).start + (both t u).len ≤ e). after_moved m n e (both t u) us g h l j w.1), after_moved m n e u us g h w.0.0 w.0.1 w.1)

pub merged_moved : (m n e : ℕ) (ts : List Token) → e ≤ 2 ^ 64 - 1 → e - m + n ≤ 2 ^ 64 - 1 → Between m e ts → merged (map (moved m n) ts) ≡ map (moved m n) (merged ts)
merged_moved m n e [] g h w = refl
merged_moved m n e (t ∷ ts) g h w = after_moved m n e t ts g h w.0.0 w.0.1 w.1
