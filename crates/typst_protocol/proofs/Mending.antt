-- A text is mended piece by piece.
use Rattle.typst_protocol.proofs.Cited.{◌≡◌, ℕ, ◌+◌, ◌*◌, ◌<◌, ◌&&◌, ◌≤◌, Bool, true, false, cond, ◌==◌, List, [], ◌∷◌, ◌++◌, length, get_or, take, drop, Option, None, Some, refl, sym, ap, subst, ◌∙◌, arith, append_assoc, append-nil, length-append, length-drop, take-append-drop, length-take-le, take_all, take_at, drop_at, take-add, drop-drop, get_or-drop, drop_all, begins_low, hexadecimal, is_lone, mended, mended_behind, read_as, unit}
use Rattle.std.specs.Char.{digit_value, is_digit}
use Rattle.json.specs.Text.{code_unit, is_high_surrogate}

-- fewer than six bytes stay
short : (p : Bool) (t : List ℕ) → length t < 6 → mended_behind p t ≡ t
unfolding mended_behind
short p t h = grind arith

-- behind the escape of a code unit
by_unit : (p : Bool) (t : List ℕ) (u : ℕ) → unit t ≡ Some u → 6 ≤ length t → mended_behind p t ≡ read_as (is_lone p u (begins_low (drop 6 t))) (take 6 t) ++ mended_behind (is_high_surrogate u) (drop 6 t)
unfolding mended_behind
by_unit p [] u is room = absurd (omega arith)
by_unit p (a ∷ []) u is room = absurd (omega arith)
by_unit p (a ∷ b ∷ []) u is room = absurd (omega arith)
by_unit p (a ∷ b ∷ c ∷ []) u is room = absurd (omega arith)
by_unit p (a ∷ b ∷ c ∷ d ∷ []) u is room = absurd (omega arith)
by_unit p (a ∷ b ∷ c ∷ d ∷ e ∷ []) u is room = absurd (omega arith)
by_unit p (a ∷ b ∷ c ∷ d ∷ e ∷ f ∷ t) u is room = grind arith

by_short : (p : Bool) (t : List ℕ) (n : ℕ) → length t < 6 → mended_behind p t ≡ take n t ++ mended_behind false (drop n t)
by_short p t n h = grind (arith, length-drop, short, take-append-drop)

by_first : (two : Bool) (a b c d e f : ℕ) (t : List ℕ) →
    cond two (a ∷ b ∷ mended_behind false (c ∷ d ∷ e ∷ f ∷ t)) (a ∷ mended_behind false (b ∷ c ∷ d ∷ e ∷ f ∷ t))
    ≡ take (cond two 2 1) (a ∷ b ∷ c ∷ d ∷ e ∷ f ∷ t) ++ mended_behind false (drop (cond two 2 1) (a ∷ b ∷ c ∷ d ∷ e ∷ f ∷ t))
by_first two a b c d e f t = grind arith

-- behind a piece that is no such escape
by_piece : (p : Bool) (t : List ℕ) → unit t ≡ None → mended_behind p t ≡ take (cond (get_or t 0 0 == 92) 2 1) t ++ mended_behind false (drop (cond (get_or t 0 0 == 92) 2 1) t)
unfolding mended_behind
by_piece p [] none = by_short p [] (cond (0 == 92) 2 1) (omega arith)
by_piece p (a ∷ []) none = by_short p (a ∷ []) (cond (a == 92) 2 1) (omega arith)
by_piece p (a ∷ b ∷ []) none = by_short p (a ∷ b ∷ []) (cond (a == 92) 2 1) (omega arith)
by_piece p (a ∷ b ∷ c ∷ []) none = by_short p (a ∷ b ∷ c ∷ []) (cond (a == 92) 2 1) (omega arith)
by_piece p (a ∷ b ∷ c ∷ d ∷ []) none = by_short p (a ∷ b ∷ c ∷ d ∷ []) (cond (a == 92) 2 1) (omega arith)
by_piece p (a ∷ b ∷ c ∷ d ∷ e ∷ []) none = by_short p (a ∷ b ∷ c ∷ d ∷ e ∷ []) (cond (a == 92) 2 1) (omega arith)
by_piece p (a ∷ b ∷ c ∷ d ∷ e ∷ f ∷ t) none = grind (arith, cond, by_first)

-- up to a byte a body is mended, and behind it as it was
pub record Mends (old body : List ℕ) (at : ℕ) (p : Bool) : Type 0 where
  pub size : length body ≡ length old
  pub joined : take at body ++ mended_behind p (drop at body) ≡ mended old

read_as_six : (lone : Bool) (t : List ℕ) → length t ≡ 6 → length (read_as lone t) ≡ 6
read_as_six lone t h = grind arith

pub mends-unit : (old body new : List ℕ) (at u : ℕ) (p : Bool) → at + 6 ≤ length body → unit (drop at body) ≡ Some u
    → new ≡ take at body ++ read_as (is_lone p u (begins_low (drop (at + 6) body))) (take 6 (drop at body)) ++ drop (at + 6) body
    → length new ≡ length body → Mends old body at p → Mends old new (at + 6) (is_high_surrogate u)
mends-unit old body new at u p room is made stays before =
    let rest = drop (at + 6) body in
    let six = take 6 (drop at body) in
    let front = take at body in
    let mid = read_as (is_lone p u (begins_low rest)) six in
    let behind = mended_behind (is_high_surrogate u) rest in
    let left : 6 ≤ length (drop at body) = omega (arith, length-drop at body) in
    let mid_len : length mid ≡ 6 = read_as_six (is_lone p u (begins_low rest)) six (length-take-le 6 (drop at body) left) in
    let size : length (front ++ mid) ≡ at + 6 = omega (arith, length-append front mid, length-take-le at body (omega arith), mid_len) in
    let taken : take (at + 6) new ≡ front ++ mid = ap (take (at + 6)) made ∙ take_at (front ++ mid) rest (at + 6) size in
    let dropped : drop (at + 6) new ≡ rest = ap (drop (at + 6)) made ∙ drop_at (front ++ mid) rest (at + 6) size in
    let step : mended_behind p (drop at body) ≡ mid ++ behind =
    subst (λ (r : List ℕ). mended_behind p (drop at body) ≡ read_as (is_lone p u (begins_low r)) six ++ mended_behind (is_high_surrogate u) r) (drop-drop 6 at body) (by_unit p (drop at body) u is left) in
    grind (arith, append_assoc)

pub mends-piece : (old body : List ℕ) (at n : ℕ) (p : Bool) → unit (drop at body) ≡ None → n ≡ cond (get_or body at 0 == 92) 2 1 → Mends old body at p → Mends old body (at + n) false
mends-piece old body at n p none is before = grind (arith, get_or-drop, cond, by_piece, take-add, append_assoc, drop-drop)

pub mends-end : (old body : List ℕ) (at : ℕ) (p : Bool) → length body ≤ at → Mends old body at p → body ≡ mended old
mends-end old body at p past done = grind (arith, take_all, drop_all, short, append-nil)

-- hexadecimal digits
digit-none : (c : ℕ) → None ≡ hexadecimal c → is_digit c 16 ≡ false
digit-none c h = grind arith

digit-some : (c v : ℕ) → Some v ≡ hexadecimal c → (is_digit c 16 ≡ true) × (digit_value c ≡ v)
digit-some c v h = grind arith

-- what the tests of four digits choose
four : (p q r s : Bool) → Option ℕ → Option ℕ
four p q r s x = cond (p && q && r && s) x None

code_of : (a b c d : ℕ) → ℕ
code_of a b c d = digit_value a * 4096 + digit_value b * 256 + digit_value c * 16 + digit_value d

code-is : (a b c d : ℕ) → code_unit a b c d ≡ four (is_digit a 16) (is_digit b 16) (is_digit c 16) (is_digit d 16) (Some (code_of a b c d))
unfolding code_unit four code_of
code-is a b c d = refl

pub code-none-1 : (a b c d : ℕ) → None ≡ hexadecimal a → code_unit a b c d ≡ None
unfolding four
code-none-1 a b c d na = code-is a b c d ∙ ap (λ v. four v (is_digit b 16) (is_digit c 16) (is_digit d 16) (Some (code_of a b c d))) (digit-none a na)

pub code-none-2 : (a b c d x : ℕ) → Some x ≡ hexadecimal a → None ≡ hexadecimal b → code_unit a b c d ≡ None
unfolding four
code-none-2 a b c d x sa nb = grind (arith, code-is, digit-some, digit-none)

pub code-none-3 : (a b c d x y : ℕ) → Some x ≡ hexadecimal a → Some y ≡ hexadecimal b → None ≡ hexadecimal c → code_unit a b c d ≡ None
unfolding four
code-none-3 a b c d x y sa sb nc = grind (arith, code-is, digit-some, digit-none)

pub code-none-4 : (a b c d x y z : ℕ) → Some x ≡ hexadecimal a → Some y ≡ hexadecimal b → Some z ≡ hexadecimal c → None ≡ hexadecimal d → code_unit a b c d ≡ None
unfolding four
code-none-4 a b c d x y z sa sb sc nd = grind (arith, code-is, digit-some, digit-none)

pub code-some : (a b c d x y z w : ℕ) → Some x ≡ hexadecimal a → Some y ≡ hexadecimal b → Some z ≡ hexadecimal c → Some w ≡ hexadecimal d → code_unit a b c d ≡ Some (x * 4096 + y * 256 + z * 16 + w)
unfolding four code_of
code-some a b c d x y z w sa sb sc sd = grind (arith, digit-some, code-is)

-- an escape that stays
pub stays : (body : List ℕ) (at : ℕ) (lone : Bool) → lone ≡ false → body ≡ take at body ++ read_as lone (take 6 (drop at body)) ++ drop (at + 6) body
stays body at lone h =
    sym (take-append-drop (at + 6) body)
    ∙ ap (λ (t : List ℕ). t ++ drop (at + 6) body) (take-add at 6 body)
    ∙ ap (λ (b : Bool). take at body ++ read_as b (take 6 (drop at body)) ++ drop (at + 6) body) (sym h)
